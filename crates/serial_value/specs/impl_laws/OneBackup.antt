-- A backup word keeps the rule of the one cell.
use Rattle.std.proofs.Common.{◌≡◌, ℕ, ◌+◌, ◌<◌, ◌≤◌, List, length, set, sym, refl, ap, ◌∙◌, subst, arith}
use Rattle.atomic_table.specs.Table.{Me, Allows, keeps, stepped}
use Rattle.init_machine.specs.Sets.{Set}
use Rattle.serial_value.specs.declared.view.CellView.TheVariants.{Writer}
use Rattle.serial_value.specs.declared.one.OneView.{OneView}
use Rattle.serial_value.specs.Words.{body_word, IsShortValue}
use Rattle.serial_value.specs.Cell.{sets_of, HasShortCell, name_of, update, updating, IsUpdating, IsPresentWord}
use Rattle.serial_value.specs.One.{the_place, OneHolds, CellHolds, new_value, with_cell, Linked}
use Rattle.serial_value.specs.impl_laws.OneFrame.{same_sets, writes, mine, waits, cell_known, last_known, done-update, name-update_later, made-update}
use Rattle.serial_value.specs.impl_laws.CellWords.{cell_backup}
use Rattle.serial_value.specs.impl_laws.Sets.{at_last_set}

pub one_backup : (key : List ℕ) (slots id : ℕ) (m : Me (Unit {0}) OneView) (name value : List ℕ) (place k word : ℕ)
    → Unit {0} → Linked m.0 name place → IsUpdating m.0.cell name value place k → k < 12 → IsShortValue value → HasShortCell (sets_of m.0.cell) name → IsPresentWord (sets_of m.0.cell) name k word
    → Allows OneHolds slots id m (4 + k) (λ _. word) (λ _ after. after ≡ (with_cell m.0 (updating (sets_of m.0.cell) name value place (k + 1)), m.1))
one_backup key slots id m name value place k word settled linked is small legal short told s h size here fits =
    let known = mine s h id m.0 name value place k here is in
    let next = update name value place (k + 1) in
    let sets = sets_of m.0.cell in
    let right : body_word h.value k ≡ word = sym (told h.value (at_last_set sets (length sets) (omega arith) name h.number h.value (last_known s h id m.0 name value place k known linked.0))) in
    let inside : the_place + 13 ≤ length s.words = let wide = h.wide in omega arith in
    let cell = subst (λ (x : ℕ × ℕ). CellHolds (set s.words (4 + k) x.0) the_place h.number h.value (new_value next) x.1)
    (λ i. (right i, sym (done-update name value place (k + 1)) i))
    (cell_backup s.words the_place h.number h.value (new_value (update name value place k)) (omega arith) inside (new_value next) k small (cell_known s h id m.0 name value place k known)) in
    let after = same_sets s h (4 + k) word next (made-update name value place (k + 1) linked.0 linked.1 legal (omega arith)) cell in (
      with_cell m.0 (updating sets name value place (k + 1)),
      keeps,
      tt,
      subst (λ (sets : List Set). OneHolds (stepped s (4 + k) word id m.1 (with_cell m.0 (Writer sets next)) keeps)) (sym known.sets_are)
          (writes s h (4 + k) word id m.1 m.0 after known.writes
          (waits s h (4 + k) word next (λ e. omega arith) (λ q e. name-update_later name value place k (k + 1) q (omega arith) (ap name_of known.making_is ∙ e)))),
      refl,
    )
