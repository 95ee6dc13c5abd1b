-- A value word keeps the rule of the one cell.
use Rattle.std.proofs.Common.{◌≡◌, ℕ, ◌+◌, ◌<◌, ◌≤◌, List, length, set, sym, refl, ap, ◌∙◌, subst, arith}
use Rattle.atomic_table.specs.Table.{Me, Allows, keeps, stepped}
use Rattle.init_machine.specs.Sets.{Set}
use Rattle.serial_value.specs.declared.view.CellView.TheVariants.{Writer}
use Rattle.serial_value.specs.declared.one.OneView.{OneView}
use Rattle.serial_value.specs.Words.{body_word}
use Rattle.serial_value.specs.Cell.{sets_of, name_of, update, updating, IsUpdating}
use Rattle.serial_value.specs.One.{the_place, OneHolds, CellHolds, with_cell, Linked}
use Rattle.serial_value.specs.impl_laws.OneFrame.{same_sets, writes, mine, waits, cell_known, legal_known, done-update, new-update, name-update_later, made-update}
use Rattle.serial_value.specs.impl_laws.OnePresent.{short_last}
use Rattle.serial_value.specs.impl_laws.CellWords.{cell_value}

pub one_value : (key : List ℕ) (slots id : ℕ) (m : Me (Unit {0}) OneView) (name value : List ℕ) (place k : ℕ)
    → Unit {0} → Linked m.0 name place → IsUpdating m.0.cell name value place (13 + k) → k < 12
    → Allows OneHolds slots id m (place + 1 + k) (λ _. body_word value k) (λ _ after. after ≡ (with_cell m.0 (updating (sets_of m.0.cell) name value place (13 + k + 1)), m.1))
one_value key slots id m name value place k settled linked is small s h size here fits =
    let done : ℕ = 13 + k in
    let known = mine s h id m.0 name value place done here is in
    let next = update name value place (done + 1) in
    let word = body_word value k in
    let inside : the_place + 13 ≤ length s.words = let wide = h.wide in omega arith in
    let before : CellHolds s.words the_place h.number h.value value done =
    subst (λ (new : List ℕ). CellHolds s.words the_place h.number h.value new done) (new-update name value place done (omega arith)) (cell_known s h id m.0 name value place done known) in
    let cell = subst (λ (x : List ℕ × ℕ). CellHolds (set s.words (the_place + 1 + k) word) the_place h.number h.value x.0 x.1)
    (λ i. (sym (new-update name value place (done + 1) (omega arith)) i, sym (done-update name value place (done + 1)) i))
    (cell_value s.words the_place h.number h.value value (omega arith) inside (short_last s h).short k small before) in
    let after = same_sets s h (the_place + 1 + k) word next (made-update name value place (done + 1) linked.0 linked.1 (legal_known s h id m.0 name value place done known (omega arith)) (omega arith)) cell in (
      with_cell m.0 (updating (sets_of m.0.cell) name value place (done + 1)),
      keeps,
      tt,
      subst (λ (x : List Set × ℕ). OneHolds (stepped s (x.1 + 1 + k) word id m.1 (with_cell m.0 (Writer x.0 next)) keeps)) (λ i. (sym known.sets_are i, sym linked.1 i))
          (writes s h (the_place + 1 + k) word id m.1 m.0 after known.writes
          (waits s h (the_place + 1 + k) word next (λ e. omega arith) (λ q e. name-update_later name value place done (done + 1) q (omega arith) (ap name_of known.making_is ∙ e)))),
      refl,
    )
