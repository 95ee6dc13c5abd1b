-- A new reader's seat keeps the rule of the one cell, and the table begins under it.
use Rattle.std.proofs.Common.{◌≡◌, ℕ, zero, suc, List, [], ◌∷◌, ◌++◌, length, get_or, set, None, sym, refl, ap, ◌∙◌, subst, ⊎_elim, arith, length-append}
use mathlib.Core.Option.{some, some-injective, some-ne-none}
use lib.ListN.{get_elem?}
use Rattle.std.proofs.lemmas.List.{append-nil}
use Rattle.atomic_table.specs.Table.{Splits, opening}
use Rattle.atomic_table.proofs.Lists.{set_again}
use Rattle.init_machine.specs.Sets.{Set}
use Rattle.serial_value.specs.declared.view.CellView.{CellView}
use Rattle.serial_value.specs.declared.view.CellView.TheVariants.{Writer, Reader}
use Rattle.serial_value.specs.declared.one.OneView.{OneView}
use Rattle.serial_value.specs.Words.{IsShortValue}
use Rattle.serial_value.specs.Cell.{sets_of, IsWriter}
use Rattle.serial_value.specs.One.{the_name, the_place, OneHolds, ViewHolds, begins, new_reader, HasFirst}
use Rattle.serial_value.specs.impl_laws.Places.{at_end}
use Rattle.serial_value.specs.impl_laws.OneFrame.{St, serial_in, with_views}

module _ (s : St) (h : OneHolds s) where
  known : (id : ℕ) (v : OneView) (cell : CellView) → IsWriter cell → ViewHolds (serial_in s) h.writer h.sets h.making id cell v.began v.list → h.sets ≡ sets_of cell
  known id v (Writer sets making) is holds = sym holds.1
  known id v (Reader number copying) is holds = absurd is

pub one_splits : (id : ℕ) (v : OneView) → IsWriter v.cell → Splits OneHolds id v v (new_reader v)
one_splits id v is s h here =
    let sets = known s h id v v.cell is (h.each id v here) in
    let count = ap length sets in
    subst (λ (views : List OneView). OneHolds record { words = s.words; homes = s.homes; views = views ++ new_reader v ∷ [] }) (sym (set_again s.views id v here))
    (with_views s h (s.views ++ new_reader v ∷ []) (let l = length-append s.views (new_reader v ∷ []) in let t = h.there in omega arith) (λ seat u e. ⊎_elim (h.each seat u)
    (λ (t : (seat ≡ length s.views) × (new_reader v ≡ u)). subst (λ (x : OneView). ViewHolds (serial_in s) h.writer h.sets h.making seat x.cell x.began x.list) t.1 (
      (λ same. let t' = t.0 in let w = h.there in omega arith),
      record {
        early = omega arith;
        holds = record {
          stands = record {
            begins = ([], sets ∙ sym (append-nil (sets_of v.cell)));
            each = λ i f none. absurd (some-ne-none _ (sym none));
            orderly = record { order = tt; rise = λ i j n n' name first first' second second' less none none'. absurd (some-ne-none _ (sym none)) };
          };
          seen = omega arith;
          met = λ name i n first second none. absurd (some-ne-none _ (sym none));
        };
        seen = omega arith;
        copy = tt;
      },
    ))
    (at_end s.views (new_reader v) u seat e)))

one_set : (value : List ℕ) (i : ℕ) (set : Set) → IsShortValue value → get_elem? ((the_name, value) ∷ []) i ≡ some set → (set.0 ≡ the_name) × IsShortValue set.1
one_set value zero set legal e = subst (λ (x : Set). (x.0 ≡ the_name) × IsShortValue x.1) (some-injective _ _ e) (refl, legal)
one_set value (suc i) set legal e = absurd (some-ne-none set (sym e))

one_seat : (word : ℕ) (value : List ℕ) (seat : ℕ) (v : OneView) → get_elem? (begins value ∷ []) seat ≡ some v → ViewHolds word 0 ((the_name, value) ∷ []) None seat v.cell v.began v.list
one_seat word value zero v e = subst (λ (x : OneView). ViewHolds word 0 ((the_name, value) ∷ []) None zero x.cell x.began x.list) (some-injective _ _ e) (refl, refl, refl)
one_seat word value (suc seat) v e = absurd (some-ne-none v (sym e))

pub one_opens : (words value : List ℕ) → IsShortValue value → HasFirst words value → OneHolds (opening words [] (begins value))
one_opens words value legal first = record {
  writer = 0;
  sets = (the_name, value) ∷ [];
  making = None;
  number = 1;
  value = value;
  wide = first.wide;
  few = omega arith;
  named = λ i set e. one_set value i set legal e;
  last = record {
    numbered = record { place = 0; number_is = refl; set_is = refl };
    early = omega arith;
    last = λ k v low high e. absurd (omega arith);
  };
  made = tt;
  cell = record {
    clean = λ done. first.serial;
    dirty = λ done. absurd (omega arith);
    backup = λ k small done. absurd (omega arith);
    stored = λ k small done. absurd (omega arith);
    kept = λ k small done. first.words_are k small;
  };
  there = omega arith;
  each = one_seat (get_or words the_place 0) value;
}
