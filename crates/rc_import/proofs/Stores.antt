-- A store that one call keeps after another.
use Rattle.std.proofs.Common.{ℕ, List, Option, refl, ◌∙◌}
use Rattle.init_machine.specs.Props.{Props}
use Rattle.rc_import.specs.Stores.{IsKept}

pub kept_on : {S : Type 0} (meaning : S → Props) (told : S → Option (List (List ℕ × List ℕ))) (spare : S → ℕ) (Beside : S → S → Type 0)
    → ((s t u : S) → Beside s t → Beside t u → Beside s u) → (s t u : S) → IsKept meaning told spare Beside s t → IsKept meaning told spare Beside t u → IsKept meaning told spare Beside s u
kept_on meaning told spare Beside transitive s t u first second = record {
  same = second.same ∙ first.same;
  told_is = second.told_is ∙ first.told_is;
  spare_is = second.spare_is ∙ first.spare_is;
  beside = transitive s t u first.beside second.beside;
}

pub kept_itself : {S : Type 0} (meaning : S → Props) (told : S → Option (List (List ℕ × List ℕ))) (spare : S → ℕ) (Beside : S → S → Type 0)
    → ((s : S) → Beside s s) → (s : S) → IsKept meaning told spare Beside s s
kept_itself meaning told spare Beside reflexive s = record { same = refl; told_is = refl; spare_is = refl; beside = reflexive s }
