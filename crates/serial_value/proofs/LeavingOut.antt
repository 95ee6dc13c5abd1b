-- A store that a rule allows counts as done where its word stands already.
use Rattle.std.proofs.Common.{◌≡◌, ℕ, Bool, true, false, get_or, refl, sym, subst}
use Rattle.std.specs.Prelude.{◌==◌, if◌then◌else◌}
use Rattle.std.proofs.lemmas.Bool.{eqb-true}
use Rattle.std.proofs.lemmas.List.{set-get_or}
use mathlib.Core.Option.{some}
use lib.ListN.{get_elem?}
use Rattle.atomic_table.specs.Table.{State, Me, Act, Allows, Valid, carried_after, stepped, keeps}
use Rattle.atomic_table.proofs.Lists.{set_again}

module _ {V : Type 0} (holds : State (Unit {0}) V → Type 0) (slots id : ℕ) (m next : Me (Unit {0}) V) (at word : ℕ) where
  abbrev Outcome : State (Unit {0}) V → Me (Unit {0}) V → Type 0
  Outcome s after =
      (w : V) × (a : Act (Unit {0})) × Valid s.homes m.1 a × holds (stepped s at (get_or s.words at 0) id m.1 w a)
      × ((w, carried_after m.1 a) ≡ after)

  unchanged : (s : State (Unit {0}) V) → get_elem? s.views id ≡ some m.0 → stepped s at (get_or s.words at 0) id m.1 m.0 keeps ≡ s
  unchanged s here i = record { words = set-get_or s.words at 0 i; homes = s.homes; views = set_again s.views id m.0 here i }

  pub left_out : Allows holds slots id m at (λ _. word) (λ _ after. after ≡ next)
      → Allows holds slots id m at (λ n. n) (λ n after. after ≡ (if n == word then next else m))
  left_out allowed s h size here fits = found (get_or s.words at 0 == word) refl where
    found : (b : Bool) → (get_or s.words at 0 == word) ≡ b → Outcome s (if b then next else m)
    found true same =
        let t = allowed s h size here fits in
        let p = eqb-true (get_or s.words at 0) word same in
        (t.0, t.1, t.2, subst (λ (x : ℕ). holds (stepped s at x id m.1 t.0 t.1)) (sym p) t.3, t.4)
    found false other = (m.0, keeps, tt, subst holds (sym (unchanged s here)) h, refl)
