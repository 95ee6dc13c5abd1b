-- A set of names, as a test of names.
use Rattle.std.proofs.Common.{◌≡◌, ℕ, Bool, true, false, ◌||◌, cond, List, refl, ap, ◌∙◌, Bor}
use Rattle.std.proofs.lemmas.Map.Text.{is_eq-slice_cmp}
use Rattle.std.specs.BTreeSet.{BTreeSet, contains}
use Rattle.std.specs.Cmp.Lexicographic.{slice_cmp}
use Rattle.std.specs.Ordering.{nat_cmp, is_eq}
use Rattle.std.specs.Str.{bytes_eq}
use Rattle.rc_parse.specs.internal.Names.{has_name}

either : (first second : Bool) → cond first true second ≡ (first || second)
either true second = refl
either false second = refl

-- another set has one name more
abbrev pub HasMore : BTreeSet (Bor (List ℕ)) → BTreeSet (Bor (List ℕ)) → Bor (List ℕ) → Type 0
HasMore names more name =
    (other : Bor (List ℕ)) → contains (λ x y. slice_cmp nat_cmp x.now y.now) more other
    ≡ cond (is_eq (slice_cmp nat_cmp name.now other.now)) true (contains (λ x y. slice_cmp nat_cmp x.now y.now) names other)

pub has_more : (names more : BTreeSet (Bor (List ℕ))) (name : Bor (List ℕ)) → HasMore names more name
    → (other : List ℕ) → has_name more other ≡ (bytes_eq name.now other || has_name names other)
has_more names more name is other =
    is (record { ref_ptr = (0, 0); now = other })
    ∙ ap (λ (b : Bool). cond b true (has_name names other)) (is_eq-slice_cmp name.now other)
    ∙ either (bytes_eq name.now other) (has_name names other)
