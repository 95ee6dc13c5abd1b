-- What is noted of texts stays true.
use Rattle.std.proofs.Common.{◌≡◌, ℕ, Bool, true, false, cond, List, Option, Some, None, IfSome, nat_eq, refl, sym, ap, ◌∙◌, subst}
use Rattle.std.proofs.lemmas.Option.{same_Some}
use Rattle.init_machine.specs.FileTree.{is_path, parts_of}
use Rattle.model_fs.specs.internal.Steps.{paths_of, place_of, with_path, IsIndexed, IsNoted, IsNumbered}
use Rattle.model_fs.specs.declared.noted.Noted.{Noted}
use Rattle.model_fs.specs.declared.places.Step.{Step}
use Rattle.model_fs.proofs.Steps.{place_with_path}

-- where paths keep their places
indexed_while : (names names' : List (List ℕ)) (steps steps' : List Step) (slots : ℕ → Option Noted) → IsIndexed names steps slots → IsNumbered names' steps'
    → ((path : List (List ℕ)) (i : ℕ) → place_of (paths_of names steps) path ≡ Some i → place_of (paths_of names' steps') path ≡ Some i)
    → IsIndexed names' steps' slots
indexed_while names names' steps steps' slots ok numbered keeps =
    record {
      numbered = numbered;
      noted = λ slot noted at. let is = ok.noted slot noted at in (is.0, keeps (parts_of noted.text.items) noted.place is.1);
    }

pub indexed_same : (names names' : List (List ℕ)) (steps : List Step) (slots : ℕ → Option Noted) → IsIndexed names steps slots → IsNumbered names' steps
    → paths_of names' steps ≡ paths_of names steps → IsIndexed names' steps slots
indexed_same names names' steps slots ok numbered same =
    indexed_while names names' steps steps slots ok numbered (λ path i at. ap (λ paths. place_of paths path) same ∙ at)

pub indexed_added : (names names' : List (List ℕ)) (steps steps' : List Step) (slots : ℕ → Option Noted) (path : List (List ℕ)) → IsIndexed names steps slots → IsNumbered names' steps'
    → paths_of names' steps' ≡ with_path (paths_of names steps) path → IsIndexed names' steps' slots
indexed_added names names' steps steps' slots path ok numbered more =
    indexed_while names names' steps steps' slots ok numbered
    (λ other i at. ap (λ paths. place_of paths other) more ∙ place_with_path (paths_of names steps) other path i at)

-- one more is noted
pub indexed_noted : (names : List (List ℕ)) (steps : List Step) (slots slots' : ℕ → Option Noted) (slot : ℕ) (new : Noted) → IsIndexed names steps slots → IsNoted (paths_of names steps) new
    → ((other : ℕ) → slots' other ≡ cond (nat_eq slot other) (Some new) (slots other)) → IsIndexed names steps slots'
indexed_noted names steps slots slots' slot new ok is updates =
    record { numbered = ok.numbered; noted = λ other noted at. by other noted (nat_eq slot other) refl (sym (updates other) ∙ at) }
  where
    by : (other : ℕ) (noted : Noted) (b : Bool) → nat_eq slot other ≡ b → cond (nat_eq slot other) (Some new) (slots other) ≡ Some noted → IsNoted (paths_of names steps) noted
    by other noted true here at = subst (IsNoted (paths_of names steps)) (same_Some new noted (sym (ap (λ b. cond b (Some new) (slots other)) here) ∙ at)) is
    by other noted false there at = ok.noted other noted (sym (ap (λ b. cond b (Some new) (slots other)) there) ∙ at)

pub indexed_unchanged : (names : List (List ℕ)) (steps : List Step) (slots slots' : ℕ → Option Noted) → IsIndexed names steps slots → ((slot : ℕ) → slots' slot ≡ slots slot)
    → IsIndexed names steps slots'
indexed_unchanged names steps slots slots' ok same =
    record { numbered = ok.numbered; noted = λ slot noted at. ok.noted slot noted (sym (same slot) ∙ at) }

-- what is known of the place that is found
pub place_noted : (paths : List (List (List ℕ))) (text : List ℕ) (found : Option ℕ) → IfSome found (λ place. (is_path text ≡ true) × (place_of paths (parts_of text) ≡ Some place))
    → (at : ℕ) → found ≡ Some at → place_of paths (parts_of text) ≡ Some at
place_noted paths text None is at found = absurd (cc)
place_noted paths text (Some place) is at found = is.1 ∙ found
