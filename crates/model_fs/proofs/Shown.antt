-- What entries show at the places of their paths.
use Rattle.std.proofs.Common.{◌≡◌, ℕ, zero, suc, ◌+◌, ◌<◌, cond, not, nat_lt, List, [], ◌∷◌, length, get_or, Some, None, slice_get, refl, ap, ◌∙◌, arith}
use Rattle.std.proofs.lemmas.List.Quantifiers.{position-Some}
use Rattle.std.specs.List.{position_or_len}
use Rattle.init_machine.specs.FileTree.{same_path}
use Rattle.model_fs.specs.internal.Entries.{shown, place_in}
use Rattle.model_fs.specs.internal.Rows.{Row, node_of, node_at}
use Rattle.model_fs.specs.internal.Steps.{place_of}
use Rattle.model_fs.specs.declared.entries.Entry.{Entry}
use Rattle.model_fs.proofs.Trees.{node_found}

pub shown_length : (paths : List (List (List ℕ))) (entries : List Entry) → length entries ≡ length paths → length (shown paths entries) ≡ length paths
shown_length [] entries long = refl
shown_length (p ∷ paths) [] long = absurd (omega arith)
shown_length (p ∷ paths) (e ∷ entries) long = ap suc (shown_length paths entries (omega arith))

pub shown_at : (paths : List (List (List ℕ))) (entries : List Entry) (i : ℕ) (d : Entry) → length entries ≡ length paths → i < length entries
    → slice_get (shown paths entries) i ≡ Some (record { path = get_or paths i []; node = (get_or entries i d).node })
shown_at [] entries i d long within = absurd (omega arith)
shown_at (p ∷ paths) [] i d long within = absurd (omega arith)
shown_at (p ∷ paths) (e ∷ entries) zero d long within = refl
shown_at (p ∷ paths) (e ∷ entries) (suc i) d long within = shown_at paths entries i d (omega arith) (omega arith)

-- a path has the same place among the paths and in the tree
len_shown : (path : List (List ℕ)) (paths : List (List (List ℕ))) (entries : List Entry) → length entries ≡ length paths
    → position_or_len (λ (place : Row). same_path place.path path) (shown paths entries) ≡ position_or_len (λ other. same_path other path) paths
len_shown path [] entries long = refl
len_shown path (p ∷ paths) [] long = absurd (omega arith)
len_shown path (p ∷ paths) (e ∷ entries) long = ap (λ n. cond (not (same_path p path)) (1 + n) 0) (len_shown path paths entries (omega arith))

pub place_shown : (paths : List (List (List ℕ))) (entries : List Entry) (path : List (List ℕ)) → length entries ≡ length paths → place_in (shown paths entries) path ≡ place_of paths path
place_shown paths entries path long =
    let at = len_shown path paths entries long in
    let all = shown_length paths entries long in
    (λ k. cond (nat_lt (at k) (all k)) (Some (at k)) None)

-- what stands at the place of a path
pub node_shown : (paths : List (List (List ℕ))) (entries : List Entry) (path : List (List ℕ)) (i : ℕ) (d : Entry) → length entries ≡ length paths → i < length entries
    → place_in (shown paths entries) path ≡ Some i → node_at (shown paths entries) path ≡ (get_or entries i d).node
node_shown paths entries path i d long within is = node_found (shown paths entries) path i is ∙ ap node_of (shown_at paths entries i d long within)

pub place_within : (paths : List (List (List ℕ))) (entries : List Entry) (path : List (List ℕ)) (i : ℕ) → length entries ≡ length paths
    → place_in (shown paths entries) path ≡ Some i → i < length entries
place_within paths entries path i long is =
    let at = position-Some (λ (place : Row). same_path place.path path) (shown paths entries) i (record { path = []; node = None }) is in
    omega (arith, shown_length paths entries long)
