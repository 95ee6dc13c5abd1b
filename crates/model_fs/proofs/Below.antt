-- Something stands below a path exactly where something stands right below it.
use Rattle.std.proofs.Common.{◌≡◌, ℕ, zero, suc, ◌<◌, Bool, true, false, ◌&&◌, ◌||◌, nat_lt, List, [], ◌∷◌, ◌++◌, length, get_or, Option, Some, None, slice_get, refl, sym, ap, ◌∙◌, arith, length-append}
use Rattle.std.proofs.lemmas.Grind.{common_steps}
use Rattle.std.proofs.lemmas.List.Quantifiers.{position-Some}
use Rattle.std.proofs.lemmas.Option.{slice_get-get_or, slice_get_within, get_or_from_slice_get}
use Rattle.std.specs.List.{list_any}
use Rattle.init_machine.specs.FileTree.{same_path, is_there, is_directory, is_below}
use Rattle.init_machine.proofs.Paths.{both_true, same_is}
use Rattle.model_fs.specs.internal.Entries.{place_in, has_below, is_child, children_of, IsReached, IsKept, entry_at, no_entry, shown}
use Rattle.model_fs.specs.internal.Rows.{Row, node_of, node_at}
use Rattle.model_fs.specs.declared.entries.Entry.{Entry}
use Rattle.model_fs.proofs.Children.{child_below, child_last, count_some, last_of, some_count}
use Rattle.model_fs.proofs.Kept.{directory_there, no_children}
use Rattle.model_fs.proofs.Parts.{below_by_last}
use Rattle.model_fs.proofs.Positions.{any_at}
use Rattle.model_fs.proofs.Shown.{place_shown, place_within}
use Rattle.model_fs.proofs.Steps.{is_place}
use Rattle.model_fs.proofs.Trees.{node_found, node_not_found}

pub any_some : {X : Type 0} (p : X → Bool) (xs : List X) → list_any p xs ≡ true → (i : ℕ) × (x : X) × (slice_get xs i ≡ Some x) × (p x ≡ true)
any_some p [] any = absurd (cc)
any_some {X = X} p (x ∷ xs) any = by (p x) refl (λ fails. any_some p xs (ap (λ b. b || list_any p xs) (sym fails) ∙ any))
  where
    by : (b : Bool) → p x ≡ b → (p x ≡ false → (i : ℕ) × (y : X) × (slice_get xs i ≡ Some y) × (p y ≡ true)) → (i : ℕ) × (y : X) × (slice_get (x ∷ xs) i ≡ Some y) × (p y ≡ true)
    by true passes rest = (0, x, refl, passes)
    by false fails rest = let r = rest fails in (suc r.0, r.1, r.2, r.3)

-- a directory that stands has a place
directory_place : (tree : List Row) (path : List (List ℕ)) → is_directory (node_at tree path) ≡ true
    → (i : ℕ) × (place : Row) × (slice_get tree i ≡ Some place) × (is_there place.node ≡ true) × (place.path ≡ path)
directory_place tree path is = by (place_in tree path) refl
  where
    by : (r : Option ℕ) → place_in tree path ≡ r → (i : ℕ) × (place : Row) × (slice_get tree i ≡ Some place) × (is_there place.node ≡ true) × (place.path ≡ path)
    by None none = absurd (let e : is_directory (node_at tree path) ≡ false = ap is_directory (node_not_found tree path none) in cc)
    by (Some i) at =
        let d : Row = record { path = []; node = None } in
        let here = position-Some (λ (p : Row). same_path p.path path) tree i d at in
        let got : slice_get tree i ≡ Some (get_or tree i d) = slice_get-get_or tree i d here.0 in
        let stands : is_directory (get_or tree i d).node ≡ true = ap (λ o. is_directory (node_of o)) (sym got) ∙ ap is_directory (sym (node_found tree path i at)) ∙ is in
        (i, get_or tree i d, got, directory_there (get_or tree i d).node stands, same_is (get_or tree i d).path path here.1)

nothing_below : (path : List (List ℕ)) → is_below path [] ≡ true → ⊥
nothing_below [] is = cc
nothing_below (p ∷ path) is = cc

below_counts : (tree : List Row) (path : List (List ℕ)) → IsReached tree → (n i : ℕ) (place : Row) (parts : List (List ℕ)) → slice_get tree i ≡ Some place → is_there place.node ≡ true
    → place.path ≡ parts → length parts < n → is_below path parts ≡ true → 0 < children_of tree path
below_counts tree path reached zero i place parts got there is less below = absurd (omega arith)
below_counts tree path reached (suc n) i place [] got there is less below = absurd (nothing_below path below)
below_counts tree path reached (suc n) i place (q ∷ qs) got there is less below =
    let split = last_of q qs in
    let front = split.0 in
    let last = split.1 in
    let ends : place.path ≡ front ++ last ∷ [] = is ∙ split.2 in
    let cases : is_below path (q ∷ qs) ≡ same_path path front || is_below path front = below_by_last path (q ∷ qs) front last split.2 in
    let directory = reached i place got there front last ends in
    let above = directory_place tree front directory in
    let shorter : length front < n = omega (arith, length-append front (last ∷ []), ap length split.2) in
    by front last (same_path path front) refl ends (sym cases ∙ below)
    (λ further. below_counts tree path reached n above.0 above.1 front above.2 above.3 above.4 shorter further)
  where
    by : (front : List (List ℕ)) (last : List ℕ) (b : Bool) → same_path path front ≡ b → place.path ≡ front ++ last ∷ [] → (same_path path front || is_below path front) ≡ true
        → (is_below path front ≡ true → 0 < children_of tree path) → 0 < children_of tree path
    by front last true same ends either further =
        let child : is_child path place.path ≡ true = ap (is_child path) ends ∙ child_last path front last ∙ same in
        count_some (λ (p : Row). is_child path p.path && is_there p.node) tree i place got (λ k. child k && there k)
    by front last false differ ends either further = further (ap (λ b. b || is_below path front) (sym differ) ∙ either)

pub below_at : (tree : List Row) (path : List (List ℕ)) (i : ℕ) (place : Row) → slice_get tree i ≡ Some place → is_below path place.path ≡ true → is_there place.node ≡ true
    → has_below tree path ≡ true
below_at tree path i place got below there =
    let here : get_or tree i place ≡ place = get_or_from_slice_get tree i place place got in
    any_at (λ (p : Row). is_below path p.path && is_there p.node) tree i place (slice_get_within tree i place got)
    (ap (λ (p : Row). is_below path p.path && is_there p.node) here ∙ (λ k. below k && there k))

pub has_below_is : (tree : List Row) (path : List (List ℕ)) → IsReached tree → nat_lt 0 (children_of tree path) ≡ has_below tree path
has_below_is tree path reached = by (has_below tree path) (nat_lt 0 (children_of tree path)) refl refl
  where
    by : (b d : Bool) → has_below tree path ≡ b → nat_lt 0 (children_of tree path) ≡ d → d ≡ b
    by true true is counted = refl
    by false false is counted = refl
    by true false is none =
        let some = any_some (λ (p : Row). is_below path p.path && is_there p.node) tree is in
        let both = both_true (is_below path some.1.path) (is_there some.1.node) some.3 in
        let counts : 0 < children_of tree path = below_counts tree path reached (suc (length some.1.path)) some.0 some.1 some.1.path some.2 both.1 refl (omega arith) both.0 in
        absurd (grind (arith, common_steps))
    by false true none counted =
        let some = some_count (λ (p : Row). is_child path p.path && is_there p.node) tree (grind (arith, common_steps)) in
        let both = both_true (is_child path some.1.path) (is_there some.1.node) some.3 in
        let any : has_below tree path ≡ true = below_at tree path some.0 some.1 some.2 (child_below path some.1.path both.0) both.1 in
        absurd (cc)

-- the count at a path's place tells it
pub counted_below : (paths : List (List (List ℕ))) (entries : List Entry) (path : List (List ℕ)) (at : ℕ) → IsKept paths entries → place_in (shown paths entries) path ≡ Some at
    → nat_lt 0 (entry_at entries at).children ≡ has_below (shown paths entries) path
counted_below paths entries path at kept is =
    let here = is_place paths path at (sym (place_shown paths entries path kept.long) ∙ is) in
    let within = place_within paths entries path at kept.long is in
    ap (nat_lt 0) (kept.counted at (entry_at entries at) (slice_get-get_or entries at no_entry within))
    ∙ ap (λ p. nat_lt 0 (children_of (shown paths entries) p)) here.1
    ∙ has_below_is (shown paths entries) path kept.reached

pub none_below : (tree : List Row) (path : List (List ℕ)) → IsReached tree → place_in tree path ≡ None → false ≡ has_below tree path
none_below tree path reached none =
    ap (nat_lt 0) (sym (no_children tree path reached (ap is_directory (node_not_found tree path none)))) ∙ has_below_is tree path reached
