-- Above what stands, directories alone stand.
use Rattle.std.proofs.Common.{◌≡◌, ℕ, zero, suc, ◌≤◌, Bool, true, false, not, ◌||◌, List, [], ◌∷◌, ◌++◌, length, get_or, slice_get, Option, Some, None, refl, sym, ap, ◌∙◌, arith, length-append, append-nil, append_assoc, if◌then◌else◌}
use Rattle.std.proofs.lemmas.List.Quantifiers.{position-Some}
use Rattle.std.proofs.lemmas.Option.{slice_get-get_or}
use Rattle.init_machine.specs.FileTree.{same_path, is_there, is_directory, is_other}
use Rattle.init_machine.specs.declared.node.Node.{Node}
use Rattle.init_machine.specs.declared.node.Node.TheVariants.{Directory}
use Rattle.init_machine.proofs.Paths.{same_is}
use Rattle.model_fs.specs.internal.Entries.{place_in, IsReached}
use Rattle.model_fs.specs.internal.Rows.{Row, node_of, node_at, is_under_other, put_node, with_parent, with_parents}
use Rattle.model_fs.proofs.Above.{parents_by_last, under_by_last}
use Rattle.model_fs.proofs.Children.{last_of}
use Rattle.model_fs.proofs.Kept.{directory_there}
use Rattle.model_fs.proofs.Trees.{node_found, node_not_found}

-- what stands has a place
pub standing_place : (tree : List Row) (path : List (List ℕ)) → is_there (node_at tree path) ≡ true
    → (i : ℕ) × (place : Row) × (slice_get tree i ≡ Some place) × (is_there place.node ≡ true) × (place.path ≡ path)
standing_place tree path is = by (place_in tree path) refl
  where
    by : (r : Option ℕ) → place_in tree path ≡ r → (i : ℕ) × (place : Row) × (slice_get tree i ≡ Some place) × (is_there place.node ≡ true) × (place.path ≡ path)
    by None none = absurd (let e : is_there (node_at tree path) ≡ false = ap is_there (node_not_found tree path none) in cc)
    by (Some i) at =
        let d : Row = record { path = []; node = None } in
        let here = position-Some (λ (p : Row). same_path p.path path) tree i d at in
        let got : slice_get tree i ≡ Some (get_or tree i d) = slice_get-get_or tree i d here.0 in
        let stands : is_there (get_or tree i d).node ≡ true = ap (λ o. is_there (node_of o)) (sym got) ∙ ap is_there (sym (node_found tree path i at)) ∙ is in
        (i, get_or tree i d, got, stands, same_is (get_or tree i d).path path here.1)

front_is_directory : (tree : List Row) (path front : List (List ℕ)) (last : List ℕ) → IsReached tree → is_there (node_at tree path) ≡ true → path ≡ front ++ last ∷ []
    → is_directory (node_at tree front) ≡ true
front_is_directory tree path front last reached there ends =
    let place = standing_place tree path there in
    reached place.0 place.1 place.2 place.3 front last (place.4 ∙ ends)

pub directory_not_other : (node : Option Node) → is_directory node ≡ true → is_other node ≡ false
directory_not_other None is = absurd (cc)
directory_not_other (Some node) is = ap not is

none_above_within : (n : ℕ) (tree : List Row) (path : List (List ℕ)) → IsReached tree → length path ≤ n → is_there (node_at tree path) ≡ true → is_under_other tree path ≡ false
none_above_within n tree [] reached bound there = refl
none_above_within zero tree (q ∷ qs) reached bound there = absurd (omega arith)
none_above_within (suc n) tree (q ∷ qs) reached bound there =
    let split = last_of q qs in
    let front = split.0 in
    let directory = front_is_directory tree (q ∷ qs) front split.1 reached there split.2 in
    let shorter : length front ≤ n = omega (arith, length-append front (split.1 ∷ []), ap length split.2) in
    under_by_last tree (q ∷ qs) front split.1 split.2
    ∙ ap (λ b. b || is_other (node_at tree front)) (none_above_within n tree front reached shorter (directory_there (node_at tree front) directory))
    ∙ directory_not_other (node_at tree front) directory

-- no file and no link stands above it
pub none_above_standing : (tree : List Row) (path : List (List ℕ)) → IsReached tree → is_there (node_at tree path) ≡ true → is_under_other tree path ≡ false
none_above_standing tree path reached there = none_above_within (length path) tree path reached (omega arith) there

made_already : (tree : List Row) (path : List (List ℕ)) → is_there (node_at tree path) ≡ true → with_parent tree path ≡ tree
made_already tree path there = ap (λ b. if b then tree else put_node tree path (Directory 493)) there

parents_within : (n : ℕ) (tree : List Row) (path : List (List ℕ)) → IsReached tree → length path ≤ n → is_there (node_at tree path) ≡ true → with_parents tree path ≡ tree
parents_within n tree [] reached bound there = refl
parents_within zero tree (q ∷ qs) reached bound there = absurd (omega arith)
parents_within (suc n) tree (q ∷ qs) reached bound there =
    let split = last_of q qs in
    let front = split.0 in
    let above = directory_there (node_at tree front) (front_is_directory tree (q ∷ qs) front split.1 reached there split.2) in
    let shorter : length front ≤ n = omega (arith, length-append front (split.1 ∷ []), ap length split.2) in
    parents_by_last tree (q ∷ qs) front split.1 split.2
    ∙ ap (λ t. with_parent t front) (parents_within n tree front reached shorter above)
    ∙ made_already tree front above

-- it and the directories above it needn't be made
pub none_missing : (tree : List Row) (path : List (List ℕ)) → IsReached tree → is_there (node_at tree path) ≡ true → tree ≡ with_parent (with_parents tree path) path
none_missing tree path reached there =
    sym (ap (λ t. with_parent t path) (parents_within (length path) tree path reached (omega arith) there) ∙ made_already tree path there)

-- behind a path that has no place, nothing more stands above
pub under_beyond : (tree : List Row) (path more : List (List ℕ)) → ((rest : List (List ℕ)) → place_in tree (path ++ rest) ≡ None) → is_under_other tree (path ++ more) ≡ is_under_other tree path
under_beyond tree path [] none = ap (is_under_other tree) (append-nil path)
under_beyond tree path (x ∷ more) none =
    let last = path ++ x ∷ [] in
    let nothing : is_other (node_at tree path) ≡ false =
    ap is_other (node_not_found tree path (ap (place_in tree) (sym (append-nil path)) ∙ none [])) in
    ap (is_under_other tree) (sym (append_assoc path (x ∷ []) more))
    ∙ under_beyond tree last more (λ rest. ap (place_in tree) (append_assoc path (x ∷ []) rest) ∙ none (x ∷ rest))
    ∙ under_by_last tree last path x refl
    ∙ ap (λ b. is_under_other tree path || b) nothing
    ∙ or_false (is_under_other tree path)
  where
    or_false : (b : Bool) → (b || false) ≡ b
    or_false true = refl
    or_false false = refl
