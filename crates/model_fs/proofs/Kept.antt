-- What entries keep when the node at one place changes.
use Rattle.std.proofs.Common.{◌≡◌, ℕ, zero, suc, ◌+◌, ◌-◌, ◌<◌, ◌≤◌, Bool, true, false, ◌&&◌, ◌||◌, nat_lt, List, [], ◌∷◌, ◌++◌, length, get_or, set, Option, Some, None, is_some, slice_get, refl, sym, ap, ◌∙◌, arith, subst, length-append, if◌then◌else◌, ◌⊎◌, inl, inr, ⊎_elim}
use Rattle.std.proofs.Math.ListN.{get_or-append}
use Rattle.std.proofs.Math.Seq.{get_or-append_seam}
use Rattle.std.proofs.lemmas.List.{length-set, get_or-set_other, set-get_or}
use Rattle.std.proofs.lemmas.List.Quantifiers.{position-Some}
use Rattle.std.proofs.lemmas.List.Sums.{count_by-le-length}
use Rattle.std.proofs.lemmas.Option.{none-some, same_Some, slice_get-get_or, get_or_from_slice_get, slice_get_within}
use Rattle.std.specs.List.{list_any}
use Rattle.init_machine.specs.FileTree.{same_path, with_mode, is_there, is_directory, is_below, is_root}
use Rattle.init_machine.specs.declared.node.Node.{Node}
use Rattle.init_machine.specs.declared.node.Node.TheVariants.{Directory, File, Link}
use Rattle.init_machine.proofs.Paths.{both_true, same_is, same_itself}
use Rattle.model_fs.specs.internal.Entries.{shown, node_in, place_in, is_child, children_of, IsReached, IsKept, no_entry, entry_at, grown, with_children, one_more, one_fewer, with_node, with_entry, without_entry, with_place, mode_changed}
use Rattle.model_fs.specs.internal.Rows.{Row, node_at, put_node, without_path, change_mode, is_full}
use Rattle.model_fs.specs.internal.Steps.{place_of, with_path, AreDistinct}
use Rattle.model_fs.specs.declared.entries.Entry.{Entry}
use Rattle.model_fs.proofs.Children.{bit, child_last, child_below, child_split, count_set, count_some, count_last, count_none}
use Rattle.model_fs.proofs.Positions.{any_at, only_place, place_stays}
use Rattle.model_fs.proofs.Shown.{shown_length, shown_at, place_shown, node_shown}
use Rattle.model_fs.proofs.Steps.{is_place, last_parts, place_with_path, some_last}
use Rattle.model_fs.proofs.Trees.{node_found, node_not_found, put_found, without_found, node_set_same, node_set_other, node_last, node_with_place, put_with_place, within_tree}

abbrev no_place : Row
no_place = record { path = []; node = None }

shown_set : (paths : List (List (List ℕ))) (entries : List Entry) (i : ℕ) (e : Entry) → length entries ≡ length paths → i < length entries
    → shown paths (set entries i e) ≡ set (shown paths entries) i (record { path = get_or paths i []; node = e.node })
shown_set [] entries i e long within = absurd (omega arith)
shown_set (p ∷ paths) [] i e long within = absurd (omega arith)
shown_set (p ∷ paths) (x ∷ entries) zero e long within = refl
shown_set (p ∷ paths) (x ∷ entries) (suc i) e long within =
    ap (λ (tree : List Row). let q : Row = record { path = p; node = x.node } in q ∷ tree) (shown_set paths entries i e (omega arith) (omega arith))

pub shown_with_node : (paths : List (List (List ℕ))) (entries : List Entry) (path : List (List ℕ)) (at : ℕ) (node : Option Node) → length entries ≡ length paths
    → place_of paths path ≡ Some at → shown paths (with_node entries at node) ≡ set (shown paths entries) at (record { path = path; node = node })
shown_with_node paths entries path at node long is =
    let here = is_place paths path at is in
    shown_set paths entries at (record { node = node; children = (entry_at entries at).children }) long (omega arith)
    ∙ ap (λ (p : List (List ℕ)). set (shown paths entries) at (record { path = p; node = node })) here.1

shown_with_children : (paths : List (List (List ℕ))) (entries : List Entry) (at count : ℕ) → length entries ≡ length paths → at < length entries
    → shown paths (with_children entries at count) ≡ shown paths entries
shown_with_children paths entries at count long within =
    let same : get_or (shown paths entries) at no_place ≡ record { path = get_or paths at []; node = (entry_at entries at).node } =
    get_or_from_slice_get (shown paths entries) at (record { path = get_or paths at []; node = (entry_at entries at).node }) no_place (shown_at paths entries at no_entry long within) in
    shown_set paths entries at (record { node = (entry_at entries at).node; children = count }) long within
    ∙ ap (set (shown paths entries) at) (sym same)
    ∙ set-get_or (shown paths entries) at no_place

shown_last : (paths : List (List (List ℕ))) (entries : List Entry) (path : List (List ℕ)) (e : Entry) → length entries ≡ length paths
    → shown (paths ++ path ∷ []) (entries ++ e ∷ []) ≡ shown paths entries ++ record { path = path; node = e.node } ∷ []
shown_last [] [] path e long = refl
shown_last [] (x ∷ entries) path e long = absurd (omega arith)
shown_last (p ∷ paths) [] path e long = absurd (omega arith)
shown_last (p ∷ paths) (x ∷ entries) path e long =
    ap (λ (tree : List Row). let q : Row = record { path = p; node = x.node } in q ∷ tree) (shown_last paths entries path e (omega arith))

get_set : {X : Type 0} (xs : List X) (at : ℕ) (y : X) (i : ℕ) (x : X) → at < length xs → slice_get (set xs at y) i ≡ Some x
    → ((i ≡ at) × (y ≡ x)) ⊎ ((i ≡ at → ⊥) × (slice_get xs i ≡ Some x))
get_set [] at y i x within got = absurd (omega arith)
get_set (z ∷ xs) zero y zero x within got = inl (refl, same_Some y x got)
get_set (z ∷ xs) zero y (suc i) x within got = inr (λ (same : suc i ≡ 0). omega arith, got)
get_set (z ∷ xs) (suc at) y zero x within got = inr (λ (same : 0 ≡ suc at). omega arith, got)
get_set (z ∷ xs) (suc at) y (suc i) x within got =
    ⊎_elim (λ here. inl (ap suc here.0, here.1)) (λ there. inr (λ (same : suc i ≡ suc at). there.0 (omega arith), there.1)) (get_set xs at y i x (omega arith) got)

pub path_differs : (front : List (List ℕ)) (last : List ℕ) → front ≡ front ++ last ∷ [] → ⊥
path_differs front last same =
    let long : length front ≡ length (front ++ last ∷ []) = ap length same in
    omega (arith, length-append front (last ∷ []))

pub same_or_not : (p q : List (List ℕ)) → (p ≡ q) ⊎ (p ≡ q → ⊥)
same_or_not p q = by (same_path p q) refl
  where
    by : (b : Bool) → same_path p q ≡ b → (p ≡ q) ⊎ (p ≡ q → ⊥)
    by true same = inl (same_is p q same)
    by false differ = inr (λ (same : p ≡ q). let t : same_path p q ≡ true = ap (λ x. same_path x q) same ∙ same_itself q in cc)

pub directory_there : (node : Option Node) → is_directory node ≡ true → is_there node ≡ true
directory_there None is = absurd (cc)
directory_there (Some node) is = refl

-- what stands in what, when the node at one place changed
reached_set : (tree : List Row) (path : List (List ℕ)) (at : ℕ) (node : Option Node) → place_in tree path ≡ Some at → IsReached tree
    → (is_there node ≡ true → (front : List (List ℕ)) (last : List ℕ) → path ≡ front ++ last ∷ [] → is_directory (node_at tree front) ≡ true)
    → ((i : ℕ) (place : Row) (last : List ℕ) → slice_get tree i ≡ Some place → is_there place.node ≡ true → place.path ≡ path ++ last ∷ [] → is_directory node ≡ true)
    → IsReached (set tree at (record { path = path; node = node }))
reached_set tree path at node is reached above below i place got there front last ends =
    let new : Row = record { path = path; node = node } in
    let within = (position-Some (λ (p : Row). same_path p.path path) tree at no_place is).0 in
    ⊎_elim {C = is_directory (node_at (set tree at new) front) ≡ true}
    (λ here.
    let is_last : path ≡ front ++ last ∷ [] = ap (λ (p : Row). p.path) here.1 ∙ ends in
    let differ : front ≡ path → ⊥ = λ (same : front ≡ path). path_differs front last (same ∙ is_last) in
    ap is_directory (node_set_other tree path front at node is differ)
    ∙ above (ap (λ (p : Row). is_there p.node) here.1 ∙ there) front last is_last)
    (λ old. ⊎_elim {C = is_directory (node_at (set tree at new) front) ≡ true}
    (λ same.
    ap (λ p. is_directory (node_at (set tree at new) p)) same ∙ ap is_directory (node_set_same tree path at node is)
    ∙ below i place last old.1 there (ends ∙ ap (λ p. p ++ last ∷ []) same))
    (λ differ. ap is_directory (node_set_other tree path front at node is differ) ∙ reached i place old.1 there front last ends)
    (same_or_not front path))
    (get_set tree at new i place within got)

-- how many stand right below a path, when the node at one place changed
children_set : (tree : List Row) (path other : List (List ℕ)) (at : ℕ) (old node : Option Node) → place_in tree path ≡ Some at → slice_get tree at ≡ Some (record { path = path; node = old })
    → children_of (set tree at (record { path = path; node = node })) other + bit (is_child other path && is_there old) ≡ children_of tree other + bit (is_child other path && is_there node)
children_set tree path other at old node is got =
    let was : get_or tree at no_place ≡ record { path = path; node = old } = get_or_from_slice_get tree at (record { path = path; node = old }) no_place got in
    ap (λ (p : Row). children_of (set tree at (record { path = path; node = node })) other + bit (is_child other p.path && is_there p.node)) (sym was)
    ∙ count_set (λ (p : Row). is_child other p.path && is_there p.node) tree at (record { path = path; node = node }) no_place (slice_get_within tree at (record { path = path; node = old }) got)

-- the entry at a path's place
entry_shown : (paths : List (List (List ℕ))) (entries : List Entry) (path : List (List ℕ)) (at : ℕ) → length entries ≡ length paths → place_of paths path ≡ Some at
    → slice_get (shown paths entries) at ≡ Some (record { path = path; node = (entry_at entries at).node })
entry_shown paths entries path at long is =
    let here = is_place paths path at is in
    shown_at paths entries at no_entry long (omega arith)
    ∙ ap (λ p. Some (record { path = p; node = (entry_at entries at).node })) here.1

-- a node in place of one of the same kind
pub kept_same : (paths : List (List (List ℕ))) (entries : List Entry) (path : List (List ℕ)) (at : ℕ) (node : Option Node) → IsKept paths entries → place_of paths path ≡ Some at
    → is_there node ≡ is_there (entry_at entries at).node → is_directory node ≡ is_directory (entry_at entries at).node
    → IsKept paths (with_node entries at node)
kept_same paths entries path at node kept is there directory =
    let tree = shown paths entries in
    let old = (entry_at entries at).node in
    let here = is_place paths path at is in
    let is' : place_in tree path ≡ Some at = place_shown paths entries path kept.long ∙ is in
    let stood : node_at tree path ≡ old = node_shown paths entries path at no_entry kept.long (omega (arith, kept.long)) is' in
    let shows : shown paths (with_node entries at node) ≡ set tree at (record { path = path; node = node }) = shown_with_node paths entries path at node kept.long is in
    let got : slice_get tree at ≡ Some (record { path = path; node = old }) = entry_shown paths entries path at kept.long is in
    record {
      long = length-set entries at (record { node = node; children = (entry_at entries at).children }) ∙ kept.long;
      distinct = kept.distinct;
      root = kept.root;
      rooted = ap (λ t. is_directory (node_at t [])) shows
          ∙ ⊎_elim {C = is_directory (node_at (set tree at (record { path = path; node = node })) []) ≡ true}
          (λ (same : [] ≡ path). ap (λ p. is_directory (node_at (set tree at (record { path = path; node = node })) p)) same
          ∙ ap is_directory (node_set_same tree path at node is') ∙ directory ∙ ap is_directory (sym stood) ∙ ap (λ p. is_directory (node_at tree p)) (sym same) ∙ kept.rooted)
          (λ differ. ap is_directory (node_set_other tree path [] at node is' differ) ∙ kept.rooted)
          (same_or_not [] path);
      reached = subst IsReached (sym shows)
          (reached_set tree path at node is' kept.reached
          (λ stands front last ends. kept.reached at (record { path = path; node = old }) got (sym there ∙ stands) front last ends)
          (λ i place last got' there' ends. directory ∙ ap is_directory (sym stood) ∙ kept.reached i place got' there' path last ends));
      counted = λ i entry got'.
          let counts = children_set tree path (get_or paths i []) at old node is' got in
          let same : children_of (set tree at (record { path = path; node = node })) (get_or paths i []) ≡ children_of tree (get_or paths i []) =
          (let e = ap (λ b. bit (is_child (get_or paths i []) path && b)) there in omega arith) in
          ⊎_elim {C = entry.children ≡ children_of (shown paths (with_node entries at node)) (get_or paths i [])}
          (λ now. ap (λ (e : Entry). e.children) (sym now.1)
          ∙ kept.counted at (entry_at entries at) (slice_get-get_or entries at no_entry (omega (arith, kept.long)))
          ∙ ap (λ n. children_of tree (get_or paths n [])) (sym now.0) ∙ sym same ∙ ap (λ t. children_of t (get_or paths i [])) (sym shows))
          (λ before. kept.counted i entry before.1 ∙ sym same ∙ ap (λ t. children_of t (get_or paths i [])) (sym shows))
          (get_set entries at (record { node = node; children = (entry_at entries at).children }) i entry (omega (arith, kept.long)) got');
    }

-- the root's entry
pub root_is_directory : (paths : List (List (List ℕ))) (entries : List Entry) → IsKept paths entries → is_directory (entry_at entries 0).node ≡ true
root_is_directory paths entries kept =
    let here = is_place paths [] 0 kept.root in
    ap is_directory (sym (node_shown paths entries [] 0 no_entry kept.long (omega (arith, kept.long)) (place_shown paths entries [] kept.long ∙ kept.root))) ∙ kept.rooted

-- the entry that is read at a path's place
pub read_entry : (paths : List (List (List ℕ))) (entries : List Entry) (path : List (List ℕ)) (at : ℕ) (e : Entry) → IsKept paths entries → place_of paths path ≡ Some at
    → e ≡ get_or entries at e → e ≡ entry_at entries at
read_entry paths entries path at e kept is read =
    let here = is_place paths path at is in
    read ∙ get_or_same entries at e no_entry (omega (arith, kept.long))
  where
    get_or_same : (xs : List Entry) (i : ℕ) (d d' : Entry) → i < length xs → get_or xs i d ≡ get_or xs i d'
    get_or_same xs i d d' within = same_Some (get_or xs i d) (get_or xs i d') (sym (slice_get-get_or xs i d within) ∙ slice_get-get_or xs i d' within)

-- Where a node begins or ceases to stand, right below another.

-- a path is right below the one before it, and no other
child_of_front : (front : List (List ℕ)) (part : List ℕ) → is_child front (front ++ part ∷ []) ≡ true
child_of_front front part = child_last front front part ∙ same_itself front

child_of_other : (other front : List (List ℕ)) (part : List ℕ) → (other ≡ front → ⊥) → is_child other (front ++ part ∷ []) ≡ false
child_of_other other front part differ = by (same_path other front) refl
  where
    by : (b : Bool) → same_path other front ≡ b → is_child other (front ++ part ∷ []) ≡ false
    by true same = absurd (differ (same_is other front same))
    by false apart = child_last other front part ∙ apart

pub kept_node : (paths : List (List (List ℕ))) (entries : List Entry) (front : List (List ℕ)) (part : List ℕ) (parent at count : ℕ) (node : Option Node) → IsKept paths entries
    → place_of paths front ≡ Some parent → place_of paths (front ++ part ∷ []) ≡ Some at
    → count + bit (is_there (entry_at entries at).node) ≡ (entry_at entries parent).children + bit (is_there node)
    → (is_there node ≡ true → is_directory (node_at (shown paths entries) front) ≡ true)
    → ((i : ℕ) (place : Row) (last : List ℕ) → slice_get (shown paths entries) i ≡ Some place → is_there place.node ≡ true → place.path ≡ (front ++ part ∷ []) ++ last ∷ [] → is_directory node ≡ true)
    → (IsKept paths (with_node (with_children entries parent count) at node)) × (shown paths (with_node (with_children entries parent count) at node) ≡ set (shown paths entries) at (record { path = front ++ part ∷ []; node = node }))
kept_node paths entries front part parent at count node kept above is counts stands below =
    let path = front ++ part ∷ [] in
    let tree = shown paths entries in
    let old = (entry_at entries at).node in
    let here = is_place paths path at is in
    let over = is_place paths front parent above in
    let within : at < length entries = omega (arith, kept.long) in
    let within' : parent < length entries = omega (arith, kept.long) in
    let apart : at ≡ parent → ⊥ = λ (same : at ≡ parent). path_differs front part (sym over.1 ∙ ap (λ n. get_or paths n []) (sym same) ∙ here.1) in
    let more = with_children entries parent count in
    let long : length more ≡ length entries = length-set entries parent (record { node = (entry_at entries parent).node; children = count }) in
    let here' : entry_at more at ≡ entry_at entries at = get_or-set_other entries parent at (record { node = (entry_at entries parent).node; children = count }) no_entry apart in
    let is' : place_in tree path ≡ Some at = place_shown paths entries path kept.long ∙ is in
    let shows : shown paths (with_node more at node) ≡ set tree at (record { path = path; node = node }) =
    shown_with_node paths more path at node (long ∙ kept.long) is
    ∙ ap (λ t. set t at (record { path = path; node = node })) (shown_with_children paths entries parent count kept.long within') in
    let got : slice_get tree at ≡ Some (record { path = path; node = old }) = entry_shown paths entries path at kept.long is in
    let new = set tree at (record { path = path; node = node }) in (
      record {
        long = length-set more at (record { node = node; children = (entry_at more at).children }) ∙ long ∙ kept.long;
        distinct = kept.distinct;
        root = kept.root;
        rooted = ap (λ t. is_directory (node_at t [])) shows
            ∙ ap is_directory (node_set_other tree path [] at node is' (λ (same : [] ≡ path). some_last front part same)) ∙ kept.rooted;
        reached = subst IsReached (sym shows)
            (reached_set tree path at node is' kept.reached
            (λ stood front' last ends.
            let same : front ≡ front' = (last_parts front front' part last ends).0 in
            ap (λ p. is_directory (node_at tree p)) (sym same) ∙ stands stood)
            below);
        counted = λ i entry got'.
            let other = get_or paths i [] in
            let change = children_set tree path other at old node is' got in
            let shows' : children_of new other ≡ children_of (shown paths (with_node more at node)) other = ap (λ t. children_of t other) (sym shows) in
            let unchanged : (other ≡ front → ⊥) → children_of tree other ≡ children_of (shown paths (with_node more at node)) other = λ (differ : other ≡ front → ⊥).
            let no_child : is_child other path ≡ false = child_of_other other front part differ in
            let e = ap (λ b. bit (b && is_there old)) no_child in
            let f = ap (λ b. bit (b && is_there node)) no_child in
            let same : children_of tree other ≡ children_of new other = omega arith in
            same ∙ shows' in
            ⊎_elim {C = entry.children ≡ children_of (shown paths (with_node more at node)) other}
            (λ now.
            let path_here : other ≡ path = ap (λ n. get_or paths n []) now.0 ∙ here.1 in
            ap (λ (e : Entry). e.children) (sym now.1) ∙ ap (λ (e : Entry). e.children) here'
            ∙ kept.counted at (entry_at entries at) (slice_get-get_or entries at no_entry within)
            ∙ ap (λ n. children_of tree (get_or paths n [])) (sym now.0)
            ∙ unchanged (λ (same : other ≡ front). path_differs front part (sym same ∙ path_here)))
            (λ before. ⊎_elim {C = entry.children ≡ children_of (shown paths (with_node more at node)) other}
            (λ parent_now.
            let front_here : other ≡ front = ap (λ n. get_or paths n []) parent_now.0 ∙ over.1 in
            let child : is_child other path ≡ true = ap (λ p. is_child p path) front_here ∙ child_of_front front part in
            let e = ap (λ b. bit (b && is_there old)) child in
            let f = ap (λ b. bit (b && is_there node)) child in
            let was : (entry_at entries parent).children ≡ children_of tree other =
            kept.counted parent (entry_at entries parent) (slice_get-get_or entries parent no_entry within') ∙ ap (λ n. children_of tree (get_or paths n [])) (sym parent_now.0) in
            let becomes : entry.children ≡ count = ap (λ (e : Entry). e.children) (sym parent_now.1) in
            let same : entry.children ≡ children_of new other = omega arith in
            same ∙ shows')
            (λ untouched.
            kept.counted i entry untouched.1
            ∙ unchanged (λ (same : other ≡ front).
            let inside : i < length paths = omega (arith, slice_get_within entries i entry untouched.1, kept.long) in
            untouched.0 (kept.distinct i parent inside over.0 (same ∙ sym over.1))))
            (get_set entries parent (record { node = (entry_at entries parent).node; children = count }) i entry within' before.1))
            (get_set more at (record { node = node; children = (entry_at more at).children }) i entry (omega (arith, long)) got');
      },
      shows,
    )

-- nothing stands right below a path at which nothing stands
pub no_children : (tree : List Row) (path : List (List ℕ)) → IsReached tree → is_directory (node_at tree path) ≡ false → children_of tree path ≡ 0
no_children tree path reached none = count_none (λ (place : Row). is_child path place.path && is_there place.node) tree (λ i place at. fails i place at (is_child path place.path && is_there place.node) refl)
  where
    fails : (i : ℕ) (place : Row) → slice_get tree i ≡ Some place → (b : Bool) → (is_child path place.path && is_there place.node) ≡ b → (is_child path place.path && is_there place.node) ≡ false
    fails i place at false is = is
    fails i place at true is =
        let both = both_true (is_child path place.path) (is_there place.node) is in
        let split = child_split path place.path both.0 in
        let directory : is_directory (node_at tree path) ≡ true = reached i place at both.1 path split.0 split.1 in
        absurd (cc)

get_last : {X : Type 0} (xs : List X) (y : X) (i : ℕ) (x : X) → slice_get (xs ++ y ∷ []) i ≡ Some x → (slice_get xs i ≡ Some x) ⊎ ((i ≡ length xs) × (y ≡ x))
get_last [] y zero x got = inr (refl, same_Some y x got)
get_last [] y (suc i) x got = absurd (none-some x got)
get_last (z ∷ xs) y zero x got = inl got
get_last (z ∷ xs) y (suc i) x got = ⊎_elim (λ old. inl old) (λ last. inr (ap suc last.0, last.1)) (get_last xs y i x got)

-- a place more, at which nothing stands yet
kept_last : (paths : List (List (List ℕ))) (entries : List Entry) (path : List (List ℕ)) → IsKept paths entries → place_of paths path ≡ None → AreDistinct (paths ++ path ∷ [])
    → IsKept (paths ++ path ∷ []) (entries ++ no_entry ∷ [])
kept_last paths entries path kept none distinct =
    let tree = shown paths entries in
    let new = tree ++ record { path = path; node = None } ∷ [] in
    let shows : shown (paths ++ path ∷ []) (entries ++ no_entry ∷ []) ≡ new = shown_last paths entries path no_entry kept.long in
    let nothing : is_directory (node_at tree path) ≡ false = ap is_directory (node_not_found tree path (place_shown paths entries path kept.long ∙ none)) in
    let same : (other : List (List ℕ)) → children_of new other ≡ children_of tree other = λ other.
    count_last (λ (place : Row). is_child other place.path && is_there place.node) tree (record { path = path; node = None }) (and_false (is_child other path)) in
    record {
      long = omega (arith, length-append paths (path ∷ []), length-append entries (no_entry ∷ []), kept.long);
      distinct = distinct;
      root = place_stays (λ p. same_path p []) paths (path ∷ []) 0 [] kept.root;
      rooted = ap (λ t. is_directory (node_at t [])) shows ∙ ap is_directory (node_last tree path []) ∙ kept.rooted;
      reached = subst IsReached (sym shows) (λ i place got there front last ends.
          ⊎_elim {C = is_directory (node_at new front) ≡ true}
          (λ old. ap is_directory (node_last tree path front) ∙ kept.reached i place old there front last ends)
          (λ now. absurd (let e : is_there place.node ≡ false = ap (λ (p : Row). is_there p.node) (sym now.1) in cc))
          (get_last tree (record { path = path; node = None }) i place got));
      counted = λ i entry got.
          let shows' : children_of new (get_or (paths ++ path ∷ []) i []) ≡ children_of (shown (paths ++ path ∷ []) (entries ++ no_entry ∷ [])) (get_or (paths ++ path ∷ []) i []) =
          ap (λ t. children_of t (get_or (paths ++ path ∷ []) i [])) (sym shows) in
          ⊎_elim {C = entry.children ≡ children_of (shown (paths ++ path ∷ []) (entries ++ no_entry ∷ [])) (get_or (paths ++ path ∷ []) i [])}
          (λ old.
          let inside : i < length paths = omega (arith, slice_get_within entries i entry old, kept.long) in
          kept.counted i entry old
          ∙ ap (children_of tree) (sym (get_or-append paths (path ∷ []) [] i inside))
          ∙ sym (same (get_or (paths ++ path ∷ []) i []))
          ∙ shows')
          (λ last.
          let here : get_or (paths ++ path ∷ []) i [] ≡ path = ap (λ n. get_or (paths ++ path ∷ []) n []) (last.0 ∙ kept.long) ∙ get_or-append_seam paths path [] [] in
          ap (λ (e : Entry). e.children) (sym last.1)
          ∙ sym (no_children tree path kept.reached nothing)
          ∙ ap (children_of tree) (sym here)
          ∙ sym (same (get_or (paths ++ path ∷ []) i []))
          ∙ shows')
          (get_last entries no_entry i entry got);
    }
  where
    and_false : (b : Bool) → (b && false) ≡ false
    and_false true = refl
    and_false false = refl

place_last : (paths : List (List (List ℕ))) (path : List (List ℕ)) → AreDistinct (paths ++ path ∷ []) → place_of (paths ++ path ∷ []) path ≡ Some (length paths)
place_last paths path distinct =
    let within : length paths < length (paths ++ path ∷ []) = omega (arith, length-append paths (path ∷ [])) in
    let here : get_or (paths ++ path ∷ []) (length paths) [] ≡ path = get_or-append_seam paths path [] [] in
    only_place (λ p. same_path p path) (paths ++ path ∷ []) (length paths) [] within (ap (λ p. same_path p path) here ∙ same_itself path)
    (λ k less pass. distinct k (length paths) less within (same_is (get_or (paths ++ path ∷ []) k []) path pass ∙ sym here))

pub record IsGrown (paths : List (List (List ℕ))) (entries : List Entry) (path : List (List ℕ)) (at : ℕ) : Type 0 where
  pub kept : IsKept (with_path paths path) (grown entries at)
  pub shows : shown (with_path paths path) (grown entries at) ≡ with_place (shown paths entries) path

pub kept_grown : (paths : List (List (List ℕ))) (entries : List Entry) (path : List (List ℕ)) (at : ℕ) → IsKept paths entries
    → AreDistinct (with_path paths path) → place_of (with_path paths path) path ≡ Some at → IsGrown paths entries path at
kept_grown paths entries path at kept distinct is = by (place_of paths path) refl
  where
    by : (r : Option ℕ) → place_of paths path ≡ r → IsGrown paths entries path at
    by (Some k) was =
        let tree = shown paths entries in
        let same : with_path paths path ≡ paths = ap (λ r. if is_some r then paths else paths ++ path ∷ []) was in
        let at' : k ≡ at = same_Some k at (sym was ∙ ap (λ ps. place_of ps path) (sym same) ∙ is) in
        let less : at < length entries = omega (arith, (is_place paths path k was).0, kept.long) in
        let less' : nat_lt at (length entries) ≡ true = grind arith in
        let grows : grown entries at ≡ entries = ap (λ b. if b then entries else entries ++ no_entry ∷ []) less' in
        record {
          kept = subst (λ ps. IsKept ps (grown entries at)) (sym same) (subst (IsKept paths) (sym grows) kept);
          shows = ap (λ ps. shown ps (grown entries at)) same ∙ ap (shown paths) grows
              ∙ sym (ap (λ r. if is_some r then tree else tree ++ record { path = path; node = None } ∷ []) (place_shown paths entries path kept.long ∙ was));
        }
    by None none =
        let tree = shown paths entries in
        let more : with_path paths path ≡ paths ++ path ∷ [] = ap (λ r. if is_some r then paths else paths ++ path ∷ []) none in
        let distinct' : AreDistinct (paths ++ path ∷ []) = subst AreDistinct more distinct in
        let at' : length paths ≡ at = same_Some (length paths) at (sym (place_last paths path distinct') ∙ ap (λ ps. place_of ps path) (sym more) ∙ is) in
        let past : nat_lt at (length entries) ≡ false = (let e = kept.long in grind arith) in
        let grows : grown entries at ≡ entries ++ no_entry ∷ [] = ap (λ b. if b then entries else entries ++ no_entry ∷ []) past in
        record {
          kept = subst (λ ps. IsKept ps (grown entries at)) (sym more) (subst (IsKept (paths ++ path ∷ [])) (sym grows) (kept_last paths entries path kept none distinct'));
          shows = ap (λ ps. shown ps (grown entries at)) more ∙ ap (shown (paths ++ path ∷ [])) grows
              ∙ shown_last paths entries path no_entry kept.long
              ∙ sym (ap (λ r. if is_some r then tree else tree ++ record { path = path; node = None } ∷ []) (place_shown paths entries path kept.long ∙ none));
        }

-- a count that stays
same_children : (entries : List Entry) (at : ℕ) → with_children entries at (entry_at entries at).children ≡ entries
same_children entries at = set-get_or entries at no_entry

-- A node was put at a path right below a directory.
pub record IsPut (paths : List (List (List ℕ))) (entries : List Entry) (path : List (List ℕ)) (parent at : ℕ) (node : Node) : Type 0 where
  pub kept : IsKept (with_path paths path) (with_entry entries at parent (Some node))
  pub shows : shown (with_path paths path) (with_entry entries at parent (Some node)) ≡ put_node (shown paths entries) path node
  pub placed : place_in (shown (with_path paths path) (with_entry entries at parent (Some node))) path ≡ Some at

put_counted : (paths : List (List (List ℕ))) (entries : List Entry) (front : List (List ℕ)) (part : List ℕ) (parent at : ℕ) (node : Node) → IsKept paths entries
    → place_of paths front ≡ Some parent → place_of paths (front ++ part ∷ []) ≡ Some at
    → is_directory (node_at (shown paths entries) front) ≡ true
    → ((i : ℕ) (place : Row) (last : List ℕ) → slice_get (shown paths entries) i ≡ Some place → is_there place.node ≡ true → place.path ≡ (front ++ part ∷ []) ++ last ∷ [] → is_directory (Some node) ≡ true)
    → (IsKept paths (with_node (one_more entries at parent) at (Some node))) × (shown paths (with_node (one_more entries at parent) at (Some node)) ≡ set (shown paths entries) at (record { path = front ++ part ∷ []; node = Some node }))
put_counted paths entries front part parent at node kept above is directory below = by (is_there (entry_at entries at).node) refl
  where
    by : (b : Bool) → is_there (entry_at entries at).node ≡ b
        → (IsKept paths (with_node (one_more entries at parent) at (Some node))) × (shown paths (with_node (one_more entries at parent) at (Some node)) ≡ set (shown paths entries) at (record { path = front ++ part ∷ []; node = Some node }))
    by true there =
        let same : with_children entries parent (entry_at entries parent).children ≡ one_more entries at parent =
        same_children entries parent
        ∙ sym (ap (λ b. if b then entries else with_children entries parent ((entry_at entries parent).children + 1)) there) in
        let e : bit (is_there (entry_at entries at).node) ≡ 1 = ap bit there in
        subst (λ es. (IsKept paths (with_node es at (Some node))) × (shown paths (with_node es at (Some node)) ≡ set (shown paths entries) at (record { path = front ++ part ∷ []; node = Some node }))) same
        (kept_node paths entries front part parent at (entry_at entries parent).children (Some node) kept above is (omega arith) (λ stands. directory) below)
    by false free =
        let same : with_children entries parent ((entry_at entries parent).children + 1) ≡ one_more entries at parent =
        sym (ap (λ b. if b then entries else with_children entries parent ((entry_at entries parent).children + 1)) free) in
        let e : bit (is_there (entry_at entries at).node) ≡ 0 = ap bit free in
        subst (λ es. (IsKept paths (with_node es at (Some node))) × (shown paths (with_node es at (Some node)) ≡ set (shown paths entries) at (record { path = front ++ part ∷ []; node = Some node }))) same
        (kept_node paths entries front part parent at ((entry_at entries parent).children + 1) (Some node) kept above is (omega arith) (λ stands. directory) below)

pub is_put : (paths : List (List (List ℕ))) (entries : List Entry) (front : List (List ℕ)) (part : List ℕ) (parent at : ℕ) (node : Node) → IsKept paths entries
    → place_of paths front ≡ Some parent → AreDistinct (with_path paths (front ++ part ∷ [])) → place_of (with_path paths (front ++ part ∷ [])) (front ++ part ∷ []) ≡ Some at
    → is_directory (node_at (shown paths entries) front) ≡ true
    → (is_directory (node_at (shown paths entries) (front ++ part ∷ [])) ≡ true → is_directory (Some node) ≡ true)
    → IsPut paths entries (front ++ part ∷ []) parent at node
is_put paths entries front part parent at node kept above distinct is directory keeps =
    let path = front ++ part ∷ [] in
    let tree = shown paths entries in
    let grows : IsGrown paths entries path at = kept_grown paths entries path at kept distinct is in
    let paths' = with_path paths path in
    let entries' = grown entries at in
    let same : (other : List (List ℕ)) → node_at (shown paths' entries') other ≡ node_at tree other = λ other. ap (λ t. node_at t other) grows.shows ∙ node_with_place tree path other in
    let put = put_counted paths' entries' front part parent at node grows.kept (place_with_path paths front path parent above) is
    (ap is_directory (same front) ∙ directory)
    (λ i place last got there ends. keeps (ap is_directory (sym (same path)) ∙ grows.kept.reached i place got there path last ends)) in
    let is' : place_in (shown paths' entries') path ≡ Some at = place_shown paths' entries' path grows.kept.long ∙ is in
    record {
      kept = put.0;
      shows = put.1 ∙ sym (put_found (shown paths' entries') path at node is') ∙ ap (λ t. put_node t path node) grows.shows ∙ put_with_place tree path node;
      placed = place_shown paths' (with_entry entries at parent (Some node)) path put.0.long ∙ is;
    }

-- What stood at a path was taken away.
pub record IsTaken (paths : List (List (List ℕ))) (entries : List Entry) (path : List (List ℕ)) (parent at : ℕ) : Type 0 where
  pub kept : IsKept paths (without_entry entries at parent)
  pub shows : shown paths (without_entry entries at parent) ≡ without_path (shown paths entries) path

taken_counted : (paths : List (List (List ℕ))) (entries : List Entry) (front : List (List ℕ)) (part : List ℕ) (parent at : ℕ) → IsKept paths entries
    → place_of paths front ≡ Some parent → place_of paths (front ++ part ∷ []) ≡ Some at
    → (is_there (entry_at entries at).node ≡ true → 0 < (entry_at entries parent).children)
    → ((i : ℕ) (place : Row) (last : List ℕ) → slice_get (shown paths entries) i ≡ Some place → is_there place.node ≡ true → place.path ≡ (front ++ part ∷ []) ++ last ∷ [] → is_directory None ≡ true)
    → (IsKept paths (without_entry entries at parent)) × (shown paths (without_entry entries at parent) ≡ set (shown paths entries) at (record { path = front ++ part ∷ []; node = None }))
taken_counted paths entries front part parent at kept above is some below = by (is_there (entry_at entries at).node) refl
  where
    by : (b : Bool) → is_there (entry_at entries at).node ≡ b
        → (IsKept paths (without_entry entries at parent)) × (shown paths (without_entry entries at parent) ≡ set (shown paths entries) at (record { path = front ++ part ∷ []; node = None }))
    by false free =
        let same : with_children entries parent (entry_at entries parent).children ≡ one_fewer entries at parent =
        same_children entries parent
        ∙ sym (ap (λ b. if b then with_children entries parent ((entry_at entries parent).children - 1) else entries) free) in
        let e : bit (is_there (entry_at entries at).node) ≡ 0 = ap bit free in
        subst (λ es. (IsKept paths (with_node es at None)) × (shown paths (with_node es at None) ≡ set (shown paths entries) at (record { path = front ++ part ∷ []; node = None }))) same
        (kept_node paths entries front part parent at (entry_at entries parent).children None kept above is (omega arith) (λ (stands : false ≡ true). absurd (cc)) below)
    by true there =
        let same : with_children entries parent ((entry_at entries parent).children - 1) ≡ one_fewer entries at parent =
        sym (ap (λ b. if b then with_children entries parent ((entry_at entries parent).children - 1) else entries) there) in
        let e : bit (is_there (entry_at entries at).node) ≡ 1 = ap bit there in
        let counted = some there in
        subst (λ es. (IsKept paths (with_node es at None)) × (shown paths (with_node es at None) ≡ set (shown paths entries) at (record { path = front ++ part ∷ []; node = None }))) same
        (kept_node paths entries front part parent at ((entry_at entries parent).children - 1) None kept above is (omega arith) (λ (stands : false ≡ true). absurd (cc)) below)

-- a node that stands is counted where it stands
pub counts_child : (paths : List (List (List ℕ))) (entries : List Entry) (front : List (List ℕ)) (part : List ℕ) (parent at : ℕ) → IsKept paths entries
    → place_of paths front ≡ Some parent → place_of paths (front ++ part ∷ []) ≡ Some at
    → is_there (entry_at entries at).node ≡ true → 0 < (entry_at entries parent).children
counts_child paths entries front part parent at kept above is there =
    let tree = shown paths entries in
    let path = front ++ part ∷ [] in
    let over = is_place paths front parent above in
    let within : parent < length entries = omega (arith, kept.long) in
    let some : 0 < children_of tree front =
    count_some (λ (place : Row). is_child front place.path && is_there place.node) tree at (record { path = path; node = (entry_at entries at).node })
    (entry_shown paths entries path at kept.long is) (both_hold (is_child front path) (is_there (entry_at entries at).node) (child_of_front front part) there) in
    let counted : (entry_at entries parent).children ≡ children_of tree front =
    kept.counted parent (entry_at entries parent) (slice_get-get_or entries parent no_entry within) ∙ ap (children_of tree) over.1 in
    omega arith
  where
    both_hold : (a b : Bool) → a ≡ true → b ≡ true → (a && b) ≡ true
    both_hold a b p q = (λ i. p i && q i)

-- something stands below a directory in which something stands
full_with_child : (tree : List Row) (path : List (List ℕ)) (i : ℕ) (place : Row) (last : List ℕ) → slice_get tree i ≡ Some place → is_there place.node ≡ true → place.path ≡ path ++ last ∷ []
    → is_full tree path ≡ true
full_with_child tree path i place last got there ends =
    let test : Row → Bool = λ p. is_below path p.path && is_there p.node in
    let child : is_child path place.path ≡ true = ap (is_child path) ends ∙ child_of_front path last in
    let below : is_below path place.path ≡ true = child_below path place.path child in
    let here : get_or tree i place ≡ place = get_or_from_slice_get tree i place place got in
    let any : list_any test tree ≡ true = any_at test tree i place (slice_get_within tree i place got) (ap test here ∙ (λ k. below k && there k)) in
    ap (λ b. is_root path || b) any ∙ or_true (is_root path)
  where
    or_true : (b : Bool) → (b || true) ≡ true
    or_true true = refl
    or_true false = refl

pub is_taken : (paths : List (List (List ℕ))) (entries : List Entry) (front : List (List ℕ)) (part : List ℕ) (parent at : ℕ) → IsKept paths entries
    → place_of paths front ≡ Some parent → place_of paths (front ++ part ∷ []) ≡ Some at
    → (is_directory (node_at (shown paths entries) (front ++ part ∷ [])) && is_full (shown paths entries) (front ++ part ∷ [])) ≡ false
    → IsTaken paths entries (front ++ part ∷ []) parent at
is_taken paths entries front part parent at kept above is empty =
    let path = front ++ part ∷ [] in
    let tree = shown paths entries in
    let taken = taken_counted paths entries front part parent at kept above is (counts_child paths entries front part parent at kept above is)
    (λ i place last got there ends.
    let directory : is_directory (node_at tree path) ≡ true = kept.reached i place got there path last ends in
    let full : is_full tree path ≡ true = full_with_child tree path i place last got there ends in
    let both : (is_directory (node_at tree path) && is_full tree path) ≡ true = (λ k. directory k && full k) in
    absurd (cc)) in
    record {
      kept = taken.0;
      shows = taken.1 ∙ sym (without_found tree path at (place_shown paths entries path kept.long ∙ is));
    }

-- the path at a place has that place
pub place_here : (paths : List (List (List ℕ))) (i : ℕ) → AreDistinct paths → i < length paths → place_of paths (get_or paths i []) ≡ Some i
place_here paths i distinct within =
    only_place (λ p. same_path p (get_or paths i [])) paths i [] within (same_itself (get_or paths i []))
    (λ k less pass. distinct k i less within (same_is (get_or paths k []) (get_or paths i []) pass))

pub shown_within : (paths : List (List (List ℕ))) (entries : List Entry) (at : ℕ) → length entries ≡ length paths → is_directory (node_in (shown paths entries) at) ≡ true → at < length paths
shown_within paths entries at long is =
    let within = within_tree (shown paths entries) at is in
    omega (arith, shown_length paths entries long)

-- what stands at a place stands at its path
pub directory_here : (paths : List (List (List ℕ))) (entries : List Entry) (path : List (List ℕ)) (at : ℕ) → IsKept paths entries → place_of paths path ≡ Some at
    → is_directory (node_in (shown paths entries) at) ≡ true → is_directory (node_at (shown paths entries) path) ≡ true
directory_here paths entries path at kept is directory =
    ap is_directory (node_found (shown paths entries) path at (place_shown paths entries path kept.long ∙ is)) ∙ directory

-- a place that is added is the next one at most
pub added_within : (paths : List (List (List ℕ))) (path : List (List ℕ)) (at : ℕ) → place_of (with_path paths path) path ≡ Some at → at ≤ length paths
added_within paths path at is =
    let here = is_place (with_path paths path) path at is in
    let more = longer (is_some (place_of paths path)) in
    omega arith
  where
    longer : (b : Bool) → length (if b then paths else paths ++ path ∷ []) ≤ length paths + 1
    longer true = omega arith
    longer false = omega (arith, length-append paths (path ∷ []))

-- a count is at most the number of entries
pub count_within : (paths : List (List (List ℕ))) (entries : List Entry) (at : ℕ) → IsKept paths entries → at < length paths → (entry_at entries at).children ≤ length entries
count_within paths entries at kept within =
    let counted = kept.counted at (entry_at entries at) (slice_get-get_or entries at no_entry (omega (arith, kept.long))) in
    let bound = count_by-le-length (λ (place : Row). is_child (get_or paths at []) place.path && is_there place.node) (shown paths entries) in
    omega (arith, shown_length paths entries kept.long, kept.long)

-- A mode changes neither whether something stands nor whether it is a directory.

mode_there : (mode : ℕ) (node : Option Node) → is_there (mode_changed mode node) ≡ is_there node
mode_there mode None = refl
mode_there mode (Some node) = refl

mode_directory : (mode : ℕ) (node : Option Node) → is_directory (mode_changed mode node) ≡ is_directory node
mode_directory mode None = refl
mode_directory mode (Some (Directory old)) = refl
mode_directory mode (Some (File old content)) = refl
mode_directory mode (Some (Link old target)) = refl

pub kept_mode : (paths : List (List (List ℕ))) (entries : List Entry) (path : List (List ℕ)) (at mode : ℕ) → IsKept paths entries → place_of paths path ≡ Some at
    → IsKept paths (with_node entries at (mode_changed mode (entry_at entries at).node))
kept_mode paths entries path at mode kept is =
    kept_same paths entries path at (mode_changed mode (entry_at entries at).node) kept is
    (mode_there mode (entry_at entries at).node) (mode_directory mode (entry_at entries at).node)

changed_by : (tree : List Row) (path : List (List ℕ)) (at mode : ℕ) (node : Option Node) → place_in tree path ≡ Some at → slice_get tree at ≡ Some (record { path = path; node = node })
    → set tree at (record { path = path; node = mode_changed mode node }) ≡ change_mode tree path mode node
changed_by tree path at mode (Some node) is got = sym (put_found tree path at (with_mode mode node) is)
changed_by tree path at mode None is got =
    ap (set tree at) (sym (get_or_from_slice_get tree at (record { path = path; node = None }) no_place got)) ∙ set-get_or tree at no_place

pub shown_mode : (paths : List (List (List ℕ))) (entries : List Entry) (path : List (List ℕ)) (at mode : ℕ) → IsKept paths entries → place_of paths path ≡ Some at
    → shown paths (with_node entries at (mode_changed mode (entry_at entries at).node)) ≡ change_mode (shown paths entries) path mode (node_at (shown paths entries) path)
shown_mode paths entries path at mode kept is =
    let tree = shown paths entries in
    let old = (entry_at entries at).node in
    let here = is_place paths path at is in
    let is' : place_in tree path ≡ Some at = place_shown paths entries path kept.long ∙ is in
    shown_with_node paths entries path at (mode_changed mode old) kept.long is
    ∙ changed_by tree path at mode old is' (entry_shown paths entries path at kept.long is)
    ∙ ap (change_mode tree path mode) (sym (node_shown paths entries path at no_entry kept.long (omega (arith, kept.long)) is'))
