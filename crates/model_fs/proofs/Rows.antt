-- The tree that rows show.
use Rattle.std.proofs.Common.{◌≡◌, ℕ, ◌<◌, Bool, true, false, cond, ◌&&◌, ◌||◌, List, [], ◌∷◌, length, get_or, slice_get, Option, Some, None, refl, sym, ap, ◌∙◌, arith, ⊎_elim, if◌then◌else◌}
use Rattle.std.proofs.lemmas.Option.{same_Some, slice_get_within}
use Rattle.std.specs.Cmp.{both_ways}
use Rattle.std.specs.List.{find, fold, list_any}
use Rattle.init_machine.specs.FileTree as tree
use Rattle.init_machine.specs.FileTree.{Place, same_path, above, is_there, is_directory, is_other, is_below, is_root, with_mode}
use Rattle.init_machine.specs.declared.node.Node.{Node}
use Rattle.init_machine.specs.declared.node.Node.TheVariants.{Directory}
use Rattle.init_machine.proofs.Paths.{both_true, same_is, same_itself}
use Rattle.init_machine.proofs.TreeMaps.{ascends_put, ascends_without, place_stands, same_nodes, stands_below, Ascends}
use Rattle.init_machine.proofs.TreeMaps as map
use Rattle.model_fs.specs.internal.Entries.{place_in, has_below, shown, no_entry, IsKept}
use Rattle.model_fs.specs.internal.Rows.{Row, tree_of, standing_at, node_of, node_at, put_node, without_path, is_under_other, is_full, with_parent, with_parents, change_mode}
use Rattle.model_fs.specs.internal.Steps.{place_of}
use Rattle.model_fs.specs.declared.entries.Entry.{Entry}
use Rattle.model_fs.proofs.Below.{any_some, below_at}
use Rattle.model_fs.proofs.Kept.{place_here, same_or_not}
use Rattle.model_fs.proofs.Shown.{place_shown, shown_at, shown_length}
use Rattle.model_fs.proofs.Standing.{standing_place}
use Rattle.model_fs.proofs.Trees.{node_found, node_put, node_put_other, node_without, node_without_other}

ascends_standing : (places : List Place) (path : List (List ℕ)) (node : Option Node) → Ascends places → Ascends (standing_at places path node)
ascends_standing places path None ascends = ascends_without places path ascends
ascends_standing places path (Some node) ascends = ascends_put places path node ascends

ascends : (rows : List Row) → Ascends (tree_of rows)
ascends [] = tt
ascends (row ∷ rows) = ascends_standing (tree_of rows) row.path row.node (ascends rows)

stands_there : (places : List Place) (path : List (List ℕ)) (node : Option Node) → tree.node_at (standing_at places path node) path ≡ node
stands_there places path None = map.node_without places path
stands_there places path (Some node) = map.node_put places path node

stands_elsewhere : (places : List Place) (path other : List (List ℕ)) (node : Option Node) → (path ≡ other → ⊥)
    → tree.node_at (standing_at places path node) other ≡ tree.node_at places other
stands_elsewhere places path other None apart = map.node_without_other places path other apart
stands_elsewhere places path other (Some node) apart = map.node_put_other places path other node apart

-- what stands at a path is the node of its row
pub node_is : (rows : List Row) (path : List (List ℕ)) → tree.node_at (tree_of rows) path ≡ node_at rows path
node_is [] path = refl
node_is (row ∷ rows) path = by (node_is rows path) (same_path row.path path) refl
  where
    by : tree.node_at (tree_of rows) path ≡ node_at rows path → (b : Bool) → same_path row.path path ≡ b → tree.node_at (tree_of (row ∷ rows)) path ≡ node_at (row ∷ rows) path
    by rest true same =
        ap (tree.node_at (tree_of (row ∷ rows))) (sym (same_is row.path path same))
        ∙ stands_there (tree_of rows) row.path row.node
        ∙ sym (ap (λ b. node_of (cond b (Some row) (find (λ other. same_path other.path path) rows))) same)
    by rest false differs =
        let apart : row.path ≡ path → ⊥ = λ (is : row.path ≡ path). let t : same_path row.path path ≡ true = ap (λ p. same_path p path) is ∙ same_itself path in cc in
        stands_elsewhere (tree_of rows) row.path path row.node apart
        ∙ rest
        ∙ sym (ap (λ b. node_of (cond b (Some row) (find (λ other. same_path other.path path) rows))) differs)

pub under_is : (rows : List Row) (path : List (List ℕ)) → tree.is_under_other (tree_of rows) path ≡ is_under_other rows path
under_is rows path = λ k. list_any (λ prefix. is_other (node_is rows prefix k)) (above path)

-- rows and a tree with the same nodes but at one path
one_changed : (rows rows' : List Row) (path : List (List ℕ)) (node : Option Node) → node_at rows' path ≡ node
    → ((other : List (List ℕ)) → (path ≡ other → ⊥) → node_at rows' other ≡ node_at rows other) → tree_of rows' ≡ standing_at (tree_of rows) path node
one_changed rows rows' path node changed unchanged =
    same_nodes (tree_of rows') (standing_at (tree_of rows) path node) (ascends rows') (ascends_standing (tree_of rows) path node (ascends rows))
    (λ other. node_is rows' other ∙ ⊎_elim {C = node_at rows' other ≡ tree.node_at (standing_at (tree_of rows) path node) other}
    (λ same. ap (node_at rows') (sym same) ∙ changed ∙ sym (stands_there (tree_of rows) path node) ∙ ap (tree.node_at (standing_at (tree_of rows) path node)) same)
    (λ apart. unchanged other apart ∙ sym (node_is rows other) ∙ sym (stands_elsewhere (tree_of rows) path other node apart))
    (same_or_not path other))

pub put_is : (rows : List Row) (path : List (List ℕ)) (node : Node) → tree_of (put_node rows path node) ≡ tree.put_node (tree_of rows) path node
put_is rows path node =
    one_changed rows (put_node rows path node) path (Some node) (node_put rows path node) (λ other apart. node_put_other rows path other node apart)

pub without_is : (rows : List Row) (path : List (List ℕ)) → tree_of (without_path rows path) ≡ tree.without_path (tree_of rows) path
without_is rows path =
    one_changed rows (without_path rows path) path None (node_without rows path) (λ other apart. node_without_other rows path other apart)

parent_is : (rows : List Row) (path : List (List ℕ)) → tree_of (with_parent rows path) ≡ tree.with_parent (tree_of rows) path
parent_is rows path =
    by (is_there (node_at rows path)) ∙ sym (λ k. if is_there (node_is rows path k) then tree_of rows else tree.put_node (tree_of rows) path (Directory 493))
  where
    by : (b : Bool) → tree_of (if b then rows else put_node rows path (Directory 493)) ≡ (if b then tree_of rows else tree.put_node (tree_of rows) path (Directory 493))
    by true = refl
    by false = put_is rows path (Directory 493)

pub parents_are : (rows : List Row) (path : List (List ℕ)) → tree_of (with_parents rows path) ≡ tree.with_parents (tree_of rows) path
parents_are rows path = onto rows (above path)
  where
    onto : (rows : List Row) (paths : List (List (List ℕ))) → tree_of (fold with_parent rows paths) ≡ fold tree.with_parent (tree_of rows) paths
    onto rows [] = refl
    onto rows (p ∷ paths) = onto (with_parent rows p) paths ∙ ap (λ places. fold tree.with_parent places paths) (parent_is rows p)

-- what is put below its parents
pub put_below_is : (rows : List Row) (path : List (List ℕ)) (node : Node)
    → tree_of (put_node (with_parents rows path) path node) ≡ tree.put_node (tree.with_parents (tree_of rows) path) path node
put_below_is rows path node = put_is (with_parents rows path) path node ∙ ap (λ places. tree.put_node places path node) (parents_are rows path)

pub mode_is : (rows : List Row) (path : List (List ℕ)) (mode : ℕ)
    → tree_of (change_mode rows path mode (node_at rows path)) ≡ tree.change_mode (tree_of rows) path mode (tree.node_at (tree_of rows) path)
mode_is rows path mode = by (node_at rows path) ∙ ap (tree.change_mode (tree_of rows) path mode) (sym (node_is rows path))
  where
    by : (node : Option Node) → tree_of (change_mode rows path mode node) ≡ tree.change_mode (tree_of rows) path mode node
    by None = refl
    by (Some node) = put_is rows path (with_mode mode node)

-- What stands below a path, where each path has one row.

row_decides : (paths : List (List (List ℕ))) (entries : List Entry) → IsKept paths entries → (i : ℕ) (row : Row) → slice_get (shown paths entries) i ≡ Some row
    → node_at (shown paths entries) row.path ≡ row.node
row_decides paths entries kept i row got =
    let rows = shown paths entries in
    let within : i < length entries = omega (arith, slice_get_within rows i row got, shown_length paths entries kept.long, kept.long) in
    let path : row.path ≡ get_or paths i [] = ap (λ (r : Row). r.path) (same_Some row _ (sym got ∙ shown_at paths entries i no_entry kept.long within)) in
    let at : place_in rows row.path ≡ Some i = place_shown paths entries row.path kept.long ∙ ap (place_of paths) path ∙ place_here paths i kept.distinct (omega (arith, kept.long)) in
    node_found rows row.path i at ∙ ap node_of got

pub below_is : (paths : List (List (List ℕ))) (entries : List Entry) (path : List (List ℕ)) → IsKept paths entries
    → has_below (shown paths entries) path ≡ list_any (λ place. is_below path place.path) (tree_of (shown paths entries))
below_is paths entries path kept = both_ways _ _ from_rows from_tree
  where
    from_rows : has_below (shown paths entries) path ≡ true → list_any (λ place. is_below path place.path) (tree_of (shown paths entries)) ≡ true
    from_rows any =
        let rows = shown paths entries in
        let some = any_some (λ (row : Row). is_below path row.path && is_there row.node) rows any in
        let both = both_true (is_below path some.1.path) (is_there some.1.node) some.3 in
        stands_below (tree_of rows) path some.1.path (ap is_there (node_is rows some.1.path ∙ row_decides paths entries kept some.0 some.1 some.2) ∙ both.1) both.0

    from_tree : list_any (λ place. is_below path place.path) (tree_of (shown paths entries)) ≡ true → has_below (shown paths entries) path ≡ true
    from_tree any =
        let rows = shown paths entries in
        let some = any_some (λ (place : Place). is_below path place.path) (tree_of rows) any in
        let there = ap is_there (sym (node_is rows some.1.path)) ∙ place_stands (tree_of rows) some.0 some.1 some.2 in
        let row = standing_place rows some.1.path there in
        below_at rows path row.0 row.1 row.2 (ap (is_below path) row.4 ∙ some.3) row.3

-- whether a directory is full
pub full_is : (paths : List (List (List ℕ))) (entries : List Entry) (path : List (List ℕ)) → IsKept paths entries
    → (is_directory (node_at (shown paths entries) path) && is_full (shown paths entries) path)
    ≡ (is_directory (tree.node_at (tree_of (shown paths entries)) path) && tree.is_full (tree_of (shown paths entries)) path)
full_is paths entries path kept =
    λ k. is_directory (sym (node_is (shown paths entries) path) k) && (is_root path || below_is paths entries path kept k)

-- it isn't, by the rows
pub not_full : {paths : List (List (List ℕ))} {entries : List Entry} {rows : List Row} → IsKept paths entries → shown paths entries ≡ rows → (path : List (List ℕ))
    → (is_directory (tree.node_at (tree_of rows) path) && tree.is_full (tree_of rows) path) ≡ false → (is_directory (node_at rows path) && is_full rows path) ≡ false
not_full {paths = paths} {entries = entries} kept shows path empty =
    ap (λ rows. is_directory (node_at rows path) && is_full rows path) (sym shows)
    ∙ full_is paths entries path kept
    ∙ ap (λ rows. is_directory (tree.node_at (tree_of rows) path) && tree.is_full (tree_of rows) path) shows
    ∙ empty
