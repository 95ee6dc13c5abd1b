-- What is kept of a tree: a row for each path that has a place, in the order of the places, also where nothing stands. The tree
-- has the rows at which something stands.
use Rattle.std.specs.Prelude.{ℕ, Bool, ◌&&◌, ◌||◌, List, [], ◌∷◌, Option, Some, None, if◌then◌else◌}
use Rattle.std.specs.List.{find, fold, list_any}
use Rattle.init_machine.specs.FileTree.{Place, same_path, above, is_there, is_other, is_below, is_root, with_mode}
use Rattle.init_machine.specs.FileTree as tree
use Rattle.init_machine.specs.declared.node.Node.{Node}
use Rattle.init_machine.specs.declared.node.Node.TheVariants.{Directory}

pub record Row : Type 0 where
  pub path : List (List ℕ)
  pub node : Option Node

-- a tree with what stands at a path, if anything
abbrev pub standing_at : List Place → List (List ℕ) → Option Node → List Place
standing_at places path None = tree.without_path places path
standing_at places path (Some node) = tree.put_node places path node

-- of two rows of one path the first decides
abbrev pub tree_of : List Row → List Place
tree_of [] = []
tree_of (row ∷ rows) = standing_at (tree_of rows) row.path row.node

abbrev pub node_of : Option Row → Option Node
node_of None = None
node_of (Some row) = row.node

abbrev pub node_at : List Row → List (List ℕ) → Option Node
node_at rows path = node_of (find (λ row. same_path row.path path) rows)

-- a node in the path's row, or in a row behind all others where it has none
abbrev pub put_node : List Row → List (List ℕ) → Node → List Row
put_node [] path node = record { path = path; node = Some node } ∷ []
put_node (row ∷ rows) path node =
    if same_path row.path path then record { path = path; node = Some node } ∷ rows else row ∷ put_node rows path node

-- nothing stands at the path any more
abbrev pub without_path : List Row → List (List ℕ) → List Row
without_path [] path = []
without_path (row ∷ rows) path = if same_path row.path path then record { path = path; node = None } ∷ rows else row ∷ without_path rows path

abbrev pub is_under_other : List Row → List (List ℕ) → Bool
is_under_other rows path = list_any (λ prefix. is_other (node_at rows prefix)) (above path)

abbrev pub is_full : List Row → List (List ℕ) → Bool
is_full rows path = is_root path || list_any (λ row. is_below path row.path && is_there row.node) rows

abbrev pub with_parent : List Row → List (List ℕ) → List Row
with_parent rows path = if is_there (node_at rows path) then rows else put_node rows path (Directory 493)

abbrev pub with_parents : List Row → List (List ℕ) → List Row
with_parents rows path = fold with_parent rows (above path)

abbrev pub change_mode : List Row → List (List ℕ) → ℕ → Option Node → List Row
change_mode rows path mode None = rows
change_mode rows path mode (Some node) = put_node rows path (with_mode mode node)
