-- The rows of entries: what stands at each place, and how much stands right below it.
use Rattle.std.specs.Prelude.{◌≡◌, ℕ, ◌+◌, ◌-◌, Bool, true, false, ◌&&◌, List, [], ◌∷◌, ◌++◌, length, position, count_by, slice_get, slice_index_or, slice_set, nat_lt, Option, Some, None, is_some, if◌then◌else◌}
use Rattle.std.specs.List.{list_any}
use Rattle.std.specs.Str.{bytes_eq}
use Rattle.init_machine.specs.FileTree.{same_path, with_mode, is_there, is_directory, is_below, is_root, is_under_other}
use Rattle.init_machine.specs.declared.node.Node.{Node}
use Rattle.model_fs.specs.internal.Rows.{Row, tree_of, node_of, node_at}
use Rattle.model_fs.specs.internal.Steps.{place_of, AreDistinct}
use Rattle.model_fs.specs.declared.entries.Entry.{Entry}
use Rattle.model_fs.specs.declared.entries.Walk.{Walk}

-- what stands at paths, by their entries
abbrev pub shown : List (List (List ℕ)) → List Entry → List Row
shown [] entries = []
shown (path ∷ paths) [] = []
shown (path ∷ paths) (entry ∷ entries) = record { path = path; node = entry.node } ∷ shown paths entries

-- the place of a path, by its row
abbrev pub place_in : List Row → List (List ℕ) → Option ℕ
place_in rows path = position (λ place. same_path place.path path) rows

-- a place more at the end, at which nothing stands yet, unless the path has one
abbrev pub with_place : List Row → List (List ℕ) → List Row
with_place rows path = if is_some (place_in rows path) then rows else rows ++ record { path = path; node = None } ∷ []

-- what stands at a place
abbrev pub node_in : List Row → ℕ → Option Node
node_in rows at = node_of (slice_get rows at)

-- where a path leads: its place and that of its front, and whether a file or a link stands above it
pub record IsWalk (rows : List Row) (path : List (List ℕ)) (walk : Walk) : Type 0 where
  pub at : walk.at ≡ place_in rows path
  pub parent : (front : List (List ℕ)) (last : List ℕ) → path ≡ front ++ last ∷ [] → walk.parent ≡ place_in rows front
  pub behind : is_root path ≡ false → walk.parent ≡ None → walk.at ≡ None
  pub under : walk.is_under_other ≡ is_under_other (tree_of rows) path

-- whether something stands below a path
abbrev pub has_below : List Row → List (List ℕ) → Bool
has_below rows path = list_any (λ place. is_below path place.path && is_there place.node) rows

-- the other path is that of one part more
abbrev pub is_child : List (List ℕ) → List (List ℕ) → Bool
is_child path [] = false
is_child [] (q ∷ qs) = is_root qs
is_child (p ∷ ps) (q ∷ qs) = bytes_eq p q && is_child ps qs

-- how many nodes stand right below a path
abbrev pub children_of : List Row → List (List ℕ) → ℕ
children_of rows path = count_by (λ place. is_child path place.path && is_there place.node) rows

-- each node stands in a directory, but the root's
abbrev pub IsReached : List Row → Type 0
IsReached rows =
    (i : ℕ) (place : Row) → slice_get rows i ≡ Some place → is_there place.node ≡ true
    → (front : List (List ℕ)) (last : List ℕ) → place.path ≡ front ++ last ∷ [] → is_directory (node_at rows front) ≡ true

-- what the entries of paths keep: the root is a directory and has the first place, each node stands in a directory, and
-- the nodes right below each place are counted
pub record IsKept (paths : List (List (List ℕ))) (entries : List Entry) : Type 0 where
  pub long : length entries ≡ length paths
  pub distinct : AreDistinct paths
  pub root : place_of paths [] ≡ Some 0
  pub rooted : is_directory (node_at (shown paths entries) []) ≡ true
  pub reached : IsReached (shown paths entries)
  pub counted : (i : ℕ) (entry : Entry) → slice_get entries i ≡ Some entry → entry.children ≡ children_of (shown paths entries) (slice_index_or paths i [])

-- Entries when the node at a place was changed, right below another place.

abbrev pub no_entry : Entry
no_entry = record { node = None; children = 0 }

abbrev pub entry_at : List Entry → ℕ → Entry
entry_at entries at = slice_index_or entries at no_entry

-- an entry more, where the place is the next one
abbrev pub grown : List Entry → ℕ → List Entry
grown entries at = if nat_lt at (length entries) then entries else entries ++ no_entry ∷ []

abbrev pub with_children : List Entry → ℕ → ℕ → List Entry
with_children entries at count = slice_set entries at (record { node = (entry_at entries at).node; children = count })

-- one node more is to stand right below, where none stands at the place yet
abbrev pub one_more : List Entry → ℕ → ℕ → List Entry
one_more entries at parent =
    if is_there (entry_at entries at).node then entries else with_children entries parent ((entry_at entries parent).children + 1)

-- one node fewer is to stand right below, where one stands at the place
abbrev pub one_fewer : List Entry → ℕ → ℕ → List Entry
one_fewer entries at parent =
    if is_there (entry_at entries at).node then with_children entries parent ((entry_at entries parent).children - 1) else entries

abbrev pub with_node : List Entry → ℕ → Option Node → List Entry
with_node entries at node = slice_set entries at (record { node = node; children = (entry_at entries at).children })

abbrev pub with_entry : List Entry → ℕ → ℕ → Option Node → List Entry
with_entry entries at parent node = with_node (one_more (grown entries at) at parent) at node

abbrev pub without_entry : List Entry → ℕ → ℕ → List Entry
without_entry entries at parent = with_node (one_fewer entries at parent) at None

-- what stands, if anything, with another mode
abbrev pub mode_changed : ℕ → Option Node → Option Node
mode_changed mode None = None
mode_changed mode (Some node) = Some (with_mode mode node)
