-- The modelled file tree, and what its calls do (AOSP, init's README, "Commands"; the modes, the refusals, and that missing
-- parents are made are this project's profile). No link is followed. (47 is the slash, 46 the dot.)
use Rattle.std.specs.Prelude.{ℕ, Bool, true, false, not, ◌&&◌, ◌||◌, ◌==◌, nat_lt, nat_le, List, [], ◌∷◌, length, map, filter, bit_and, Option, Some, None, if◌then◌else◌}
use Rattle.std.specs.List.{find, fold, list_any, slice_split}
use Rattle.std.specs.Option.{option_map}
use Rattle.std.specs.Str.{bytes_eq}
use Rattle.init_machine.specs.Choices.{first_of, only_if}
use Rattle.init_machine.specs.Pairs.{is_before}
use Rattle.init_machine.specs.declared.node.Node.{Node}
use Rattle.init_machine.specs.declared.node.Node.TheVariants.{Directory, File, Link}
use Rattle.init_machine.specs.declared.output.FsRefusal.{FsRefusal}
use Rattle.init_machine.specs.declared.output.FsRefusal.TheVariants.{BadPath, Absent, IsDir, NotDir, Exists, NotEmpty, Insecure}
use Rattle.init_machine.specs.declared.task.TreeCall.{TreeCall}
use Rattle.init_machine.specs.declared.task.TreeCall.TheVariants.{Write, Copy, MakeDirectory, Remove, RemoveDirectory, Link as MakeLink, ChangeMode}

-- what stands at a path, which is the list of its parts: the root has none
pub record Place : Type 0 where
  pub path : List (List ℕ)
  pub node : Node

-- The tree is a map from paths to nodes: each path at which something stands, in ascending order. So what stands where is all
-- that a tree says, and nothing of it tells what stood there before.

abbrev pub same_path : List (List ℕ) → List (List ℕ) → Bool
same_path [] [] = true
same_path [] (q ∷ qs) = false
same_path (p ∷ ps) [] = false
same_path (p ∷ ps) (q ∷ qs) = bytes_eq p q && same_path ps qs

-- whether one path stands before another: part by part in the order of their bytes, and a path before those below it
abbrev pub is_path_before : List (List ℕ) → List (List ℕ) → Bool
is_path_before [] [] = false
is_path_before [] (q ∷ qs) = true
is_path_before (p ∷ ps) [] = false
is_path_before (p ∷ ps) (q ∷ qs) = is_before p q || (bytes_eq p q && is_path_before ps qs)

-- whether places stand in ascending order of their paths
abbrev pub paths_ascend : List Place → Bool
paths_ascend [] = true
paths_ascend (x ∷ []) = true
paths_ascend (x ∷ y ∷ rest) = is_path_before x.path y.path && paths_ascend (y ∷ rest)

-- the root directory alone; its mode is 0755
abbrev pub first_tree : List Place
first_tree = record { path = []; node = Directory 493 } ∷ []

abbrev pub node_at : List Place → List (List ℕ) → Option Node
node_at tree path = option_map (λ place. place.node) (find (λ place. same_path place.path path) tree)

-- a node at the path, in place of what stands there
abbrev pub put_node : List Place → List (List ℕ) → Node → List Place
put_node [] path node = record { path = path; node = node } ∷ []
put_node (place ∷ rest) path node =
    if same_path place.path path then record { path = path; node = node } ∷ rest
    else if is_path_before path place.path then record { path = path; node = node } ∷ place ∷ rest
    else place ∷ put_node rest path node

-- nothing stands at the path
abbrev pub without_path : List Place → List (List ℕ) → List Place
without_path tree path = filter (λ place. not (same_path place.path path)) tree

-- Texts of paths: one begins with a slash, has at most 4,096 bytes, no NUL, and no part `.` or `..`. Empty parts are
-- dropped.

abbrev pub begins_with_slash : List ℕ → Bool
begins_with_slash [] = false
begins_with_slash (byte ∷ rest) = byte == 47

abbrev pub parts_of : List ℕ → List (List ℕ)
parts_of text = filter (λ part. nat_lt 0 (length part)) (slice_split (λ byte. byte == 47) text)

abbrev pub is_dots : List ℕ → Bool
is_dots part = bytes_eq part (46 ∷ []) || bytes_eq part (46 ∷ 46 ∷ [])

abbrev pub is_path : List ℕ → Bool
is_path text =
    begins_with_slash text && nat_le (length text) 4096 && not (list_any (λ byte. byte == 0) text) && not (list_any is_dots (parts_of text))

-- whether something stands at a path; nothing stands at what is no path
abbrev pub is_there : Option Node → Bool
is_there None = false
is_there (Some node) = true

abbrev pub has_node : List Place → List ℕ → Bool
has_node tree text = is_path text && is_there (node_at tree (parts_of text))

-- What a call asks of the node at a path.

abbrev pub is_directory : Option Node → Bool
is_directory None = false
is_directory (Some (Directory mode)) = true
is_directory (Some (File mode content)) = false
is_directory (Some (Link mode target)) = false

-- a file or a link
abbrev pub is_other : Option Node → Bool
is_other node = is_there node && not (is_directory node)

-- the proper prefixes of a path, the root first
abbrev pub above : List (List ℕ) → List (List (List ℕ))
above [] = []
above (part ∷ parts) = [] ∷ map (λ prefix. part ∷ prefix) (above parts)

-- a proper prefix of the path is a file or a link
abbrev pub is_under_other : List Place → List (List ℕ) → Bool
is_under_other tree path = list_any (λ prefix. is_other (node_at tree prefix)) (above path)

-- something stands below a directory, so that it isn't empty; the root counts as not empty
abbrev pub is_below : List (List ℕ) → List (List ℕ) → Bool
is_below path [] = false
is_below [] (q ∷ qs) = true
is_below (p ∷ ps) (q ∷ qs) = bytes_eq p q && is_below ps qs

abbrev pub is_root : List (List ℕ) → Bool
is_root [] = true
is_root (part ∷ parts) = false

abbrev pub is_full : List Place → List (List ℕ) → Bool
is_full tree path = is_root path || list_any (λ place. is_below path place.path) tree

-- a link, or a file that others than its owner may write (the bits 020 and 002), isn't copied from
abbrev pub is_insecure : Option Node → Bool
is_insecure None = false
is_insecure (Some (Directory mode)) = false
is_insecure (Some (File mode content)) = nat_lt 0 (bit_and mode 18)
is_insecure (Some (Link mode target)) = true

-- Why a call is refused: the first of these whose condition holds.
unfoldable pub tree_refusal : List Place → TreeCall → Option FsRefusal
tree_refusal tree (Write path content) =
    first_of (only_if (not (is_path path)) BadPath
    ∷ only_if (is_directory (node_at tree (parts_of path))) IsDir
    ∷ only_if (is_under_other tree (parts_of path)) NotDir ∷ [])
tree_refusal tree (Copy from to) =
    first_of (only_if (not (is_path from) || not (is_path to)) BadPath
    ∷ only_if (not (is_there (node_at tree (parts_of from)))) Absent
    ∷ only_if (is_directory (node_at tree (parts_of from)) || is_directory (node_at tree (parts_of to))) IsDir
    ∷ only_if (is_under_other tree (parts_of to)) NotDir
    ∷ only_if (is_insecure (node_at tree (parts_of from))) Insecure ∷ [])
tree_refusal tree (MakeDirectory path mode) =
    first_of (only_if (not (is_path path)) BadPath
    ∷ only_if (is_under_other tree (parts_of path)) NotDir
    ∷ only_if (is_other (node_at tree (parts_of path))) Exists ∷ [])
tree_refusal tree (MakeLink target path) =
    first_of (only_if (not (is_path path)) BadPath
    ∷ only_if (is_under_other tree (parts_of path)) NotDir
    ∷ only_if (is_there (node_at tree (parts_of path))) Exists ∷ [])
tree_refusal tree (Remove path) =
    first_of (only_if (not (is_path path)) BadPath
    ∷ only_if (not (is_there (node_at tree (parts_of path)))) Absent
    ∷ only_if (is_directory (node_at tree (parts_of path))) IsDir ∷ [])
tree_refusal tree (RemoveDirectory path) =
    first_of (only_if (not (is_path path)) BadPath
    ∷ only_if (not (is_there (node_at tree (parts_of path)))) Absent
    ∷ only_if (is_other (node_at tree (parts_of path))) NotDir
    ∷ only_if (is_full tree (parts_of path)) NotEmpty ∷ [])
tree_refusal tree (ChangeMode mode path) =
    first_of (only_if (not (is_path path)) BadPath
    ∷ only_if (not (is_there (node_at tree (parts_of path)))) Absent ∷ [])

-- What a call does that isn't refused.

-- missing parents of a path are made as directories of mode 0755, from the root on
abbrev pub with_parent : List Place → List (List ℕ) → List Place
with_parent tree path = if is_there (node_at tree path) then tree else put_node tree path (Directory 493)

abbrev pub with_parents : List Place → List (List ℕ) → List Place
with_parents tree path = fold with_parent tree (above path)

-- a file that is replaced keeps its mode; another one has the mode 0600
abbrev pub mode_for : Option Node → ℕ
mode_for None = 384
mode_for (Some (Directory mode)) = 384
mode_for (Some (File mode content)) = mode
mode_for (Some (Link mode target)) = 384

abbrev pub with_file : List Place → List (List ℕ) → List ℕ → List Place
with_file tree path content = put_node (with_parents tree path) path (File (mode_for (node_at tree path)) content)

-- what a copy has; a directory and a link have nothing to copy, and aren't asked
abbrev pub content_of : Option Node → List ℕ
content_of None = []
content_of (Some (Directory mode)) = []
content_of (Some (File mode content)) = content
content_of (Some (Link mode target)) = []

-- a node with another mode
abbrev pub with_mode : ℕ → Node → Node
with_mode new (Directory mode) = Directory new
with_mode new (File mode content) = File new content
with_mode new (Link mode target) = Link new target

abbrev pub change_mode : List Place → List (List ℕ) → ℕ → Option Node → List Place
change_mode tree path mode None = tree
change_mode tree path mode (Some node) = put_node tree path (with_mode mode node)

-- the tree when a call was done; a link has the mode 0777
unfoldable pub tree_after : List Place → TreeCall → List Place
tree_after tree (Write path content) = with_file tree (parts_of path) content
tree_after tree (Copy from to) = with_file tree (parts_of to) (content_of (node_at tree (parts_of from)))
tree_after tree (MakeDirectory path mode) = put_node (with_parents tree (parts_of path)) (parts_of path) (Directory mode)
tree_after tree (MakeLink target path) = put_node (with_parents tree (parts_of path)) (parts_of path) (Link 511 target)
tree_after tree (Remove path) = without_path tree (parts_of path)
tree_after tree (RemoveDirectory path) = without_path tree (parts_of path)
tree_after tree (ChangeMode mode path) = change_mode tree (parts_of path) mode (node_at tree (parts_of path))

-- the path that a call changes, as it was given
abbrev pub changed_path : TreeCall → List ℕ
changed_path (Write path content) = path
changed_path (Copy from to) = to
changed_path (MakeDirectory path mode) = path
changed_path (MakeLink target path) = path
changed_path (Remove path) = path
changed_path (RemoveDirectory path) = path
changed_path (ChangeMode mode path) = path
