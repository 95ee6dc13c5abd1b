-- The siblings of a level of a trie, and where a part is linked that is none of theirs: two that stand next to each other leave one
-- link free, which is that of the later of them.
use Rattle.std.specs.Prelude.{◌≡◌, ℕ, ◌+◌, Bool, not, List, [], ◌∷◌, ◌++◌, filter, nat_lt, Option, Some, None, if◌then◌else◌}
use Rattle.std.specs.BTreeMap.{insert_entry}
use Rattle.std.specs.Option.{unwrap_or}
use Rattle.std.specs.Ordering.{is_le}
use Rattle.std.specs.declared.cmp.Ordering.TheVariants.{Less}
use Rattle.property_trie.specs.Parts.{compare_parts}
use Rattle.property_trie.specs.Tree.{Tree}
use Rattle.property_trie.specs.Tree.Tree.{leaf, node}

-- a part, and the place of its node
abbrev pub Placed : Type 0
Placed = List ℕ × ℕ

-- the siblings, in order
abbrev pub nodes_in : Tree → List Placed
nodes_in leaf = []
nodes_in (node place part left right children cell) = nodes_in left ++ (part, place) ∷ nodes_in right

-- the link to some siblings, and these
pub record Siblings : Type 0 where
  pub link : ℕ
  pub nodes : List Placed

abbrev pub siblings_of : ℕ → Tree → Siblings
siblings_of top tree = record { link = top; nodes = nodes_in tree }

-- with a node more
abbrev pub with_node : List ℕ → ℕ → Siblings → Siblings
with_node part place s = record { link = s.link; nodes = insert_entry compare_parts s.nodes part place }

abbrev pub first_of : List Placed → Option Placed
first_of [] = None
first_of (n ∷ ns) = Some n

abbrev pub last_of : List Placed → Option Placed
last_of [] = None
last_of (n ∷ ns) = Some (unwrap_or (last_of ns) n)

-- the part goes no further than to this node
abbrev pub is_up_to : List ℕ → Placed → Bool
is_up_to k n = is_le (compare_parts k n.0)

-- the last node before the part, and the first that isn't
abbrev pub node_before : List ℕ → List Placed → Option Placed
node_before k ns = last_of (filter (λ n. not (is_up_to k n)) ns)

abbrev pub node_from : List ℕ → List Placed → Option Placed
node_from k ns = first_of (filter (is_up_to k) ns)

-- the part goes before this node, if there is one
abbrev pub GoesBefore : List ℕ → Option Placed → Type 0
GoesBefore k None = Unit {0}
GoesBefore k (Some n) = compare_parts k n.0 ≡ Less

-- the link that two neighbours leave free, or that to the level where there are none
abbrev pub free_link : ℕ → Option Placed → Option Placed → ℕ
free_link top None None = top
free_link top None (Some b) = b.1 + 1
free_link top (Some a) None = a.1 + 2
free_link top (Some a) (Some b) = if nat_lt a.1 b.1 then b.1 + 1 else a.1 + 2

-- the part is none of the siblings', and is linked there
abbrev pub IsFreeAt : List ℕ → Siblings → ℕ → Type 0
IsFreeAt k s link = GoesBefore k (node_from k s.nodes) × (link ≡ free_link s.link (node_before k s.nodes) (node_from k s.nodes))
