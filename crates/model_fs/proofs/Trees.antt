-- A tree by the places of its paths.
use Rattle.std.proofs.Common.{◌≡◌, ℕ, zero, suc, ◌+◌, ◌<◌, ◌≤◌, Bool, true, false, cond, not, nat_lt, List, [], ◌∷◌, ◌++◌, length, get_or, set, Option, Some, None, slice_get, is_some, if◌then◌else◌, refl, sym, ap, ◌∙◌, arith}
use Rattle.std.proofs.lemmas.Grind.{common_steps}
use Rattle.std.proofs.lemmas.List.{length-set, get_or-set_same, get_or-set_other}
use Rattle.std.proofs.lemmas.List.Folds.{find_at, position_or_len-set}
use Rattle.std.proofs.lemmas.List.Quantifiers.{position-Some}
use Rattle.std.proofs.lemmas.Option.{slice_get-get_or, slice_get_past}
use Rattle.std.specs.List.{find, position_or_len}
use Rattle.init_machine.specs.FileTree.{same_path, is_there, is_directory}
use Rattle.init_machine.specs.declared.node.Node.{Node}
use Rattle.init_machine.proofs.Paths.{same_is, same_itself}
use Rattle.model_fs.specs.internal.Entries.{place_in, node_in, with_place}
use Rattle.model_fs.specs.internal.Rows.{Row, node_of, node_at, put_node, without_path}

-- whether a place is that of a path
abbrev is_at : List (List ℕ) → Row → Bool
is_at path place = same_path place.path path

some_place : (path : List (List ℕ)) (tree : List Row) (i : ℕ) → place_in tree path ≡ Some i → position_or_len (is_at path) tree ≡ i
some_place path tree i is = grind (arith, common_steps)

past_place : (path : List (List ℕ)) (tree : List Row) → place_in tree path ≡ None → length tree ≤ position_or_len (is_at path) tree
past_place path tree none = grind (arith, common_steps)

-- what stands at a path is what stands at its place
pub node_found : (tree : List Row) (path : List (List ℕ)) (i : ℕ) → place_in tree path ≡ Some i → node_at tree path ≡ node_of (slice_get tree i)
node_found tree path i is = ap node_of (find_at (is_at path) tree) ∙ ap (λ n. node_of (slice_get tree n)) (some_place path tree i is)

pub node_not_found : (tree : List Row) (path : List (List ℕ)) → place_in tree path ≡ None → node_at tree path ≡ None
node_not_found tree path none =
    ap node_of (find_at (is_at path) tree) ∙ ap node_of (slice_get_past tree (position_or_len (is_at path) tree) (past_place path tree none))

put_at_len : (path : List (List ℕ)) (tree : List Row) (n : ℕ) (node : Node) → position_or_len (is_at path) tree ≡ n → n < length tree
    → put_node tree path node ≡ set tree n (record { path = path; node = Some node })
put_at_len path [] n node is within = absurd (omega arith)
put_at_len path (p ∷ tree) n node is within =
    elim (is_at path p) as (λ b. cond (not b) (1 + position_or_len (is_at path) tree) 0 ≡ n
    → cond b (record { path = path; node = Some node } ∷ tree) (p ∷ put_node tree path node) ≡ set (p ∷ tree) n (record { path = path; node = Some node })) [
      | true ↦ λ here. ap (λ m. set (p ∷ tree) m (record { path = path; node = Some node })) here
      | false ↦ λ later.
          let less : position_or_len (is_at path) tree < length tree = omega arith in
          let more : suc (position_or_len (is_at path) tree) ≡ n = omega arith in
          ap (λ places. p ∷ places) (put_at_len path tree (position_or_len (is_at path) tree) node refl less)
          ∙ ap (λ m. set (p ∷ tree) m (record { path = path; node = Some node })) more
    ] is

pub put_found : (tree : List Row) (path : List (List ℕ)) (i : ℕ) (node : Node) → place_in tree path ≡ Some i
    → put_node tree path node ≡ set tree i (record { path = path; node = Some node })
put_found tree path i node is = put_at_len path tree i node (some_place path tree i is) (position-Some (is_at path) tree i (record { path = []; node = None }) is).0

put_past : (path : List (List ℕ)) (tree : List Row) (node : Node) → length tree ≤ position_or_len (is_at path) tree
    → put_node tree path node ≡ tree ++ record { path = path; node = Some node } ∷ []
put_past path [] node past = refl
put_past path (p ∷ tree) node past =
    elim (is_at path p) as (λ b. suc (length tree) ≤ cond (not b) (1 + position_or_len (is_at path) tree) 0
    → cond b (record { path = path; node = Some node } ∷ tree) (p ∷ put_node tree path node) ≡ p ∷ (tree ++ record { path = path; node = Some node } ∷ [])) [
      | true ↦ λ never. absurd (omega arith)
      | false ↦ λ later. ap (λ places. p ∷ places) (put_past path tree node (omega arith))
    ] past

pub put_not_found : (tree : List Row) (path : List (List ℕ)) (node : Node) → place_in tree path ≡ None
    → put_node tree path node ≡ tree ++ record { path = path; node = Some node } ∷ []
put_not_found tree path node none = put_past path tree node (past_place path tree none)

without_at_len : (path : List (List ℕ)) (tree : List Row) (n : ℕ) → position_or_len (is_at path) tree ≡ n → n < length tree
    → without_path tree path ≡ set tree n (record { path = path; node = None })
without_at_len path [] n is within = absurd (omega arith)
without_at_len path (p ∷ tree) n is within =
    elim (is_at path p) as (λ b. cond (not b) (1 + position_or_len (is_at path) tree) 0 ≡ n
    → cond b (record { path = path; node = None } ∷ tree) (p ∷ without_path tree path) ≡ set (p ∷ tree) n (record { path = path; node = None })) [
      | true ↦ λ here. ap (λ m. set (p ∷ tree) m (record { path = path; node = None })) here
      | false ↦ λ later.
          let less : position_or_len (is_at path) tree < length tree = omega arith in
          let more : suc (position_or_len (is_at path) tree) ≡ n = omega arith in
          ap (λ places. p ∷ places) (without_at_len path tree (position_or_len (is_at path) tree) refl less)
          ∙ ap (λ m. set (p ∷ tree) m (record { path = path; node = None })) more
    ] is

pub without_found : (tree : List Row) (path : List (List ℕ)) (i : ℕ) → place_in tree path ≡ Some i
    → without_path tree path ≡ set tree i (record { path = path; node = None })
without_found tree path i is = without_at_len path tree i (some_place path tree i is) (position-Some (is_at path) tree i (record { path = []; node = None }) is).0

without_past : (path : List (List ℕ)) (tree : List Row) → length tree ≤ position_or_len (is_at path) tree → without_path tree path ≡ tree
without_past path [] past = refl
without_past path (p ∷ tree) past =
    elim (is_at path p) as (λ b. suc (length tree) ≤ cond (not b) (1 + position_or_len (is_at path) tree) 0
    → cond b (record { path = path; node = None } ∷ tree) (p ∷ without_path tree path) ≡ p ∷ tree) [
      | true ↦ λ never. absurd (omega arith)
      | false ↦ λ later. ap (λ places. p ∷ places) (without_past path tree (omega arith))
    ] past

pub without_not_found : (tree : List Row) (path : List (List ℕ)) → place_in tree path ≡ None → without_path tree path ≡ tree
without_not_found tree path none = without_past path tree (past_place path tree none)

-- What stands after a change at one place.

-- the places of paths stay
pub place_set : (tree : List Row) (path other : List (List ℕ)) (i : ℕ) (node : Option Node) → place_in tree path ≡ Some i
    → place_in (set tree i (record { path = path; node = node })) other ≡ place_in tree other
place_set tree path other i node is =
    let d : Row = record { path = []; node = None } in
    let at = position-Some (is_at path) tree i d is in
    let here : (get_or tree i d).path ≡ path = same_is (get_or tree i d).path path at.1 in
    let same : position_or_len (is_at other) (set tree i (record { path = path; node = node })) ≡ position_or_len (is_at other) tree =
    position_or_len-set (is_at other) tree i (record { path = path; node = node }) d (ap (λ p. same_path p other) (sym here)) in
    (λ k. cond (nat_lt (same k) (length-set tree i (record { path = path; node = node }) k)) (Some (same k)) None)

pub node_set_same : (tree : List Row) (path : List (List ℕ)) (i : ℕ) (node : Option Node) → place_in tree path ≡ Some i
    → node_at (set tree i (record { path = path; node = node })) path ≡ node
node_set_same tree path i node is =
    let d : Row = record { path = []; node = None } in
    let new : Row = record { path = path; node = node } in
    let within = (position-Some (is_at path) tree i d is).0 in
    let within' : i < length (set tree i new) = omega (arith, length-set tree i new) in
    node_found (set tree i new) path i (place_set tree path path i node is ∙ is)
    ∙ ap node_of (slice_get-get_or (set tree i new) i d within')
    ∙ ap (λ (p : Row). p.node) (get_or-set_same tree i new d within)

pub node_set_other : (tree : List Row) (path other : List (List ℕ)) (i : ℕ) (node : Option Node) → place_in tree path ≡ Some i → (other ≡ path → ⊥)
    → node_at (set tree i (record { path = path; node = node })) other ≡ node_at tree other
node_set_other tree path other i node is differ = by (place_in tree other) refl
  where
    by : (r : Option ℕ) → place_in tree other ≡ r → node_at (set tree i (record { path = path; node = node })) other ≡ node_at tree other
    by None none =
        node_not_found (set tree i (record { path = path; node = node })) other (place_set tree path other i node is ∙ none)
        ∙ sym (node_not_found tree other none)
    by (Some j) at =
        let d : Row = record { path = []; node = None } in
        let new : Row = record { path = path; node = node } in
        let here = position-Some (is_at path) tree i d is in
        let there = position-Some (is_at other) tree j d at in
        let apart : j ≡ i → ⊥ = λ same. differ (sym (same_is (get_or tree j d).path other there.1) ∙ ap (λ n. (get_or tree n d).path) same ∙ same_is (get_or tree i d).path path here.1) in
        let within : j < length (set tree i new) = omega (arith, length-set tree i new) in
        node_found (set tree i new) other j (place_set tree path other i node is ∙ at)
        ∙ ap node_of (slice_get-get_or (set tree i new) j d within ∙ ap Some (get_or-set_other tree i j new d apart) ∙ sym (slice_get-get_or tree j d there.0))
        ∙ sym (node_found tree other j at)

-- what stands stays where a place comes at the end at which nothing stands
pub node_last : (tree : List Row) (path other : List (List ℕ)) → node_at (tree ++ record { path = path; node = None } ∷ []) other ≡ node_at tree other
node_last [] path other =
    elim (same_path path other) as (λ b. node_of (cond b (Some (record { path = path; node = None })) None) ≡ None) [ true ↦ refl | false ↦ refl ]
node_last (p ∷ tree) path other =
    elim (is_at other p) as (λ b. node_of (cond b (Some p) (find (is_at other) (tree ++ record { path = path; node = None } ∷ []))) ≡ node_of (cond b (Some p) (find (is_at other) tree))) [
      | true ↦ refl
      | false ↦ node_last tree path other
    ]

-- a node at a place that has just come
put_past_last : (path : List (List ℕ)) (tree : List Row) (node : Node) → length tree ≤ position_or_len (is_at path) tree
    → put_node (tree ++ record { path = path; node = None } ∷ []) path node ≡ tree ++ record { path = path; node = Some node } ∷ []
put_past_last path [] node past =
    ap (λ (b : Bool). cond b (record { path = path; node = Some node } ∷ []) (record { path = path; node = None } ∷ record { path = path; node = Some node } ∷ [])) (same_itself path)
put_past_last path (p ∷ tree) node past =
    elim (is_at path p) as (λ b. suc (length tree) ≤ cond (not b) (1 + position_or_len (is_at path) tree) 0
    → cond b (record { path = path; node = Some node } ∷ (tree ++ record { path = path; node = None } ∷ [])) (p ∷ put_node (tree ++ record { path = path; node = None } ∷ []) path node)
    ≡ p ∷ (tree ++ record { path = path; node = Some node } ∷ [])) [
      | true ↦ λ never. absurd (omega arith)
      | false ↦ λ later. ap (λ places. p ∷ places) (put_past_last path tree node (omega arith))
    ] past

pub put_with_place : (tree : List Row) (path : List (List ℕ)) (node : Node) → put_node (with_place tree path) path node ≡ put_node tree path node
put_with_place tree path node = by (place_in tree path) refl
  where
    by : (r : Option ℕ) → place_in tree path ≡ r → put_node (with_place tree path) path node ≡ put_node tree path node
    by (Some i) is = ap (λ r. put_node (if is_some r then tree else tree ++ record { path = path; node = None } ∷ []) path node) is
    by None none =
        ap (λ r. put_node (if is_some r then tree else tree ++ record { path = path; node = None } ∷ []) path node) none
        ∙ put_past_last path tree node (past_place path tree none)
        ∙ sym (put_not_found tree path node none)

pub node_with_place : (tree : List Row) (path other : List (List ℕ)) → node_at (with_place tree path) other ≡ node_at tree other
node_with_place tree path other =
    elim (is_some (place_in tree path)) as (λ b. node_at (if b then tree else tree ++ record { path = path; node = None } ∷ []) other ≡ node_at tree other) [
      | true ↦ refl
      | false ↦ node_last tree path other
    ]

-- the node at a place that is known to be a directory
pub within_tree : (tree : List Row) (at : ℕ) → is_directory (node_in tree at) ≡ true → at < length tree
within_tree [] at is = absurd (cc)
within_tree (p ∷ tree) zero is = omega arith
within_tree (p ∷ tree) (suc at) is = let rest = within_tree tree at is in omega arith

-- What stands after a node was put.

pub node_put : (tree : List Row) (path : List (List ℕ)) (node : Node) → node_at (put_node tree path node) path ≡ Some node
node_put [] path node = ap (λ b. node_of (cond b (Some (record { path = path; node = Some node })) None)) (same_itself path)
node_put (p ∷ tree) path node =
    elim (is_at path p) as (λ b. is_at path p ≡ b → node_at (cond b (record { path = path; node = Some node } ∷ tree) (p ∷ put_node tree path node)) path ≡ Some node) [
      | true ↦ λ same. ap (λ b. node_of (cond b (Some (record { path = path; node = Some node })) (find (is_at path) tree))) (same_itself path)
      | false ↦ λ other. ap (λ b. node_of (cond b (Some p) (find (is_at path) (put_node tree path node)))) other ∙ node_put tree path node
    ] refl

put_apart : (tree : List Row) (path other : List (List ℕ)) (node : Node) → same_path path other ≡ false → node_at (put_node tree path node) other ≡ node_at tree other
put_apart [] path other node apart = ap (λ b. node_of (cond b (Some (record { path = path; node = Some node })) None)) apart
put_apart (p ∷ tree) path other node apart =
    elim (is_at path p) as (λ b. is_at path p ≡ b → node_at (cond b (record { path = path; node = Some node } ∷ tree) (p ∷ put_node tree path node)) other ≡ node_at (p ∷ tree) other) [
      | true ↦ λ same.
          let no_match : is_at other p ≡ false = ap (λ q. same_path q other) (same_is p.path path same) ∙ apart in
          ap (λ b. node_of (cond b (Some (record { path = path; node = Some node })) (find (is_at other) tree))) apart
          ∙ sym (ap (λ b. node_of (cond b (Some p) (find (is_at other) tree))) no_match)
      | false ↦ λ differ.
          elim (is_at other p) as (λ b. node_of (cond b (Some p) (find (is_at other) (put_node tree path node))) ≡ node_of (cond b (Some p) (find (is_at other) tree))) [
            | true ↦ refl
            | false ↦ put_apart tree path other node apart
          ]
    ] refl

pub node_put_other : (tree : List Row) (path other : List (List ℕ)) (node : Node) → (path ≡ other → ⊥) → node_at (put_node tree path node) other ≡ node_at tree other
node_put_other tree path other node differ = by (same_path path other) refl
  where
    by : (b : Bool) → same_path path other ≡ b → node_at (put_node tree path node) other ≡ node_at tree other
    by true same = absurd (differ (same_is path other same))
    by false apart = put_apart tree path other node apart

-- What stands after it was taken away.

pub node_without : (tree : List Row) (path : List (List ℕ)) → node_at (without_path tree path) path ≡ None
node_without tree path = by (place_in tree path) refl
  where
    by : (r : Option ℕ) → place_in tree path ≡ r → node_at (without_path tree path) path ≡ None
    by None none = ap (λ t. node_at t path) (without_not_found tree path none) ∙ node_not_found tree path none
    by (Some i) is = ap (λ t. node_at t path) (without_found tree path i is) ∙ node_set_same tree path i None is

pub node_without_other : (tree : List Row) (path other : List (List ℕ)) → (path ≡ other → ⊥) → node_at (without_path tree path) other ≡ node_at tree other
node_without_other tree path other differ = by (place_in tree path) refl
  where
    by : (r : Option ℕ) → place_in tree path ≡ r → node_at (without_path tree path) other ≡ node_at tree other
    by None none = ap (λ t. node_at t other) (without_not_found tree path none)
    by (Some i) is =
        ap (λ t. node_at t other) (without_found tree path i is)
        ∙ node_set_other tree path other i None is (λ (same : other ≡ path). differ (sym same))

-- two paths of one place are one
pub same_front : (tree : List Row) (path other : List (List ℕ)) (i : ℕ) → place_in tree path ≡ Some i → place_in tree other ≡ Some i → path ≡ other
same_front tree path other i is is' =
    let d : Row = record { path = []; node = None } in
    sym (same_is (get_or tree i d).path path (position-Some (is_at path) tree i d is).1) ∙ same_is (get_or tree i d).path other (position-Some (is_at other) tree i d is').1

-- where nothing is answered that stands, nothing stands
pub not_standing : (tree : List Row) (path : List (List ℕ)) → None ≡ (if is_there (node_at tree path) then place_in tree path else None) → is_there (node_at tree path) ≡ false
not_standing tree path none = by (is_there (node_at tree path)) refl
  where
    by : (b : Bool) → is_there (node_at tree path) ≡ b → is_there (node_at tree path) ≡ false
    by false is = is
    by true is =
        let gone : place_in tree path ≡ None = sym (none ∙ ap (λ b. if b then place_in tree path else None) is) in
        ap is_there (node_not_found tree path gone)
