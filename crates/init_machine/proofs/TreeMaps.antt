-- A tree is a map: two trees that ascend are one where the same stands at each path.
use Rattle.std.proofs.Common.{◌≡◌, ℕ, zero, suc, Bool, true, false, cond, not, ◌&&◌, ◌||◌, List, [], ◌∷◌, Option, Some, None, slice_get, refl, sym, ap, ◌∙◌, subst, if◌then◌else◌}
use Rattle.std.proofs.lemmas.Option.{none-some, same_Some}
use Rattle.std.specs.List.{find, fold, list_any}
use Rattle.std.specs.Option.{option_map}
use Rattle.std.specs.Ordering.{match_ordering}
use Rattle.std.specs.declared.cmp.Ordering.{Ordering}
use Rattle.std.specs.declared.cmp.Ordering.TheVariants.{Less, Equal, Greater}
use Rattle.init_machine.specs.FileTree.{Place, same_path, is_path_before, paths_ascend, node_at, put_node, without_path, parts_of, above, is_there, is_below, with_parent, with_parents, mode_for, content_of, with_mode, change_mode, tree_after}
use Rattle.init_machine.specs.declared.node.Node.{Node}
use Rattle.init_machine.specs.declared.node.Node.TheVariants.{Directory, File, Link}
use Rattle.init_machine.specs.declared.task.TreeCall.{TreeCall}
use Rattle.init_machine.specs.declared.task.TreeCall.TheVariants.{Write, Copy, MakeDirectory, Remove, RemoveDirectory, Link as MakeLink, ChangeMode}
use Rattle.init_machine.proofs.Paths.{before_differs, before_trans, both_true, compare, is_before_by, is_placed, is_same_back, same_is, same_itself}

-- a path stands before all places
abbrev StandsBefore : List (List ℕ) → List Place → Type 0
StandsBefore path [] = Unit {0}
StandsBefore path (x ∷ xs) = (is_path_before path x.path ≡ true) × StandsBefore path xs

abbrev pub Ascends : List Place → Type 0
Ascends [] = Unit {0}
Ascends (x ∷ xs) = StandsBefore x.path xs × Ascends xs

before_front : (path other : List (List ℕ)) (tree : List Place) → is_path_before path other ≡ true → StandsBefore other tree → StandsBefore path tree
before_front path other [] first before = tt
before_front path other (x ∷ xs) first before = (before_trans path other x.path first before.0, before_front path other xs first before.1)

-- What a tree keeps when a node is put, or taken away.

abbrev placed : List (List ℕ) → Node → Place
placed path node = record { path = path; node = node }

put_by_order : (x : Place) (xs : List Place) (path : List (List ℕ)) (node : Node)
    → put_node (x ∷ xs) path node ≡ match_ordering (compare path x.path) (placed path node ∷ x ∷ xs) (placed path node ∷ xs) (x ∷ put_node xs path node)
put_by_order x xs path node =
    (λ k. cond (is_same_back path x.path k) (placed path node ∷ xs) (cond (is_before_by path x.path k) (placed path node ∷ x ∷ xs) (x ∷ put_node xs path node)))
    ∙ by (compare path x.path)
  where
    by : (o : Ordering) → cond (match_ordering o false true false) (placed path node ∷ xs) (cond (match_ordering o true false false) (placed path node ∷ x ∷ xs) (x ∷ put_node xs path node))
        ≡ match_ordering o (placed path node ∷ x ∷ xs) (placed path node ∷ xs) (x ∷ put_node xs path node)
    by Less = refl
    by Equal = refl
    by Greater = refl

before_put : (front : List (List ℕ)) (tree : List Place) (path : List (List ℕ)) (node : Node) → is_path_before front path ≡ true → StandsBefore front tree
    → StandsBefore front (put_node tree path node)
before_put front [] path node first before = (first, tt)
before_put front (x ∷ xs) path node first before =
    elim (same_path x.path path) as (λ b. StandsBefore front (cond b (placed path node ∷ xs) (cond (is_path_before path x.path) (placed path node ∷ x ∷ xs) (x ∷ put_node xs path node)))) [
      | true ↦ (first, before.1)
      | false ↦
          elim (is_path_before path x.path) as (λ b. StandsBefore front (cond b (placed path node ∷ x ∷ xs) (x ∷ put_node xs path node))) [
            | true ↦ (first, before)
            | false ↦ (before.0, before_put front xs path node first before.1)
          ]
    ]

pub ascends_put : (tree : List Place) (path : List (List ℕ)) (node : Node) → Ascends tree → Ascends (put_node tree path node)
ascends_put [] path node ascends = (tt, tt)
ascends_put (x ∷ xs) path node ascends = subst Ascends (sym (put_by_order x xs path node)) (by (ascends_put xs path node ascends.1) (compare path x.path) refl)
  where
    by : Ascends (put_node xs path node) → (o : Ordering) → compare path x.path ≡ o
        → Ascends (match_ordering o (placed path node ∷ x ∷ xs) (placed path node ∷ xs) (x ∷ put_node xs path node))
    by rest Less is = let first = is_placed path x.path Less is in ((first, before_front path x.path xs first ascends.0), ascends)
    by rest Equal is = (subst (λ p. StandsBefore p xs) (sym (is_placed path x.path Equal is)) ascends.0, ascends.1)
    by rest Greater is = (before_put x.path xs path node (is_placed path x.path Greater is) ascends.0, rest)

before_without : (front : List (List ℕ)) (tree : List Place) (path : List (List ℕ)) → StandsBefore front tree → StandsBefore front (without_path tree path)
before_without front [] path before = tt
before_without front (x ∷ xs) path before =
    elim (same_path x.path path) as (λ b. StandsBefore front (cond (not b) (x ∷ without_path xs path) (without_path xs path))) [
      | true ↦ before_without front xs path before.1
      | false ↦ (before.0, before_without front xs path before.1)
    ]

pub ascends_without : (tree : List Place) (path : List (List ℕ)) → Ascends tree → Ascends (without_path tree path)
ascends_without [] path ascends = tt
ascends_without (x ∷ xs) path ascends =
    elim (same_path x.path path) as (λ b. Ascends (cond (not b) (x ∷ without_path xs path) (without_path xs path))) [
      | true ↦ ascends_without xs path ascends.1
      | false ↦ (before_without x.path xs path ascends.0, ascends_without xs path ascends.1)
    ]

-- by neighbours
ascends_by : (tree : List Place) → paths_ascend tree ≡ true → Ascends tree
ascends_by [] ascend = tt
ascends_by (x ∷ []) ascend = (tt, tt)
ascends_by (x ∷ y ∷ rest) ascend =
    let both = both_true (is_path_before x.path y.path) (paths_ascend (y ∷ rest)) ascend in
    let behind = ascends_by (y ∷ rest) both.1 in
    ((both.0, before_front x.path y.path rest both.0 behind.0), behind)

by_ascends : (tree : List Place) → Ascends tree → paths_ascend tree ≡ true
by_ascends [] ascends = refl
by_ascends (x ∷ []) ascends = refl
by_ascends (x ∷ y ∷ rest) ascends = λ k. ascends.0.0 k && by_ascends (y ∷ rest) ascends.1 k

-- What stands at paths.

abbrev node_found : Option Place → Option Node
node_found place = option_map (λ place. place.node) place

-- the first place decides of its path, and of no other
pub here : (x : Place) (xs : List Place) (path : List (List ℕ)) → x.path ≡ path → node_at (x ∷ xs) path ≡ Some x.node
here x xs path is =
    ap (λ b. node_found (cond b (Some x) (find (λ place. same_path place.path path) xs))) (ap (λ p. same_path p path) is ∙ same_itself path)

pub behind : (x : Place) (xs : List Place) (path : List (List ℕ)) → same_path x.path path ≡ false → node_at (x ∷ xs) path ≡ node_at xs path
behind x xs path differs = ap (λ b. node_found (cond b (Some x) (find (λ place. same_path place.path path) xs))) differs

differ : (p q : List (List ℕ)) → (p ≡ q → ⊥) → same_path p q ≡ false
differ p q apart = by (same_path p q) refl
  where
    by : (b : Bool) → same_path p q ≡ b → same_path p q ≡ false
    by true same = absurd (apart (same_is p q same))
    by false is = is

pub node_put : (tree : List Place) (path : List (List ℕ)) (node : Node) → node_at (put_node tree path node) path ≡ Some node
node_put [] path node = here (placed path node) [] path refl
node_put (x ∷ xs) path node =
    elim (same_path x.path path) as (λ b. same_path x.path path ≡ b
    → node_at (cond b (placed path node ∷ xs) (cond (is_path_before path x.path) (placed path node ∷ x ∷ xs) (x ∷ put_node xs path node))) path ≡ Some node) [
      | true ↦ λ same. here (placed path node) xs path refl
      | false ↦ λ apart.
          elim (is_path_before path x.path) as (λ b. node_at (cond b (placed path node ∷ x ∷ xs) (x ∷ put_node xs path node)) path ≡ Some node) [
            | true ↦ here (placed path node) (x ∷ xs) path refl
            | false ↦ behind x (put_node xs path node) path apart ∙ node_put xs path node
          ]
    ] refl

alike_behind : (x : Place) (xs ys : List Place) (path : List (List ℕ)) → node_at xs path ≡ node_at ys path → node_at (x ∷ xs) path ≡ node_at (x ∷ ys) path
alike_behind x xs ys path alike =
    elim (same_path x.path path) as (λ b. node_found (cond b (Some x) (find (λ place. same_path place.path path) xs))
    ≡ node_found (cond b (Some x) (find (λ place. same_path place.path path) ys))) [ true ↦ refl | false ↦ alike ]

pub node_put_other : (tree : List Place) (path other : List (List ℕ)) (node : Node) → (path ≡ other → ⊥) → node_at (put_node tree path node) other ≡ node_at tree other
node_put_other [] path other node apart = behind (placed path node) [] other (differ path other apart)
node_put_other (x ∷ xs) path other node apart =
    elim (same_path x.path path) as (λ b. same_path x.path path ≡ b
    → node_at (cond b (placed path node ∷ xs) (cond (is_path_before path x.path) (placed path node ∷ x ∷ xs) (x ∷ put_node xs path node))) other ≡ node_at (x ∷ xs) other) [
      | true ↦ λ same.
          behind (placed path node) xs other (differ path other apart)
          ∙ sym (behind x xs other (ap (λ p. same_path p other) (same_is x.path path same) ∙ differ path other apart))
      | false ↦ λ unlike.
          elim (is_path_before path x.path) as (λ b. node_at (cond b (placed path node ∷ x ∷ xs) (x ∷ put_node xs path node)) other ≡ node_at (x ∷ xs) other) [
            | true ↦ behind (placed path node) (x ∷ xs) other (differ path other apart)
            | false ↦ alike_behind x (put_node xs path node) xs other (node_put_other xs path other node apart)
          ]
    ] refl

pub node_without : (tree : List Place) (path : List (List ℕ)) → node_at (without_path tree path) path ≡ None
node_without [] path = refl
node_without (x ∷ xs) path =
    elim (same_path x.path path) as (λ b. same_path x.path path ≡ b → node_at (cond (not b) (x ∷ without_path xs path) (without_path xs path)) path ≡ None) [
      | true ↦ λ same. node_without xs path
      | false ↦ λ unlike. behind x (without_path xs path) path unlike ∙ node_without xs path
    ] refl

pub node_without_other : (tree : List Place) (path other : List (List ℕ)) → (path ≡ other → ⊥) → node_at (without_path tree path) other ≡ node_at tree other
node_without_other [] path other apart = refl
node_without_other (x ∷ xs) path other apart =
    elim (same_path x.path path) as (λ b. same_path x.path path ≡ b → node_at (cond (not b) (x ∷ without_path xs path) (without_path xs path)) other ≡ node_at (x ∷ xs) other) [
      | true ↦ λ same.
          node_without_other xs path other apart
          ∙ sym (behind x xs other (ap (λ p. same_path p other) (same_is x.path path same) ∙ differ path other apart))
      | false ↦ λ unlike. alike_behind x (without_path xs path) xs other (node_without_other xs path other apart)
    ] refl

-- Trees with the same nodes.

missing : (path : List (List ℕ)) (tree : List Place) → StandsBefore path tree → node_at tree path ≡ None
missing path [] before = refl
missing path (x ∷ xs) before = behind x xs path (before_differs path x.path before.0) ∙ missing path xs before.1

same_behind : (x y : Place) (xs ys : List Place) → Ascends (x ∷ xs) → Ascends (y ∷ ys) → ((path : List (List ℕ)) → node_at (x ∷ xs) path ≡ node_at (y ∷ ys) path)
    → x.path ≡ y.path → (path : List (List ℕ)) → node_at xs path ≡ node_at ys path
same_behind x y xs ys ascends ascends' same paths path = by (same_path x.path path) refl
  where
    by : (b : Bool) → same_path x.path path ≡ b → node_at xs path ≡ node_at ys path
    by true is =
        let at : x.path ≡ path = same_is x.path path is in
        missing path xs (subst (λ p. StandsBefore p xs) at ascends.0) ∙ sym (missing path ys (subst (λ p. StandsBefore p ys) (sym paths ∙ at) ascends'.0))
    by false differs = sym (behind x xs path differs) ∙ same path ∙ behind y ys path (ap (λ p. same_path p path) (sym paths) ∙ differs)

pub same_nodes : (tree other : List Place) → Ascends tree → Ascends other → ((path : List (List ℕ)) → node_at tree path ≡ node_at other path) → tree ≡ other
same_nodes [] [] ascends ascends' same = refl
same_nodes [] (y ∷ ys) ascends ascends' same = absurd (none-some y.node (same y.path ∙ here y ys y.path refl))
same_nodes (x ∷ xs) [] ascends ascends' same = absurd (none-some x.node (sym (same x.path) ∙ here x xs x.path refl))
same_nodes (x ∷ xs) (y ∷ ys) ascends ascends' same =
    by (λ paths. same_nodes xs ys ascends.1 ascends'.1 (same_behind x y xs ys ascends ascends' same paths)) (compare x.path y.path) refl
  where
    by : (x.path ≡ y.path → xs ≡ ys) → (o : Ordering) → compare x.path y.path ≡ o → x ∷ xs ≡ y ∷ ys
    by rest Less is =
        let first = is_placed x.path y.path Less is in
        absurd (none-some x.node (sym (missing x.path (y ∷ ys) (first, before_front x.path y.path ys first ascends'.0)) ∙ sym (same x.path) ∙ here x xs x.path refl))
    by rest Greater is =
        let first = is_placed x.path y.path Greater is in
        absurd (none-some y.node (sym (missing y.path (x ∷ xs) (first, before_front y.path x.path xs first ascends.0)) ∙ same y.path ∙ here y ys y.path refl))
    by rest Equal is =
        let paths : x.path ≡ y.path = is_placed x.path y.path Equal is in
        let nodes : x.node ≡ y.node = same_Some x.node y.node (sym (here x xs x.path refl) ∙ same x.path ∙ here y ys x.path (sym paths)) in
        (λ k. placed (paths k) (nodes k) ∷ rest paths k)

-- each place stands at its path
pub place_stands : (tree : List Place) (i : ℕ) (place : Place) → slice_get tree i ≡ Some place → is_there (node_at tree place.path) ≡ true
place_stands [] i place got = absurd (none-some place got)
place_stands (x ∷ xs) zero place got = ap is_there (here x xs place.path (ap (λ (p : Place). p.path) (same_Some x place got)))
place_stands (x ∷ xs) (suc i) place got =
    elim (same_path x.path place.path) as (λ b. is_there (node_found (cond b (Some x) (find (λ other. same_path other.path place.path) xs))) ≡ true) [
      | true ↦ refl
      | false ↦ place_stands xs i place got
    ]

-- what stands is one of the places
pub stands_below : (tree : List Place) (path other : List (List ℕ)) → is_there (node_at tree other) ≡ true → is_below path other ≡ true
    → list_any (λ place. is_below path place.path) tree ≡ true
stands_below [] path other there below = absurd (cc)
stands_below (x ∷ xs) path other there below =
    elim (same_path x.path other) as (λ b. same_path x.path other ≡ b → (is_below path x.path || list_any (λ place. is_below path place.path) xs) ≡ true) [
      | true ↦ λ same. ap (λ b. b || list_any (λ place. is_below path place.path) xs) (ap (is_below path) (same_is x.path other same) ∙ below)
      | false ↦ λ unlike.
          ap (λ b. is_below path x.path || b) (stands_below xs path other (ap is_there (sym (behind x xs other unlike)) ∙ there) below)
          ∙ or_true (is_below path x.path)
    ] refl
  where
    or_true : (b : Bool) → (b || true) ≡ true
    or_true true = refl
    or_true false = refl

-- A tree ascends whatever call is done, and it is told by what stands at each path.

parents_ascend : (tree : List Place) (paths : List (List (List ℕ))) → Ascends tree → Ascends (fold with_parent tree paths)
parents_ascend tree [] ascends = ascends
parents_ascend tree (p ∷ paths) ascends =
    parents_ascend (with_parent tree p) paths
    (elim (is_there (node_at tree p)) as (λ b. Ascends (if b then tree else put_node tree p (Directory 493))) [ true ↦ ascends | false ↦ ascends_put tree p (Directory 493) ascends ])

put_below_ascends : (tree : List Place) (path : List (List ℕ)) (node : Node) → Ascends tree → Ascends (put_node (with_parents tree path) path node)
put_below_ascends tree path node ascends = ascends_put (with_parents tree path) path node (parents_ascend tree (above path) ascends)

mode_ascends : (tree : List Place) (path : List (List ℕ)) (mode : ℕ) (node : Option Node) → Ascends tree → Ascends (change_mode tree path mode node)
mode_ascends tree path mode None ascends = ascends
mode_ascends tree path mode (Some node) ascends = ascends_put tree path (with_mode mode node) ascends

call_ascends : (tree : List Place) (call : TreeCall) → Ascends tree → Ascends (tree_after tree call)
unfolding tree_after
call_ascends tree (Write path content) ascends = put_below_ascends tree (parts_of path) (File (mode_for (node_at tree (parts_of path))) content) ascends
call_ascends tree (Copy from to) ascends =
    put_below_ascends tree (parts_of to) (File (mode_for (node_at tree (parts_of to))) (content_of (node_at tree (parts_of from)))) ascends
call_ascends tree (MakeDirectory path mode) ascends = put_below_ascends tree (parts_of path) (Directory mode) ascends
call_ascends tree (MakeLink target path) ascends = put_below_ascends tree (parts_of path) (Link 511 target) ascends
call_ascends tree (Remove path) ascends = ascends_without tree (parts_of path) ascends
call_ascends tree (RemoveDirectory path) ascends = ascends_without tree (parts_of path) ascends
call_ascends tree (ChangeMode mode path) ascends = mode_ascends tree (parts_of path) mode (node_at tree (parts_of path)) ascends

pub paths_ascend_after : (tree : List Place) (call : TreeCall) → paths_ascend tree ≡ true → paths_ascend (tree_after tree call) ≡ true
paths_ascend_after tree call ascend = by_ascends (tree_after tree call) (call_ascends tree call (ascends_by tree ascend))

pub told_by_nodes : (tree other : List Place) → paths_ascend tree ≡ true → paths_ascend other ≡ true
    → ((path : List (List ℕ)) → node_at tree path ≡ node_at other path) → tree ≡ other
told_by_nodes tree other ascend ascend' = same_nodes tree other (ascends_by tree ascend) (ascends_by other ascend')
