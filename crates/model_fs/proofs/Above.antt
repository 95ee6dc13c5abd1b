-- What stands above a path, and what is made there, by the path's last part.
use Rattle.std.proofs.Common.{ℕ, zero, suc, ◌≤◌, length, length-append, false, not, ◌&&◌, if◌then◌else◌, arith, ◌≡◌, Bool, true, ◌||◌, List, [], ◌∷◌, ◌++◌, map, Option, refl, sym, ap, ◌∙◌}
use Rattle.std.specs.List.{fold, list_any}
use Rattle.init_machine.specs.FileTree.{above, is_there, is_directory, is_other}
use Rattle.init_machine.specs.declared.node.Node.{Node}
use Rattle.init_machine.specs.declared.node.Node.TheVariants.{Directory}
use Rattle.model_fs.specs.internal.Rows.{Row, node_at, is_under_other, put_node, with_parent, with_parents}
use Rattle.model_fs.proofs.Children.{last_of}
use Rattle.model_fs.proofs.Trees.{node_put, node_put_other}

map_push : (x : List ℕ) (prefixes : List (List (List ℕ))) (last : List (List ℕ)) → map (λ prefix. x ∷ prefix) (prefixes ++ last ∷ []) ≡ map (λ prefix. x ∷ prefix) prefixes ++ (x ∷ last) ∷ []
map_push x [] last = refl
map_push x (p ∷ prefixes) last = ap (λ ps. (x ∷ p) ∷ ps) (map_push x prefixes last)

above-last : (parts : List (List ℕ)) (last : List ℕ) → above (parts ++ last ∷ []) ≡ above parts ++ parts ∷ []
above-last [] last = refl
above-last (p ∷ parts) last = ap (λ ps. [] ∷ map (λ prefix. p ∷ prefix) ps) (above-last parts last) ∙ ap (λ ps. [] ∷ ps) (map_push p (above parts) parts)

or_false : (b : Bool) → (b || false) ≡ b
or_false true = refl
or_false false = refl

or_assoc : (a b c : Bool) → ((a || b) || c) ≡ (a || (b || c))
or_assoc true b c = refl
or_assoc false b c = refl

list_any-last : {T : Type 0} (test : T → Bool) (xs : List T) (x : T) → list_any test (xs ++ x ∷ []) ≡ list_any test xs || test x
list_any-last test [] x = or_false (test x)
list_any-last test (y ∷ xs) x = ap (λ b. test y || b) (list_any-last test xs x) ∙ sym (or_assoc (test y) (list_any test xs) (test x))

pub under_by_last : (tree : List Row) (parts front : List (List ℕ)) (last : List ℕ) → parts ≡ front ++ last ∷ [] → is_under_other tree parts ≡ is_under_other tree front || is_other (node_at tree front)
under_by_last tree parts front last is =
    ap (is_under_other tree) is ∙ ap (list_any (λ prefix. is_other (node_at tree prefix))) (above-last front last)
    ∙ list_any-last (λ prefix. is_other (node_at tree prefix)) (above front) front

fold-last : (tree : List Row) (xs : List (List (List ℕ))) (x : List (List ℕ)) → fold with_parent tree (xs ++ x ∷ []) ≡ with_parent (fold with_parent tree xs) x
fold-last tree [] x = refl
fold-last tree (y ∷ xs) x = fold-last (with_parent tree y) xs x

pub parents_by_last : (tree : List Row) (parts front : List (List ℕ)) (last : List ℕ) → parts ≡ front ++ last ∷ [] → with_parents tree parts ≡ with_parent (with_parents tree front) front
parents_by_last tree parts front last is =
    ap (with_parents tree) is ∙ ap (fold with_parent tree) (above-last front last) ∙ fold-last tree (above front) front

pub no_parents : (tree : List Row) (parts : List (List ℕ)) → parts ≡ [] → tree ≡ with_parents tree parts
no_parents tree parts none = sym (ap (with_parents tree) none)

-- What stands after parents were made.

parent_keeps : (tree : List Row) (path other : List (List ℕ)) → (path ≡ other → ⊥) → node_at (with_parent tree path) other ≡ node_at tree other
parent_keeps tree path other differ =
    elim (is_there (node_at tree path)) as (λ b. node_at (if b then tree else put_node tree path (Directory 493)) other ≡ node_at tree other) [
      | true ↦ refl
      | false ↦ node_put_other tree path other (Directory 493) differ
    ]

parents_keep_within : (n : ℕ) (tree : List Row) (path other : List (List ℕ)) → length path ≤ n → length path ≤ length other → node_at (with_parents tree path) other ≡ node_at tree other
parents_keep_within n tree [] other bound within = refl
parents_keep_within zero tree (q ∷ qs) other bound within = absurd (omega arith)
parents_keep_within (suc n) tree (q ∷ qs) other bound within =
    let split = last_of q qs in
    let front = split.0 in
    let last = split.1 in
    let shorter : suc (length front) ≡ length (q ∷ qs) = omega (arith, length-append front (last ∷ []), ap length split.2) in
    ap (λ t. node_at t other) (parents_by_last tree (q ∷ qs) front last split.2)
    ∙ parent_keeps (with_parents tree front) front other (λ (same : front ≡ other). let e = ap length same in omega arith)
    ∙ parents_keep_within n tree front other (omega arith) (omega arith)

-- what stands at a path stays when its parents are made
pub parents_keep : (tree : List Row) (path : List (List ℕ)) → node_at (with_parents tree path) path ≡ node_at tree path
parents_keep tree path = parents_keep_within (length path) tree path path (omega arith) (omega arith)

other_or_not : (a b : Bool) → a ≡ true → (a && not b) ≡ false → b ≡ true
other_or_not true true there no_other = refl
other_or_not true false there no_other = absurd (cc)
other_or_not false b there no_other = absurd (cc)

-- what stands and is no other is a directory
pub standing_is_directory : (node : Option Node) → is_there node ≡ true → is_other node ≡ false → is_directory node ≡ true
standing_is_directory node there no_other = other_or_not (is_there node) (is_directory node) there no_other

-- a parent that was made is a directory
pub parent_is_directory : (tree : List Row) (path : List (List ℕ)) → is_other (node_at tree path) ≡ false → is_directory (node_at (with_parent tree path) path) ≡ true
parent_is_directory tree path no_other = by (is_there (node_at tree path)) refl
  where
    by : (b : Bool) → is_there (node_at tree path) ≡ b → is_directory (node_at (with_parent tree path) path) ≡ true
    by true there =
        ap (λ b. is_directory (node_at (if b then tree else put_node tree path (Directory 493)) path)) there
        ∙ other_or_not (is_there (node_at tree path)) (is_directory (node_at tree path)) there no_other
    by false missing =
        ap (λ b. is_directory (node_at (if b then tree else put_node tree path (Directory 493)) path)) missing
        ∙ ap is_directory (node_put tree path (Directory 493))

neither : (a b : Bool) → (a || b) ≡ false → (a ≡ false) × (b ≡ false)
neither true b h = absurd (cc)
neither false b h = (refl, h)

-- no file and no link stands above a path: none above its front, nor at it
pub none_above : (tree : List Row) (parts front : List (List ℕ)) (last : List ℕ) → parts ≡ front ++ last ∷ [] → is_under_other tree parts ≡ false
    → (is_under_other tree front ≡ false) × (is_other (node_at tree front) ≡ false)
none_above tree parts front last is none =
    neither (is_under_other tree front) (is_other (node_at tree front)) (sym (under_by_last tree parts front last is) ∙ none)
