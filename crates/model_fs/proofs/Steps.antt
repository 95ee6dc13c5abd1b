-- Steps and the paths that they lead to.
use Rattle.std.proofs.Common.{◌≡◌, ℕ, zero, suc, ◌+◌, ◌<◌, Bool, true, false, List, [], ◌∷◌, ◌++◌, length, get_or, slice_get, Option, Some, None, position, refl, sym, ap, ◌∙◌, arith, subst, is_some, if◌then◌else◌, ◌⊎◌, inl, inr, ⊎_elim, nat_eq, ◌&&◌, add-zero, zero-add, length-append, append-nil, append_assoc}
use Rattle.std.proofs.Math.ListN.{get_or-append}
use Rattle.std.proofs.Math.Seq.{get_or-append_seam}
use Rattle.std.proofs.lemmas.Bool.{eqb-true, eq-eqb}
use Rattle.std.proofs.lemmas.Option.{none-some, same_Some, slice_get-get_or, slice_get_within, get_or_from_slice_get}
use Rattle.std.proofs.lemmas.List.Quantifiers.{position-Some}
use Rattle.std.specs.Cmp.Lexicographic.{bytes_decides}
use Rattle.std.specs.List.{list_any}
use Rattle.std.specs.Str.{bytes_eq}
use Rattle.indexmap.specs.IndexSet.{insert_key}
use Rattle.collections.specs.Texts.{with_text}
use Rattle.init_machine.specs.FileTree.{same_path}
use Rattle.init_machine.proofs.Paths.{same_is, same_itself}
use Rattle.model_fs.specs.internal.Steps.{path_behind, path_of, paths_onto, paths_of, place_of, with_path, same_parent, same_step, AreDistinct, IsStepAt, IsNumbered}
use Rattle.model_fs.specs.declared.places.Step.{Step}
use Rattle.model_fs.proofs.Positions.{any_at, any_nowhere, fails_everywhere, only_place, place_stays}

onto_keeps : (names : List (List ℕ)) (paths : List (List (List ℕ))) (steps : List Step) (i : ℕ) → i < length paths
    → get_or (paths_onto names paths steps) i [] ≡ get_or paths i []
onto_keeps names paths [] i within = refl
onto_keeps names paths (s ∷ steps) i within =
    let more : i < length (paths ++ path_of names paths s ∷ []) = omega (arith, length-append paths (path_of names paths s ∷ [])) in
    onto_keeps names (paths ++ path_of names paths s ∷ []) steps i more
    ∙ get_or-append paths (path_of names paths s ∷ []) [] i within

onto_length : (names : List (List ℕ)) (paths : List (List (List ℕ))) (steps : List Step) → length (paths_onto names paths steps) ≡ length paths + length steps
onto_length names paths [] = sym (add-zero (length paths))
onto_length names paths (s ∷ steps) =
    let rest = onto_length names (paths ++ path_of names paths s ∷ []) steps in
    omega (arith, length-append paths (path_of names paths s ∷ []))

-- as many paths as steps
pub length-paths : (names : List (List ℕ)) (steps : List Step) → length (paths_of names steps) ≡ length steps
length-paths names steps = onto_length names [] steps ∙ zero-add (length steps)

same_behind : (names : List (List ℕ)) (all paths : List (List (List ℕ))) (parent : Option ℕ) (name : ℕ) → ((p : ℕ) → parent ≡ Some p → get_or all p [] ≡ get_or paths p [])
    → path_behind names paths parent name ≡ path_behind names all parent name
same_behind names all paths None name same = refl
same_behind names all paths (Some p) name same = ap (λ front. front ++ get_or names name [] ∷ []) (sym (same p refl))

onto_at : (names : List (List ℕ)) (paths : List (List (List ℕ))) (steps : List Step) (k : ℕ) (step : Step) → slice_get steps k ≡ Some step
    → ((p : ℕ) → step.parent ≡ Some p → p < length paths + k)
    → get_or (paths_onto names paths steps) (length paths + k) [] ≡ path_of names (paths_onto names paths steps) step
onto_at names paths [] k step at before = absurd (none-some step at)
onto_at names paths (s ∷ steps) zero step at before =
    let is : s ≡ step = same_Some s step at in
    let x = path_of names paths s in
    let more = paths ++ x ∷ [] in
    let all = paths_onto names more steps in
    let within : length paths < length more = omega (arith, length-append paths (x ∷ [])) in
    let here : get_or all (length paths) [] ≡ x = onto_keeps names more steps (length paths) within ∙ get_or-append_seam paths x [] [] in
    let old : (p : ℕ) → s.parent ≡ Some p → get_or all p [] ≡ get_or paths p [] = λ p parent.
    let less : p < length paths + 0 = before p (ap (λ (t : Step). t.parent) (sym is) ∙ parent) in
    let less' : p < length paths = omega arith in
    onto_keeps names more steps p (omega arith) ∙ get_or-append paths (x ∷ []) [] p less' in
    ap (λ n. get_or all n []) (add-zero (length paths)) ∙ here ∙ same_behind names all paths s.parent s.name old ∙ ap (path_of names all) is
onto_at names paths (s ∷ steps) (suc k) step at before =
    let more = paths ++ path_of names paths s ∷ [] in
    let long : length more + k ≡ length paths + suc k = omega (arith, length-append paths (path_of names paths s ∷ [])) in
    ap (λ n. get_or (paths_onto names more steps) n []) (sym long)
    ∙ onto_at names more steps k step at (λ p parent. let less = before p parent in omega arith)

before_of : (names : List (List ℕ)) (i : ℕ) (parent : Option ℕ) (name : ℕ) → IsStepAt names i parent name → (p : ℕ) → parent ≡ Some p → p < i
before_of names i None name ok p is = absurd (none-some p is)
before_of names i (Some q) name ok p is = subst (λ n. n < i) (same_Some q p is) ok.0

-- the path at a place is that of its step
pub path_at : (names : List (List ℕ)) (steps : List Step) → IsNumbered names steps → (i : ℕ) (step : Step) → slice_get steps i ≡ Some step
    → get_or (paths_of names steps) i [] ≡ path_of names (paths_of names steps) step
path_at names steps ok i step at =
    ap (λ n. get_or (paths_of names steps) n []) (sym (zero-add i))
    ∙ onto_at names [] steps i step at (λ p parent. let less = before_of names i step.parent step.name (ok.stepped i step at) p parent in omega arith)

pub last_parts : (xs ys : List (List ℕ)) (x y : List ℕ) → xs ++ x ∷ [] ≡ ys ++ y ∷ [] → (xs ≡ ys) × (x ≡ y)
last_parts [] [] x y is = (refl, cc)
last_parts [] (b ∷ []) x y is = absurd (cc)
last_parts [] (b ∷ c ∷ ys) x y is = absurd (cc)
last_parts (a ∷ []) [] x y is = absurd (cc)
last_parts (a ∷ b ∷ xs) [] x y is = absurd (cc)
last_parts (a ∷ xs) (b ∷ ys) x y is =
    let rest : xs ++ x ∷ [] ≡ ys ++ y ∷ [] = cc in
    let both = last_parts xs ys x y rest in
    let first : a ≡ b = cc in
    let front : xs ≡ ys = both.0 in
    (cc, both.1)

pub some_last : (xs : List (List ℕ)) (x : List ℕ) → [] ≡ xs ++ x ∷ [] → ⊥
some_last [] x is = cc
some_last (a ∷ xs) x is = cc

-- a number by its name
same_number : (names : List (List ℕ)) (n m : ℕ) → position (bytes_eq (get_or names n [])) names ≡ Some n → position (bytes_eq (get_or names m [])) names ≡ Some m
    → get_or names n [] ≡ get_or names m [] → n ≡ m
same_number names n m at at' same = same_Some n m (sym at ∙ ap (λ text. position (bytes_eq text) names) same ∙ at')

-- two places of one path are one
same_place_by : (names : List (List ℕ)) (steps : List Step) → IsNumbered names steps
    → (i j : ℕ) (sp tp : Option ℕ) (s t : Step) → slice_get steps i ≡ Some s → slice_get steps j ≡ Some t → s.parent ≡ sp → t.parent ≡ tp
    → get_or (paths_of names steps) i [] ≡ get_or (paths_of names steps) j []
    → ((p q : ℕ) → p < i → q < j → get_or (paths_of names steps) p [] ≡ get_or (paths_of names steps) q [] → p ≡ q)
    → i ≡ j
same_place_by names steps ok i j None None s t si tj sp tp same above =
    let a = ok.stepped i s si in
    let b = ok.stepped j t tj in
    let a' : i ≡ 0 = subst (λ p. IsStepAt names i p s.name) sp a in
    let b' : j ≡ 0 = subst (λ p. IsStepAt names j p t.name) tp b in
    a' ∙ sym b'
same_place_by names steps ok i j None (Some q) s t si tj sp tp same above =
    let paths = paths_of names steps in
    let left : get_or paths i [] ≡ [] = path_at names steps ok i s si ∙ ap (λ p. path_behind names paths p s.name) sp in
    let right : get_or paths j [] ≡ get_or paths q [] ++ get_or names t.name [] ∷ [] = path_at names steps ok j t tj ∙ ap (λ p. path_behind names paths p t.name) tp in
    absurd (some_last _ _ (sym left ∙ same ∙ right))
same_place_by names steps ok i j (Some p) None s t si tj sp tp same above =
    let paths = paths_of names steps in
    let left : get_or paths j [] ≡ [] = path_at names steps ok j t tj ∙ ap (λ p. path_behind names paths p t.name) tp in
    let right : get_or paths i [] ≡ get_or paths p [] ++ get_or names s.name [] ∷ [] = path_at names steps ok i s si ∙ ap (λ p. path_behind names paths p s.name) sp in
    absurd (some_last _ _ (sym left ∙ sym same ∙ right))
same_place_by names steps ok i j (Some p) (Some q) s t si tj sp tp same above =
    let paths = paths_of names steps in
    let left : get_or paths i [] ≡ get_or paths p [] ++ get_or names s.name [] ∷ [] = path_at names steps ok i s si ∙ ap (λ p. path_behind names paths p s.name) sp in
    let right : get_or paths j [] ≡ get_or paths q [] ++ get_or names t.name [] ∷ [] = path_at names steps ok j t tj ∙ ap (λ p. path_behind names paths p t.name) tp in
    let both = last_parts _ _ _ _ (sym left ∙ same ∙ right) in
    let a : (p < i) × (position (bytes_eq (get_or names s.name [])) names ≡ Some s.name) = subst (λ p. IsStepAt names i p s.name) sp (ok.stepped i s si) in
    let b : (q < j) × (position (bytes_eq (get_or names t.name [])) names ≡ Some t.name) = subst (λ p. IsStepAt names j p t.name) tp (ok.stepped j t tj) in
    let parent : p ≡ q = above p q a.0 b.0 both.0 in
    let name : s.name ≡ t.name = same_number names s.name t.name a.1 b.1 both.1 in
    let step : t ≡ s = λ k. record { parent = (tp ∙ ap Some (sym parent) ∙ sym sp) k; name = sym name k } in
    ok.distinct i j s si (tj ∙ ap Some step)

same_place_below : (names : List (List ℕ)) (steps : List Step) → IsNumbered names steps
    → (n i j : ℕ) → i < n → i < length steps → j < length steps → get_or (paths_of names steps) i [] ≡ get_or (paths_of names steps) j [] → i ≡ j
same_place_below names steps ok zero i j less ii jj same = absurd (omega arith)
same_place_below names steps ok (suc n) i j less ii jj same =
    let d : Step = record { parent = None; name = 0 } in
    let s = get_or steps i d in
    let t = get_or steps j d in
    same_place_by names steps ok i j s.parent t.parent s t (slice_get-get_or steps i d ii) (slice_get-get_or steps j d jj) refl refl same
    (λ p q pi qj eq. same_place_below names steps ok n p q (omega arith) (omega arith) (omega arith) eq)

-- the place of a path
pub place_is : (names : List (List ℕ)) (steps : List Step) → IsNumbered names steps → (i : ℕ) (path : List (List ℕ)) → i < length steps
    → get_or (paths_of names steps) i [] ≡ path → place_of (paths_of names steps) path ≡ Some i
place_is names steps ok i path within at =
    let paths = paths_of names steps in
    let long = length-paths names steps in
    let passes : same_path (get_or paths i []) path ≡ true = ap (λ p. same_path p path) at ∙ same_itself path in
    only_place (λ other. same_path other path) paths i [] (omega arith) passes
    (λ k less pass. same_place_below names steps ok (suc k) k i (omega arith) (omega arith) within (same_is (get_or paths k []) path pass ∙ sym at))

pub is_place : (paths : List (List (List ℕ))) (path : List (List ℕ)) (i : ℕ) → place_of paths path ≡ Some i → (i < length paths) × (get_or paths i [] ≡ path)
is_place paths path i is =
    let at = position-Some (λ other. same_path other path) paths i [] is in
    (at.0, same_is (get_or paths i []) path at.1)

-- The place behind a parent's, by the part.

same_parts : (a b : Bool) → (a && b) ≡ true → (a ≡ true) × (b ≡ true)
same_parts true b is = (refl, is)
same_parts false b is = absurd (cc)

same_parent_is : (p q : Option ℕ) → same_parent p q ≡ true → p ≡ q
same_parent_is None None same = refl
same_parent_is None (Some q) same = absurd (cc)
same_parent_is (Some p) None same = absurd (cc)
same_parent_is (Some p) (Some q) same = ap Some (eqb-true p q same)

same_step_is : (s t : Step) → same_step s t ≡ true → s ≡ t
same_step_is s t same =
    let both = same_parts (same_parent s.parent t.parent) (nat_eq s.name t.name) same in
    λ k. record { parent = same_parent_is s.parent t.parent both.0 k; name = eqb-true s.name t.name both.1 k }

same_parent_itself : (p : Option ℕ) → same_parent p p ≡ true
same_parent_itself None = refl
same_parent_itself (Some p) = eq-eqb p p refl

same_step_itself : (s : Step) → same_step s s ≡ true
same_step_itself s = cc (same_parent_itself s.parent, eq-eqb s.name s.name refl)

-- a step has one place
pub step_is : (names : List (List ℕ)) (steps : List Step) → IsNumbered names steps → (i : ℕ) (step : Step) → slice_get steps i ≡ Some step
    → position (same_step step) steps ≡ Some i
step_is names steps ok i step at =
    let within = slice_get_within steps i step at in
    let here : get_or steps i step ≡ step = get_or_from_slice_get steps i step step at in
    only_place (same_step step) steps i step within (ap (same_step step) here ∙ same_step_itself step)
    (λ k less pass. ok.distinct k i step (slice_get-get_or steps k step less ∙ ap Some (sym (same_step_is step (get_or steps k step) pass))) at)

pub is_step : (steps : List Step) (step : Step) (i : ℕ) → position (same_step step) steps ≡ Some i → slice_get steps i ≡ Some step
is_step steps step i is =
    let at = position-Some (same_step step) steps i step is in
    slice_get-get_or steps i step at.0 ∙ ap Some (sym (same_step_is step (get_or steps i step) at.1))

-- a number has its name
pub is_name : (names : List (List ℕ)) (part : List ℕ) (n : ℕ) → position (bytes_eq part) names ≡ Some n → get_or names n [] ≡ part
is_name names part n is = sym ((bytes_decides part (get_or names n [])).0 (position-Some (bytes_eq part) names n [] is).1)

-- a path that is found from its parent on
pub child_found : (names : List (List ℕ)) (steps : List Step) → IsNumbered names steps → (front : List (List ℕ)) (part : List ℕ) (parent name i : ℕ)
    → place_of (paths_of names steps) front ≡ Some parent → position (bytes_eq part) names ≡ Some name
    → position (same_step (record { parent = Some parent; name = name })) steps ≡ Some i → place_of (paths_of names steps) (front ++ part ∷ []) ≡ Some i
child_found names steps ok front part parent name i above named found =
    let at = is_step steps (record { parent = Some parent; name = name }) i found in
    place_is names steps ok i (front ++ part ∷ []) (slice_get_within steps i (record { parent = Some parent; name = name }) at)
    (path_at names steps ok i (record { parent = Some parent; name = name }) at
    ∙ ap (λ p. p ++ get_or names name [] ∷ []) (is_place (paths_of names steps) front parent above).1
    ∙ ap (λ x. front ++ x ∷ []) (is_name names part name named))

-- what leads to a path that has a place
pub record IsFound (names : List (List ℕ)) (steps : List Step) (front : List (List ℕ)) (part : List ℕ) (i : ℕ) : Type 0 where
  pub parent : ℕ
  pub name : ℕ
  pub above : place_of (paths_of names steps) front ≡ Some parent
  pub named : position (bytes_eq part) names ≡ Some name
  pub found : position (same_step (record { parent = Some parent; name = name })) steps ≡ Some i

found_by : (names : List (List ℕ)) (steps : List Step) → IsNumbered names steps → (front : List (List ℕ)) (part : List ℕ) (i : ℕ)
    → get_or (paths_of names steps) i [] ≡ front ++ part ∷ [] → (sp : Option ℕ) (s : Step) → slice_get steps i ≡ Some s → s.parent ≡ sp → IsFound names steps front part i
found_by names steps ok front part i path None s at sp =
    let paths = paths_of names steps in
    let none : get_or paths i [] ≡ [] = path_at names steps ok i s at ∙ ap (λ p. path_behind names paths p s.name) sp in
    absurd (some_last front part (sym none ∙ path))
found_by names steps ok front part i path (Some p) s at sp =
    let paths = paths_of names steps in
    let is : get_or paths i [] ≡ get_or paths p [] ++ get_or names s.name [] ∷ [] = path_at names steps ok i s at ∙ ap (λ p. path_behind names paths p s.name) sp in
    let both = last_parts (get_or paths p []) front (get_or names s.name []) part (sym is ∙ path) in
    let here : (p < i) × (position (bytes_eq (get_or names s.name [])) names ≡ Some s.name) = subst (λ p. IsStepAt names i p s.name) sp (ok.stepped i s at) in
    let within = slice_get_within steps i s at in
    let step : s ≡ record { parent = Some p; name = s.name } = λ k. record { parent = sp k; name = s.name } in
    record {
      parent = p;
      name = s.name;
      above = place_is names steps ok p front (omega arith) both.0;
      named = ap (λ text. position (bytes_eq text) names) (sym both.1) ∙ here.1;
      found = step_is names steps ok i (record { parent = Some p; name = s.name }) (at ∙ ap Some step);
    }

pub is_found : (names : List (List ℕ)) (steps : List Step) → IsNumbered names steps → (front : List (List ℕ)) (part : List ℕ) (i : ℕ)
    → place_of (paths_of names steps) (front ++ part ∷ []) ≡ Some i → IsFound names steps front part i
is_found names steps ok front part i is =
    let at = is_place (paths_of names steps) (front ++ part ∷ []) i is in
    let d : Step = record { parent = None; name = 0 } in
    let within : i < length steps = omega (arith, length-paths names steps) in
    found_by names steps ok front part i at.1 (get_or steps i d).parent (get_or steps i d) (slice_get-get_or steps i d within) refl

-- a path that isn't found from its parent on has no place
not_found : (names : List (List ℕ)) (steps : List Step) → IsNumbered names steps → (front : List (List ℕ)) (part : List ℕ)
    → ((i : ℕ) → IsFound names steps front part i → ⊥) → None ≡ place_of (paths_of names steps) (front ++ part ∷ [])
not_found names steps ok front part never = by (place_of (paths_of names steps) (front ++ part ∷ [])) refl
  where
    by : (r : Option ℕ) → place_of (paths_of names steps) (front ++ part ∷ []) ≡ r → None ≡ r
    by None is = refl
    by (Some i) is = absurd (never i (is_found names steps ok front part i is))

pub no_parent : (names : List (List ℕ)) (steps : List Step) → IsNumbered names steps → (front : List (List ℕ)) (part : List ℕ)
    → place_of (paths_of names steps) front ≡ None → None ≡ place_of (paths_of names steps) (front ++ part ∷ [])
no_parent names steps ok front part none = not_found names steps ok front part (λ i (found : IsFound names steps front part i). none-some found.parent (sym none ∙ found.above))

more_none : (names : List (List ℕ)) (steps : List Step) → IsNumbered names steps → (path more : List (List ℕ)) → place_of (paths_of names steps) path ≡ None
    → place_of (paths_of names steps) (path ++ more) ≡ None
more_none names steps ok path [] none = ap (place_of (paths_of names steps)) (append-nil path) ∙ none
more_none names steps ok path (x ∷ more) none =
    ap (place_of (paths_of names steps)) (sym (append_assoc path (x ∷ []) more))
    ∙ more_none names steps ok (path ++ x ∷ []) more (sym (no_parent names steps ok path x none))

-- what lies behind a path that has no place has none
pub none_behind : (names : List (List ℕ)) (steps : List Step) → IsNumbered names steps → (front : List (List ℕ)) (part : List ℕ) (more : List (List ℕ))
    → place_of (paths_of names steps) (front ++ part ∷ []) ≡ None → place_of (paths_of names steps) (front ++ part ∷ more) ≡ None
none_behind names steps ok front part more none =
    ap (place_of (paths_of names steps)) (sym (append_assoc front (part ∷ []) more)) ∙ more_none names steps ok (front ++ part ∷ []) more none

pub no_name : (names : List (List ℕ)) (steps : List Step) → IsNumbered names steps → (front : List (List ℕ)) (part : List ℕ)
    → position (bytes_eq part) names ≡ None → None ≡ place_of (paths_of names steps) (front ++ part ∷ [])
no_name names steps ok front part none = not_found names steps ok front part (λ i (found : IsFound names steps front part i). none-some found.name (sym none ∙ found.named))

-- the look-up of a path, by the place of its parent and the number of its last part
pub child_is : (names : List (List ℕ)) (steps : List Step) → IsNumbered names steps → (front : List (List ℕ)) (part : List ℕ) (parent name : ℕ)
    → place_of (paths_of names steps) front ≡ Some parent → position (bytes_eq part) names ≡ Some name
    → position (same_step (record { parent = Some parent; name = name })) steps ≡ place_of (paths_of names steps) (front ++ part ∷ [])
child_is names steps ok front part parent name above named = by (position (same_step (record { parent = Some parent; name = name })) steps) refl
  where
    by : (r : Option ℕ) → position (same_step (record { parent = Some parent; name = name })) steps ≡ r → r ≡ place_of (paths_of names steps) (front ++ part ∷ [])
    by (Some i) is = sym (child_found names steps ok front part parent name i above named is)
    by None none = not_found names steps ok front part (λ i (found : IsFound names steps front part i).
        let p : found.parent ≡ parent = same_Some found.parent parent (sym found.above ∙ above) in
        let n : found.name ≡ name = same_Some found.name name (sym found.named ∙ named) in
        none-some i (sym none ∙ (λ k. position (same_step (record { parent = Some (sym p k); name = sym n k })) steps) ∙ found.found))

pub are_distinct : (names : List (List ℕ)) (steps : List Step) → IsNumbered names steps → AreDistinct (paths_of names steps)
are_distinct names steps ok i j ii jj same =
    let long = length-paths names steps in
    same_place_below names steps ok (suc i) i j (omega arith) (omega arith) (omega arith) same

-- What stays when a name more is known, and when a step more is.

-- the paths of steps whose names are known
onto_same : (names more : List (List ℕ)) (paths : List (List (List ℕ))) (steps : List Step)
    → ((i : ℕ) (step : Step) → slice_get steps i ≡ Some step → (p : ℕ) → step.parent ≡ Some p → step.name < length names)
    → paths_onto (names ++ more) paths steps ≡ paths_onto names paths steps
onto_same names more paths [] known = refl
onto_same names more paths (s ∷ steps) known =
    ap (λ x. paths_onto (names ++ more) (paths ++ x ∷ []) steps) (behind s.parent (known 0 s refl))
    ∙ onto_same names more (paths ++ path_of names paths s ∷ []) steps (λ i step at. known (suc i) step at)
  where
    behind : (parent : Option ℕ) → ((p : ℕ) → parent ≡ Some p → s.name < length names) → path_behind (names ++ more) paths parent s.name ≡ path_behind names paths parent s.name
    behind None less = refl
    behind (Some p) less = ap (λ x. get_or paths p [] ++ x ∷ []) (get_or-append names more [] s.name (less p refl))

known_by : (names : List (List ℕ)) (i : ℕ) (parent : Option ℕ) (name : ℕ) → IsStepAt names i parent name → (p : ℕ) → parent ≡ Some p → name < length names
known_by names i None name ok p is = absurd (none-some p is)
known_by names i (Some q) name ok p is = (position-Some (bytes_eq (get_or names name [])) names name [] ok.1).0

pub paths_same : (names more : List (List ℕ)) (steps : List Step) → IsNumbered names steps → paths_of (names ++ more) steps ≡ paths_of names steps
paths_same names more steps ok =
    onto_same names more [] steps (λ i step at p is. known_by names i step.parent step.name (ok.stepped i step at) p is)

step_stays : (names more : List (List ℕ)) (i : ℕ) (parent : Option ℕ) (name : ℕ) → IsStepAt names i parent name → IsStepAt (names ++ more) i parent name
step_stays names more i None name ok = ok
step_stays names more i (Some p) name ok =
    let within = (position-Some (bytes_eq (get_or names name [])) names name [] ok.1).0 in (
      ok.0,
      ap (λ x. position (bytes_eq x) (names ++ more)) (get_or-append names more [] name within)
          ∙ place_stays (bytes_eq (get_or names name [])) names more name [] ok.1,
    )

pub numbered_stays : (names more : List (List ℕ)) (steps : List Step) → IsNumbered names steps → IsNumbered (names ++ more) steps
numbered_stays names more steps ok = record {
  rooted = ok.rooted;
  stepped = λ i step at. step_stays names more i step.parent step.name (ok.stepped i step at);
  distinct = ok.distinct;
}

-- a name more, unless it is known
pub paths_with_text : (names : List (List ℕ)) (text : List ℕ) (steps : List Step) → IsNumbered names steps → paths_of (with_text names text) steps ≡ paths_of names steps
paths_with_text names text steps ok =
    elim (list_any (bytes_eq text) names) as (λ b. paths_of (if b then names else names ++ text ∷ []) steps ≡ paths_of names steps) [
      | true ↦ refl
      | false ↦ paths_same names (text ∷ []) steps ok
    ]

pub numbered_with_text : (names : List (List ℕ)) (text : List ℕ) (steps : List Step) → IsNumbered names steps → IsNumbered (with_text names text) steps
numbered_with_text names text steps ok =
    elim (list_any (bytes_eq text) names) as (λ b. IsNumbered (if b then names else names ++ text ∷ []) steps) [
      | true ↦ ok
      | false ↦ numbered_stays names (text ∷ []) steps ok
    ]

onto_last : (names : List (List ℕ)) (paths : List (List (List ℕ))) (steps : List Step) (step : Step)
    → paths_onto names paths (steps ++ step ∷ []) ≡ paths_onto names paths steps ++ path_of names (paths_onto names paths steps) step ∷ []
onto_last names paths [] step = refl
onto_last names paths (s ∷ steps) step = onto_last names (paths ++ path_of names paths s ∷ []) steps step

-- the step at a place, where one more comes behind
pub step_at_last : (steps : List Step) (step : Step) (i : ℕ) (s : Step) → slice_get (steps ++ step ∷ []) i ≡ Some s
    → ((i < length steps) × (slice_get steps i ≡ Some s)) ⊎ ((i ≡ length steps) × (step ≡ s))
step_at_last [] step zero s at = inr (refl, same_Some step s at)
step_at_last [] step (suc i) s at = absurd (none-some s at)
step_at_last (x ∷ steps) step zero s at = inl (omega arith, at)
step_at_last (x ∷ steps) step (suc i) s at =
    ⊎_elim (λ old. inl (omega (arith, old.0), old.1)) (λ new. inr (omega (arith, new.0), new.1)) (step_at_last steps step i s at)

no_step : (steps : List Step) (step : Step) (i : ℕ) → position (same_step step) steps ≡ None → slice_get steps i ≡ Some step → ⊥
no_step steps step i none at =
    let within = slice_get_within steps i step at in
    let fails = fails_everywhere (same_step step) steps i step none within in
    let here : get_or steps i step ≡ step = get_or_from_slice_get steps i step step at in
    cc (same_step_itself step)

-- a step more, of a part behind a path that has a place
pub numbered_last : (names : List (List ℕ)) (steps : List Step) → IsNumbered names steps → (part : List ℕ) (parent name : ℕ)
    → parent < length steps → position (bytes_eq part) names ≡ Some name
    → position (same_step (record { parent = Some parent; name = name })) steps ≡ None
    → IsNumbered names (steps ++ record { parent = Some parent; name = name } ∷ [])
numbered_last names steps ok part parent name within named none =
    let new : Step = record { parent = Some parent; name = name } in
    let called : position (bytes_eq (get_or names name [])) names ≡ Some name = ap (λ x. position (bytes_eq x) names) (is_name names part name named) ∙ named in
    record {
      rooted = omega (arith, length-append steps (new ∷ []), ok.rooted);
      stepped = λ i step at.
          ⊎_elim {C = IsStepAt names i step.parent step.name}
          (λ old. ok.stepped i step old.1)
          (λ last. subst (λ (s : Step). IsStepAt names i s.parent s.name) last.1 (omega (arith, last.0), called))
          (step_at_last steps new i step at);
      distinct = λ i j step at at'.
          ⊎_elim {C = i ≡ j}
          (λ old. ⊎_elim {C = i ≡ j}
          (λ old'. ok.distinct i j step old.1 old'.1)
          (λ last'. absurd (no_step steps new i none (old.1 ∙ ap Some (sym last'.1))))
          (step_at_last steps new j step at'))
          (λ last. ⊎_elim {C = i ≡ j}
          (λ old'. absurd (no_step steps new j none (old'.1 ∙ ap Some (sym last.1))))
          (λ last'. last.0 ∙ sym last'.0)
          (step_at_last steps new j step at'))
          (step_at_last steps new i step at);
    }

-- the steps after an insertion, by whether the step was there
inserted_step : (steps : List Step) (step : Step) (i : ℕ) → position (same_step step) steps ≡ Some i → insert_key same_step steps step ≡ steps
inserted_step steps step i is =
    let at = position-Some (same_step step) steps i step is in
    ap (λ b. if b then steps else steps ++ step ∷ []) (any_at (same_step step) steps i step at.0 at.1)

added_step : (steps : List Step) (step : Step) → position (same_step step) steps ≡ None → insert_key same_step steps step ≡ steps ++ step ∷ []
added_step steps step none =
    ap (λ b. if b then steps else steps ++ step ∷ [])
    (any_nowhere (same_step step) steps step (λ k less. fails_everywhere (same_step step) steps k step none less))

pub numbered_added : (names : List (List ℕ)) (steps : List Step) → IsNumbered names steps → (part : List ℕ) (parent name : ℕ)
    → parent < length steps → position (bytes_eq part) names ≡ Some name
    → IsNumbered names (insert_key same_step steps (record { parent = Some parent; name = name }))
numbered_added names steps ok part parent name within named = by (position (same_step (record { parent = Some parent; name = name })) steps) refl
  where
    by : (r : Option ℕ) → position (same_step (record { parent = Some parent; name = name })) steps ≡ r
        → IsNumbered names (insert_key same_step steps (record { parent = Some parent; name = name }))
    by (Some i) is = subst (IsNumbered names) (sym (inserted_step steps (record { parent = Some parent; name = name }) i is)) ok
    by None none =
        subst (IsNumbered names) (sym (added_step steps (record { parent = Some parent; name = name }) none)) (numbered_last names steps ok part parent name within named none)

pub paths_added : (names : List (List ℕ)) (steps : List Step) → IsNumbered names steps → (front : List (List ℕ)) (part : List ℕ) (parent name : ℕ)
    → place_of (paths_of names steps) front ≡ Some parent → position (bytes_eq part) names ≡ Some name
    → paths_of names (insert_key same_step steps (record { parent = Some parent; name = name })) ≡ with_path (paths_of names steps) (front ++ part ∷ [])
paths_added names steps ok front part parent name above named = by (position (same_step (record { parent = Some parent; name = name })) steps) refl
  where
    by : (r : Option ℕ) → position (same_step (record { parent = Some parent; name = name })) steps ≡ r
        → paths_of names (insert_key same_step steps (record { parent = Some parent; name = name })) ≡ with_path (paths_of names steps) (front ++ part ∷ [])
    by (Some i) is =
        ap (paths_of names) (inserted_step steps (record { parent = Some parent; name = name }) i is)
        ∙ sym (ap (λ r. if is_some r then paths_of names steps else paths_of names steps ++ (front ++ part ∷ []) ∷ []) (child_found names steps ok front part parent name i above named is))
    by None none =
        ap (paths_of names) (added_step steps (record { parent = Some parent; name = name }) none)
        ∙ onto_last names [] steps (record { parent = Some parent; name = name })
        ∙ ap (λ p. paths_of names steps ++ (p ++ get_or names name [] ∷ []) ∷ []) (is_place (paths_of names steps) front parent above).1
        ∙ ap (λ x. paths_of names steps ++ (front ++ x ∷ []) ∷ []) (is_name names part name named)
        ∙ sym (ap (λ r. if is_some r then paths_of names steps else paths_of names steps ++ (front ++ part ∷ []) ∷ []) (sym (child_is names steps ok front part parent name above named) ∙ none))

-- the place of a path stays where one more comes
pub place_with_path : (paths : List (List (List ℕ))) (path other : List (List ℕ)) (i : ℕ) → place_of paths path ≡ Some i → place_of (with_path paths other) path ≡ Some i
place_with_path paths path other i is =
    elim (is_some (place_of paths other)) as (λ b. place_of (if b then paths else paths ++ other ∷ []) path ≡ Some i) [
      | true ↦ is
      | false ↦ place_stays (λ p. same_path p path) paths (other ∷ []) i [] is
    ]

-- the place that is answered
pub place_added : (names : List (List ℕ)) (steps : List Step) → IsNumbered names steps → (front : List (List ℕ)) (part : List ℕ) (parent name i : ℕ) (step : Step)
    → parent < length steps → place_of (paths_of names steps) front ≡ Some parent → position (bytes_eq part) names ≡ Some name
    → slice_get (insert_key same_step steps (record { parent = Some parent; name = name })) i ≡ Some step
    → same_step (record { parent = Some parent; name = name }) step ≡ true
    → place_of (paths_of names (insert_key same_step steps (record { parent = Some parent; name = name }))) (front ++ part ∷ []) ≡ Some i
place_added names steps ok front part parent name i step within above named at same =
    let new : Step = record { parent = Some parent; name = name } in
    let more = insert_key same_step steps new in
    let ok' : IsNumbered names more = numbered_added names steps ok part parent name within named in
    let at' : slice_get more i ≡ Some new = at ∙ ap Some (sym (same_step_is new step same)) in
    let above' : place_of (paths_of names more) front ≡ Some parent =
    ap (λ paths. place_of paths front) (paths_added names steps ok front part parent name above named)
    ∙ place_with_path (paths_of names steps) front (front ++ part ∷ []) parent above in
    child_found names more ok' front part parent name i above' named (step_is names more ok' i new at')
