-- The places of texts: what they are in another list, and when a text is added.
use Rattle.std.proofs.Common.{eqb, ◌≡◌, ℕ, ◌+◌, ◌≤◌, Bool, true, false, cond, not, nat_lt, List, [], ◌∷◌, ◌++◌, map, length, Some, None, refl, sym, ap, ◌∙◌, if◌then◌else◌, arith, add-zero}
use Rattle.std.proofs.lemmas.List.{length-map}
use Rattle.std.proofs.lemmas.List.Folds.{position_or_len_push}
use Rattle.std.proofs.lemmas.List.Sums.{prefix_len-le-length}
use Rattle.std.specs.Cmp.Lexicographic.{nat_list_eq_equiv}
use Rattle.std.proofs.lemmas.Grind.{common_steps}
use Rattle.std.specs.Prelude.{position}
use Rattle.std.specs.List.{list_any, prefix_len, position_or_len}
use Rattle.std.specs.Str.{bytes_eq}
use Rattle.collections.specs.Texts.{with_text}
use Rattle.init_base.proofs.FirstPlaces.{any_by_place}

-- as many pass from the front on
prefix_of_map : {A B : Type 0} (f : A → B) (p : B → Bool) (xs : List A) → prefix_len p (map f xs) ≡ prefix_len (λ x. p (f x)) xs
prefix_of_map f p [] = refl
prefix_of_map f p (x ∷ xs) = ap (λ n. cond (p (f x)) (1 + n) 0) (prefix_of_map f p xs)

pub position_of_map : {A B : Type 0} (f : A → B) (p : B → Bool) (xs : List A) → position p (map f xs) ≡ position (λ x. p (f x)) xs
position_of_map f p xs = rw (prefix_of_map f (λ x. not (p x)) xs, length-map) refl

some_if : {A : Type 0} (b : Bool) (x y : A) → cond b (Some x) None ≡ Some y → b ≡ true
some_if true x y e = refl
some_if false x y e = cc

none_if : {A : Type 0} (b : Bool) (x : A) → cond b (Some x) None ≡ None → b ≡ false
none_if true x e = cc
none_if false x e = refl

any_at : {A : Type 0} (p : A → Bool) (xs : List A) (i : ℕ) → position p xs ≡ Some i → list_any p xs ≡ true
any_at p xs i e = sym (any_by_place p xs) ∙ some_if _ _ _ e

none_at : {A : Type 0} (p : A → Bool) (xs : List A) → position p xs ≡ None → list_any p xs ≡ false
none_at p xs e = sym (any_by_place p xs) ∙ none_if _ _ e

-- a text that has a place isn't added
pub held_stays : (texts : List (List ℕ)) (text : List ℕ) (i : ℕ) → position (bytes_eq text) texts ≡ Some i → texts ≡ with_text texts text
held_stays texts text i e = sym (ap (λ b. if b then texts else texts ++ text ∷ []) (any_at (bytes_eq text) texts i e))

-- another one is added
pub absent_added : (texts : List (List ℕ)) (text : List ℕ) → position (bytes_eq text) texts ≡ None → texts ++ text ∷ [] ≡ with_text texts text
absent_added texts text e = sym (ap (λ b. if b then texts else texts ++ text ∷ []) (none_at (bytes_eq text) texts e))

none_places : (n l : ℕ) → nat_lt n l ≡ false → n ≤ l → eqb n l ≡ true
none_places n l off within = grind (arith, common_steps)

below_push : {A : Type 0} (xs : List A) (x : A) → nat_lt (length xs) (length (xs ++ x ∷ [])) ≡ true
below_push xs x = grind (arith, common_steps)

-- a text that was added has the last place
pub added_last : (texts : List (List ℕ)) (text : List ℕ) → position (bytes_eq text) texts ≡ None → position (bytes_eq text) (texts ++ text ∷ []) ≡ Some (length texts)
added_last texts text none =
    let behind : eqb (position_or_len (bytes_eq text) texts) (length texts) ≡ true =
    none_places _ _ (none_if _ _ none) (prefix_len-le-length (λ x. not (bytes_eq text x)) texts) in
    let place : position_or_len (bytes_eq text) (texts ++ text ∷ []) ≡ length texts =
    position_or_len_push (bytes_eq text) texts text
    ∙ (λ i. cond (behind i) (length texts + cond (nat_list_eq_equiv.refl text i) 0 1) (position_or_len (bytes_eq text) texts))
    ∙ add-zero (length texts) in
    rw place (ap (λ b. cond b (Some (length texts)) None) (below_push texts text))

-- the place of a text among the texts of some values is that of the first value with it
pub position_by_text : {A : Type 0} (f : A → List ℕ) (xs : List A) (text : List ℕ) → position (bytes_eq text) (map f xs) ≡ position (λ x. bytes_eq (f x) text) xs
position_by_text f xs text = position_of_map f (bytes_eq text) xs ∙ (λ i. position (λ x. nat_list_eq_equiv.symm text (f x) i) xs)
