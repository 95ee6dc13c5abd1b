-- How a choice, or values one after another, came to a value.
use Rattle.std.proofs.Common.{◌≡◌, ℕ, Bool, true, false, cond, ◌&&◌, List, [], ◌∷◌, Option, Some, None, Err, refl, sym, ap, subst, ◌∙◌, ◌⊎◌, inl, inr}
use Rattle.std.specs.List.{AllByRecursion, find, list_all}
use Rattle.std.specs.Option.{option_map}
use Rattle.std.specs.Str.{bytes_eq}
use Rattle.init_machine.proofs.DistinctSums.{same_bytes}
use Rattle.script_lang.specs.Statements.{with_two, with_three}
use Rattle.trace_reader.specs.Reading.{IsBad, IsReading, bind, choose, with_four}
use Rattle.script_lang.specs.declared.fault.Fault.{Fault}

pub if_some : {A : Type 0} (test : Bool) (first second : Option A) (value : A) → cond test first second ≡ Some value
    → ((test ≡ true) × (first ≡ Some value)) ⊎ ((test ≡ false) × (second ≡ Some value))
if_some true first second value e = inl (refl, e)
if_some false first second value e = inr (refl, e)

pub map_some : {A B : Type 0} (f : A → B) (o : Option A) (value : B) → option_map f o ≡ Some value → (a : A) × (o ≡ Some a) × (f a ≡ value)
map_some f None value e = cc
map_some f (Some a) value e = (a, refl, cc)

pub bind_some : {A B : Type 0} (o : Option A) (f : A → Option B) (value : B) → bind o f ≡ Some value → (a : A) × (o ≡ Some a) × (f a ≡ Some value)
bind_some None f value e = cc
bind_some (Some a) f value e = (a, refl, e)

pub two_some : {A B C : Type 0} (f : A → B → C) (o : Option A) (p : Option B) (value : C) → with_two f o p ≡ Some value
    → (a : A) × (b : B) × (o ≡ Some a) × (p ≡ Some b) × (f a b ≡ value)
two_some f (Some a) (Some b) value e = (a, b, refl, refl, cc)
two_some f (Some a) None value e = cc
two_some f None p value e = cc

pub three_some : {A B C D : Type 0} (f : A → B → C → D) (o : Option A) (p : Option B) (q : Option C) (value : D) → with_three f o p q ≡ Some value
    → (a : A) × (b : B) × (c : C) × (o ≡ Some a) × (p ≡ Some b) × (q ≡ Some c) × (f a b c ≡ value)
three_some f (Some a) p q value e =
    let two = two_some (f a) p q value e in
    (a, two.0, two.1, refl, two.2, two.3, two.4)
three_some f None p q value e = cc

pub four_some : {A B C D E : Type 0} (f : A → B → C → D → E) (o : Option A) (p : Option B) (q : Option C) (r : Option D) (value : E)
    → with_four f o p q r ≡ Some value
    → (a : A) × (b : B) × (c : C) × (d : D) × (o ≡ Some a) × (p ≡ Some b) × (q ≡ Some c) × (r ≡ Some d) × (f a b c d ≡ value)
four_some f (Some a) p q r value e =
    let three = three_some (f a) p q r value e in
    (a, three.0, three.1, three.2, refl, three.3, three.4, three.5, three.6)
four_some f None p q r value e = cc

pub both : (a b : Bool) → (a && b) ≡ true → (a ≡ true) × (b ≡ true)
both true b h = (refl, h)
both false b h = cc

-- what stands beside a word is what the word names
pub choose_named : {X : Type 0} (name : X → List ℕ) (table : List (List ℕ × X)) (word : List ℕ) (x : X)
    → list_all (λ row. bytes_eq row.0 (name row.1)) table ≡ true → choose table word ≡ Some x → word ≡ name x
choose_named name [] word x h e = cc
choose_named name (row ∷ rows) word x h e =
    let p = both (bytes_eq row.0 (name row.1)) (list_all (λ row. bytes_eq row.0 (name row.1)) rows) h in
    elim (if_some (bytes_eq row.0 word) (Some row.1) (choose rows word) x e) [
      | inl is ↦
          let same : row.1 ≡ x = let found = is.1 in cc in
          sym (same_bytes row.0 word is.0) ∙ same_bytes row.0 (name row.1) p.0 ∙ ap name same
      | inr isnt ↦ choose_named name rows word x p.1 isnt.1
    ]

-- what stands beside a word is good where each row is
pub choose_good : {X : Type 0} (good : X → Type 0) (table : List (List ℕ × X)) (word : List ℕ) (x : X)
    → AllByRecursion (λ row. good row.1) table → choose table word ≡ Some x → good x
choose_good good [] word x h e = cc
choose_good good (row ∷ rows) word x h e = elim (if_some (bytes_eq row.0 word) (Some row.1) (choose rows word) x e) [
  | inl is ↦
      let same : row.1 ≡ x = let found = is.1 in cc in
      subst good same h.0
  | inr isnt ↦ choose_good good rows word x h.1 isnt.1
]

pub find_passes : {X : Type 0} (test : X → Bool) (xs : List X) (x : X) → find test xs ≡ Some x → test x ≡ true
find_passes test [] x e = cc
find_passes test (y ∷ ys) x e = elim (if_some (test y) (Some y) (find test ys) x e) [
  | inl is ↦
      let same : y ≡ x = let found = is.1 in cc in
      ap test (sym same) ∙ is.0
  | inr isnt ↦ find_passes test ys x isnt.1
]

pub unread : {A : Type 0} (why : Fault) (reading : Option A) → IsBad why → reading ≡ None → IsReading {A = A} (Err why) reading
unread {A = A} why reading bad none = subst (λ other. IsReading {A = A} (Err other) reading) (sym bad) none
