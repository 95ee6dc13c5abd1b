-- A name is known by its parts; and how many parts two names begin with alike, by their bytes.
use Rattle.std.proofs.Common.{◌≡◌, ℕ, ◌+◌, Bool, true, false, ◌==◌, List, [], ◌∷◌, ◌++◌, sym, refl, ap, ◌∙◌, subst, ⊎_elim, arith, if◌then◌else◌}
use Rattle.std.specs.Str.{bytes_eq}
use Rattle.std.proofs.lemmas.Bool.{cases_Bool, eqb-true}
use Rattle.std.proofs.lemmas.Bool.Decides.{nat_tests}
use Rattle.std.proofs.lemmas.Slice.Eq.{bytes_eq-Decides}
use Rattle.property_trie.specs.Shared.{shared}
use Rattle.property_trie.specs.Parts.{onto_first, parts_of}
use Rattle.property_trie.specs.Tree.{alike}
use Rattle.property_trie.proofs.Growth.{alike_none, alike_one}

abbrev Parts : Type 0
Parts = List (List ℕ)

abbrev pub HasFirstPart : Parts → Type 0
HasFirstPart parts = (p : List ℕ) × (ps : Parts) × (parts ≡ p ∷ ps)

-- a name has a first part
pub first_part : (name : List ℕ) → HasFirstPart (parts_of name)
first_part [] = ([], [], refl)
first_part (b ∷ rest) = let first = first_part rest in
    elim (b == 46) as (λ t. HasFirstPart (if t then [] ∷ parts_of rest else onto_first b (parts_of rest))) [
      | true ↦ ([], parts_of rest, refl)
      | false ↦ (b ∷ first.0, first.1, ap (onto_first b) first.2)
    ]

-- the parts with dots between them
joined : Parts → List ℕ
joined [] = []
joined (p ∷ []) = p
joined (p ∷ q ∷ qs) = p ++ 46 ∷ joined (q ∷ qs)

joined-onto : (b : ℕ) (p : List ℕ) (ps : Parts) → joined ((b ∷ p) ∷ ps) ≡ b ∷ joined (p ∷ ps)
unfolding joined
joined-onto b p [] = refl
joined-onto b p (q ∷ qs) = refl

joined-dot : (ps : Parts) → HasFirstPart ps → joined ([] ∷ ps) ≡ 46 ∷ joined ps
unfolding joined
joined-dot [] first = absurd (let e = first.2 in cc)
joined-dot (q ∷ qs) first = refl

joined-parts : (name : List ℕ) → joined (parts_of name) ≡ name
unfolding joined
joined-parts [] = refl
joined-parts (b ∷ rest) =
    let whole = joined-parts rest in
    let first = first_part rest in
    elim (b == 46) as (λ t. (b == 46) ≡ t → joined (if t then [] ∷ parts_of rest else onto_first b (parts_of rest)) ≡ b ∷ rest) [
      | true ↦ λ e. joined-dot (parts_of rest) first ∙ (λ i. sym (eqb-true b 46 e) i ∷ whole i)
      | false ↦ λ e. ap (λ (ps : Parts). joined (onto_first b ps)) first.2 ∙ (joined-onto b first.0 first.1 ∙ ap (λ (n : List ℕ). b ∷ n) (sym (ap joined first.2) ∙ whole))
    ] refl

-- two names with the same parts are one
pub same_name : (name other : List ℕ) → parts_of name ≡ parts_of other → name ≡ other
same_name name other same = sym (joined-parts name) ∙ (ap joined same ∙ joined-parts other)

alike_nothing : (ps : Parts) → alike ps [] ≡ 0
alike_nothing [] = refl
alike_nothing (p ∷ ps) = refl

pub alike_self : (p : List ℕ) (ps : Parts) → alike (p ∷ ps) (p ∷ ps) ≡ 1 + alike ps ps
alike_self p ps = alike_one p p ps ps refl

alike_onto : (b : ℕ) (p q : List ℕ) (ps qs : Parts) → alike ((b ∷ p) ∷ ps) ((b ∷ q) ∷ qs) ≡ alike (p ∷ ps) (q ∷ qs)
alike_onto b p q ps qs = ⊎_elim
    (λ (same : bytes_eq q p ≡ true).
    let is : q ≡ p = (bytes_eq-Decides q p).0 same in
    alike_one (b ∷ p) (b ∷ q) ps qs (ap (λ (x : List ℕ). b ∷ x) is) ∙ sym (alike_one p q ps qs is))
    (λ (differs : bytes_eq q p ≡ false).
    let other : q ≡ p → ⊥ = λ is. let t : bytes_eq q p ≡ true = (bytes_eq-Decides q p).1 is in cc in
    alike_none (b ∷ p) (b ∷ q) ps qs (λ is. other (cc)) ∙ sym (alike_none p q ps qs other))
    (cases_Bool (bytes_eq q p))

alike_onto_first : (b : ℕ) (ps qs : Parts) → HasFirstPart ps → HasFirstPart qs → alike (onto_first b ps) (onto_first b qs) ≡ alike ps qs
alike_onto_first b ps qs f g =
    subst (λ (x : Parts × Parts). alike (onto_first b x.0) (onto_first b x.1) ≡ alike x.0 x.1) (λ i. (sym f.2 i, sym g.2 i)) (alike_onto b f.0 g.0 f.1 g.1)

-- a first part with a byte is another than one without, or with another byte in front
onto_empty : (b : ℕ) (ps qs : Parts) → HasFirstPart qs → alike ([] ∷ ps) (onto_first b qs) ≡ 0
onto_empty b ps qs g =
    subst (λ (x : Parts). alike ([] ∷ ps) (onto_first b x) ≡ 0) (sym g.2) (alike_none [] (b ∷ g.0) ps g.1 (λ e. cc))

empty_onto : (c : ℕ) (ps qs : Parts) → HasFirstPart ps → alike (onto_first c ps) ([] ∷ qs) ≡ 0
empty_onto c ps qs f =
    subst (λ (x : Parts). alike (onto_first c x) ([] ∷ qs) ≡ 0) (sym f.2) (alike_none (c ∷ f.0) [] f.1 qs (λ e. cc))

onto_other : (c b : ℕ) (ps qs : Parts) → HasFirstPart ps → HasFirstPart qs → (b ≡ c → ⊥) → alike (onto_first c ps) (onto_first b qs) ≡ 0
onto_other c b ps qs f g other =
    subst (λ (x : Parts × Parts). alike (onto_first c x.0) (onto_first b x.1) ≡ 0) (λ i. (sym f.2 i, sym g.2 i))
    (alike_none (c ∷ f.0) (b ∷ g.0) f.1 g.1 (λ e. other (cc)))

abbrev chosen : Bool → ℕ → Parts → Parts
chosen t b ps = if t then [] ∷ ps else onto_first b ps

alike_ended : (c : ℕ) (ps : Parts) (t : Bool) → HasFirstPart ps → alike (chosen t c ps) ([] ∷ []) ≡ (if t then 1 else 0)
alike_ended c ps true f = alike_one [] [] ps [] refl ∙ ap (λ n. 1 + n) (alike_nothing ps)
alike_ended c ps false f = empty_onto c ps [] f

alike_end : (b : ℕ) (qs : Parts) (t : Bool) → HasFirstPart qs → alike ([] ∷ []) (chosen t b qs) ≡ (if t then 1 else 0)
alike_end b qs true g = alike_one [] [] [] qs refl
alike_end b qs false g = onto_empty b [] qs g

alike_on : (b : ℕ) (ps qs : Parts) (t : Bool) (n : ℕ) → HasFirstPart ps → HasFirstPart qs → alike ps qs ≡ n → alike (chosen t b ps) (chosen t b qs) ≡ (if t then 1 else 0) + n
alike_on b ps qs true n f g e = alike_one [] [] ps qs refl ∙ ap (λ m. 1 + m) e
alike_on b ps qs false n f g e = alike_onto_first b ps qs f g ∙ (e ∙ omega arith)

alike_apart : (c b : ℕ) (ps qs : Parts) (u t : Bool) → HasFirstPart ps → HasFirstPart qs → (b ≡ c → ⊥) → (c == 46) ≡ u → (b == 46) ≡ t → alike (chosen u c ps) (chosen t b qs) ≡ 0
alike_apart c b ps qs true true f g other u t = absurd (other (eqb-true b 46 t ∙ sym (eqb-true c 46 u)))
alike_apart c b ps qs true false f g other u t = onto_empty b ps qs g
alike_apart c b ps qs false true f g other u t = empty_onto c ps qs f
alike_apart c b ps qs false false f g other u t = onto_other c b ps qs f g other

-- by the bytes
pub alike-shared : (name other : List ℕ) → alike (parts_of other) (parts_of name) ≡ shared name other
alike-shared [] [] = alike_one [] [] [] [] refl
alike-shared [] (c ∷ other) = alike_ended c (parts_of other) (c == 46) (first_part other)
alike-shared (b ∷ name) [] = alike_end b (parts_of name) (b == 46) (first_part name)
alike-shared (b ∷ name) (c ∷ other) =
    let rest = alike-shared name other in
    elim (b == c) as (λ t. (b == c) ≡ t → alike (parts_of (c ∷ other)) (parts_of (b ∷ name)) ≡ (if t then (if b == 46 then 1 else 0) + shared name other else 0)) [
      | true ↦ λ e. subst (λ (x : ℕ). alike (parts_of (x ∷ other)) (parts_of (b ∷ name)) ≡ (if b == 46 then 1 else 0) + shared name other) (eqb-true b c e)
          (alike_on b (parts_of other) (parts_of name) (b == 46) (shared name other) (first_part other) (first_part name) rest)
      | false ↦ λ e. alike_apart c b (parts_of other) (parts_of name) (c == 46) (b == 46) (first_part other) (first_part name) (λ is. absurd (grind (arith, nat_tests))) refl refl
    ] refl
