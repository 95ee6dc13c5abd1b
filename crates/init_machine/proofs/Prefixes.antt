-- The dotted prefixes of a name, the shortest first: they differ from each other.
use Rattle.std.proofs.Common.{◌≡◌, ℕ, true, false, ◌==◌, List, [], ◌∷◌, ◌++◌, map, refl, sym, ap, ◌∙◌, arith, if◌then◌else◌, append_assoc}
use Rattle.std.proofs.lemmas.List.{append-nil}
use Rattle.std.proofs.lemmas.Bool.Decides.{nat_tests}
use Rattle.init_machine.specs.Words.{is_among, prefixes_from, prefixes_of}
use Rattle.init_machine.proofs.DistinctSums.{IsSet}

abbrev pub parts : List ℕ → List (List ℕ)
parts [] = [] ∷ []
parts (b ∷ rest) = if b == 46 then [] ∷ map (λ p. b ∷ p) (parts rest) else map (λ p. b ∷ p) (parts rest)

moved : (front : List ℕ) (b : ℕ) (ps : List (List ℕ)) → map (λ p. (front ++ b ∷ []) ++ p) ps ≡ map (λ p. front ++ p) (map (λ p. b ∷ p) ps)
moved front b [] = refl
moved front b (p ∷ ps) = grind (arith, append_assoc front (b ∷ []) p, moved front b ps)

prefixes_from-is : (front rest : List ℕ) → prefixes_from front rest ≡ map (λ p. front ++ p) (parts rest)
prefixes_from-is front [] = ap (λ p. p ∷ []) (sym (append-nil front))
prefixes_from-is front (b ∷ rest) =
    let e : prefixes_from (front ++ b ∷ []) rest ≡ map (λ p. front ++ p) (map (λ p. b ∷ p) (parts rest)) = prefixes_from-is (front ++ b ∷ []) rest ∙ moved front b (parts rest) in
    elim (b == 46) as (λ t. (if t then front ∷ prefixes_from (front ++ b ∷ []) rest else prefixes_from (front ++ b ∷ []) rest)
    ≡ map (λ p. front ++ p) (if t then [] ∷ map (λ p. b ∷ p) (parts rest) else map (λ p. b ∷ p) (parts rest))) [
      | true ↦ rw (e, append-nil) refl
      | false ↦ e
    ]

map-same : (ps : List (List ℕ)) → map (λ p. p) ps ≡ ps
map-same [] = refl
map-same (p ∷ ps) = ap (λ qs. p ∷ qs) (map-same ps)

pub prefixes-are : (name : List ℕ) → prefixes_of name ≡ parts name
prefixes-are name = prefixes_from-is [] name ∙ map-same (parts name)

pub among-longer : (b : ℕ) (ps : List (List ℕ)) → is_among (map (λ p. b ∷ p) ps) [] ≡ false
among-longer b [] = refl
among-longer b (p ∷ ps) = among-longer b ps

pub among-same : (b : ℕ) (ps : List (List ℕ)) (z : List ℕ) → is_among (map (λ p. b ∷ p) ps) (b ∷ z) ≡ is_among ps z
among-same b [] z = refl
among-same b (p ∷ ps) z = grind (arith, nat_tests, among-same b ps z)

set-map : (b : ℕ) (ps : List (List ℕ)) → IsSet ps → IsSet (map (λ p. b ∷ p) ps)
set-map b [] set = tt
set-map b (p ∷ ps) set = (among-same b ps p ∙ set.0, set-map b ps set.1)

-- the prefixes of one name differ from each other
pub set-parts : (name : List ℕ) → IsSet (parts name)
set-parts [] = (refl, tt)
set-parts (b ∷ rest) =
    let longer = set-map b (parts rest) (set-parts rest) in
    elim (b == 46) as (λ t. IsSet (if t then [] ∷ map (λ p. b ∷ p) (parts rest) else map (λ p. b ∷ p) (parts rest))) [
      | true ↦ (among-longer b (parts rest), longer)
      | false ↦ longer
    ]
