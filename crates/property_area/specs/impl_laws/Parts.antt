-- The parts of a legal name are short texts.
use Rattle.std.proofs.Common.{◌≡◌, ℕ, zero, suc, ◌<◌, ◌≤◌, IsTrue, Bool, true, false, ◌&&◌, ◌==◌, nat_le, List, [], ◌∷◌, length, drop, get_or, refl, subst, arith}
use Rattle.std.specs.Prelude.{if◌then◌else◌}
use Rattle.std.specs.List.{list_all}
use Rattle.std.proofs.lemmas.Bool.Decides.{nat_tests}
use Rattle.init_base.specs.Name.{LegalName, is_name_byte, has_only_lone_dots}
use Rattle.property_trie.specs.Parts.{parts_of, onto_first}
use Rattle.property_trie.specs.TrieSteps.{IsShortText}
use Rattle.init_machine.proofs.LegalNames.{legal_short}

abbrev Parts : Type 0
Parts = List (List ℕ)

abbrev AreBytes : List ℕ → Type 0
AreBytes text = (i : ℕ) → get_or text i 0 < 256

-- each part is of at most n bytes
abbrev Each : ℕ → Parts → Type 0
Each n [] = Unit {0}
Each n (p ∷ ps) = (length p ≤ n) × AreBytes p × Each n ps

each_longer : (n m : ℕ) (ps : Parts) → n ≤ m → Each n ps → Each m ps
each_longer n m [] le h = tt
each_longer n m (p ∷ ps) le h = (let a = h.0 in omega arith, h.1, each_longer n m ps le h.2)

no_bytes : AreBytes []
no_bytes i = omega arith

more_bytes : (b : ℕ) (p : List ℕ) → b < 256 → AreBytes p → AreBytes (b ∷ p)
more_bytes b p small h zero = small
more_bytes b p small h (suc i) = h i

each_onto : (b n : ℕ) (ps : Parts) → b < 256 → Each n ps → Each (suc n) (onto_first b ps)
each_onto b n [] small h = (omega arith, more_bytes b [] small no_bytes, tt)
each_onto b n (p ∷ ps) small h = (let a = h.0 in omega arith, more_bytes b p small h.1, each_longer n (suc n) ps (omega arith) h.2)

parts_each : (name : List ℕ) → AreBytes name → Each (length name) (parts_of name)
parts_each [] bytes = (omega arith, no_bytes, tt)
parts_each (b ∷ rest) bytes =
    let behind = parts_each rest (λ i. bytes (suc i)) in
    elim (b == 46) as (λ t. Each (suc (length rest)) (if t then [] ∷ parts_of rest else onto_first b (parts_of rest))) [
      | true ↦ (omega arith, no_bytes, each_longer (length rest) (suc (length rest)) (parts_of rest) (omega arith) behind)
      | false ↦ each_onto b (length rest) (parts_of rest) (bytes 0) behind
    ]

each_drop : (n k : ℕ) (ps : Parts) → Each n ps → Each n (drop k ps)
each_drop n zero ps h = h
each_drop n (suc k) [] h = tt
each_drop n (suc k) (p ∷ ps) h = each_drop n k ps h.2

byte_small : (b : ℕ) → is_name_byte b ≡ true → b < 256
byte_small b is = grind (arith, nat_tests)

both : (a b : Bool) → (a && b) ≡ true → (a ≡ true) × (b ≡ true)
both true true e = (refl, refl)
both true false e = absurd (cc)
both false b e = absurd (cc)

all_bytes : (name : List ℕ) → list_all is_name_byte name ≡ true → AreBytes name
all_bytes [] all = no_bytes
all_bytes (b ∷ rest) all = let t = both (is_name_byte b) (list_all is_name_byte rest) all in more_bytes b rest (byte_small b t.0) (all_bytes rest t.1)

named : (a b c d : Bool) → IsTrue (a && b && c && d) → c ≡ true
named true true true true h = refl
named true true true false h = refl
named true true false d h = absurd (cc)
named true false c d h = absurd (cc)
named false b c d h = absurd (cc)

pub legal_bytes : (name : List ℕ) → LegalName name → AreBytes name
legal_bytes name legal = all_bytes name (named (nat_le 1 (length name)) (nat_le (length name) 255) (list_all is_name_byte name) (has_only_lone_dots name) legal)

first_each : (n : ℕ) (ps : Parts) (p : List ℕ) (qs : Parts) → ps ≡ p ∷ qs → Each n ps → (length p ≤ n) × AreBytes p
first_each n ps p qs is h = let e = subst (Each n) is h in (e.0, e.1)

-- a part of a legal name that is still to be linked
pub part_short : (name : List ℕ) → LegalName name → (k j : ℕ) (p : List ℕ) (qs : Parts) → drop k (drop j (parts_of name)) ≡ p ∷ qs → IsShortText p
part_short name legal k j p qs is =
    let e = first_each (length name) (drop k (drop j (parts_of name))) p qs is
    (each_drop (length name) k (drop j (parts_of name)) (each_drop (length name) j (parts_of name) (parts_each name (legal_bytes name legal)))) in
    let short = legal_short name legal in
    let within = e.0 in
    record { short = omega arith; bytes = e.1 }
