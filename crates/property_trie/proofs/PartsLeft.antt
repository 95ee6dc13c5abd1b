-- The parts of a text: the first one, and those behind its dot.
use Rattle.std.proofs.Common.{◌≡◌, ◌≢◌, ℕ, suc, eq-eqb, ◌+◌, ◌≤◌, not, Bool, true, false, cond, nat_lt, ◌==◌, List, [], ◌∷◌, take, drop, length, Some, None, sym, refl, ap, ◌∙◌, subst, arith, if◌then◌else◌}
use Rattle.std.specs.Option.{unwrap_or}
use Rattle.std.specs.List.{position, position_or_len}
use Rattle.std.proofs.Math.Dec.{eqb-suc-suc, eqb-zero-suc}
use Rattle.std.proofs.lemmas.Bool.{eqb-true}
use Rattle.std.proofs.lemmas.Bool.Decides.{nat_tests}
use Rattle.std.proofs.lemmas.List.{length-drop, drop-drop}
use Rattle.property_trie.specs.Parts.{onto_first, parts_of, parts_behind}

abbrev is_dot : ℕ → Bool
is_dot b = b == 46

-- how many bytes stand before the first dot
abbrev pub dot_at : List ℕ → ℕ
dot_at rest = position_or_len is_dot rest

dot_within : (rest : List ℕ) → dot_at rest ≤ length rest
dot_within [] = omega arith
dot_within (b ∷ rest) = let r = dot_within rest in
    elim (b == 46) as (λ t. (b == 46) ≡ t → dot_at (b ∷ rest) ≤ length (b ∷ rest)) [
      | true ↦ λ e. rw e (omega arith)
      | false ↦ λ e. rw e (omega arith)
    ] refl

-- the place of the first dot, else the length
pub dot_or_end : (rest : List ℕ) → unwrap_or (position is_dot rest) (length rest) ≡ dot_at rest
dot_or_end rest = let within = dot_within rest in chosen (dot_at rest) (length rest) within
  where
    chosen : (n m : ℕ) → n ≤ m → unwrap_or (cond (nat_lt n m) (Some n) None) m ≡ n
    chosen n m le = grind (arith, nat_tests)

behind_suc : (n : ℕ) (b : ℕ) (rest : List ℕ) → parts_behind (suc n) (b ∷ rest) ≡ parts_behind n rest
behind_suc n b rest = let e : suc n + 1 ≡ suc (n + 1) = omega arith in
    ap (λ (k : ℕ). if suc n == length (b ∷ rest) then [] else parts_of (drop k (b ∷ rest))) e
    ∙ ap (λ (t : Bool). if t then [] else parts_of (drop (n + 1) rest)) (eqb-suc-suc n (length rest))

drop_one : (b : ℕ) (rest : List ℕ) → drop (0 + 1) (b ∷ rest) ≡ rest
drop_one b rest = refl

-- the first part ends at the first dot
first_part_is : (rest : List ℕ) → parts_of rest ≡ take (dot_at rest) rest ∷ parts_behind (dot_at rest) rest
first_part_is [] = refl
first_part_is (b ∷ rest) =
    let more : suc (dot_at rest) ≡ 1 + dot_at rest = omega arith in
    elim (b == 46) as (λ t. (if t then [] ∷ parts_of rest else onto_first b (parts_of rest))
    ≡ take (cond (not t) (1 + dot_at rest) 0) (b ∷ rest) ∷ parts_behind (cond (not t) (1 + dot_at rest) 0) (b ∷ rest)) [
      | true ↦ ap (λ (t : Bool). [] ∷ (if t then [] else parts_of rest)) (sym (eqb-zero-suc (length rest)))
      | false ↦ ap (onto_first b) (first_part_is rest) ∙ ap (λ (ps : List (List ℕ)). (b ∷ take (dot_at rest) rest) ∷ ps) (sym (behind_suc (dot_at rest) b rest))
          ∙ ap (λ (k : ℕ). take k (b ∷ rest) ∷ parts_behind k (b ∷ rest)) more
    ]

-- it has n bytes where the first dot stands at byte n, or none stands and there are n bytes
pub part_to_dot : (rest : List ℕ) (n : ℕ) → dot_at rest ≡ n → parts_of rest ≡ take n rest ∷ parts_behind n rest
part_to_dot rest n is = subst (λ (k : ℕ). parts_of rest ≡ take k rest ∷ parts_behind k rest) is (first_part_is rest)

-- so it has as many bytes as stand before the first dot
pub first_part : (rest : List ℕ) (n : ℕ) → n ≡ unwrap_or (position is_dot rest) (length rest) → parts_of rest ≡ take n rest ∷ parts_behind n rest
first_part rest n is = subst (λ (k : ℕ). parts_of rest ≡ take k rest ∷ parts_behind k rest) (sym (is ∙ dot_or_end rest)) (first_part_is rest)

pub first_within : (rest : List ℕ) (n : ℕ) → n ≡ unwrap_or (position is_dot rest) (length rest) → n ≤ length rest
first_within rest n is = let d = dot_within rest in let e = is ∙ dot_or_end rest in omega arith

not_same : (n m : ℕ) → n ≢ m → (n == m) ≡ false
not_same n m other = elim (n == m) as (λ t. (n == m) ≡ t → t ≡ false) [
  | true ↦ λ e. absurd (other (eqb-true n m e))
  | false ↦ λ e. refl
] refl

-- behind a dot stand the parts of what is behind it
pub more_parts : (name : List ℕ) (from n : ℕ) → from ≤ length name → from + n ≢ length name → parts_behind n (drop from name) ≡ parts_of (drop (from + n + 1) name)
more_parts name from n within more =
    let long = length-drop from name in
    let other : n ≢ length (drop from name) = λ e. more (omega arith) in
    let e : from + (n + 1) ≡ from + n + 1 = omega arith in
    ap (λ (t : Bool). if t then [] else parts_of (drop (n + 1) (drop from name))) (not_same n (length (drop from name)) other)
    ∙ ap parts_of (drop-drop (n + 1) from name ∙ ap (λ (k : ℕ). drop k name) e)

-- where no byte is left behind the part, it is the last one
pub last_part : (name : List ℕ) (from n : ℕ) → from ≤ length name → from + n ≡ length name → parts_behind n (drop from name) ≡ []
last_part name from n within all =
    let long = length-drop from name in
    let same : n ≡ length (drop from name) = omega arith in
    ap (λ (t : Bool). if t then [] else parts_of (drop (n + 1) (drop from name))) (eq-eqb n (length (drop from name)) same)
