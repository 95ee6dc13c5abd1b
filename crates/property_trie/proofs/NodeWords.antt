-- The words of a name's nodes, by its bytes.
use Rattle.std.proofs.Common.{◌≡◌, ℕ, zero, suc, ◌+◌, ◌-◌, ◌/◌, true, false, ◌==◌, List, [], ◌∷◌, ◌++◌, map, sum, drop, refl, sym, ap, ◌∙◌, arith, zero-add, if◌then◌else◌}
use Rattle.std.proofs.Math.Seq.{drop-nil}
use Rattle.std.proofs.lemmas.Bool.Decides.{nat_tests}
use Rattle.init_machine.specs.Words.{prefixes_from, prefixes_of, last_part_from, node_words}
use Rattle.init_machine.proofs.DistinctSums.{total}
use Rattle.init_machine.proofs.Needs.{sum-total}

-- the words of the node of a part of n bytes, or none where some known ones are left
abbrev pub node_unless : ℕ → ℕ → ℕ
node_unless known n = if known == 0 then 5 + (n + 7) / 8 else 0

-- the words of the nodes that end in what is left of a name, where n bytes of a part went before
abbrev pub words_left : ℕ → ℕ → List ℕ → ℕ
words_left known n [] = node_unless known n
words_left known n (b ∷ rest) = if b == 46 then node_unless known n + words_left (known - 1) 0 rest else words_left known (n + 1) rest

last_part-append : (n : ℕ) (front : List ℕ) (b : ℕ) → last_part_from n (front ++ b ∷ []) ≡ (if b == 46 then 0 else last_part_from n front + 1)
last_part-append n [] b = refl
last_part-append n (c ∷ front) b = grind (arith, last_part-append 0 front b, last_part-append (n + 1) front b)

total-drop_cons : (w : List ℕ → ℕ) (known : ℕ) (p : List ℕ) (ps : List (List ℕ))
    → total w (drop known (p ∷ ps)) ≡ (if known == 0 then w p else 0) + total w (drop (known - 1) ps)
total-drop_cons w zero p ps = refl
total-drop_cons w (suc k) p ps =
    let e : suc k - 1 ≡ k = omega arith in
    let more : (suc k == 0) ≡ false = grind (arith, nat_tests) in
    sym (ap (λ m. (if suc k == 0 then w p else 0) + total w (drop m ps)) e ∙ ap (λ t. (if t then w p else 0) + total w (drop k ps)) more ∙ zero-add (total w (drop k ps)))

total-words_left : (known : ℕ) (front rest : List ℕ) → total node_words (drop known (prefixes_from front rest)) ≡ words_left known (last_part_from 0 front) rest
total-words_left known front [] = total-drop_cons node_words known front [] ∙ ap (λ ps. node_unless known (last_part_from 0 front) + total node_words ps) (drop-nil (known - 1)) ∙ omega arith
total-words_left known front (b ∷ rest) =
    let more : List ℕ = front ++ b ∷ [] in
    let last = last_part-append 0 front b in
    elim (b == 46) as (λ t. last_part_from 0 more ≡ (if t then 0 else last_part_from 0 front + 1)
    → total node_words (drop known (if t then front ∷ prefixes_from more rest else prefixes_from more rest))
    ≡ (if t then node_unless known (last_part_from 0 front) + words_left (known - 1) 0 rest else words_left known (last_part_from 0 front + 1) rest)) [
      | true ↦ λ e. total-drop_cons node_words known front (prefixes_from more rest)
          ∙ ap (λ n. node_unless known (last_part_from 0 front) + n) (total-words_left (known - 1) more rest ∙ ap (λ n. words_left (known - 1) n rest) e)
      | false ↦ λ e. total-words_left known more rest ∙ ap (λ n. words_left known n rest) e
    ] last

pub words_left_all : (known : ℕ) (name : List ℕ) → words_left known 0 name ≡ sum (map node_words (drop known (prefixes_of name)))
words_left_all known name = sym (total-words_left known [] name) ∙ sym (sum-total (drop known (prefixes_of name)))
