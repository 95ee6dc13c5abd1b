-- Bytes that lack one of a value.
use Rattle.std.proofs.Common.{◌≡◌, ℕ, suc, ◌+◌, Bool, true, false, not, cond, ◌==◌, None, List, [], ◌∷◌, length, take, position, refl, ap, sym, ◌∙◌, arith}
use Rattle.std.specs.List.{list_all, prefix_len}
use Rattle.std.proofs.Math.Seq.{take-length}
use Rattle.std.proofs.lemmas.List.Sums.{prefix_len-le-length}

pub front_passes : (q : ℕ → Bool) (xs : List ℕ) → list_all q (take (prefix_len q xs) xs) ≡ true
front_passes q [] = refl
front_passes q (b ∷ rest) = by (q b) refl (front_passes q rest)
  where
    by : (v : Bool) → q b ≡ v → list_all q (take (prefix_len q rest) rest) ≡ true → list_all q (take (cond v (1 + prefix_len q rest) 0) (b ∷ rest)) ≡ true
    by true e more =
        let one : 1 + prefix_len q rest ≡ suc (prefix_len q rest) = omega arith in
        rw (one, e) more
    by false e more = refl

-- a byte that has no place isn't there
pub lacks_unplaced : (c : ℕ) (xs : List ℕ) → position (λ b. b == c) xs ≡ None → list_all (λ b. not (b == c)) xs ≡ true
lacks_unplaced c xs h =
    let all : prefix_len (λ b. not (b == c)) xs ≡ length xs = grind (arith, prefix_len-le-length (λ b. not (b == c)) xs) in
    ap (λ ys. list_all (λ b. not (b == c)) ys) (sym (ap (λ n. take n xs) all ∙ take-length xs)) ∙ front_passes (λ b. not (b == c)) xs
