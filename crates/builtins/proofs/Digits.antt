-- Numbers of few digits.
use Rattle.std.proofs.Common.{ℕ, ◌+◌, ◌*◌, ◌<◌, ◌≤◌, ◌^◌, arith, lit<}
use Rattle.std.proofs.Math.Nat.{pow-le-pow_right}

-- five octal digits and one more give at most six octal digits
pub at_most_six_digits : (number i : ℕ) → number < 8 ^ i → i < 6 → number * 8 + 7 < 262144
at_most_six_digits number i low few =
    let most : 8 ^ i ≤ 8 ^ 5 = pow-le-pow_right {n = 8} (lit< tt) {i = i} {j = 5} (omega arith) in
    omega arith
