-- Numbers of few digits.
use Rattle.std.proofs.Common.{ℕ, ◌+◌, ◌*◌, ◌<◌, ◌≤◌, ◌^◌, arith, lit<}
use Rattle.std.proofs.Math.Nat.{pow-le-pow_right}

-- nineteen digits and one more give at most twenty digits
pub at_most_twenty_digits : (number i : ℕ) → number < 10 ^ i → i < 20 → number * 10 + 9 < 100000000000000000000
at_most_twenty_digits number i low few =
    let most : 10 ^ i ≤ 10 ^ 19 = pow-le-pow_right {n = 10} (lit< tt) {i = i} {j = 19} (omega arith) in
    omega arith
