-- Tests that hold.
use Rattle.std.proofs.Common.{◌≡◌, Bool, true, false, not, ◌&&◌, ◌||◌, refl}

pub left_holds : (a b : Bool) → (a && b) ≡ true → a ≡ true
left_holds true b both = refl
left_holds false b both = both

pub right_holds : (a b : Bool) → (a && b) ≡ true → b ≡ true
right_holds true b both = both
right_holds false b both = absurd (cc)

pub both_hold : (a b : Bool) → a ≡ true → b ≡ true → (a && b) ≡ true
both_hold true b left right = right
both_hold false b left right = left

pub or_second : (a b : Bool) → b ≡ true → (a || b) ≡ true
or_second true b holds = refl
or_second false b holds = holds

pub fails_not : (b : Bool) → not b ≡ true → b ≡ false
fails_not true holds = absurd (cc)
fails_not false holds = refl

pub neither_first : (a b : Bool) → (a || b) ≡ false → a ≡ false
neither_first true b none = none
neither_first false b none = refl

pub neither_second : (a b : Bool) → (a || b) ≡ false → b ≡ false
neither_second true b none = absurd (cc)
neither_second false b none = none
