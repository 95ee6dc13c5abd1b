-- Values out of an option.
use Rattle.std.proofs.Common.{◌≡◌, Some, None}

pub none_is_no_value : {T : Type 0} (x : T) → None ≡ Some x → ⊥
none_is_no_value x same = cc

pub value_is_none : {T : Type 0} (x : T) → Some x ≡ None → ⊥
value_is_none x same = cc

pub same_value : {T : Type 0} (x y : T) → Some x ≡ Some y → x ≡ y
same_value x y same = cc
