-- What holds of an answer.
use Rattle.std.proofs.Common.{◌≡◌, Bool, true, false, not, ◌&&◌, IfOk, OnOk, OnErr, Result, Ok, Err, refl}
use Rattle.std.specs.Result.{is_err}

pub if_ok : {T E : Type 0} (P Q : T → Type 0) (r : Result T E) → ((x : T) → P x → Q x) → IfOk r P → IfOk r Q
if_ok P Q (Ok x) more h = more x h
if_ok P Q (Err y) more h = tt

pub on_ok : {T E : Type 0} (P : Type 0) (r : Result T E) → is_err r ≡ false → OnOk r P → P
on_ok P (Ok x) e h = h
on_ok P (Err y) e h = cc

pub on_err : {T E : Type 0} (P : Type 0) (r : Result T E) → is_err r ≡ true → OnErr r P → P
on_err P (Ok x) e h = cc
on_err P (Err y) e h = h

pub not_and : (a b c : Bool) → b ≡ false → (not (a && b) && c) ≡ c
not_and true true c e = cc
not_and true false c e = refl
not_and false b c e = refl
