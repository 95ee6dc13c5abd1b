-- What is told, and what `?` answers.
use Rattle.std.proofs.Common.{◌≡◌, Option, Some, None, Result, Ok, Err, refl, sym, subst}
use Rattle.std.specs.Prelude.{IfSome, IsErr, IsErrAnd, OnOk}

pub told : {A : Type 0} (P : A → Type 0) (o : Option A) (x : A) → o ≡ Some x → IfSome o P → P x
told P o x is holds = subst (λ v. IfSome v P) is holds

pub if_told : {A : Type 0} (P : A → Type 0) (o : Option A) → ((x : A) → o ≡ Some x → P x) → IfSome o P
if_told P None holds = tt
if_told P (Some x) holds = holds x refl

pub err_is : {T E : Type 0} (P : Result T E → Type 0) (r : Result T E) (why : E)
    → IsErr r × IsErrAnd r (λ e. e ≡ why) → P (Err why) → P r
err_is P (Ok value) why gives holds = absurd gives.1
err_is P (Err e) why gives holds = subst (λ x. P (Err x)) (sym gives.1) holds

pub on_ok : {T E : Type 0} (P Q : Type 0) (r : Result T E) → OnOk r P → (P → Q) → OnOk r Q
on_ok P Q (Ok value) holds then = then holds
on_ok P Q (Err e) holds then = tt
