-- What the actors give back, one after another.
use Rattle.std.proofs.Common.{◌≡◌, ℕ, suc, ◌<◌, List, [], ◌∷◌, ◌++◌, length, get_or, Option, Some, Result, Ok, Err, IfOk, OnOk, IfSome, IsSomeAnd, refl, sym, ap, ◌∙◌, subst, arith}
use Rattle.std.proofs.lemmas.List.{append_assoc, map-append}
use Rattle.property_area.specs.Seats.{Seated}
use Rattle.script_lang.specs.declared.script.Script.{Script}
use Rattle.init_race.specs.Acting.{IsThrough}
use Rattle.init_race.specs.Threads.{EachThrough, somes}
use Rattle.init_race.specs.declared.actors.Acted.{Acted}

pub if_ok : {T E : Type 0} (P Q : T → Type 0) (r : Result T E) → ((x : T) → P x → Q x) → IfOk r P → IfOk r Q
if_ok P Q (Ok x) step holds = step x holds
if_ok P Q (Err e) step holds = tt

pub at_ok : {T E : Type 0} (P : Type 0) (r : Result T E) (x : T) → r ≡ Ok x → OnOk r P → P
at_ok {T} {E} P r x is holds = subst (λ (a : Result T E). OnOk a P) is holds

pub at_some : {T : Type 0} (P : T → Type 0) (o : Option T) (x : T) → o ≡ Some x → IsSomeAnd o P → P x
at_some {T} P o x is holds = subst (λ (a : Option T). IsSomeAnd a P) is holds

pub some_added : (all : List Acted) (one : Acted) → somes (all ++ one ∷ []) ≡ somes all ++ Some one ∷ []
some_added all one = map-append (λ x. Some x) all (one ∷ [])

-- one more is there
pub one_there : (all all' : List Acted) (option : Option Acted) (left rest whole : List (Option Acted)) → somes all ++ left ≡ whole
    → left ≡ option ∷ rest → somes all' ≡ somes all ++ option ∷ [] → somes all' ++ rest ≡ whole
one_there all all' option left rest whole so_far split added =
    ap (λ (done : List (Option Acted)). done ++ rest) added
    ∙ append_assoc (somes all) (option ∷ []) rest
    ∙ ap (λ (more : List (Option Acted)). somes all ++ more) (sym split)
    ∙ so_far

some_at : (script : Script) (reader : Seated) (one : Acted) (option : Option Acted) → option ≡ Some one
    → IfSome option (λ acted. IsThrough script reader acted.reader acted.readings) → IsThrough script reader one.reader one.readings
some_at script reader one option is through =
    subst (λ (o : Option Acted). IfSome o (λ acted. IsThrough script reader acted.reader acted.readings)) is through

-- each actor that came back is through its part
pub each_through : (script : Script) (readers : List Seated) (all : List Acted) (done : List (Option Acted)) → somes all ≡ done → length done ≡ length readers
    → ((k : ℕ) (reader : Seated) (option : Option Acted) → k < length readers → reader ≡ get_or readers k reader → option ≡ get_or done k option
    → IfSome option (λ acted. IsThrough script reader acted.reader acted.readings))
    → EachThrough script readers all
each_through script [] [] done is many each = tt
each_through script [] (one ∷ all) [] is many each = let bad : Some one ∷ somes all ≡ [] = is in cc
each_through script [] (one ∷ all) (o ∷ done) is many each = absurd (omega arith)
each_through script (r ∷ readers) [] [] is many each = absurd (omega arith)
each_through script (r ∷ readers) [] (o ∷ done) is many each = let bad : [] ≡ o ∷ done = is in cc
each_through script (r ∷ readers) (one ∷ all) [] is many each = absurd (omega arith)
each_through script (r ∷ readers) (one ∷ all) (o ∷ done) is many each =
    let same : Some one ∷ somes all ≡ o ∷ done = is in
    let first : o ≡ Some one = cc in
    let rest : somes all ≡ done = cc in (
      some_at script r one o first (each 0 r o (omega arith) refl refl),
      each_through script readers all done rest (omega arith) (λ k reader option within at there. each (suc k) reader option (omega arith) at there),
    )
