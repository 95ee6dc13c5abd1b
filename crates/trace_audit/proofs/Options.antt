-- What is said of a value that may be there.
use Rattle.std.proofs.Common.{◌≡◌, ◌<◌, List, [], ◌∷◌, length, arith, Bool, true, false, not, Option, Some, None, MatchOption, is_some, refl, sym, subst}

pub some_is : {X : Type 0} (o : Option X) (A : Type 0) (P : X → Type 0) (x : X) → MatchOption o A P → o ≡ Some x → P x
some_is {X} o A P x met is = subst (λ (p : Option X). MatchOption p A P) is met

pub none_is : {X : Type 0} (o : Option X) (A : Type 0) (P : X → Type 0) → MatchOption o A P → o ≡ None → A
none_is {X} o A P met is = subst (λ (p : Option X). MatchOption p A P) is met

pub match_some : {X : Type 0} (o : Option X) (A : Type 0) (P : X → Type 0) (x : X) → o ≡ Some x → P x → MatchOption o A P
match_some {X} o A P x is holds = subst (λ (p : Option X). MatchOption p A P) (sym is) holds

pub match_none : {X : Type 0} (o : Option X) (A : Type 0) (P : X → Type 0) → o ≡ None → A → MatchOption o A P
match_none {X} o A P is holds = subst (λ (p : Option X). MatchOption p A P) (sym is) holds

pub none_known : {X : Type 0} (o : Option X) (known : Bool) → is_some o ≡ not known → known ≡ true → o ≡ None
none_known None known is none = refl
none_known (Some x) known is none = cc

pub some_known : {X : Type 0} (o : Option X) (known : Bool) → is_some o ≡ not known → known ≡ false → is_some o ≡ true
some_known None known is some = cc
some_known (Some x) known is some = refl

pub none_sure : {X : Type 0} (o : Option X) (known : Bool) → known ≡ is_some o → known ≡ false → o ≡ None
none_sure None known is none = refl
none_sure (Some x) known is none = cc

pub none_or_some : {X : Type 0} (o : Option X) → is_some o ≡ true → o ≡ None → ⊥
none_or_some None some none = cc
none_or_some (Some x) some none = cc

pub true_or_false : (b : Bool) → b ≡ true → b ≡ false → ⊥
true_or_false true h k = cc
true_or_false false h k = cc

pub some_items : {X : Type 0} (xs : List X) (b : Bool) → (xs ≡ [] → b ≡ true) → b ≡ false → 0 < length xs
some_items [] b empty filled = absurd (true_or_false b (empty refl) filled)
some_items (x ∷ xs) b empty filled = omega arith
