-- The first line of a store's text that doesn't fit.
use Rattle.std.proofs.Common.{◌≡◌, ℕ, ◌==◌, Bool, true, false, cond, Option, Some, None, Result, Ok, Err, List, MatchOption, IfOk, refl, sym, subst, ◌∙◌, eq-eqb}
use Rattle.std.specs.Prelude.{IfErr}
use Rattle.std.specs.Result.{result_err}
use Rattle.std.proofs.lemmas.Bool.{eqb-true, false≢true}
use Rattle.persist_file.specs.Causes.{IsRefused, IsUnfitAt}
use Rattle.persist_file.specs.declared.refusal.StoreCause.{StoreCause}
use Rattle.persist_file.specs.declared.refusal.StoreRefusal.{StoreRefusal}
use Rattle.refusal_causes.specs.Store.{fault_of, IsStoreFault}
use Rattle.refusal_causes.specs.declared.store.cause.StoreFault.{StoreFault}

pub is_told : (bytes : List ℕ) (number : ℕ) (why : StoreCause) (found : StoreFault) → IsUnfitAt bytes number why → found ≡ fault_of bytes number why → IsStoreFault bytes number found
is_told bytes number why found bad is = record { cause = why; bad = bad; fault_is = is }

-- the cause of a line, if it is this one
pub cause_there : (bytes : List ℕ) (line number : ℕ) (why : StoreCause) (found : Option StoreCause) → IsUnfitAt bytes line why
    → ((other : ℕ) (cause : StoreCause) → IsUnfitAt bytes other cause → line ≡ other) → found ≡ cond (line == number) (Some why) None
    → MatchOption found ((cause : StoreCause) → IsUnfitAt bytes number cause → ⊥) (IsUnfitAt bytes number)
cause_there bytes line number why found bad one is = by (line == number) refl found is
  where
    by : (same : Bool) → (line == number) ≡ same → (found : Option StoreCause) → found ≡ cond same (Some why) None
        → MatchOption found ((cause : StoreCause) → IsUnfitAt bytes number cause → ⊥) (IsUnfitAt bytes number)
    by true e None is = absurd (cc is)
    by true e (Some cause) is =
        let same : cause ≡ why = cc is in
        subst (IsUnfitAt bytes number) (sym same) (subst (λ n. IsUnfitAt bytes n why) (eqb-true line number e) bad)
    by false e None is = λ cause unfit. false≢true (sym e ∙ eq-eqb line number (one number cause unfit))
    by false e (Some cause) is = absurd (cc is)

-- ---- what a reading says of refusals

abbrev NoneFits : List ℕ → Type 0
NoneFits bytes = (number : ℕ) (why : StoreCause) → IsUnfitAt bytes number why → ⊥

pub refused_or_not : {A : Type 0} (bytes : List ℕ) (r : Result A StoreRefusal) (o : Option StoreRefusal) (IsRead : A → Type 0) → o ≡ result_err r → IfOk r IsRead
    → ((a : A) → IsRead a → NoneFits bytes) → IfErr r (IsRefused bytes) → MatchOption o (NoneFits bytes) (IsRefused bytes)
refused_or_not bytes (Ok a) o IsRead e read good refused = subst (λ x. MatchOption x (NoneFits bytes) (IsRefused bytes)) (sym e) (good a read)
refused_or_not bytes (Err why) o IsRead e read good refused = subst (λ x. MatchOption x (NoneFits bytes) (IsRefused bytes)) (sym e) refused
