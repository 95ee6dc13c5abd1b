-- Which line of which text a refusal of a policy is of.
use Rattle.std.proofs.Common.{◌≡◌, ◌≢◌, ℕ, Bool, true, false, not, ◌&&◌, IsTrue, List, refl, sym, ap, ◌∙◌, nat_eq, subst, eq-eqb, inl, inr, Option, MatchOption, Result, Ok, Err, IfOk, IfErr}
use Rattle.std.specs.Result.{result_err}
use Rattle.std.proofs.lemmas.Bool.{eqb-true}
use Rattle.prop_contexts.specs.Grammar.{IsBadAllow, IsRefused}
use Rattle.prop_contexts.specs.declared.refusal.PolicyRefusal.{PolicyRefusal}
use Rattle.prop_contexts.specs.declared.refusal.PolicyRefusal.TheVariants as refusal
use Rattle.prop_contexts.proofs.Readers.{same_refusal}
use Rattle.refusal_causes.specs.Contexts.{IsBadContexts, IsUnrefused}

abbrev pub number_of : PolicyRefusal → ℕ
number_of (refusal.BadLine allow line) = line
number_of (refusal.Twice line) = line
number_of (refusal.NoDefault line) = line
number_of refusal.NoMemory = 0

-- a refusal is of the allow text
abbrev pub is_of_allow : PolicyRefusal → Bool
is_of_allow (refusal.BadLine allow line) = allow
is_of_allow (refusal.Twice line) = false
is_of_allow (refusal.NoDefault line) = false
is_of_allow refusal.NoMemory = false

-- the refusal that a bad line of the contexts text is
record Refused (contexts allow : List ℕ) (number : ℕ) (of_allow : Bool) : Type 0 where
  pub why : PolicyRefusal
  pub refused : IsRefused contexts allow why
  pub some : why ≢ refusal.NoMemory
  pub number_is : number_of why ≡ number
  pub text_is : is_of_allow why ≡ of_allow

of_contexts : (contexts allow : List ℕ) (number : ℕ) → IsBadContexts contexts number → Refused contexts allow number false
of_contexts contexts allow number bad = elim bad [
  | inl formless ↦ record { why = refusal.BadLine false number; refused = formless; some = λ e. cc; number_is = refl; text_is = refl }
  | inr more ↦ elim more [
    | inl same ↦ record { why = refusal.Twice number; refused = same; some = λ e. cc; number_is = refl; text_is = refl }
    | inr none ↦ record { why = refusal.NoDefault number; refused = none; some = λ e. cc; number_is = refl; text_is = refl }
  ]
]

of_allow : (contexts allow : List ℕ) (number : ℕ) → IsBadAllow contexts allow number → Refused contexts allow number true
of_allow contexts allow number bad = record { why = refusal.BadLine true number; refused = bad; some = λ e. cc; number_is = refl; text_is = refl }

-- no refusal, no bad line

pub contexts_good : (contexts allow : List ℕ) (number : ℕ) → IsUnrefused contexts allow → IsBadContexts contexts number → ⊥
contexts_good contexts allow number good bad = let r = of_contexts contexts allow number bad in r.some (good r.why r.refused)

pub allow_good : (contexts allow : List ℕ) (number : ℕ) → IsUnrefused contexts allow → IsBadAllow contexts allow number → ⊥
allow_good contexts allow number good bad = let r = of_allow contexts allow number bad in r.some (good r.why r.refused)

-- the line of a refusal

joined : (a b : Bool) → a ≡ true → b ≡ true → (a && b) ≡ true
joined true b first second = second
joined false b first second = cc

same : (contexts allow : List ℕ) (number : ℕ) (text : Bool) (why : PolicyRefusal) → why ≢ refusal.NoMemory → IsRefused contexts allow why
    → Refused contexts allow number text → (is_of_allow why ≡ text) × IsTrue (nat_eq (number_of why) number)
same contexts allow number text why some refused other =
    let one : why ≡ other.why = same_refusal contexts allow why other.why refused other.refused some other.some in
    (ap is_of_allow one ∙ other.text_is, eq-eqb (number_of why) number (ap number_of one ∙ other.number_is))

and_both : (a b : Bool) → (a && b) ≡ true → (a ≡ true) × (b ≡ true)
and_both true b h = (refl, h)
and_both false b h = cc

bad_contexts : (contexts allow : List ℕ) (why : PolicyRefusal) → why ≢ refusal.NoMemory → IsRefused contexts allow why → not (is_of_allow why) ≡ true
    → IsBadContexts contexts (number_of why)
bad_contexts contexts allow (refusal.BadLine false line) some refused own = inl refused
bad_contexts contexts allow (refusal.BadLine true line) some refused own = cc
bad_contexts contexts allow (refusal.Twice line) some refused own = inr (inl refused)
bad_contexts contexts allow (refusal.NoDefault line) some refused own = inr (inr refused)
bad_contexts contexts allow refusal.NoMemory some refused own = absurd (some refl)

bad_allow : (contexts allow : List ℕ) (why : PolicyRefusal) → IsRefused contexts allow why → is_of_allow why ≡ true → IsBadAllow contexts allow (number_of why)
bad_allow contexts allow (refusal.BadLine false line) refused own = cc
bad_allow contexts allow (refusal.BadLine true line) refused own = refused
bad_allow contexts allow (refusal.Twice line) refused own = cc
bad_allow contexts allow (refusal.NoDefault line) refused own = cc
bad_allow contexts allow refusal.NoMemory refused own = cc

pub contexts_line : (contexts allow : List ℕ) (why : PolicyRefusal) (number : ℕ) → why ≢ refusal.NoMemory → IsRefused contexts allow why
    → (IsTrue (not (is_of_allow why) && nat_eq (number_of why) number) → IsBadContexts contexts number)
    × (IsBadContexts contexts number → IsTrue (not (is_of_allow why) && nat_eq (number_of why) number))
contexts_line contexts allow why number some refused = (
  λ is.
      let both = and_both (not (is_of_allow why)) (nat_eq (number_of why) number) is in
      subst (IsBadContexts contexts) (eqb-true (number_of why) number both.1) (bad_contexts contexts allow why some refused both.0),
  λ bad.
      let own = same contexts allow number false why some refused (of_contexts contexts allow number bad) in
      joined (not (is_of_allow why)) (nat_eq (number_of why) number) (ap not own.0) own.1,
)

pub allow_line : (contexts allow : List ℕ) (why : PolicyRefusal) (number : ℕ) → why ≢ refusal.NoMemory → IsRefused contexts allow why
    → (IsTrue (is_of_allow why && nat_eq (number_of why) number) → IsBadAllow contexts allow number)
    × (IsBadAllow contexts allow number → IsTrue (is_of_allow why && nat_eq (number_of why) number))
allow_line contexts allow why number some refused = (
  λ is.
      let both = and_both (is_of_allow why) (nat_eq (number_of why) number) is in
      subst (IsBadAllow contexts allow) (eqb-true (number_of why) number both.1) (bad_allow contexts allow why refused both.0),
  λ bad.
      let own = same contexts allow number true why some refused (of_allow contexts allow number bad) in
      joined (is_of_allow why) (nat_eq (number_of why) number) own.0 own.1,
)

-- a bad line of a text, as a test in two steps tells it

pub contexts_line_of : (contexts allow : List ℕ) (why : PolicyRefusal) (number : ℕ) (own : Bool) (line : ℕ) (test : Bool) → test ≡ (not own && nat_eq line number)
    → why ≡ refusal.BadLine own line → IsRefused contexts allow why → (IsTrue test → IsBadContexts contexts number) × (IsBadContexts contexts number → IsTrue test)
contexts_line_of contexts allow why number own line test e is refused =
    let both = contexts_line contexts allow (refusal.BadLine own line) number (λ e. cc) (subst (IsRefused contexts allow) is refused) in
    (λ t. both.0 (sym e ∙ t), λ bad. e ∙ both.1 bad)

pub allow_line_of : (contexts allow : List ℕ) (why : PolicyRefusal) (number : ℕ) (own : Bool) (line : ℕ) (test : Bool) → test ≡ (own && nat_eq line number)
    → why ≡ refusal.BadLine own line → IsRefused contexts allow why → (IsTrue test → IsBadAllow contexts allow number) × (IsBadAllow contexts allow number → IsTrue test)
allow_line_of contexts allow why number own line test e is refused =
    let both = allow_line contexts allow (refusal.BadLine own line) number (λ e. cc) (subst (IsRefused contexts allow) is refused) in
    (λ t. both.0 (sym e ∙ t), λ bad. e ∙ both.1 bad)

pub second : (a b : Bool) → a ≡ true → b ≡ (a && b)
second true b h = refl
second false b h = cc

pub first : (a b : Bool) → a ≡ false → a ≡ (a && b)
first true b h = cc
first false b h = refl

-- what a reading says of refusals

pub refused_or_not : {A : Type 0} (contexts allow : List ℕ) (r : Result A PolicyRefusal) (o : Option PolicyRefusal) (IsRead : A → Type 0) → o ≡ result_err r → IfOk r IsRead
    → ((a : A) → IsRead a → IsUnrefused contexts allow) → IfErr r (IsRefused contexts allow) → MatchOption o (IsUnrefused contexts allow) (IsRefused contexts allow)
refused_or_not contexts allow (Ok a) o IsRead e read good refused =
    subst (λ x. MatchOption x (IsUnrefused contexts allow) (IsRefused contexts allow)) (sym e) (good a read)
refused_or_not contexts allow (Err why) o IsRead e read good refused =
    subst (λ x. MatchOption x (IsUnrefused contexts allow) (IsRefused contexts allow)) (sym e) refused
