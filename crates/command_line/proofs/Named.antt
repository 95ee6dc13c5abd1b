-- A form's name is one word, and so is known by it.
use Rattle.std.proofs.Common.{◌≡◌, ℕ, Bool, true, false, List, ◌⊎◌, inl, inr, codes, Option, Some, None, refl, subst}
use Rattle.std.specs.Prelude.{if◌then◌else◌}
use Rattle.std.specs.Str.{bytes_eq}
use Rattle.std.proofs.lemmas.Slice.Eq.{bytes_eq-Decides}
use Rattle.command_line.specs.FormName.{form_named}
use Rattle.command_line.specs.declared.form_name.FormName.{FormName}
use Rattle.command_line.specs.declared.form_name.FormName.TheVariants.{Run, Race, Check, Soak, Wire, Dispatch, Audit}

abbrev pub text_of : FormName → List ℕ
text_of Run = codes "run"
text_of Race = codes "race"
text_of Check = codes "check"
text_of Soak = codes "soak"
text_of Wire = codes "wire"
text_of Dispatch = codes "dispatch"
text_of Audit = codes "audit"

-- the first of the tests that a word passes gives its name, or a later one does
first_or_later : (b : Bool) (one name : FormName) (later : Option FormName) → (if b then Some one else later) ≡ Some name
    → ((b ≡ true) × (one ≡ name)) ⊎ (later ≡ Some name)
first_or_later true one name later h = inl (refl, cc h)
first_or_later false one name later h = inr h

named_so : (word : List ℕ) (one name : FormName) → bytes_eq word (text_of one) ≡ true → one ≡ name → word ≡ text_of name
named_so word one name passed is = subst (λ n. word ≡ text_of n) is ((bytes_eq-Decides word (text_of one)).0 passed)

step : (word : List ℕ) (one name : FormName) (later : Option FormName) → (later ≡ Some name → word ≡ text_of name)
    → (if bytes_eq word (text_of one) then Some one else later) ≡ Some name → word ≡ text_of name
step word one name later rest h = elim (first_or_later (bytes_eq word (text_of one)) one name later h) [
  | inl is ↦ named_so word one name is.0 is.1
  | inr is ↦ rest is
]

pub named_is : (word : List ℕ) (name : FormName) → form_named word ≡ Some name → word ≡ text_of name
named_is word name =
    step word Run name _ (step word Race name _ (step word Check name _ (step word Soak name _
    (step word Wire name _ (step word Dispatch name _ (step word Audit name None (λ h. cc)))))))
