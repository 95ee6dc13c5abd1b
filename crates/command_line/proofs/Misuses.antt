-- What is wrong with words is none exactly where they have a form.
use Rattle.std.proofs.Common.{◌≡◌, ℕ, Bool, true, false, List, [], ◌∷◌, ◌&&◌, ◌↔◌, Option, Some, None, refl}
use Rattle.std.specs.Prelude.{IsSome, ◌==◌, not, if◌then◌else◌, option_map}
use Rattle.std.specs.Option.{option_map_or, option_or}
use Rattle.std.specs.Str.{is_utf8}
use Rattle.std.proofs.lemmas.Bool.{and_from, and_parts}
use Rattle.command_line.specs.Form.{form_of, form_with, is_path_word}
use Rattle.command_line.specs.FormName.{form_named}
use Rattle.command_line.specs.Misuse.{misuse_after, misuse_at, misuse_of, number_fault, word_fault}
use Rattle.command_line.specs.Services.{services_in}
use Rattle.command_line.specs.declared.form.Form.{Form}
use Rattle.command_line.specs.declared.form.Form.TheVariants as form
use Rattle.command_line.specs.declared.form_name.FormName.{FormName}
use Rattle.command_line.specs.declared.form_name.FormName.TheVariants as name
use Rattle.command_line.specs.declared.misuse.Misuse.{Misuse}
use Rattle.command_line.specs.declared.misuse.Misuse.TheVariants as misuse
use Rattle.command_line.specs.declared.misuse.Place.{Place}
use Rattle.command_line.specs.declared.misuse.Place.TheVariants.{Root, Script, Messages, Trace, Number}
use Rattle.command_line.specs.declared.misuse.WordFault.{WordFault}
use Rattle.command_line.specs.declared.misuse.WordFault.TheVariants as fault

some_where : (b : Bool) (form : Form) → IsSome (if b then Some form else None) → b ≡ true
some_where true form h = refl
some_where false form h = h

some_if : (b : Bool) (form : Form) → b ≡ true → IsSome (if b then Some form else None)
some_if true form h = refl
some_if false form h = h

fault_tests : (dash utf8 : Bool)
    → ((if dash then Some fault.Dash else (if utf8 then None else Some fault.NotUtf8)) ≡ None) ↔ ((not dash && utf8) ≡ true)
fault_tests true utf8 = (λ h. cc, λ h. cc)
fault_tests false true = (λ h. refl, λ h. refl)
fault_tests false false = (λ h. cc, λ h. cc)

fault_law : (word : List ℕ) → (word_fault word ≡ None) ↔ (is_path_word word ≡ true)
fault_law [] = (λ h. cc, λ h. cc)
fault_law (byte ∷ rest) = fault_tests (byte == 45) (is_utf8 (byte ∷ rest))

at_place : (place : Place) (found : Option WordFault) → (option_map (misuse.BadWord place) found ≡ None) ↔ (found ≡ None)
at_place place None = (λ h. refl, λ h. refl)
at_place place (Some found) = (λ h. cc, λ h. cc)

at_law : (place : Place) (word : List ℕ) → (misuse_at place word ≡ None) ↔ (is_path_word word ≡ true)
at_law place word = (
  λ h. (fault_law word).0 ((at_place place (word_fault word)).0 h),
  λ h. (at_place place (word_fault word)).1 ((fault_law word).1 h),
)

first_none : (a b : Option Misuse) → option_or a b ≡ None → a ≡ None
first_none None b h = refl
first_none (Some x) b h = h

second_none : (a b : Option Misuse) → option_or a b ≡ None → b ≡ None
second_none None b h = h
second_none (Some x) b h = cc

both_none : (a b : Option Misuse) → a ≡ None → b ≡ None → option_or a b ≡ None
both_none None b h k = k
both_none (Some x) b h k = h

-- a number of services is one exactly where nothing is wrong with it
number_law : (found : Option ℕ) → (number_fault found ≡ None) ↔ IsSome (option_map form.Soak found)
number_law None = (λ h. cc, λ h. cc)
number_law (Some n) = (λ h. refl, λ h. refl)

soak_where : (b : Bool) (found : Option ℕ) → IsSome (if b then option_map form.Soak found else None) → (b ≡ true) × IsSome (option_map form.Soak found)
soak_where true found h = (refl, h)
soak_where false found h = (h, cc)

soak_if : (b : Bool) (found : Option ℕ) → b ≡ true → IsSome (option_map form.Soak found) → IsSome (if b then option_map form.Soak found else None)
soak_if true found h k = k
soak_if false found h k = cc

count_law : (given : List ℕ)
    → (option_or (misuse_at Number given) (number_fault (services_in given)) ≡ None) ↔ IsSome (if is_path_word given then option_map form.Soak (services_in given) else None)
count_law given = (
  λ h. soak_if (is_path_word given) (services_in given) ((at_law _ given).0 (first_none _ _ h)) ((number_law (services_in given)).0 (second_none _ _ h)),
  λ h. let both = soak_where (is_path_word given) (services_in given) h in
      both_none _ _ ((at_law _ given).1 both.0) ((number_law (services_in given)).1 both.1),
)

both_paths : (place : Place) (root script : List ℕ)
    → (option_or (misuse_at Root root) (misuse_at place script) ≡ None) ↔ ((is_path_word root && is_path_word script) ≡ true)
both_paths place root script = (
  λ h. and_from (is_path_word root) (is_path_word script) ((at_law _ root).0 (first_none _ _ h)) ((at_law _ script).0 (second_none _ _ h)),
  λ h. let both = and_parts (is_path_word root) (is_path_word script) h in
      both_none _ _ ((at_law _ root).1 both.0) ((at_law _ script).1 both.1),
)

three_paths : (root script trace : List ℕ)
    → (option_or (misuse_at Root root) (option_or (misuse_at Script script) (misuse_at Trace trace)) ≡ None)
    ↔ ((is_path_word root && is_path_word script && is_path_word trace) ≡ true)
three_paths root script trace = (
  λ h. and_from (is_path_word root && is_path_word script) (is_path_word trace)
      (and_from (is_path_word root) (is_path_word script)
      ((at_law _ root).0 (first_none _ _ h)) ((at_law _ script).0 (first_none _ _ (second_none _ _ h))))
      ((at_law _ trace).0 (second_none _ _ (second_none _ _ h))),
  λ h. let all = and_parts (is_path_word root && is_path_word script) (is_path_word trace) h in
      let both = and_parts (is_path_word root) (is_path_word script) all.0 in
      both_none _ _ ((at_law _ root).1 both.0) (both_none _ _ ((at_law _ script).1 both.1) ((at_law _ trace).1 all.1)),
)

-- a form stands where a test holds, and nothing is wrong exactly where it does
if_law : (b : Bool) (form : Form) (found : Option Misuse) → ((found ≡ None) ↔ (b ≡ true)) → (found ≡ None) ↔ IsSome (if b then Some form else None)
if_law b form found tests = (λ h. some_if b form (tests.0 h), λ h. tests.1 (some_where b form h))

after_law : (form : FormName) (words : List (List ℕ)) → (misuse_after words form ≡ None) ↔ IsSome (form_with words form)
after_law name.Run [] = (λ h. cc, λ h. cc)
after_law name.Run (root ∷ []) = (λ h. cc, λ h. cc)
after_law name.Run (root ∷ script ∷ []) = if_law _ form.Run _ (both_paths Script root script)
after_law name.Run (root ∷ script ∷ trace ∷ []) = (λ h. cc, λ h. cc)
after_law name.Run (root ∷ script ∷ trace ∷ more ∷ rest) = (λ h. cc, λ h. cc)
after_law name.Race [] = (λ h. cc, λ h. cc)
after_law name.Race (root ∷ []) = (λ h. cc, λ h. cc)
after_law name.Race (root ∷ script ∷ []) = if_law _ form.Race _ (both_paths Script root script)
after_law name.Race (root ∷ script ∷ trace ∷ []) = (λ h. cc, λ h. cc)
after_law name.Race (root ∷ script ∷ trace ∷ more ∷ rest) = (λ h. cc, λ h. cc)
after_law name.Check [] = (λ h. cc, λ h. cc)
after_law name.Check (root ∷ []) = if_law (is_path_word root) form.Check _ (at_law Root root)
after_law name.Check (root ∷ script ∷ []) = (λ h. cc, λ h. cc)
after_law name.Check (root ∷ script ∷ trace ∷ []) = (λ h. cc, λ h. cc)
after_law name.Check (root ∷ script ∷ trace ∷ more ∷ rest) = (λ h. cc, λ h. cc)
after_law name.Soak [] = (λ h. cc, λ h. cc)
after_law name.Soak (root ∷ []) = count_law root
after_law name.Soak (root ∷ script ∷ []) = (λ h. cc, λ h. cc)
after_law name.Soak (root ∷ script ∷ trace ∷ []) = (λ h. cc, λ h. cc)
after_law name.Soak (root ∷ script ∷ trace ∷ more ∷ rest) = (λ h. cc, λ h. cc)
after_law name.Wire [] = (λ h. cc, λ h. cc)
after_law name.Wire (root ∷ []) = (λ h. cc, λ h. cc)
after_law name.Wire (root ∷ script ∷ []) = if_law _ form.Wire _ (both_paths Messages root script)
after_law name.Wire (root ∷ script ∷ trace ∷ []) = (λ h. cc, λ h. cc)
after_law name.Wire (root ∷ script ∷ trace ∷ more ∷ rest) = (λ h. cc, λ h. cc)
after_law name.Dispatch [] = (λ h. cc, λ h. cc)
after_law name.Dispatch (root ∷ []) = (λ h. cc, λ h. cc)
after_law name.Dispatch (root ∷ script ∷ []) = if_law _ form.Dispatch _ (both_paths Script root script)
after_law name.Dispatch (root ∷ script ∷ trace ∷ []) = (λ h. cc, λ h. cc)
after_law name.Dispatch (root ∷ script ∷ trace ∷ more ∷ rest) = (λ h. cc, λ h. cc)
after_law name.Audit [] = (λ h. cc, λ h. cc)
after_law name.Audit (root ∷ []) = (λ h. cc, λ h. cc)
after_law name.Audit (root ∷ script ∷ []) = (λ h. cc, λ h. cc)
after_law name.Audit (root ∷ script ∷ trace ∷ []) = if_law _ form.Audit _ (three_paths root script trace)
after_law name.Audit (root ∷ script ∷ trace ∷ more ∷ rest) = (λ h. cc, λ h. cc)

by_name : (found : Option FormName) (words : List (List ℕ))
    → (option_map_or (misuse_after words) found (Some misuse.UnknownForm) ≡ None) ↔ IsSome (option_map_or (form_with words) found None)
by_name None words = (λ h. cc, λ h. cc)
by_name (Some form) words = after_law form words

pub misuse_law : (words : List (List ℕ)) → (misuse_of words ≡ None) ↔ IsSome (form_of words)
misuse_law [] = (λ h. cc, λ h. cc)
misuse_law (word ∷ words) = by_name (form_named word) words
