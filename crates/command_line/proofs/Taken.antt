-- The command takes words of a form, and they are UTF-8.
use Rattle.std.proofs.Common.{◌≡◌, ℕ, Bool, true, false, List, [], ◌∷◌, ◌&&◌, codes, Option, Some, None, refl, sym, subst}
use Rattle.std.specs.Prelude.{IsSome, ◌==◌, not, if◌then◌else◌, option_map}
use Rattle.std.specs.List.{list_all}
use Rattle.std.specs.Option.{option_map_or}
use Rattle.std.specs.Str.{is_utf8}
use Rattle.std.proofs.lemmas.Bool.{and_parts}
use Rattle.clap.specs.Words.{takes}
use Rattle.clap.proofs.OnLiterals.{clap_on_literals}
use Rattle.command_line.specs.internal.Command.{app}
use Rattle.command_line.specs.Form.{form_of, form_with, is_path_word}
use Rattle.command_line.specs.FormName.{form_named}
use Rattle.command_line.specs.declared.form.Form.TheVariants.{Soak as SoakForm}
use Rattle.command_line.specs.declared.form_name.FormName.{FormName}
use Rattle.command_line.specs.declared.form_name.FormName.TheVariants.{Run, Race, Check, Soak, Wire, Dispatch, Audit}
use Rattle.command_line.proofs.Named.{named_is, text_of}

some_where : {T : Type 0} (b : Bool) (x : T) → IsSome (if b then Some x else None) → b ≡ true
some_where true x h = refl
some_where false x h = h

not_true : (b : Bool) → not b ≡ true → b ≡ false
not_true true h = sym h
not_true false h = refl

not_dash : (byte : ℕ) (rest : List ℕ) → is_path_word (byte ∷ rest) ≡ true → (byte == 45) ≡ false
not_dash byte rest h = not_true (byte == 45) (and_parts (not (byte == 45)) (is_utf8 (byte ∷ rest)) h).0

check_taken : (root : List ℕ) → is_path_word root ≡ true → takes app (codes "check" ∷ root ∷ []) ≡ true
unfolding clap_on_literals
check_taken [] h = cc
check_taken (byte ∷ rest) h =
    let plain = not_dash byte rest h in
    simp plain refl

soak_taken : (count : List ℕ) → is_path_word count ≡ true → takes app (codes "soak" ∷ count ∷ []) ≡ true
unfolding clap_on_literals
soak_taken [] h = cc
soak_taken (byte ∷ rest) h =
    let plain = not_dash byte rest h in
    simp plain refl

run_taken : (root script : List ℕ) → is_path_word root ≡ true → is_path_word script ≡ true
    → takes app (codes "run" ∷ root ∷ script ∷ []) ≡ true
unfolding clap_on_literals
run_taken [] script h k = cc
run_taken (byte ∷ rest) [] h k = cc
run_taken (byte ∷ rest) (other ∷ more) h k =
    let plain = not_dash byte rest h in
    let plain2 = not_dash other more k in
    simp (plain, plain2) refl

race_taken : (root script : List ℕ) → is_path_word root ≡ true → is_path_word script ≡ true
    → takes app (codes "race" ∷ root ∷ script ∷ []) ≡ true
unfolding clap_on_literals
race_taken [] script h k = cc
race_taken (byte ∷ rest) [] h k = cc
race_taken (byte ∷ rest) (other ∷ more) h k =
    let plain = not_dash byte rest h in
    let plain2 = not_dash other more k in
    simp (plain, plain2) refl

wire_taken : (root script : List ℕ) → is_path_word root ≡ true → is_path_word script ≡ true
    → takes app (codes "wire" ∷ root ∷ script ∷ []) ≡ true
unfolding clap_on_literals
wire_taken [] script h k = cc
wire_taken (byte ∷ rest) [] h k = cc
wire_taken (byte ∷ rest) (other ∷ more) h k =
    let plain = not_dash byte rest h in
    let plain2 = not_dash other more k in
    simp (plain, plain2) refl

dispatch_taken : (root script : List ℕ) → is_path_word root ≡ true → is_path_word script ≡ true
    → takes app (codes "dispatch" ∷ root ∷ script ∷ []) ≡ true
unfolding clap_on_literals
dispatch_taken [] script h k = cc
dispatch_taken (byte ∷ rest) [] h k = cc
dispatch_taken (byte ∷ rest) (other ∷ more) h k =
    let plain = not_dash byte rest h in
    let plain2 = not_dash other more k in
    simp (plain, plain2) refl

audit_taken : (root script trace : List ℕ) → is_path_word root ≡ true → is_path_word script ≡ true → is_path_word trace ≡ true
    → takes app (codes "audit" ∷ root ∷ script ∷ trace ∷ []) ≡ true
unfolding clap_on_literals
audit_taken [] script trace h k l = cc
audit_taken (byte ∷ rest) [] trace h k l = cc
audit_taken (byte ∷ rest) (other ∷ more) [] h k l = cc
audit_taken (byte ∷ rest) (other ∷ more) (third ∷ most) h k l =
    let plain = not_dash byte rest h in
    let plain2 = not_dash other more k in
    let plain3 = not_dash third most l in
    simp (plain, plain2, plain3) refl

some_number : (b : Bool) (found : Option ℕ) → IsSome (if b then option_map SoakForm found else None) → b ≡ true
some_number true found h = refl
some_number false found h = h

-- the command takes the words of the form with this name
taken_by : (name : FormName) (words : List (List ℕ)) → IsSome (form_with words name) → takes app (text_of name ∷ words) ≡ true
taken_by Run [] h = cc
taken_by Run (root ∷ []) h = cc
taken_by Run (root ∷ script ∷ []) h = let both = and_parts (is_path_word root) (is_path_word script) (some_where _ _ h) in run_taken root script both.0 both.1
taken_by Run (root ∷ script ∷ trace ∷ []) h = cc
taken_by Run (root ∷ script ∷ trace ∷ more ∷ rest) h = cc
taken_by Race [] h = cc
taken_by Race (root ∷ []) h = cc
taken_by Race (root ∷ script ∷ []) h = let both = and_parts (is_path_word root) (is_path_word script) (some_where _ _ h) in race_taken root script both.0 both.1
taken_by Race (root ∷ script ∷ trace ∷ []) h = cc
taken_by Race (root ∷ script ∷ trace ∷ more ∷ rest) h = cc
taken_by Check [] h = cc
taken_by Check (root ∷ []) h = check_taken root (some_where _ _ h)
taken_by Check (root ∷ script ∷ []) h = cc
taken_by Check (root ∷ script ∷ trace ∷ []) h = cc
taken_by Check (root ∷ script ∷ trace ∷ more ∷ rest) h = cc
taken_by Soak [] h = cc
taken_by Soak (root ∷ []) h = soak_taken root (some_number _ _ h)
taken_by Soak (root ∷ script ∷ []) h = cc
taken_by Soak (root ∷ script ∷ trace ∷ []) h = cc
taken_by Soak (root ∷ script ∷ trace ∷ more ∷ rest) h = cc
taken_by Wire [] h = cc
taken_by Wire (root ∷ []) h = cc
taken_by Wire (root ∷ script ∷ []) h = let both = and_parts (is_path_word root) (is_path_word script) (some_where _ _ h) in wire_taken root script both.0 both.1
taken_by Wire (root ∷ script ∷ trace ∷ []) h = cc
taken_by Wire (root ∷ script ∷ trace ∷ more ∷ rest) h = cc
taken_by Dispatch [] h = cc
taken_by Dispatch (root ∷ []) h = cc
taken_by Dispatch (root ∷ script ∷ []) h = let both = and_parts (is_path_word root) (is_path_word script) (some_where _ _ h) in dispatch_taken root script both.0 both.1
taken_by Dispatch (root ∷ script ∷ trace ∷ []) h = cc
taken_by Dispatch (root ∷ script ∷ trace ∷ more ∷ rest) h = cc
taken_by Audit [] h = cc
taken_by Audit (root ∷ []) h = cc
taken_by Audit (root ∷ script ∷ []) h = cc
taken_by Audit (root ∷ script ∷ trace ∷ []) h = let all = and_parts (is_path_word root && is_path_word script) (is_path_word trace) (some_where _ _ h) in
    let both = and_parts (is_path_word root) (is_path_word script) all.0 in
    audit_taken root script trace both.0 both.1 all.1
taken_by Audit (root ∷ script ∷ trace ∷ more ∷ rest) h = cc

by_name : (found : Option FormName) (words : List (List ℕ)) → IsSome (option_map_or (form_with words) found None)
    → (P : FormName → Type 0) → ((name : FormName) → found ≡ Some name → IsSome (form_with words name) → P name) → (name : FormName) × P name
by_name None words h P holds = let bad : ⊥ = cc h in absurd bad
by_name (Some name) words h P holds = (name, holds name refl h)

-- the command takes words of a form
pub form_taken : (words : List (List ℕ)) → IsSome (form_of words) → takes app words ≡ true
form_taken [] h = cc
form_taken (word ∷ words) h =
    (by_name (form_named word) words h (λ name. takes app (word ∷ words) ≡ true)
    (λ name is some. subst (λ w. takes app (w ∷ words) ≡ true) (sym (named_is word name is)) (taken_by name words some))).1

path_utf8 : (word : List ℕ) → is_path_word word ≡ true → is_utf8 word ≡ true
path_utf8 [] h = cc
path_utf8 (byte ∷ rest) h = (and_parts (not (byte == 45)) (is_utf8 (byte ∷ rest)) h).1

two_utf8 : (one other : List ℕ) → (is_path_word one && is_path_word other) ≡ true → list_all is_utf8 (one ∷ other ∷ []) ≡ true
two_utf8 one other h =
    let both = and_parts (is_path_word one) (is_path_word other) h in
    let first : is_utf8 one ≡ true = path_utf8 one both.0 in
    let second : is_utf8 other ≡ true = path_utf8 other both.1 in
    rw (first, second) refl

three_utf8 : (one other third : List ℕ) → (is_path_word one && is_path_word other && is_path_word third) ≡ true
    → list_all is_utf8 (one ∷ other ∷ third ∷ []) ≡ true
three_utf8 one other third h =
    let all = and_parts (is_path_word one && is_path_word other) (is_path_word third) h in
    let both = and_parts (is_path_word one) (is_path_word other) all.0 in
    let first : is_utf8 one ≡ true = path_utf8 one both.0 in
    let second : is_utf8 other ≡ true = path_utf8 other both.1 in
    let last : is_utf8 third ≡ true = path_utf8 third all.1 in
    rw (first, second, last) refl

name_utf8 : (name : FormName) → is_utf8 (text_of name) ≡ true
unfolding clap_on_literals is_utf8
name_utf8 Run = refl
name_utf8 Race = refl
name_utf8 Check = refl
name_utf8 Soak = refl
name_utf8 Wire = refl
name_utf8 Dispatch = refl
name_utf8 Audit = refl

-- the words after a form's name are UTF-8
rest_utf8 : (name : FormName) (words : List (List ℕ)) → IsSome (form_with words name) → list_all is_utf8 words ≡ true
rest_utf8 Run [] h = cc
rest_utf8 Run (root ∷ []) h = cc
rest_utf8 Run (root ∷ script ∷ []) h = two_utf8 root script (some_where _ _ h)
rest_utf8 Run (root ∷ script ∷ trace ∷ []) h = cc
rest_utf8 Run (root ∷ script ∷ trace ∷ more ∷ rest) h = cc
rest_utf8 Race [] h = cc
rest_utf8 Race (root ∷ []) h = cc
rest_utf8 Race (root ∷ script ∷ []) h = two_utf8 root script (some_where _ _ h)
rest_utf8 Race (root ∷ script ∷ trace ∷ []) h = cc
rest_utf8 Race (root ∷ script ∷ trace ∷ more ∷ rest) h = cc
rest_utf8 Check [] h = cc
rest_utf8 Check (root ∷ []) h = let first = path_utf8 root (some_where _ _ h) in rw first refl
rest_utf8 Check (root ∷ script ∷ []) h = cc
rest_utf8 Check (root ∷ script ∷ trace ∷ []) h = cc
rest_utf8 Check (root ∷ script ∷ trace ∷ more ∷ rest) h = cc
rest_utf8 Soak [] h = cc
rest_utf8 Soak (root ∷ []) h = let first = path_utf8 root (some_number _ _ h) in rw first refl
rest_utf8 Soak (root ∷ script ∷ []) h = cc
rest_utf8 Soak (root ∷ script ∷ trace ∷ []) h = cc
rest_utf8 Soak (root ∷ script ∷ trace ∷ more ∷ rest) h = cc
rest_utf8 Wire [] h = cc
rest_utf8 Wire (root ∷ []) h = cc
rest_utf8 Wire (root ∷ script ∷ []) h = two_utf8 root script (some_where _ _ h)
rest_utf8 Wire (root ∷ script ∷ trace ∷ []) h = cc
rest_utf8 Wire (root ∷ script ∷ trace ∷ more ∷ rest) h = cc
rest_utf8 Dispatch [] h = cc
rest_utf8 Dispatch (root ∷ []) h = cc
rest_utf8 Dispatch (root ∷ script ∷ []) h = two_utf8 root script (some_where _ _ h)
rest_utf8 Dispatch (root ∷ script ∷ trace ∷ []) h = cc
rest_utf8 Dispatch (root ∷ script ∷ trace ∷ more ∷ rest) h = cc
rest_utf8 Audit [] h = cc
rest_utf8 Audit (root ∷ []) h = cc
rest_utf8 Audit (root ∷ script ∷ []) h = cc
rest_utf8 Audit (root ∷ script ∷ trace ∷ []) h = three_utf8 root script trace (some_where _ _ h)
rest_utf8 Audit (root ∷ script ∷ trace ∷ more ∷ rest) h = cc

-- words of a form are UTF-8
pub form_utf8 : (words : List (List ℕ)) → IsSome (form_of words) → list_all is_utf8 words ≡ true
form_utf8 [] h = cc
form_utf8 (word ∷ words) h =
    (by_name (form_named word) words h (λ name. list_all is_utf8 (word ∷ words) ≡ true)
    (λ name is some.
    let first : is_utf8 word ≡ true = subst (λ w. is_utf8 w ≡ true) (sym (named_is word name is)) (name_utf8 name) in
    rw (first, rest_utf8 name words some) refl)).1
