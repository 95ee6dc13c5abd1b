-- A statement that doesn't fit behind the lines before it has a cause.
use Rattle.std.proofs.Common.{◌≡◌, ◌≢◌, ℕ, ◌+◌, ◌<◌, ◌≤◌, Bool, true, false, cond, not, ◌&&◌, ◌||◌, nat_le, nat_lt, List, [], ◌∷◌, ◌++◌, length, codes, count_by, is_some, Option, Some, None, refl, sym, ap, ◌∙◌, arith, inl, inr, ◌⊎◌}
use Rattle.std.specs.List.{list_any, position, position_or_len}
use Rattle.std.specs.Fmt.{decimal}
use Rattle.std.specs.Option.{option_map, option_or}
use Rattle.std.specs.Str.{bytes_eq}
use Rattle.std.proofs.lemmas.Bool.Decides.{nat_tests}
use Rattle.std.proofs.lemmas.List.Folds.{list_any-append}
use Rattle.std.proofs.lemmas.List.Sums.{sum_by-append}
use Rattle.init_base.specs.Quoted.{quoted, unquoted}
use Rattle.init_base.proofs.QForms.{unquoted-quoted}
use Rattle.init_machine.proofs.DistinctSums.{bytes_eq-refl, same_bytes}
use Rattle.script_lang.specs.Laws.{statement_words, IsPermitted, IsText}
use Rattle.script_lang.specs.Lines.{says_nothing, words_of}
use Rattle.script_lang.specs.Script.{fits, is_act, is_area, is_client, is_client_named, is_plan_of, statements_in, statements_of}
use Rattle.script_lang.specs.Statements.{reading_of, statement_of}
use Rattle.script_lang.specs.declared.statement.Statement.{Statement}
use Rattle.script_lang.specs.declared.statement.Statement.TheVariants as statement
use Rattle.script_lang.proofs.Spellings.{statement_written}
use Rattle.std.specs.Cmp.{second_so}
use Rattle.refusal_causes.specs.Misfits.{begins_declaration, client_cause, declaration_cause, declared_by, declares, first_is, is_act_line, is_client_line, is_declaring, late_cause, line_number, misfit_cause, too_many_cause, twice_cause}
use Rattle.refusal_causes.specs.Misfits.{is_client as is_client_word}
use Rattle.refusal_causes.specs.declared.script.cause.ScriptCause.TheVariants as cause
use Rattle.std.proofs.lemmas.Bool.{or_cases, or_left, or_right}

-- ---- what a line says, and its words

-- how a choice came to something
said_if : {S : Type 0} (t : Bool) (first second : S) (value : S) → cond t first second ≡ value → first ≢ value → (t ≡ false) × (second ≡ value)
said_if true first second value h other = absurd (other h)
said_if false first second value h other = (refl, h)

mapped : {S : Type 0} (o : Option S) (s : S) → option_map Some o ≡ Some (Some s) → o ≡ Some s
mapped None s h = cc
mapped (Some x) s h = cc

pub record IsSaid (line : List ℕ) (s : Statement) : Type 0 where
  pub some : says_nothing line ≡ false
  pub words : words_of line ≡ statement_words s
  pub permitted : IsPermitted s

pub said_by : (line : List ℕ) (s : Statement) → reading_of line ≡ Some (Some s) → IsSaid line s
unfolding reading_of
said_by line s h =
    let both = said_if (says_nothing line) (Some None) (option_map Some (statement_of (words_of line))) (Some (Some s)) h (λ e. cc) in
    let written = statement_written (words_of line) s (mapped (statement_of (words_of line)) s both.1) in
    record { some = both.0; words = written.0; permitted = written.1 }

pub unsaid : (line : List ℕ) → reading_of line ≡ Some None → says_nothing line ≡ true
unfolding reading_of
unsaid line h =
    elim (says_nothing line) as (λ t. cond t (Some None) (option_map Some (statement_of (words_of line))) ≡ Some None → t ≡ true) [
      | true ↦ λ e. refl
      | false ↦ λ e.
          elim (statement_of (words_of line)) as (λ o. option_map Some o ≡ Some None → false ≡ true) [ None ↦ λ e. cc | Some s ↦ λ e. cc ] e
    ] h

-- ---- a test of statements, and one of lines

-- each line that says a statement that passes passes
abbrev pub Passes : (Statement → Bool) → (List ℕ → Bool) → Type 0
Passes p q = (line : List ℕ) (s : Statement) → reading_of line ≡ Some (Some s) → p s ≡ true → q line ≡ true

first_passes : (p : Statement → Bool) (q : List ℕ → Bool) → Passes p q → (line : List ℕ) (o : Option (Option Statement)) → reading_of line ≡ o
    → list_any p (statements_in o) ≡ true → q line ≡ true
first_passes p q passes line None e h = cc
first_passes p q passes line (Some None) e h = cc
first_passes p q passes line (Some (Some s)) e h = elim (or_cases (p s) false h) [
  | inl is ↦ passes line s e is
  | inr isnt ↦ cc
]

pub any_line : (p : Statement → Bool) (q : List ℕ → Bool) → Passes p q → (lines : List (List ℕ))
    → list_any p (statements_of lines) ≡ true → list_any q lines ≡ true
any_line p q passes [] h = cc
any_line p q passes (line ∷ lines) h =
    elim (or_cases (list_any p (statements_in (reading_of line))) (list_any p (statements_of lines))
    (sym (list_any-append p (statements_in (reading_of line)) (statements_of lines)) ∙ h)) [
      | inl here ↦ or_left (q line) (list_any q lines) (first_passes p q passes line (reading_of line) refl here)
      | inr later ↦ or_right (q line) (list_any q lines) (any_line p q passes lines later)
    ]

-- and the other way round, where each line is in form
abbrev pub AreRead : List (List ℕ) → Type 0
AreRead lines = (before : List (List ℕ)) (line : List ℕ) (behind : List (List ℕ)) → lines ≡ before ++ line ∷ behind → reading_of line ≢ None

pub record Tells (p : Statement → Bool) (q : List ℕ → Bool) : Type 0 where
  pub said : (line : List ℕ) (s : Statement) → reading_of line ≡ Some (Some s) → q line ≡ true → p s ≡ true
  pub unsaid : (line : List ℕ) → reading_of line ≡ Some None → q line ≡ false

first_tells : (p : Statement → Bool) (q : List ℕ → Bool) → Tells p q → (line : List ℕ) (o : Option (Option Statement)) → reading_of line ≡ o → o ≢ None
    → q line ≡ true → list_any p (statements_in o) ≡ true
first_tells p q tells line None e some h = absurd (some refl)
first_tells p q tells line (Some None) e some h = let other = tells.unsaid line e in cc
first_tells p q tells line (Some (Some s)) e some h = or_left (p s) false (tells.said line s e h)

pub any_said : (p : Statement → Bool) (q : List ℕ → Bool) → Tells p q → (lines : List (List ℕ)) → AreRead lines
    → list_any q lines ≡ true → list_any p (statements_of lines) ≡ true
any_said p q tells [] read h = cc
any_said p q tells (line ∷ lines) read h =
    list_any-append p (statements_in (reading_of line)) (statements_of lines) ∙
    elim (or_cases (q line) (list_any q lines) h) as (λ e. (list_any p (statements_in (reading_of line)) || list_any p (statements_of lines)) ≡ true) [
      | inl here ↦ or_left (list_any p (statements_in (reading_of line))) (list_any p (statements_of lines)) (first_tells p q tells line (reading_of line) refl (read [] line lines refl) here)
      | inr later ↦ or_right (list_any p (statements_in (reading_of line))) (list_any p (statements_of lines))
          (any_said p q tells lines (λ before one behind e. read (line ∷ before) one behind (ap (λ ls. line ∷ ls) e)) later)
    ]

-- ---- lines by their words

both_not : (a b : Bool) → a ≡ false → b ≡ true → (not a && b) ≡ true
both_not false true first second = refl
both_not false false first second = cc
both_not true b first second = cc

act_words : (s : Statement) → is_act s ≡ true → not (first_is is_declaring (statement_words s)) ≡ true
act_words (statement.Area size) h = cc
act_words (statement.Plan p) h = cc
act_words (statement.Client c) h = cc
act_words (statement.Step count) h = refl
act_words (statement.Tick ms) h = refl
act_words (statement.Exit name status) h = refl
act_words (statement.File path content) h = refl
act_words (statement.Ask name request) h = refl

act_line : Passes is_act is_act_line
act_line line s e h =
    let said = said_by line s e in
    both_not (says_nothing line) (not (begins_declaration line)) said.some (ap (λ ws. not (first_is is_declaring ws)) said.words ∙ act_words s h)

-- a line is a declaration by its words
declared : (word name line : List ℕ) (s : Statement) → IsSaid line s → declared_by word name (statement_words s) ≡ true → declares word name line ≡ true
declared word name line s said h =
    both_not (says_nothing line) (declared_by word name (words_of line)) said.some (ap (declared_by word name) said.words ∙ h)

area_words : (name : List ℕ) (s : Statement) → is_area s ≡ true → declared_by (codes "area") name (statement_words s) ≡ true
area_words name (statement.Area size) h = refl
area_words name (statement.Plan p) h = cc
area_words name (statement.Client c) h = cc
area_words name (statement.Step count) h = cc
area_words name (statement.Tick ms) h = cc
area_words name (statement.Exit n status) h = cc
area_words name (statement.File path content) h = cc
area_words name (statement.Ask n request) h = cc

area_line : (name : List ℕ) → Passes is_area (declares (codes "area") name)
area_line name line s e h = declared (codes "area") name line s (said_by line s e) (area_words name s h)

same_quoted : (a b : List ℕ) → bytes_eq a b ≡ true → bytes_eq (quoted a) (quoted b) ≡ true
same_quoted a b h = ap (λ x. bytes_eq (quoted x) (quoted b)) (same_bytes a b h) ∙ bytes_eq-refl (quoted b)

plan_words : (path : List ℕ) (s : Statement) → is_plan_of path s ≡ true → declared_by (codes "plan") (quoted path) (statement_words s) ≡ true
plan_words path (statement.Area size) h = cc
plan_words path (statement.Plan p) h = same_quoted p.path path h
plan_words path (statement.Client c) h = cc
plan_words path (statement.Step count) h = cc
plan_words path (statement.Tick ms) h = cc
plan_words path (statement.Exit n status) h = cc
plan_words path (statement.File other content) h = cc
plan_words path (statement.Ask n request) h = cc

plan_line : (path : List ℕ) → Passes (is_plan_of path) (declares (codes "plan") (quoted path))
plan_line path line s e h = declared (codes "plan") (quoted path) line s (said_by line s e) (plan_words path s h)

named_words : (name : List ℕ) (s : Statement) → is_client_named name s ≡ true → declared_by (codes "client") (quoted name) (statement_words s) ≡ true
named_words name (statement.Area size) h = cc
named_words name (statement.Plan p) h = cc
named_words name (statement.Client c) h = same_quoted c.name name h
named_words name (statement.Step count) h = cc
named_words name (statement.Tick ms) h = cc
named_words name (statement.Exit n status) h = cc
named_words name (statement.File path content) h = cc
named_words name (statement.Ask n request) h = cc

named_line : (name : List ℕ) → Passes (is_client_named name) (declares (codes "client") (quoted name))
named_line name line s e h = declared (codes "client") (quoted name) line s (said_by line s e) (named_words name s h)

client_words : (s : Statement) → is_client s ≡ true → first_is is_client_word (statement_words s) ≡ true
client_words (statement.Area size) h = cc
client_words (statement.Plan p) h = cc
client_words (statement.Client c) h = refl
client_words (statement.Step count) h = cc
client_words (statement.Tick ms) h = cc
client_words (statement.Exit n status) h = cc
client_words (statement.File path content) h = cc
client_words (statement.Ask n request) h = cc

client_line : Passes is_client is_client_line
client_line line s e h = ap (first_is is_client_word) (said_by line s e).words ∙ client_words s h

-- and back: a line that declares a client of this name says so

same_text_of : (a b : List ℕ) → IsText a → IsText b → bytes_eq (quoted a) (quoted b) ≡ true → bytes_eq a b ≡ true
same_text_of a b first second h =
    let same : Some a ≡ Some b = sym (unquoted-quoted a first) ∙ ap unquoted (same_bytes (quoted a) (quoted b) h) ∙ unquoted-quoted b second in
    let texts : a ≡ b = cc in
    ap (λ x. bytes_eq x b) texts ∙ bytes_eq-refl b

client_of_words : (name : List ℕ) → IsText name → (s : Statement) → IsPermitted s → declared_by (codes "client") (quoted name) (statement_words s) ≡ true
    → is_client_named name s ≡ true
client_of_words name text (statement.Area size) permitted h = cc
client_of_words name text (statement.Plan p) permitted h = cc
client_of_words name text (statement.Client c) permitted h = same_text_of c.name name permitted.0 text h
client_of_words name text (statement.Step count) permitted h = cc
client_of_words name text (statement.Tick ms) permitted h = cc
client_of_words name text (statement.Exit n status) permitted h = cc
client_of_words name text (statement.File path content) permitted h = cc
client_of_words name text (statement.Ask n request) permitted h = cc

client_tells : (name : List ℕ) → IsText name → Tells (is_client_named name) (declares (codes "client") (quoted name))
client_tells name text = record {
  said = λ line s e h.
      let said = said_by line s e in
      client_of_words name text s said.permitted
      (sym (ap (declared_by (codes "client") (quoted name)) said.words)
      ∙ second_so (not (says_nothing line)) (declared_by (codes "client") (quoted name) (words_of line)) h);
  unsaid = λ line e. ap (λ t. not t && declared_by (codes "client") (quoted name) (words_of line)) (unsaid line e);
}

-- ---- counts

counted_here : (line : List ℕ) (o : Option (Option Statement)) → reading_of line ≡ o → count_by is_client (statements_in o) ≤ count_by is_client_line (line ∷ [])
counted_here line None e = omega arith
counted_here line (Some None) e = omega arith
counted_here line (Some (Some s)) e =
    elim (is_client s) as (λ t. is_client s ≡ t → 0 + cond t 1 0 ≤ 0 + cond (is_client_line line) 1 0) [
      | true ↦ λ is. rw (client_line line s e is) (omega arith)
      | false ↦ λ isnt. omega arith
    ] refl

both_few : (all here later lines first rest : ℕ) → all ≡ here + later → lines ≡ first + rest → here ≤ first → later ≤ rest → all ≤ lines
both_few all here later lines first rest a b c d = omega arith

clients_few : (lines : List (List ℕ)) → count_by is_client (statements_of lines) ≤ count_by is_client_line lines
clients_few [] = omega arith
clients_few (line ∷ lines) =
    let said : count_by is_client (statements_of (line ∷ lines)) ≡ count_by is_client (statements_in (reading_of line)) + count_by is_client (statements_of lines) =
    sum_by-append (λ s. cond (is_client s) 1 0) (statements_in (reading_of line)) (statements_of lines) in
    let more : count_by is_client_line (line ∷ lines) ≡ count_by is_client_line (line ∷ []) + count_by is_client_line lines =
    sum_by-append (λ l. cond (is_client_line l) 1 0) (line ∷ []) lines in
    both_few _ _ _ _ _ _ said more (counted_here line (reading_of line) refl) (clients_few lines)

-- ---- causes

any_low : {X : Type 0} (p : X → Bool) (xs : List X) → list_any p xs ≡ true → position_or_len p xs < length xs
any_low p [] h = cc
any_low p (x ∷ xs) h =
    elim (p x) as (λ t. p x ≡ t → (t || list_any p xs) ≡ true → position_or_len p (x ∷ xs) < length (x ∷ xs)) [
      | true ↦ λ is any. rw is (omega arith)
      | false ↦ λ isnt any. let low = any_low p xs any in rw isnt (omega (arith, low))
    ] refl h

pub found : {X : Type 0} (p : X → Bool) (xs : List X) → list_any p xs ≡ true → position p xs ≡ Some (position_or_len p xs)
found p xs h =
    let low : position_or_len p xs < length xs = any_low p xs h in
    let test : nat_lt (position_or_len p xs) (length xs) ≡ true = grind (arith, nat_tests) in
    rw test refl

pub some_left : {C : Type 0} (a b : Option C) → is_some a ≡ true → is_some (option_or a b) ≡ true
some_left None b h = cc
some_left (Some c) b h = refl

pub some_right : {C : Type 0} (a b : Option C) → is_some b ≡ true → is_some (option_or a b) ≡ true
some_right None b h = h
some_right (Some c) b h = refl

late : (before : List (List ℕ)) → list_any is_act (statements_of before) ≡ true → is_some (late_cause before) ≡ true
late before h = ap (λ o. is_some (option_map cause.Late (option_map line_number o))) (found is_act_line before (any_line is_act is_act_line act_line before h))

twice : (before : List (List ℕ)) (word name : List ℕ) → list_any (declares word name) before ≡ true → is_some (twice_cause before word name) ≡ true
twice before word name h = ap (λ o. is_some (option_map (cause.Twice word name) (option_map line_number o))) (found (declares word name) before h)

nots : (a b : Bool) → (not a && not b) ≡ false → (a ≡ true) ⊎ (b ≡ true)
nots true b h = inl refl
nots false true h = inr refl
nots false false h = cc

and_false : (a b : Bool) → (a && b) ≡ false → (a ≡ false) ⊎ (b ≡ false)
and_false false b h = inl refl
and_false true b h = inr h

declaration : (before : List (List ℕ)) (word name : List ℕ) → (list_any is_act (statements_of before) ≡ true) ⊎ (list_any (declares word name) before ≡ true)
    → is_some (declaration_cause before word name) ≡ true
declaration before word name h = elim h [
  | inl act ↦ some_left (late_cause before) (option_or (twice_cause before word name) (too_many_cause before word)) (late before act)
  | inr same ↦
      some_right (late_cause before) (option_or (twice_cause before word name) (too_many_cause before word))
      (some_left (twice_cause before word name) (too_many_cause before word) (twice before word name same))
]

-- an act before, or the same declared before
either : (before : List (List ℕ)) (word name : List ℕ) (p : Statement → Bool) → Passes p (declares word name)
    → (not (list_any is_act (statements_of before)) && not (list_any p (statements_of before))) ≡ false
    → is_some (declaration_cause before word name) ≡ true
either before word name p passes h = declaration before word name (elim (nots (list_any is_act (statements_of before)) (list_any p (statements_of before)) h) [
  | inl act ↦ inl act
  | inr same ↦ inr (any_line p (declares word name) passes before same)
])

too_many : (before : List (List ℕ)) (name : List ℕ) → nat_lt (count_by is_client (statements_of before)) 64 ≡ false
    → is_some (declaration_cause before (codes "client") name) ≡ true
too_many before name h =
    let high : 64 ≤ count_by is_client (statements_of before) = grind (arith, nat_tests) in
    let many : 64 ≤ count_by is_client_line before = omega (arith, clients_few before, high) in
    let test : nat_le 64 (count_by is_client_line before) ≡ true = grind (arith, nat_tests) in
    some_right (late_cause before) (option_or (twice_cause before (codes "client") name) (too_many_cause before (codes "client")))
    (some_right (twice_cause before (codes "client") name) (too_many_cause before (codes "client")) (ap (λ t. is_some (cond t (Some cause.TooManyClients) None)) test))

unknown : (before : List (List ℕ)) (name : List ℕ) → IsText name → AreRead before → list_any (is_client_named name) (statements_of before) ≡ false
    → is_some (client_cause before (quoted name)) ≡ true
unknown before name text read h =
    elim (list_any (declares (codes "client") (quoted name)) before) as (λ t. list_any (declares (codes "client") (quoted name)) before ≡ t
    → is_some (cond t None (Some (cause.UnknownClient (quoted name)))) ≡ true) [
      | true ↦ λ is.
          let known = any_said (is_client_named name) (declares (codes "client") (quoted name)) (client_tells name text) before read is in
          cc
      | false ↦ λ isnt. refl
    ] refl

pub misfit_has_cause : (before : List (List ℕ)) (s : Statement) → AreRead before → IsPermitted s → fits (statements_of before) s ≡ false
    → is_some (misfit_cause before (statement_words s)) ≡ true
misfit_has_cause before (statement.Area size) read permitted h = either before (codes "area") (decimal size) is_area (area_line (decimal size)) h
misfit_has_cause before (statement.Plan p) read permitted h = either before (codes "plan") (quoted p.path) (is_plan_of p.path) (plan_line p.path) h
misfit_has_cause before (statement.Client c) read permitted h =
    elim (and_false (not (list_any is_act (statements_of before)) && not (list_any (is_client_named c.name) (statements_of before))) (nat_lt (count_by is_client (statements_of before)) 64) h) [
      | inl other ↦ either before (codes "client") (quoted c.name) (is_client_named c.name) (named_line c.name) other
      | inr many ↦ too_many before (quoted c.name) many
    ]
misfit_has_cause before (statement.Step count) read permitted h = cc
misfit_has_cause before (statement.Tick ms) read permitted h = cc
misfit_has_cause before (statement.Exit name status) read permitted h = cc
misfit_has_cause before (statement.File path content) read permitted h = cc
misfit_has_cause before (statement.Ask name request) read permitted h = unknown before name permitted.0 read h
