-- Statements are written in one way.
use Rattle.std.proofs.Common.{◌≡◌, ℕ, ◌≤◌, Bool, true, false, cond, List, [], ◌∷◌, drop, codes, Option, Some, None, refl, sym, ap, subst, ◌∙◌, arith, lit<, ◌⊎◌, inl, inr}
use Rattle.std.specs.Cmp.Lexicographic.{same_text}
use Rattle.std.specs.Fmt.{decimal}
use Rattle.std.specs.Option.{option_map}
use Rattle.std.specs.Str.{bytes_eq}
use Rattle.init_base.specs.Name.{LegalName, is_legal_name}
use Rattle.init_base.specs.Quoted.{quoted, unquoted}
use Rattle.init_base.proofs.QForms.{unquoted-quoted, quoted-unquoted, bytes-unquoted}
use Rattle.script_lang.specs.Laws.{ask_words, statement_words, IsPermitted, IsPermittedAsk}
use Rattle.script_lang.specs.Statements.{number_in, status_in, last_moment, with_two, with_three, plan, client, pair, legal, lone, area_of, plan_of, client_of, step_of, tick_of, exit_of, file_of, set_of, read_of, ask_of, act_of, plain_statement_of, is_call, statement_of}
use Rattle.script_lang.specs.declared.script.Ask.{Ask}
use Rattle.script_lang.specs.declared.script.Ask.TheVariants as ask
use Rattle.script_lang.specs.declared.statement.Statement.{Statement}
use Rattle.script_lang.specs.declared.statement.Statement.TheVariants as statement
use Rattle.script_lang.proofs.Numerals.{number_read, number_written}

-- ---- what is written is read

moment_read : (ms : ℕ) → ms ≤ last_moment → number_in 0 last_moment (decimal ms) ≡ Some ms
moment_read ms high = number_read 0 last_moment ms (lit< tt) (omega arith) high

status_read : (status : ℕ) → status ≤ 255 → status_in (decimal status) ≡ Some status
status_read status high = number_read 0 255 status (lit< tt) (omega arith) high

ask_read : (request : Ask) → IsPermittedAsk request → ask_of (ask_words request) ≡ Some request
ask_read (ask.Set p) permitted = rw (unquoted-quoted p.name permitted.0, unquoted-quoted p.value permitted.1) refl
ask_read (ask.Read name) permitted =
    let legal_name : is_legal_name name ≡ true = permitted.1 in
    rw (unquoted-quoted name permitted.0, legal_name) refl
ask_read ask.Sync permitted = refl
ask_read ask.Catch permitted = refl

pub statement_read : (s : Statement) → IsPermitted s → statement_of (statement_words s) ≡ Some s
statement_read (statement.Area size) permitted =
    ap (option_map (λ n. statement.Area n)) (number_read 64 1048576 size (lit< tt) permitted.0 permitted.1)
statement_read (statement.Plan p) permitted =
    ap (λ path. with_three (λ path after status. statement.Plan (plan path after status)) path (number_in 0 last_moment (decimal p.after.0)) (status_in (decimal p.status)))
    (unquoted-quoted p.path permitted.0)
    ∙ ap (λ after. with_two (λ after status. statement.Plan (plan p.path after status)) after (status_in (decimal p.status))) (moment_read p.after.0 permitted.1)
    ∙ ap (with_two (λ after status. statement.Plan (plan p.path after status)) (Some p.after.0)) (status_read p.status permitted.2)
statement_read (statement.Client c) permitted = rw (unquoted-quoted c.name permitted.0, unquoted-quoted c.domain permitted.1) refl
statement_read (statement.Step count) permitted =
    ap (option_map (λ n. statement.Step n)) (number_read 1 1000000 count (lit< tt) permitted.0 permitted.1)
statement_read (statement.Tick ms) permitted = ap (option_map (λ n. statement.Tick n)) (moment_read ms permitted)
statement_read (statement.Exit name status) permitted =
    ap (λ name. with_two (λ name status. statement.Exit name status) name (status_in (decimal status))) (unquoted-quoted name permitted.0)
    ∙ ap (with_two (λ name status. statement.Exit name status) (Some name)) (status_read status permitted.1)
statement_read (statement.File path content) permitted = rw (unquoted-quoted path permitted.0, unquoted-quoted content permitted.1) refl
statement_read (statement.Ask name request) permitted =
    ap (λ name. with_two (λ name ask. statement.Ask name ask) name (ask_of (ask_words request))) (unquoted-quoted name permitted.0)
    ∙ ap (with_two (λ name ask. statement.Ask name ask) (Some name)) (ask_read request permitted.1)

-- ---- what is read was written so

-- how a choice and a pair of readings came to a value

if_some : {A : Type 0} (test : Bool) (first second : Option A) (value : A) → cond test first second ≡ Some value
    → ((test ≡ true) × (first ≡ Some value)) ⊎ ((test ≡ false) × (second ≡ Some value))
if_some true first second value e = inl (refl, e)
if_some false first second value e = inr (refl, e)

map_some : {A B : Type 0} (f : A → B) (o : Option A) (value : B) → option_map f o ≡ Some value → (a : A) × (o ≡ Some a) × (f a ≡ value)
map_some f None value e = cc
map_some f (Some a) value e = (a, refl, cc)

two_some : {A B C : Type 0} (f : A → B → C) (o : Option A) (p : Option B) (value : C) → with_two f o p ≡ Some value
    → (a : A) × (b : B) × (o ≡ Some a) × (p ≡ Some b) × (f a b ≡ value)
two_some f (Some a) (Some b) value e = (a, b, refl, refl, cc)
two_some f (Some a) None value e = cc
two_some f None p value e = cc

three_some : {A B C D : Type 0} (f : A → B → C → D) (o : Option A) (p : Option B) (q : Option C) (value : D) → with_three f o p q ≡ Some value
    → (a : A) × (b : B) × (c : C) × (o ≡ Some a) × (p ≡ Some b) × (q ≡ Some c) × (f a b c ≡ value)
three_some f (Some a) p q value e =
    let two = two_some (f a) p q value e in
    (a, two.0, two.1, refl, two.2, two.3, two.4)
three_some f None p q value e = cc

-- a word and the others are the words of a permitted statement
abbrev Written : List (List ℕ) → Statement → Type 0
Written words s = (words ≡ statement_words s) × IsPermitted s

area_written : (args : List (List ℕ)) (s : Statement) → area_of args ≡ Some s → Written (codes "area" ∷ args) s
area_written [] s e = cc
area_written (size ∷ []) s e =
    let got = map_some (λ n. statement.Area n) (number_in 64 1048576 size) s e in
    let n = number_written 64 1048576 size got.0 got.1 in
    subst (Written (codes "area" ∷ size ∷ [])) got.2 (ap (λ w. codes "area" ∷ w ∷ []) n.form, (n.low, n.high))
area_written (size ∷ other ∷ more) s e = cc

step_written : (args : List (List ℕ)) (s : Statement) → step_of args ≡ Some s → Written (codes "step" ∷ args) s
step_written [] s e = cc
step_written (count ∷ []) s e =
    let got = map_some (λ n. statement.Step n) (number_in 1 1000000 count) s e in
    let n = number_written 1 1000000 count got.0 got.1 in
    subst (Written (codes "step" ∷ count ∷ [])) got.2 (ap (λ w. codes "step" ∷ w ∷ []) n.form, (n.low, n.high))
step_written (count ∷ other ∷ more) s e = cc

tick_written : (args : List (List ℕ)) (s : Statement) → tick_of args ≡ Some s → Written (codes "tick" ∷ args) s
tick_written [] s e = cc
tick_written (ms ∷ []) s e =
    let got = map_some (λ n. statement.Tick n) (number_in 0 last_moment ms) s e in
    let n = number_written 0 last_moment ms got.0 got.1 in
    subst (Written (codes "tick" ∷ ms ∷ [])) got.2 (ap (λ w. codes "tick" ∷ w ∷ []) n.form, n.high)
tick_written (ms ∷ other ∷ more) s e = cc

plan_written : (args : List (List ℕ)) (s : Statement) → plan_of args ≡ Some s → Written (codes "plan" ∷ args) s
plan_written [] s e = cc
plan_written (path ∷ []) s e = cc
plan_written (path ∷ after ∷ []) s e = cc
plan_written (path ∷ after ∷ status ∷ []) s e =
    let got = three_some (λ path after status. statement.Plan (plan path after status)) (unquoted path) (number_in 0 last_moment after) (status_in status) s e in
    let ms = number_written 0 last_moment after got.1 got.4 in
    let code = number_written 0 255 status got.2 got.5 in
    subst (Written (codes "plan" ∷ path ∷ after ∷ status ∷ [])) got.6 (
      ap (λ w. codes "plan" ∷ w ∷ after ∷ status ∷ []) (quoted-unquoted path got.0 got.3)
          ∙ ap (λ w. codes "plan" ∷ quoted got.0 ∷ w ∷ status ∷ []) ms.form
          ∙ ap (λ w. codes "plan" ∷ quoted got.0 ∷ decimal got.1 ∷ w ∷ []) code.form,
      (bytes-unquoted path got.0 got.3, ms.high, code.high),
    )
plan_written (path ∷ after ∷ status ∷ other ∷ more) s e = cc

client_written : (args : List (List ℕ)) (s : Statement) → client_of args ≡ Some s → Written (codes "client" ∷ args) s
client_written [] s e = cc
client_written (name ∷ []) s e = cc
client_written (name ∷ domain ∷ []) s e =
    let got = two_some (λ name domain. statement.Client (client name domain)) (unquoted name) (unquoted domain) s e in
    subst (Written (codes "client" ∷ name ∷ domain ∷ [])) got.4 (
      ap (λ w. codes "client" ∷ w ∷ domain ∷ []) (quoted-unquoted name got.0 got.2)
          ∙ ap (λ w. codes "client" ∷ quoted got.0 ∷ w ∷ []) (quoted-unquoted domain got.1 got.3),
      (bytes-unquoted name got.0 got.2, bytes-unquoted domain got.1 got.3),
    )
client_written (name ∷ domain ∷ other ∷ more) s e = cc

exit_written : (args : List (List ℕ)) (s : Statement) → exit_of args ≡ Some s → Written (codes "exit" ∷ args) s
exit_written [] s e = cc
exit_written (name ∷ []) s e = cc
exit_written (name ∷ status ∷ []) s e =
    let got = two_some (λ name status. statement.Exit name status) (unquoted name) (status_in status) s e in
    let code = number_written 0 255 status got.1 got.3 in
    subst (Written (codes "exit" ∷ name ∷ status ∷ [])) got.4 (
      ap (λ w. codes "exit" ∷ w ∷ status ∷ []) (quoted-unquoted name got.0 got.2) ∙ ap (λ w. codes "exit" ∷ quoted got.0 ∷ w ∷ []) code.form,
      (bytes-unquoted name got.0 got.2, code.high),
    )
exit_written (name ∷ status ∷ other ∷ more) s e = cc

file_written : (args : List (List ℕ)) (s : Statement) → file_of args ≡ Some s → Written (codes "file" ∷ args) s
file_written [] s e = cc
file_written (path ∷ []) s e = cc
file_written (path ∷ content ∷ []) s e =
    let got = two_some (λ path content. statement.File path content) (unquoted path) (unquoted content) s e in
    subst (Written (codes "file" ∷ path ∷ content ∷ [])) got.4 (
      ap (λ w. codes "file" ∷ w ∷ content ∷ []) (quoted-unquoted path got.0 got.2)
          ∙ ap (λ w. codes "file" ∷ quoted got.0 ∷ w ∷ []) (quoted-unquoted content got.1 got.3),
      (bytes-unquoted path got.0 got.2, bytes-unquoted content got.1 got.3),
    )
file_written (path ∷ content ∷ other ∷ more) s e = cc

-- ---- requests

abbrev WrittenAsk : List (List ℕ) → Ask → Type 0
WrittenAsk words request = (words ≡ ask_words request) × IsPermittedAsk request

set_written : (args : List (List ℕ)) (request : Ask) → set_of args ≡ Some request → WrittenAsk (codes "set" ∷ args) request
set_written [] request e = cc
set_written (name ∷ []) request e = cc
set_written (name ∷ value ∷ []) request e =
    let got = two_some (λ name value. ask.Set (pair name value)) (unquoted name) (unquoted value) request e in
    subst (WrittenAsk (codes "set" ∷ name ∷ value ∷ [])) got.4 (
      ap (λ w. codes "set" ∷ w ∷ value ∷ []) (quoted-unquoted name got.0 got.2)
          ∙ ap (λ w. codes "set" ∷ quoted got.0 ∷ w ∷ []) (quoted-unquoted value got.1 got.3),
      (bytes-unquoted name got.0 got.2, bytes-unquoted value got.1 got.3),
    )
set_written (name ∷ value ∷ other ∷ more) request e = cc

legal_some : (o : Option (List ℕ)) (name : List ℕ) → legal o ≡ Some name → (o ≡ Some name) × LegalName name
legal_some None name e = cc
legal_some (Some text) name e = elim (if_some (is_legal_name text) (Some text) None name e) [
  | inl is ↦
      let same : text ≡ name = let both = is.1 in cc in
      (is.1, subst LegalName same is.0)
  | inr isnt ↦ let none = isnt.1 in cc
]

read_written : (args : List (List ℕ)) (request : Ask) → read_of args ≡ Some request → WrittenAsk (codes "read" ∷ args) request
read_written [] request e = cc
read_written (name ∷ []) request e =
    let got = map_some (λ name. ask.Read name) (legal (unquoted name)) request e in
    let is = legal_some (unquoted name) got.0 got.1 in
    subst (WrittenAsk (codes "read" ∷ name ∷ [])) got.2
    (ap (λ w. codes "read" ∷ w ∷ []) (quoted-unquoted name got.0 is.0), (bytes-unquoted name got.0 is.0, is.1))
read_written (name ∷ other ∷ more) request e = cc

word_is : (word key : List ℕ) → bytes_eq word key ≡ true → word ≡ key
word_is word key e = same_text word key (sym e)

ask_written : (words : List (List ℕ)) (request : Ask) → ask_of words ≡ Some request → WrittenAsk words request
ask_written [] request e = cc
ask_written (word ∷ args) request e = elim (if_some (bytes_eq word (codes "set")) _ _ request e) [
  | inl is ↦ subst (λ w. WrittenAsk (w ∷ args) request) (sym (word_is word (codes "set") is.0)) (set_written args request is.1)
  | inr isnt ↦ elim (if_some (bytes_eq word (codes "read")) _ _ request isnt.1) [
    | inl is ↦ subst (λ w. WrittenAsk (w ∷ args) request) (sym (word_is word (codes "read") is.0)) (read_written args request is.1)
    | inr isnt ↦ elim (if_some (bytes_eq word (codes "sync")) _ _ request isnt.1) [
      | inl is ↦ subst (λ w. WrittenAsk (w ∷ args) request) (sym (word_is word (codes "sync") is.0)) (sync_written args is.1)
      | inr isnt ↦ elim (if_some (bytes_eq word (codes "catch")) _ _ request isnt.1) [
        | inl is ↦ subst (λ w. WrittenAsk (w ∷ args) request) (sym (word_is word (codes "catch") is.0)) (catch_written args is.1)
        | inr isnt ↦ let none = isnt.1 in cc
      ]
    ]
  ]
]
  where
    sync_written : (args : List (List ℕ)) → lone ask.Sync args ≡ Some request → WrittenAsk (codes "sync" ∷ args) request
    sync_written [] e = let same : ask.Sync ≡ request = cc in subst (WrittenAsk (codes "sync" ∷ [])) same (refl, tt)
    sync_written (other ∷ more) e = cc

    catch_written : (args : List (List ℕ)) → lone ask.Catch args ≡ Some request → WrittenAsk (codes "catch" ∷ args) request
    catch_written [] e = let same : ask.Catch ≡ request = cc in subst (WrittenAsk (codes "catch" ∷ [])) same (refl, tt)
    catch_written (other ∷ more) e = cc

-- ---- lines

act_written : (word : List ℕ) (args : List (List ℕ)) (s : Statement) → act_of word args ≡ Some s → Written (word ∷ args) s
act_written word args s e = elim (if_some (bytes_eq word (codes "step")) _ _ s e) [
  | inl is ↦ subst (λ w. Written (w ∷ args) s) (sym (word_is word (codes "step") is.0)) (step_written args s is.1)
  | inr isnt ↦ elim (if_some (bytes_eq word (codes "tick")) _ _ s isnt.1) [
    | inl is ↦ subst (λ w. Written (w ∷ args) s) (sym (word_is word (codes "tick") is.0)) (tick_written args s is.1)
    | inr isnt ↦ elim (if_some (bytes_eq word (codes "exit")) _ _ s isnt.1) [
      | inl is ↦ subst (λ w. Written (w ∷ args) s) (sym (word_is word (codes "exit") is.0)) (exit_written args s is.1)
      | inr isnt ↦ elim (if_some (bytes_eq word (codes "file")) _ _ s isnt.1) [
        | inl is ↦ subst (λ w. Written (w ∷ args) s) (sym (word_is word (codes "file") is.0)) (file_written args s is.1)
        | inr isnt ↦ let none = isnt.1 in cc
      ]
    ]
  ]
]

plain_written : (word : List ℕ) (args : List (List ℕ)) (s : Statement) → plain_statement_of word args ≡ Some s → Written (word ∷ args) s
plain_written word args s e = elim (if_some (bytes_eq word (codes "area")) _ _ s e) [
  | inl is ↦ subst (λ w. Written (w ∷ args) s) (sym (word_is word (codes "area") is.0)) (area_written args s is.1)
  | inr isnt ↦ elim (if_some (bytes_eq word (codes "plan")) _ _ s isnt.1) [
    | inl is ↦ subst (λ w. Written (w ∷ args) s) (sym (word_is word (codes "plan") is.0)) (plan_written args s is.1)
    | inr isnt ↦ elim (if_some (bytes_eq word (codes "client")) _ _ s isnt.1) [
      | inl is ↦ subst (λ w. Written (w ∷ args) s) (sym (word_is word (codes "client") is.0)) (client_written args s is.1)
      | inr isnt ↦ act_written word args s isnt.1
    ]
  ]
]

call_is : (word : List ℕ) → is_call word ≡ true → word ≡ 64 ∷ drop 1 word
call_is [] e = cc
call_is (b ∷ word) e =
    let front : b ∷ [] ≡ 64 ∷ [] = sym (same_text (64 ∷ []) (b ∷ []) (sym e)) in
    let same : b ≡ 64 = cc in
    ap (λ c. c ∷ word) same

call_written : (word : List ℕ) (args : List (List ℕ)) (s : Statement) → is_call word ≡ true
    → with_two (λ name ask. statement.Ask name ask) (unquoted (drop 1 word)) (ask_of args) ≡ Some s → Written (word ∷ args) s
call_written word args s call e =
    let got = two_some (λ name ask. statement.Ask name ask) (unquoted (drop 1 word)) (ask_of args) s e in
    let request = ask_written args got.1 got.3 in
    subst (Written (word ∷ args)) got.4 (
      ap (λ w. w ∷ args) (call_is word call ∙ ap (λ w. 64 ∷ w) (quoted-unquoted (drop 1 word) got.0 got.2))
          ∙ ap (λ ws. (64 ∷ quoted got.0) ∷ ws) request.0,
      (bytes-unquoted (drop 1 word) got.0 got.2, request.1),
    )

pub statement_written : (words : List (List ℕ)) (s : Statement) → statement_of words ≡ Some s → Written words s
statement_written [] s e = cc
statement_written (word ∷ args) s e = elim (if_some (is_call word) _ _ s e) [
  | inl is ↦ call_written word args s is.0 is.1
  | inr isnt ↦ plain_written word args s isnt.1
]
