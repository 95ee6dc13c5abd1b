-- A line without a cause in its words says a statement.
use Rattle.std.proofs.Common.{◌≡◌, ℕ, ◌==◌, Bool, true, false, cond, if◌then◌else◌, List, [], ◌∷◌, length, drop, codes, is_some, Option, Some, None, refl, ap, ◌∙◌, arith}
use Rattle.std.specs.Option.{option_map, option_or}
use Rattle.std.specs.Str.{bytes_eq}
use Rattle.std.proofs.lemmas.Bool.{eqb-true}
use Rattle.init_base.specs.Name.{is_legal_name}
use Rattle.init_base.specs.Quoted.{unquoted}
use Rattle.script_lang.specs.Statements.{number_in, status_in, last_moment, with_two, with_three, plan, client, pair, legal, lone, area_of, plan_of, client_of, step_of, tick_of, exit_of, file_of, set_of, read_of, ask_of, act_of, plain_statement_of, is_call, statement_of}
use Rattle.script_lang.specs.declared.script.Ask.{Ask}
use Rattle.script_lang.specs.declared.script.Ask.TheVariants as ask
use Rattle.script_lang.specs.declared.statement.Statement.{Statement}
use Rattle.script_lang.specs.declared.statement.Statement.TheVariants as statement
use Rattle.refusal_causes.specs.Arguments.{act_arguments_of, argument_cause, arguments_cause, legal_cause, number_cause, text_cause}
use Rattle.refusal_causes.specs.Statements.{behind_cause, count_cause, plain_cause, plain_cause_of, request_cause, request_cause_of, statement_cause}
use Rattle.refusal_causes.specs.declared.script.argument.Argument.{Argument}
use Rattle.refusal_causes.specs.declared.script.argument.Argument.TheVariants.{Size, Time, Status, Steps, Quoted, Name}
use Rattle.refusal_causes.specs.declared.script.cause.ScriptCause.{ScriptCause}
use Rattle.refusal_causes.specs.declared.script.cause.ScriptCause.TheVariants as cause

-- something is said
abbrev pub Says : {S : Type 0} → Option S → Type 0
Says {S = S} o = (s : S) × (o ≡ Some s)

pub no_cause : {C : Type 0} (a b : Option C) → option_or a b ≡ None → (a ≡ None) × (b ≡ None)
no_cause None b h = (refl, h)
no_cause (Some c) b h = cc

there : {A : Type 0} (o : Option A) (why : ScriptCause) → (if is_some o then None else Some why) ≡ None → Says o
there None why h = cc
there (Some a) why h = (a, refl)

count_is : (word : List ℕ) (wanted given : ℕ) → count_cause word wanted given ≡ None → wanted ≡ given
count_is word wanted given h =
    elim (wanted == given) as (λ t. (wanted == given) ≡ t → (if t then None else Some (cause.WrongCount word wanted given)) ≡ None → wanted ≡ given) [
      | true ↦ λ same none. eqb-true wanted given same
      | false ↦ λ other none. cc
    ] refl h

-- ---- arguments

number_there : (least most : ℕ) (word : List ℕ) → number_cause least most word ≡ None → Says (number_in least most word)
number_there least most word h = there (number_in least most word) (cause.BadNumber word least most) h

text_there : (word : List ℕ) → text_cause word ≡ None → Says (unquoted word)
text_there word h = there (unquoted word) (cause.NotQForm word) h

legal_there : (word : List ℕ) (name : Option (List ℕ)) → legal_cause word name ≡ None → Says (legal name)
legal_there word None h = cc
legal_there word (Some name) h =
    elim (is_legal_name name) as (λ t. (if t then None else Some (cause.IllegalName word)) ≡ None → Says (if t then Some name else None)) [
      | true ↦ λ none. (name, refl)
      | false ↦ λ none. cc
    ] h

-- the cause of the first argument, and of those behind it
parts : (argument : Argument) (arguments : List Argument) (word : List ℕ) (words : List (List ℕ)) → arguments_cause (argument ∷ arguments) (word ∷ words) ≡ None
    → (argument_cause argument word ≡ None) × (arguments_cause arguments words ≡ None)
parts argument arguments word words h = no_cause (argument_cause argument word) (arguments_cause arguments words) h

two : {S : Type 0} (make : List ℕ → List ℕ → S) (a b : List ℕ) → arguments_cause (Quoted ∷ Quoted ∷ []) (a ∷ b ∷ []) ≡ None
    → Says (with_two make (unquoted a) (unquoted b))
two make a b h =
    let first = parts Quoted (Quoted ∷ []) a (b ∷ []) h in
    let second = parts Quoted [] b [] first.1 in
    let x = text_there a first.0 in
    let y = text_there b second.0 in
    (make x.0 y.0, ap (λ o. with_two make o (unquoted b)) x.1 ∙ ap (with_two make (Some x.0)) y.1)

-- ---- words behind a first word

-- the number of the words and the words
counted : (word : List ℕ) (args : List (List ℕ)) (arguments : List Argument) → behind_cause word args arguments ≡ None
    → (length arguments ≡ length args) × (arguments_cause arguments args ≡ None)
counted word args arguments h =
    let both = no_cause (count_cause word (length arguments) (length args)) (arguments_cause arguments args) h in
    (count_is word (length arguments) (length args) both.0, both.1)

area_said : (word : List ℕ) (args : List (List ℕ)) → behind_cause word args (Size ∷ []) ≡ None → Says (area_of args)
area_said word [] h = absurd (omega (arith, (counted word [] (Size ∷ []) h).0))
area_said word (a ∷ []) h =
    let n = number_there 64 1048576 a (parts Size [] a [] (counted word (a ∷ []) (Size ∷ []) h).1).0 in
    (statement.Area n.0, ap (option_map statement.Area) n.1)
area_said word (a ∷ b ∷ more) h = absurd (omega (arith, (counted word (a ∷ b ∷ more) (Size ∷ []) h).0))

step_said : (word : List ℕ) (args : List (List ℕ)) → behind_cause word args (Steps ∷ []) ≡ None → Says (step_of args)
step_said word [] h = absurd (omega (arith, (counted word [] (Steps ∷ []) h).0))
step_said word (a ∷ []) h =
    let n = number_there 1 1000000 a (parts Steps [] a [] (counted word (a ∷ []) (Steps ∷ []) h).1).0 in
    (statement.Step n.0, ap (option_map statement.Step) n.1)
step_said word (a ∷ b ∷ more) h = absurd (omega (arith, (counted word (a ∷ b ∷ more) (Steps ∷ []) h).0))

tick_said : (word : List ℕ) (args : List (List ℕ)) → behind_cause word args (Time ∷ []) ≡ None → Says (tick_of args)
tick_said word [] h = absurd (omega (arith, (counted word [] (Time ∷ []) h).0))
tick_said word (a ∷ []) h =
    let n = number_there 0 last_moment a (parts Time [] a [] (counted word (a ∷ []) (Time ∷ []) h).1).0 in
    (statement.Tick n.0, ap (option_map statement.Tick) n.1)
tick_said word (a ∷ b ∷ more) h = absurd (omega (arith, (counted word (a ∷ b ∷ more) (Time ∷ []) h).0))

plan_said : (word : List ℕ) (args : List (List ℕ)) → behind_cause word args (Quoted ∷ Time ∷ Status ∷ []) ≡ None → Says (plan_of args)
plan_said word [] h = absurd (omega (arith, (counted word [] (Quoted ∷ Time ∷ Status ∷ []) h).0))
plan_said word (a ∷ []) h = absurd (omega (arith, (counted word (a ∷ []) (Quoted ∷ Time ∷ Status ∷ []) h).0))
plan_said word (a ∷ b ∷ []) h = absurd (omega (arith, (counted word (a ∷ b ∷ []) (Quoted ∷ Time ∷ Status ∷ []) h).0))
plan_said word (a ∷ b ∷ c ∷ []) h =
    let make : List ℕ → ℕ → ℕ → Statement = λ path after status. statement.Plan (plan path after status) in
    let all = (counted word (a ∷ b ∷ c ∷ []) (Quoted ∷ Time ∷ Status ∷ []) h).1 in
    let first = parts Quoted (Time ∷ Status ∷ []) a (b ∷ c ∷ []) all in
    let second = parts Time (Status ∷ []) b (c ∷ []) first.1 in
    let third = parts Status [] c [] second.1 in
    let x = text_there a first.0 in
    let y = number_there 0 last_moment b second.0 in
    let z = number_there 0 255 c third.0 in (
      make x.0 y.0 z.0,
      ap (λ o. with_three make o (number_in 0 last_moment b) (status_in c)) x.1
          ∙ ap (λ o. with_two (make x.0) o (status_in c)) y.1
          ∙ ap (with_two (make x.0) (Some y.0)) z.1,
    )
plan_said word (a ∷ b ∷ c ∷ d ∷ more) h = absurd (omega (arith, (counted word (a ∷ b ∷ c ∷ d ∷ more) (Quoted ∷ Time ∷ Status ∷ []) h).0))

client_said : (word : List ℕ) (args : List (List ℕ)) → behind_cause word args (Quoted ∷ Quoted ∷ []) ≡ None → Says (client_of args)
client_said word [] h = absurd (omega (arith, (counted word [] (Quoted ∷ Quoted ∷ []) h).0))
client_said word (a ∷ []) h = absurd (omega (arith, (counted word (a ∷ []) (Quoted ∷ Quoted ∷ []) h).0))
client_said word (a ∷ b ∷ []) h = two (λ name domain. statement.Client (client name domain)) a b (counted word (a ∷ b ∷ []) (Quoted ∷ Quoted ∷ []) h).1
client_said word (a ∷ b ∷ c ∷ more) h = absurd (omega (arith, (counted word (a ∷ b ∷ c ∷ more) (Quoted ∷ Quoted ∷ []) h).0))

file_said : (word : List ℕ) (args : List (List ℕ)) → behind_cause word args (Quoted ∷ Quoted ∷ []) ≡ None → Says (file_of args)
file_said word [] h = absurd (omega (arith, (counted word [] (Quoted ∷ Quoted ∷ []) h).0))
file_said word (a ∷ []) h = absurd (omega (arith, (counted word (a ∷ []) (Quoted ∷ Quoted ∷ []) h).0))
file_said word (a ∷ b ∷ []) h = two (λ path content. statement.File path content) a b (counted word (a ∷ b ∷ []) (Quoted ∷ Quoted ∷ []) h).1
file_said word (a ∷ b ∷ c ∷ more) h = absurd (omega (arith, (counted word (a ∷ b ∷ c ∷ more) (Quoted ∷ Quoted ∷ []) h).0))

exit_said : (word : List ℕ) (args : List (List ℕ)) → behind_cause word args (Quoted ∷ Status ∷ []) ≡ None → Says (exit_of args)
exit_said word [] h = absurd (omega (arith, (counted word [] (Quoted ∷ Status ∷ []) h).0))
exit_said word (a ∷ []) h = absurd (omega (arith, (counted word (a ∷ []) (Quoted ∷ Status ∷ []) h).0))
exit_said word (a ∷ b ∷ []) h =
    let make : List ℕ → ℕ → Statement = λ name status. statement.Exit name status in
    let first = parts Quoted (Status ∷ []) a (b ∷ []) (counted word (a ∷ b ∷ []) (Quoted ∷ Status ∷ []) h).1 in
    let second = parts Status [] b [] first.1 in
    let x = text_there a first.0 in
    let y = number_there 0 255 b second.0 in
    (make x.0 y.0, ap (λ o. with_two make o (status_in b)) x.1 ∙ ap (with_two make (Some x.0)) y.1)
exit_said word (a ∷ b ∷ c ∷ more) h = absurd (omega (arith, (counted word (a ∷ b ∷ c ∷ more) (Quoted ∷ Status ∷ []) h).0))

set_said : (word : List ℕ) (args : List (List ℕ)) → behind_cause word args (Quoted ∷ Quoted ∷ []) ≡ None → Says (set_of args)
set_said word [] h = absurd (omega (arith, (counted word [] (Quoted ∷ Quoted ∷ []) h).0))
set_said word (a ∷ []) h = absurd (omega (arith, (counted word (a ∷ []) (Quoted ∷ Quoted ∷ []) h).0))
set_said word (a ∷ b ∷ []) h = two (λ name value. ask.Set (pair name value)) a b (counted word (a ∷ b ∷ []) (Quoted ∷ Quoted ∷ []) h).1
set_said word (a ∷ b ∷ c ∷ more) h = absurd (omega (arith, (counted word (a ∷ b ∷ c ∷ more) (Quoted ∷ Quoted ∷ []) h).0))

read_said : (word : List ℕ) (args : List (List ℕ)) → behind_cause word args (Name ∷ []) ≡ None → Says (read_of args)
read_said word [] h = absurd (omega (arith, (counted word [] (Name ∷ []) h).0))
read_said word (a ∷ []) h =
    let n = legal_there a (unquoted a) (parts Name [] a [] (counted word (a ∷ []) (Name ∷ []) h).1).0 in
    (ask.Read n.0, ap (option_map ask.Read) n.1)
read_said word (a ∷ b ∷ more) h = absurd (omega (arith, (counted word (a ∷ b ∷ more) (Name ∷ []) h).0))

lone_said : (request : Ask) (word : List ℕ) (args : List (List ℕ)) → behind_cause word args [] ≡ None → Says (lone request args)
lone_said request word [] h = (request, refl)
lone_said request word (a ∷ more) h = absurd (omega (arith, (counted word (a ∷ more) [] h).0))

-- ---- which word is first

choose : {S : Type 0} (f : Option (List Argument) → Option ScriptCause) (t : Bool) (some more : Option (List Argument)) (one other : Option S)
    → (f some ≡ None → Says one) → (f more ≡ None → Says other) → f (cond t some more) ≡ None → Says (cond t one other)
choose f true some more one other first second h = first h
choose f false some more one other first second h = second h

from_file : (word : List ℕ) (args : List (List ℕ)) → plain_cause_of (cond (bytes_eq word (codes "file")) (Some (Quoted ∷ Quoted ∷ [])) None) word args ≡ None
    → Says (cond (bytes_eq word (codes "file")) (file_of args) None)
from_file word args = choose (λ o. plain_cause_of o word args) (bytes_eq word (codes "file")) (Some (Quoted ∷ Quoted ∷ [])) None (file_of args) None
    (file_said word args) (λ h. cc)

abbrev behind_exit : List ℕ → Option (List Argument)
behind_exit word = cond (bytes_eq word (codes "file")) (Some (Quoted ∷ Quoted ∷ [])) None

abbrev behind_tick : List ℕ → Option (List Argument)
behind_tick word = cond (bytes_eq word (codes "exit")) (Some (Quoted ∷ Status ∷ [])) (behind_exit word)

abbrev behind_step : List ℕ → Option (List Argument)
behind_step word = cond (bytes_eq word (codes "tick")) (Some (Time ∷ [])) (behind_tick word)

abbrev acts_behind_exit : List ℕ → List (List ℕ) → Option Statement
acts_behind_exit word args = cond (bytes_eq word (codes "file")) (file_of args) None

abbrev acts_behind_tick : List ℕ → List (List ℕ) → Option Statement
acts_behind_tick word args = cond (bytes_eq word (codes "exit")) (exit_of args) (acts_behind_exit word args)

abbrev acts_behind_step : List ℕ → List (List ℕ) → Option Statement
acts_behind_step word args = cond (bytes_eq word (codes "tick")) (tick_of args) (acts_behind_tick word args)

act_said : (word : List ℕ) (args : List (List ℕ)) → plain_cause_of (act_arguments_of word) word args ≡ None → Says (act_of word args)
act_said word args =
    let f : Option (List Argument) → Option ScriptCause = λ o. plain_cause_of o word args in
    choose f (bytes_eq word (codes "step")) (Some (Steps ∷ [])) (behind_step word) (step_of args) (acts_behind_step word args) (step_said word args)
    (choose f (bytes_eq word (codes "tick")) (Some (Time ∷ [])) (behind_tick word) (tick_of args) (acts_behind_tick word args) (tick_said word args)
    (choose f (bytes_eq word (codes "exit")) (Some (Quoted ∷ Status ∷ [])) (behind_exit word) (exit_of args) (acts_behind_exit word args) (exit_said word args)
    (from_file word args)))

abbrev behind_plan : List ℕ → Option (List Argument)
behind_plan word = cond (bytes_eq word (codes "client")) (Some (Quoted ∷ Quoted ∷ [])) (act_arguments_of word)

abbrev behind_area : List ℕ → Option (List Argument)
behind_area word = cond (bytes_eq word (codes "plan")) (Some (Quoted ∷ Time ∷ Status ∷ [])) (behind_plan word)

abbrev said_behind_plan : List ℕ → List (List ℕ) → Option Statement
said_behind_plan word args = cond (bytes_eq word (codes "client")) (client_of args) (act_of word args)

abbrev said_behind_area : List ℕ → List (List ℕ) → Option Statement
said_behind_area word args = cond (bytes_eq word (codes "plan")) (plan_of args) (said_behind_plan word args)

plain_said : (word : List ℕ) (args : List (List ℕ)) → plain_cause word args ≡ None → Says (plain_statement_of word args)
plain_said word args =
    let f : Option (List Argument) → Option ScriptCause = λ o. plain_cause_of o word args in
    choose f (bytes_eq word (codes "area")) (Some (Size ∷ [])) (behind_area word) (area_of args) (said_behind_area word args) (area_said word args)
    (choose f (bytes_eq word (codes "plan")) (Some (Quoted ∷ Time ∷ Status ∷ [])) (behind_plan word) (plan_of args) (said_behind_plan word args) (plan_said word args)
    (choose f (bytes_eq word (codes "client")) (Some (Quoted ∷ Quoted ∷ [])) (act_arguments_of word) (client_of args) (act_of word args) (client_said word args)
    (act_said word args)))

abbrev behind_sync : List ℕ → Option (List Argument)
behind_sync word = cond (bytes_eq word (codes "catch")) (Some []) None

abbrev behind_read : List ℕ → Option (List Argument)
behind_read word = cond (bytes_eq word (codes "sync")) (Some []) (behind_sync word)

abbrev behind_set : List ℕ → Option (List Argument)
behind_set word = cond (bytes_eq word (codes "read")) (Some (Name ∷ [])) (behind_read word)

abbrev asks_behind_sync : List ℕ → List (List ℕ) → Option Ask
asks_behind_sync word args = cond (bytes_eq word (codes "catch")) (lone ask.Catch args) None

abbrev asks_behind_read : List ℕ → List (List ℕ) → Option Ask
asks_behind_read word args = cond (bytes_eq word (codes "sync")) (lone ask.Sync args) (asks_behind_sync word args)

abbrev asks_behind_set : List ℕ → List (List ℕ) → Option Ask
asks_behind_set word args = cond (bytes_eq word (codes "read")) (read_of args) (asks_behind_read word args)

request_said : (words : List (List ℕ)) → request_cause words ≡ None → Says (ask_of words)
request_said [] h = cc
request_said (word ∷ args) h =
    let f : Option (List Argument) → Option ScriptCause = λ o. request_cause_of o word args in
    choose f (bytes_eq word (codes "set")) (Some (Quoted ∷ Quoted ∷ [])) (behind_set word) (set_of args) (asks_behind_set word args) (set_said word args)
    (choose f (bytes_eq word (codes "read")) (Some (Name ∷ [])) (behind_read word) (read_of args) (asks_behind_read word args) (read_said word args)
    (choose f (bytes_eq word (codes "sync")) (Some []) (behind_sync word) (lone ask.Sync args) (asks_behind_sync word args) (lone_said ask.Sync word args)
    (choose f (bytes_eq word (codes "catch")) (Some []) None (lone ask.Catch args) None (lone_said ask.Catch word args) (λ none. cc)))) h

-- ---- lines

call_said : (word : List ℕ) (args : List (List ℕ)) → option_or (text_cause (drop 1 word)) (request_cause args) ≡ None
    → Says (with_two (λ name ask. statement.Ask name ask) (unquoted (drop 1 word)) (ask_of args))
call_said word args h =
    let make : List ℕ → Ask → Statement = λ name ask. statement.Ask name ask in
    let both = no_cause (text_cause (drop 1 word)) (request_cause args) h in
    let x = text_there (drop 1 word) both.0 in
    let y = request_said args both.1 in
    (make x.0 y.0, ap (λ o. with_two make o (ask_of args)) x.1 ∙ ap (with_two make (Some x.0)) y.1)

pub words_said : (word : List ℕ) (args : List (List ℕ)) → statement_cause (word ∷ args) ≡ None → Says (statement_of (word ∷ args))
words_said word args =
    elim (is_call word) as (λ t. cond t (option_or (text_cause (drop 1 word)) (request_cause args)) (plain_cause word args) ≡ None
    → Says (cond t (with_two (λ name ask. statement.Ask name ask) (unquoted (drop 1 word)) (ask_of args)) (plain_statement_of word args))) [
      | true ↦ call_said word args
      | false ↦ plain_said word args
    ]
