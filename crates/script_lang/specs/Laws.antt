-- Laws of scripts.
use Rattle.std.specs.Prelude.{◌≡◌, ◌≢◌, ℕ, ◌≤◌, Bool, true, false, IsTrue, ◌==◌, if◌then◌else◌, List, [], ◌∷◌, length, codes, All, AllPairs, Option, Some, None}
use Rattle.std.specs.Fmt.{decimal}
use Rattle.std.specs.List.{list_all}
use Rattle.init_base.specs.Name.{LegalName}
use Rattle.init_base.specs.Quoted.{is_byte, quoted}
use Rattle.init_machine.specs.declared.config.Pair.{Pair}
use Rattle.init_machine.specs.declared.input.Input.{Input}
use Rattle.init_machine.specs.declared.input.Input.TheVariants as input
use Rattle.script_lang.specs.Statements.{last_moment}
use Rattle.script_lang.specs.declared.script.Act.{Act}
use Rattle.script_lang.specs.declared.script.Act.TheVariants as act
use Rattle.script_lang.specs.declared.script.Script.{Script}
use Rattle.script_lang.specs.declared.script.Ask.{Ask}
use Rattle.script_lang.specs.declared.script.Ask.TheVariants as ask
use Rattle.script_lang.specs.declared.statement.Statement.{Statement}
use Rattle.script_lang.specs.declared.statement.Statement.TheVariants as statement

-- ---- how statements are written

-- the words of a client's request
abbrev pub ask_words : Ask → List (List ℕ)
ask_words (ask.Set pair) = codes "set" ∷ quoted pair.name ∷ quoted pair.value ∷ []
ask_words (ask.Read name) = codes "read" ∷ quoted name ∷ []
ask_words ask.Sync = codes "sync" ∷ []
ask_words ask.Catch = codes "catch" ∷ []

-- the words of a statement: each text in q form, each number in decimal
abbrev pub statement_words : Statement → List (List ℕ)
statement_words (statement.Area size) = codes "area" ∷ decimal size ∷ []
statement_words (statement.Plan plan) = codes "plan" ∷ quoted plan.path ∷ decimal plan.after.0 ∷ decimal plan.status ∷ []
statement_words (statement.Client client) = codes "client" ∷ quoted client.name ∷ quoted client.domain ∷ []
statement_words (statement.Step count) = codes "step" ∷ decimal count ∷ []
statement_words (statement.Tick ms) = codes "tick" ∷ decimal ms ∷ []
statement_words (statement.Exit name status) = codes "exit" ∷ quoted name ∷ decimal status ∷ []
statement_words (statement.File path content) = codes "file" ∷ quoted path ∷ quoted content ∷ []
statement_words (statement.Ask name ask) = (64 ∷ quoted name) ∷ ask_words ask

abbrev pub IsText : List ℕ → Type 0
IsText text = IsTrue (list_all is_byte text)

abbrev pub IsStatus : ℕ → Type 0
IsStatus status = status ≤ 255

abbrev pub IsMoment : ℕ → Type 0
IsMoment ms = ms ≤ last_moment

-- the name that is read is legal
abbrev pub IsPermittedAsk : Ask → Type 0
IsPermittedAsk (ask.Set pair) = IsText pair.name × IsText pair.value
IsPermittedAsk (ask.Read name) = IsText name × LegalName name
IsPermittedAsk ask.Sync = Unit {0}
IsPermittedAsk ask.Catch = Unit {0}

-- what may stand in a statement
abbrev pub IsPermitted : Statement → Type 0
IsPermitted (statement.Area size) = (64 ≤ size) × (size ≤ 1048576)
IsPermitted (statement.Plan plan) = IsText plan.path × IsMoment plan.after.0 × IsStatus plan.status
IsPermitted (statement.Client client) = IsText client.name × IsText client.domain
IsPermitted (statement.Step count) = (1 ≤ count) × (count ≤ 1000000)
IsPermitted (statement.Tick ms) = IsMoment ms
IsPermitted (statement.Exit name status) = IsText name × IsStatus status
IsPermitted (statement.File path content) = IsText path × IsText content
IsPermitted (statement.Ask name ask) = IsText name × IsPermittedAsk ask

-- ---- what a script meets

-- no two values have the same text
abbrev pub Differ : {A : Type 0} → (A → List ℕ) → List A → Type 0
Differ text values = AllPairs (λ a b. text a ≢ text b) values

abbrev pub ReadsLegal : Ask → Type 0
ReadsLegal (ask.Set pair) = Unit {0}
ReadsLegal (ask.Read name) = LegalName name
ReadsLegal ask.Sync = Unit {0}
ReadsLegal ask.Catch = Unit {0}

-- a request is that of one of so many clients, and a name that is read is legal
abbrev pub IsAskAmong : ℕ → Act → Type 0
IsAskAmong clients (act.Step count) = Unit {0}
IsAskAmong clients (act.Tick ms) = Unit {0}
IsAskAmong clients (act.Exit name status) = Unit {0}
IsAskAmong clients (act.File path content) = Unit {0}
IsAskAmong clients (act.Ask who ask) = (1 ≤ who.0) × (who.0 ≤ clients) × ReadsLegal ask

-- what a run asks of a script
pub record MeetsConditions (script : Script) : Type 0 where
  pub least_words : 64 ≤ script.words
  pub most_words : script.words ≤ 1048576
  pub plans_differ : Differ (λ plan. plan.path) script.plans
  pub moments : All (λ plan. IsMoment plan.after.0) script.plans
  pub clients_differ : Differ (λ client. client.name) script.clients
  pub few_clients : length script.clients ≤ 64
  pub asks : All (IsAskAmong (length script.clients)) script.acts
  pub line_of_each : length script.lines ≡ length script.acts

-- ---- inputs

abbrev pub is_set : Input → Bool
is_set (input.Set who name value) = true
is_set input.Boot = false
is_set input.Next = false
is_set (input.Tick ms) = false
is_set (input.Exit name status) = false
is_set (input.File path content) = false

-- what a client with this number sets
abbrev pub set_by : ℕ → Input → Option Pair
set_by who (input.Set other name value) = if other.0 == who then Some (record { name = name; value = value }) else None
set_by who input.Boot = None
set_by who input.Next = None
set_by who (input.Tick ms) = None
set_by who (input.Exit name status) = None
set_by who (input.File path content) = None

-- what a request sets
abbrev pub set_in : Ask → Option Pair
set_in (ask.Set pair) = Some pair
set_in (ask.Read name) = None
set_in ask.Sync = None
set_in ask.Catch = None
