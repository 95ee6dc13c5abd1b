-- Scripts, this project's own format: which texts are scripts, and which line of another text is the first bad one.
use Rattle.std.specs.Prelude.{◌≡◌, ℕ, ◌+◌, ◌≤◌, Bool, true, false, IsTrue, not, ◌&&◌, nat_lt, List, [], ◌∷◌, ◌++◌, length, map, filter, sum_by, count_by, Option, Some, None}
use Rattle.std.specs.List.{list_any, filter_map, flat_map, position_or_len}
use Rattle.std.specs.Str.{bytes_eq}
use Rattle.init_base.specs.declared.units.ClientId.{ClientId}
use Rattle.init_machine.specs.declared.config.Plan.{Plan}
use Rattle.script_lang.specs.Lines.{lines_of}
use Rattle.script_lang.specs.Statements.{reading_of}
use Rattle.script_lang.specs.declared.script.Act.{Act}
use Rattle.script_lang.specs.declared.script.Act.TheVariants as act
use Rattle.script_lang.specs.declared.script.Client.{Client}
use Rattle.script_lang.specs.declared.script.Script.{Script}
use Rattle.script_lang.specs.declared.statement.Said.{Said}
use Rattle.script_lang.specs.declared.statement.Statement.{Statement}
use Rattle.script_lang.specs.declared.statement.Statement.TheVariants as statement

-- ---- the order of statements

-- a declaration says what the machine is opened with; each other statement is an act
abbrev pub is_declaration : Statement → Bool
is_declaration (statement.Area size) = true
is_declaration (statement.Plan plan) = true
is_declaration (statement.Client client) = true
is_declaration (statement.Step count) = false
is_declaration (statement.Tick ms) = false
is_declaration (statement.Exit name status) = false
is_declaration (statement.File path content) = false
is_declaration (statement.Ask name ask) = false

abbrev pub is_act : Statement → Bool
is_act s = not (is_declaration s)

abbrev pub is_area : Statement → Bool
is_area (statement.Area size) = true
is_area _ = false

abbrev pub is_plan_of : List ℕ → Statement → Bool
is_plan_of path (statement.Plan plan) = bytes_eq plan.path path
is_plan_of path _ = false

abbrev pub is_client : Statement → Bool
is_client (statement.Client client) = true
is_client _ = false

abbrev pub is_client_named : List ℕ → Statement → Bool
is_client_named name (statement.Client client) = bytes_eq client.name name
is_client_named name _ = false

-- A statement fits behind others: declarations come before all acts, there is at most one area, one plan for a path, one
-- client of a name and 64 clients, and a client asks only where it is declared.
abbrev pub fits : List Statement → Statement → Bool
fits before (statement.Area size) = not (list_any is_act before) && not (list_any is_area before)
fits before (statement.Plan plan) = not (list_any is_act before) && not (list_any (is_plan_of plan.path) before)
fits before (statement.Client client) =
    not (list_any is_act before) && not (list_any (is_client_named client.name) before) && nat_lt (count_by is_client before) 64
fits before (statement.Step count) = true
fits before (statement.Tick ms) = true
fits before (statement.Exit name status) = true
fits before (statement.File path content) = true
fits before (statement.Ask name ask) = list_any (is_client_named name) before

-- ---- the order of lines

abbrev pub statements_in : Option (Option Statement) → List Statement
statements_in None = []
statements_in (Some None) = []
statements_in (Some (Some s)) = s ∷ []

-- what some lines say
abbrev pub statements_of : List (List ℕ) → List Statement
statements_of lines = flat_map (λ line. statements_in (reading_of line)) lines

abbrev pub reading_fits : List Statement → Option (Option Statement) → Bool
reading_fits before None = false
reading_fits before (Some None) = true
reading_fits before (Some (Some s)) = fits before s

-- A line fits behind others: it is in form, and what it says fits behind what they say.
abbrev pub line_fits : List (List ℕ) → List ℕ → Bool
line_fits before line = reading_fits (statements_of before) (reading_of line)

-- each of some lines fits behind those before it
abbrev pub AllFit : List (List ℕ) → Type 0
AllFit lines =
    (before : List (List ℕ)) (line : List ℕ) (behind : List (List ℕ)) → lines ≡ before ++ line ∷ behind → IsTrue (line_fits before line)

-- the first of some lines that doesn't fit behind those before it, by its number from 1
pub record IsFirstBad (lines : List (List ℕ)) (number : ℕ) : Type 0 where
  pub before : List (List ℕ)
  pub bad : List ℕ
  pub behind : List (List ℕ)
  pub text : lines ≡ before ++ bad ∷ behind
  pub all_fit : AllFit before
  pub misfit : line_fits before bad ≡ false
  pub number_is : number ≡ length before + 1

-- ---- the script

-- what the line with this number says
abbrev pub said_in : ℕ → Option (Option Statement) → List Said
said_in number None = []
said_in number (Some None) = []
said_in number (Some (Some s)) = record { line = number; statement = s } ∷ []

-- what some lines say, of which the first has this number
abbrev pub said_from : ℕ → List (List ℕ) → List Said
said_from number [] = []
said_from number (line ∷ lines) = said_in number (reading_of line) ++ said_from (number + 1) lines

abbrev pub area_in : Statement → Option ℕ
area_in (statement.Area size) = Some size
area_in _ = None

abbrev pub plan_in : Statement → Option Plan
plan_in (statement.Plan plan) = Some plan
plan_in _ = None

abbrev pub client_in : Statement → Option Client
client_in (statement.Client client) = Some client
client_in _ = None

-- the number of the client with this name, from 1
abbrev pub client_id : List Client → List ℕ → ClientId
client_id clients name = record { 0 = position_or_len (λ client. bytes_eq client.name name) clients + 1 }

abbrev pub act_in : List Client → Statement → Option Act
act_in clients (statement.Area size) = None
act_in clients (statement.Plan plan) = None
act_in clients (statement.Client client) = None
act_in clients (statement.Step count) = Some (act.Step count)
act_in clients (statement.Tick ms) = Some (act.Tick ms)
act_in clients (statement.Exit name status) = Some (act.Exit name status)
act_in clients (statement.File path content) = Some (act.File path content)
act_in clients (statement.Ask name ask) = Some (act.Ask (client_id clients name) ask)

-- the last of some values, or else another one
abbrev pub last_or : {A : Type 0} → A → List A → A
last_or other [] = other
last_or other (value ∷ values) = last_or value values

abbrev pub statements : List Said → List Statement
statements said = map (λ s. s.statement) said

-- the script of what lines say. Without a declaration the area has 65,536 words.
abbrev pub script_of : List Said → Script
script_of said =
    let clients = filter_map client_in (statements said) in
    record {
      words = last_or 65536 (filter_map area_in (statements said));
      plans = filter_map plan_in (statements said);
      clients = clients;
      acts = filter_map (act_in clients) (statements said);
      lines = map (λ s. s.line) (filter (λ s. is_act s.statement) said);
    }

-- ---- limits

abbrev pub steps_in : Option (Option Statement) → ℕ
steps_in (Some (Some (statement.Step count))) = count
steps_in _ = 0

-- the sum of the numbers of all `step` lines in form
abbrev pub total_steps : List (List ℕ) → ℕ
total_steps lines = sum_by (λ line. steps_in (reading_of line)) lines

pub record IsWithinLimits (bytes : List ℕ) : Type 0 where
  pub short : length bytes ≤ 16777216
  pub few_lines : length (lines_of bytes) ≤ 100000
  pub few_steps : total_steps (lines_of bytes) ≤ 1000000

-- the bytes are the text of this script
pub record IsScript (bytes : List ℕ) (script : Script) : Type 0 where
  pub within : IsWithinLimits bytes
  pub all_fit : AllFit (lines_of bytes)
  pub script_is : script ≡ script_of (said_from 1 (lines_of bytes))
