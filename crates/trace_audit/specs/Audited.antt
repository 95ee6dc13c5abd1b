-- Audited: the documented machine can have written the report of a script, and if not, what is wrong first.
use Rattle.std.specs.Prelude.{◌≡◌, ℕ, ◌+◌, ⊤, Bool, true, false, IsTrue, ◌&&◌, ◌⊎◌, All, List, [], ◌∷◌, ◌++◌, length, map, Option, Some, None}
use Rattle.std.specs.Str.{bytes_eq}
use Rattle.init_machine.specs.Facts.{Stands}
use Rattle.init_machine.specs.History.{Legal, sets_in, sets_of}
use Rattle.init_machine.specs.Orderly.{Orderly}
use Rattle.init_machine.specs.State.{Opening}
use Rattle.init_machine.specs.declared.client.ClientItem.{ClientItem}
use Rattle.init_machine.specs.declared.client.ClientItem.TheVariants.{Told, Asked}
use Rattle.init_machine.specs.declared.client.ClientRequest.{ClientRequest}
use Rattle.init_machine.specs.declared.config.Pair.{Pair}
use Rattle.init_machine.specs.declared.diagnostic.Diagnostic.{Diagnostic}
use Rattle.init_machine.specs.declared.output.Output.{Output}
use Rattle.init_machine.specs.declared.report.ClientPart.{ClientPart}
use Rattle.init_machine.specs.declared.report.Entry.{Entry}
use Rattle.init_machine.specs.declared.report.Reading.{Reading}
use Rattle.init_machine.specs.declared.report.Reading.TheVariants as reading
use Rattle.init_machine.specs.declared.report.Report.{Report}
use Rattle.machine_laws.specs.Histories.{HasStepOutputs}
use Rattle.script_lang.specs.Inputs.{Parts, part_of}
use Rattle.script_lang.specs.Laws.{set_by}
use Rattle.script_lang.specs.Merges.{Merges, BeginsMerging}
use Rattle.script_lang.specs.declared.script.Ask.{Ask}
use Rattle.script_lang.specs.declared.script.Ask.TheVariants as ask
use Rattle.script_lang.specs.declared.script.Client.{Client}
use Rattle.script_lang.specs.declared.script.Script.{Script}
use Rattle.trace_audit.specs.Differences.{DifferFirst}
use Rattle.trace_audit.specs.declared.verdict.Verdict.{Verdict}
use Rattle.trace_audit.specs.declared.verdict.Verdict.TheVariants as verdict
use Rattle.trace_audit.specs.declared.verdict.Why.{Why}
use Rattle.trace_audit.specs.declared.verdict.Why.TheVariants as why

-- ---- clients

abbrev pub client_of : ClientPart → Client
client_of part = record { name = part.name; domain = part.domain }

-- the clients that a report shows, in order
abbrev pub clients_in : Report → List Client
clients_in report = map (λ part. client_of part) report.clients

-- ---- readings

-- a reading answers a request: a look-up the read of its name, and a count the request for it
abbrev pub is_answer : Ask → Reading → Bool
is_answer (ask.Read name) (reading.Found other number value) = bytes_eq other name
is_answer (ask.Read name) (reading.Absent other number) = bytes_eq other name
is_answer (ask.Read name) (reading.Again other number first second) = bytes_eq other name
is_answer ask.Sync (reading.Synced number) = true
is_answer ask.Catch (reading.Caught number) = true
is_answer _ _ = false

-- the readings answer the requests but the sets, each one, in order
abbrev pub answer_all : List Ask → List Reading → Bool
answer_all [] [] = true
answer_all [] (told ∷ readings) = false
answer_all (ask.Set pair ∷ asks) readings = answer_all asks readings
answer_all (ask.Read name ∷ asks) [] = false
answer_all (ask.Read name ∷ asks) (told ∷ readings) = is_answer (ask.Read name) told && answer_all asks readings
answer_all (ask.Sync ∷ asks) [] = false
answer_all (ask.Sync ∷ asks) (told ∷ readings) = is_answer ask.Sync told && answer_all asks readings
answer_all (ask.Catch ∷ asks) [] = false
answer_all (ask.Catch ∷ asks) (told ∷ readings) = is_answer ask.Catch told && answer_all asks readings

abbrev pub last_of : List Output → Option Output
last_of [] = None
last_of (one ∷ []) = Some one
last_of (one ∷ other ∷ rest) = last_of (other ∷ rest)

-- an entry as a request of its client: its place, and how many sets there were before it and after it
abbrev pub request_at : ℕ → ℕ → Entry → ClientRequest
request_at place before e = record {
  input = e.input;
  answer = last_of e.outputs;
  place = place;
  before = before;
  after = before + length (sets_in e.outputs);
}

abbrev pub request_if : Option Pair → ClientRequest → List ClientRequest
request_if None request = []
request_if (Some pair) request = request ∷ []

-- the set requests of the client with this number in entries, of which the first has this place, behind so many sets
abbrev pub requests_from : ℕ → ℕ → ℕ → List Entry → List ClientRequest
requests_from who place before [] = []
requests_from who place before (e ∷ entries) =
    request_if (set_by who e.input) (request_at place before e)
    ++ requests_from who (place + 1) (before + length (sets_in e.outputs)) entries

-- A client's list: each of its sets as it stands in the history, and for each of its other requests what it was told.
abbrev pub list_of : List Ask → List ClientRequest → List Reading → List ClientItem
list_of [] requests readings = []
list_of (ask.Set pair ∷ asks) [] readings = list_of asks [] readings
list_of (ask.Set pair ∷ asks) (request ∷ requests) readings = Asked request ∷ list_of asks requests readings
list_of (ask.Read name ∷ asks) requests [] = list_of asks requests []
list_of (ask.Read name ∷ asks) requests (told ∷ readings) = Told told ∷ list_of asks requests readings
list_of (ask.Sync ∷ asks) requests [] = list_of asks requests []
list_of (ask.Sync ∷ asks) requests (told ∷ readings) = Told told ∷ list_of asks requests readings
list_of (ask.Catch ∷ asks) requests [] = list_of asks requests []
list_of (ask.Catch ∷ asks) requests (told ∷ readings) = Told told ∷ list_of asks requests readings

-- The readings of the client with this number answer its `read`, `sync` and `catch` requests in order, with their names. They
-- stand with nothing being made, and the client's list is Orderly.
pub record ReadingsHold (script : Script) (history : List Entry) (who : ℕ) (readings : List Reading) : Type 0 where
  pub answer : IsTrue (answer_all (part_of who script) readings)
  pub stand : All (Stands (sets_of history) None) readings
  pub orderly : Orderly 0 (list_of (part_of who script) (requests_from who 1 0 history) readings)

-- so it is of each client; the first part is that of the client with this number
abbrev pub EachHolds : Script → List Entry → ℕ → List ClientPart → Type 0
EachHolds script history who [] = ⊤
EachHolds script history who (part ∷ parts) = ReadingsHold script history who part.readings × EachHolds script history (who + 1) parts

-- ---- the whole

-- Audited: the diagnostics are equal, the clients are the script's, the history merges the script's parts and is legal, and
-- each client's readings hold.
pub record Audited (o : Opening) (found : List Diagnostic) (script : Script) (report : Report) : Type 0 where
  pub diagnostics : found ≡ report.diagnostics
  pub clients : script.clients ≡ clients_in report
  pub merges : Merges report.history (Parts script)
  pub legal : Legal o report.history
  pub readings : EachHolds script report.history 1 report.clients

-- With this entry no merging begins, but with those before it one does. Or one begins with all entries, and the history ends
-- too early: then the number is one more than that of the last entry.
pub record StraysAt (script : Script) (history : List Entry) (number : ℕ) : Type 0 where
  pub before : List Entry
  pub entry : Entry
  pub behind : List Entry
  pub history_is : history ≡ before ++ entry ∷ behind
  pub number_is : number ≡ length before + 1
  pub begins : BeginsMerging before (Parts script)
  pub strays : ¬ BeginsMerging (before ++ entry ∷ []) (Parts script)

pub record EndsEarly (script : Script) (history : List Entry) (number : ℕ) : Type 0 where
  pub number_is : number ≡ length history + 1
  pub begins : BeginsMerging history (Parts script)
  pub ends : ¬ Merges history (Parts script)

-- the outputs of this entry are the first that aren't those of the machine's step
pub record IllegalAt (o : Opening) (history : List Entry) (number : ℕ) : Type 0 where
  pub before : List Entry
  pub entry : Entry
  pub behind : List Entry
  pub history_is : history ≡ before ++ entry ∷ behind
  pub number_is : number ≡ length before + 1
  pub legal : Legal o before
  pub differ : ¬ HasStepOutputs o before entry

-- the readings of this client are the first that don't hold
pub record FailsAt (script : Script) (history : List Entry) (parts : List ClientPart) (number : ℕ) : Type 0 where
  pub before : List ClientPart
  pub part : ClientPart
  pub behind : List ClientPart
  pub parts_are : parts ≡ before ++ part ∷ behind
  pub number_is : number ≡ length before + 1
  pub hold : EachHolds script history 1 before
  pub fail : ¬ ReadingsHold script history number part.readings

-- the first part of Audited that fails, and where it fails first
abbrev pub FirstFault : Opening → List Diagnostic → Script → Report → Why → ℕ → Type 0
FirstFault o diagnostics script report why.Diagnostics number = DifferFirst diagnostics report.diagnostics number
FirstFault o diagnostics script report why.Clients number =
    (diagnostics ≡ report.diagnostics) × DifferFirst script.clients (clients_in report) number
FirstFault o diagnostics script report why.Merge number =
    (diagnostics ≡ report.diagnostics) × (script.clients ≡ clients_in report)
    × (StraysAt script report.history number ⊎ EndsEarly script report.history number)
FirstFault o diagnostics script report why.Legal number =
    (diagnostics ≡ report.diagnostics) × (script.clients ≡ clients_in report) × Merges report.history (Parts script)
    × IllegalAt o report.history number
FirstFault o diagnostics script report why.Readings number =
    (diagnostics ≡ report.diagnostics) × (script.clients ≡ clients_in report) × Merges report.history (Parts script)
    × Legal o report.history × FailsAt script report.history report.clients number

-- what a verdict says
abbrev pub Says : Opening → List Diagnostic → Script → Report → Verdict → Type 0
Says o diagnostics script report verdict.Yes = Audited o diagnostics script report
Says o diagnostics script report (verdict.No why number) = FirstFault o diagnostics script report why number
