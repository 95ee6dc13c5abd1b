-- What a dispatch leaves: each session's requests in the history, its verdicts, and its client's reader.
use Rattle.std.specs.Prelude.{◌≡◌, ℕ, ◌==◌, Bool, true, List, ◌++◌, map, All, Option, Some, Result, Ok, Err}
use Rattle.std.specs.List.{AllZip, filter, list_any}
use Rattle.atomic_table.specs.Seated.{TableId}
use Rattle.init_machine.specs.History.{inputs_of}
use Rattle.init_machine.specs.declared.client.ClientItem.TheVariants.{Asked}
use Rattle.init_machine.specs.declared.client.ClientRequest.{ClientRequest}
use Rattle.init_machine.specs.declared.config.Pair.{Pair}
use Rattle.init_machine.specs.declared.input.Input.{Input}
use Rattle.init_machine.specs.declared.input.Input.TheVariants as input
use Rattle.init_machine.specs.declared.output.Output.{Output}
use Rattle.init_machine.specs.declared.output.SetRefusal.{SetRefusal}
use Rattle.init_machine.specs.declared.report.Entry.{Entry}
use Rattle.property_area.specs.Area.{requests_of}
use Rattle.property_area.specs.Readers.{asker_of, last_of}
use Rattle.property_area.specs.Seats.{Seated}
use Rattle.property_service.specs.Back.{has_entry, line_of}
use Rattle.property_service.specs.Record.{log_of, recorded}
use Rattle.property_service.specs.Service.{ServiceView, set_by}
use Rattle.property_service.specs.declared.answer.Accepted.{Accepted}
use Rattle.prop_dispatch.specs.declared.session.Session.{Session}
use Rattle.prop_dispatch.specs.declared.verdict.Verdict.{Verdict}
use Rattle.prop_dispatch.specs.declared.verdict.Verdict.TheVariants as verdict

-- ---- sessions and their entries

-- whether a client is that of one of the sessions
abbrev pub is_client_of : List Session → ℕ → Bool
is_client_of sessions who = list_any (λ (s : Session). s.who.0 == who) sessions

-- the input is a set of one of the sessions' clients
abbrev pub IsSetOf : List Session → Input → Type 0
IsSetOf sessions input.Boot = ⊥
IsSetOf sessions input.Next = ⊥
IsSetOf sessions (input.Tick ms) = ⊥
IsSetOf sessions (input.Exit name status) = ⊥
IsSetOf sessions (input.File path content) = ⊥
IsSetOf sessions (input.Set who name value) = is_client_of sessions who.0 ≡ true

-- the entries of a client's inputs
abbrev pub entries_of : ℕ → List Entry → List Entry
entries_of who entries = filter (λ (e : Entry). asker_of e.input == who) entries

-- a client's sets of these pairs
abbrev pub sets_for : ℕ → List Pair → List Input
sets_for who pairs = map (λ (p : Pair). set_by who p.name p.value) pairs

-- ---- verdicts

-- the answer that a verdict tells
abbrev pub answer_in : Verdict → Result Accepted SetRefusal
answer_in (verdict.Accepted accepted) = Ok accepted
answer_in (verdict.Refused refusal) = Err refusal

-- the line with which the entry ends that a verdict is of
abbrev pub line_for : Verdict → Output
line_for v = line_of (answer_in v)

-- the lines with which entries end
abbrev pub last_lines : List Entry → List (Option Output)
last_lines entries = map (λ (e : Entry). last_of e.outputs) entries

-- ---- the history

-- The entries of a client among these are those of its requests, each once and in order. The verdicts are their answers, in order, and
-- each is one of the machine: none says that memory ran out.
pub record AreServed (who : ℕ) (requests : List Pair) (verdicts : List Verdict) (entries : List Entry) : Type 0 where
  pub asked : inputs_of (entries_of who entries) ≡ sets_for who requests
  pub answers : last_lines (entries_of who entries) ≡ map (λ (v : Verdict). Some (line_for v)) verdicts
  pub reached : All (λ (v : Verdict). has_entry (answer_in v) ≡ true) verdicts

-- The new history begins with the old one. After it come sets of the sessions' clients alone: those of each session's client are its
-- requests, each once and in order, and the verdicts of the session are their answers.
pub record IsRelayed (old : List Entry) (sessions : List Session) (verdicts : List (List Verdict)) (new : List Entry) : Type 0 where
  pub entries : List Entry
  pub history : new ≡ old ++ entries
  pub own : All (λ (e : Entry). IsSetOf sessions e.input) entries
  pub each : AllZip (λ (s : Session) (v : List Verdict). AreServed s.who.0 s.requests v entries) sessions verdicts

-- ---- readers

-- The reader is of the area and the client, and knows the opening. It has asked these sets, and they are the client's entries that the
-- new history has after the old one.
pub record HasAsked (area : TableId) (old new : ServiceView) (who : ℕ) (requests : List Pair) (reader : Seated) : Type 0 where
  pub asked : List ClientRequest
  pub table : reader.table ≡ area
  pub client : reader.view.who ≡ who
  pub opening : reader.view.opening ≡ Some (recorded old.opening)
  pub list : reader.view.list ≡ map (λ (r : ClientRequest). Asked r) asked
  pub inputs : map (λ (r : ClientRequest). r.input) asked ≡ sets_for who requests
  pub log : requests_of who (log_of new.history) ≡ requests_of who (log_of old.history) ++ asked

-- the readers are those of the sessions' clients, in order
abbrev pub HaveAsked : TableId → ServiceView → ServiceView → List Session → List Seated → Type 0
HaveAsked area old new sessions readers = AllZip (λ (s : Session) (r : Seated). HasAsked area old new s.who.0 s.requests r) sessions readers
