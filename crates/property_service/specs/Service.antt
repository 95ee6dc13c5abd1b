-- What a property service is to its callers.
use Rattle.std.specs.Prelude.{◌≡◌, ◌≤◌, ⊤, ℕ, Bool, nat_lt, List, [], ◌∷◌, length, Option, Some, None}
use Rattle.init_core.specs.Core.{IsDeclared}
use Rattle.init_machine.specs.History.{Legal, after, inputs_of, sets_of}
use Rattle.init_machine.specs.Setting.{set_answer}
use Rattle.init_machine.specs.State.{Opening, State, rules_of}
use Rattle.init_machine.specs.Step.{step, domain_of}
use Rattle.init_machine.specs.declared.config.Config.{Config}
use Rattle.init_machine.specs.declared.input.Input.{Input}
use Rattle.init_machine.specs.declared.input.Input.TheVariants as input
use Rattle.init_machine.specs.declared.output.Output.{Output}
use Rattle.init_machine.specs.declared.output.SetRefusal.{SetRefusal}
use Rattle.init_machine.specs.declared.report.Entry.{Entry}
use Rattle.machine_laws.specs.Histories.{history_of}
use Rattle.property_area.specs.Area.{out_seat}
use Rattle.property_area.specs.Seats.{sets_in, store_of}
use Rattle.property_area.specs.declared.view.AreaView.{AreaView}
use Rattle.property_area.specs.declared.view.LogOpening.{LogOpening}
use Rattle.property_service.specs.Record.{recorded, log_of, inputs_in, opening_in}

-- What it was opened with, its history, what the writer's seat knows, and whether memory ran out at a call.
pub record ServiceView : Type 0 where
  pub opening : Opening
  pub history : List Entry
  pub seat : AreaView
  pub spent : Bool

-- the state of the machine after the history
abbrev pub state_after : ServiceView → State
state_after s = after s.opening (inputs_of s.history)

-- the entry that an input gives next
abbrev pub next_entry : ServiceView → Input → Entry
next_entry s i = record { input = i; outputs = (step s.opening.config s.opening.policy (state_after s) i).lines }

-- whether a client has a reader: it has entered
abbrev pub has_seat : AreaView → ℕ → Bool
has_seat seat who = nat_lt 0 (out_seat seat.out who)

-- each set is of a client that the configuration declares
abbrev pub EachDeclared : Config → List Input → Type 0
EachDeclared config [] = ⊤
EachDeclared config (i ∷ inputs) = IsDeclared config i × EachDeclared config inputs

-- the opening declares the client
abbrev pub DeclaredIn : Option LogOpening → ℕ → Type 0
DeclaredIn None who = ⊥
DeclaredIn (Some opening) who = (1 ≤ who) × (who ≤ length opening.config.domains)

-- a reader that knows this opening may make the request: a set is of a client that the opening declares
abbrev pub MayAsk : Option LogOpening → Input → Type 0
MayAsk opening input.Boot = ⊤
MayAsk opening input.Next = ⊤
MayAsk opening (input.Tick ms) = ⊤
MayAsk opening (input.Exit name status) = ⊤
MayAsk opening (input.File path content) = ⊤
MayAsk opening (input.Set who name value) = DeclaredIn opening who.0

-- the input is no set: it is the main actor's
abbrev pub IsNoSet : Input → Type 0
IsNoSet input.Boot = ⊤
IsNoSet input.Next = ⊤
IsNoSet (input.Tick ms) = ⊤
IsNoSet (input.Exit name status) = ⊤
IsNoSet (input.File path content) = ⊤
IsNoSet (input.Set who name value) = ⊥

-- a client's set
abbrev pub set_by : ℕ → List ℕ → List ℕ → Input
set_by who name value = input.Set (record { 0 = who }) name value

-- the outputs of the last entry
abbrev pub last_outputs : List Entry → List Output
last_outputs [] = []
last_outputs (e ∷ []) = e.outputs
last_outputs (e ∷ f ∷ history) = last_outputs (f ∷ history)

-- why the machine refuses a client's set now, or none
abbrev pub refusal_now : ServiceView → ℕ → List ℕ → List ℕ → Option SetRefusal
refusal_now s who name value =
    set_answer (rules_of s.opening.config s.opening.policy) (state_after s)
    (Some (domain_of s.opening.config.domains (record { 0 = who }))) name value

-- What holds of a service that isn't spent. Its history is legal, and each set in it is of a client that the opening declares.
-- The sets of the history are those that the area's writer has made. The writer's record is that of the opening and the
-- history. The map that the words spell is that of the machine's state.
pub record Agrees (s : ServiceView) : Type 0 where
  pub legal : Legal s.opening s.history
  pub declared : EachDeclared s.opening.config (inputs_of s.history)
  pub sets : sets_in s.seat ≡ sets_of s.history
  pub opened : s.seat.opening ≡ Some (recorded s.opening)
  pub log : s.seat.log ≡ log_of s.history
  pub props : store_of s.seat ≡ (state_after s).props

-- a service as its writer's record tells it: the history is that of the recorded inputs, from the recorded opening
abbrev pub recorded_service : AreaView → Bool → ServiceView
recorded_service seat spent = record {
  opening = opening_in seat.opening;
  history = history_of (opening_in seat.opening) (inputs_in seat.log);
  seat = seat;
  spent = spent;
}
