-- The readers that come back from a service's calls.
use Rattle.std.specs.Prelude.{◌≡◌, ◌≤◌, ℕ, ◌+◌, ◌++◌, Bool, true, false, List, [], ◌∷◌, length, Option, None, Result, Ok, Err}
use Rattle.init_machine.specs.History.{sets_of}
use Rattle.init_machine.specs.Orderly.{ListStands, seen_through}
use Rattle.init_machine.specs.Sets.{Set}
use Rattle.init_machine.specs.declared.client.ClientItem.{ClientItem}
use Rattle.init_machine.specs.declared.client.ClientItem.TheVariants.{Asked}
use Rattle.init_machine.specs.declared.client.ClientRequest.{ClientRequest}
use Rattle.init_machine.specs.declared.input.Input.{Input}
use Rattle.init_machine.specs.declared.output.Output.{Output}
use Rattle.init_machine.specs.declared.output.Output.TheVariants as output
use Rattle.init_machine.specs.declared.output.SetRefusal.{SetRefusal}
use Rattle.init_machine.specs.declared.output.SetRefusal.TheVariants as refusal
use Rattle.init_machine.specs.declared.report.Entry.{Entry}
use Rattle.property_area.specs.Readers.{answer_of, seen_by}
use Rattle.property_area.specs.Seats.{Seated}
use Rattle.property_service.specs.declared.answer.Accepted.{Accepted}
use Rattle.property_service.specs.declared.answer.Accepted.TheVariants as accepted

-- The reader that comes back is of the same area and client, and knows the same opening. Its list has this at its end, and it
-- has seen so many sets.
pub record ComesBack (reader after : Seated) (item : ClientItem) (count : ℕ) : Type 0 where
  pub table : after.table ≡ reader.table
  pub who : after.view.who ≡ reader.view.who
  pub opening : after.view.opening ≡ reader.view.opening
  pub began : after.view.began ≡ reader.view.began
  pub list : after.view.list ≡ reader.view.list ++ item ∷ []
  pub number : seen_by after.view.cell ≡ count

-- The reader that comes back was told nothing more, and has seen these sets. What it was told stands in them.
pub record ComesAgain (sets : List Set) (reader after : Seated) : Type 0 where
  pub table : after.table ≡ reader.table
  pub who : after.view.who ≡ reader.view.who
  pub opening : after.view.opening ≡ reader.view.opening
  pub began : after.view.began ≡ reader.view.began
  pub list : after.view.list ≡ reader.view.list
  pub stands : ListStands sets None reader.view.began reader.view.list
  pub within : seen_through (length reader.view.began) reader.view.list ≤ length sets
  pub number : seen_by after.view.cell ≡ length sets

-- the request of an entry that comes behind a history
abbrev pub request_behind : List Entry → Entry → ClientRequest
request_behind history e = record {
  input = e.input;
  answer = answer_of e.input e.outputs;
  place = length history + 1;
  before = length (sets_of history);
  after = length (sets_of (history ++ e ∷ []));
}

-- the reader comes back from the request of an entry, which stands behind a history
abbrev pub ComesBackFrom : List Entry → Entry → Seated → Seated → Type 0
ComesBackFrom history e reader back = ComesBack reader back (Asked (request_behind history e)) (request_behind history e).after

-- the reader comes back from a request with this answer, at some place of the service's history
pub record ComesBackWith (input : Input) (answer : Option Output) (reader now : Seated) : Type 0 where
  pub place : ℕ
  pub before : ℕ
  pub after : ℕ
  pub back : ComesBack reader now (Asked (record { input = input; answer = answer; place = place; before = before; after = after })) after

-- the line that answers a client's set, as the history has it
abbrev pub line_of : Result Accepted SetRefusal → Output
line_of (Ok (accepted.Stored number)) = output.Accepted number
line_of (Ok (accepted.Control number)) = output.Control number
line_of (Err why) = output.Refused why

-- whether a set was answered by the machine: its entry stands in the history. Else the service was spent, or memory ran out
abbrev pub is_reached : SetRefusal → Bool
is_reached refusal.Spent = false
is_reached refusal.NoMemory = false
is_reached _ = true

abbrev pub has_entry : Result Accepted SetRefusal → Bool
has_entry (Ok accepted) = true
has_entry (Err why) = is_reached why
