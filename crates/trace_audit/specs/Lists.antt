-- A client's list as its counts alone, and what a history leaves of it. No promise of a public call cites these definitions.
use mathlib.Core.Option.{some}
use lib.ListN.{get_elem?}
use Rattle.std.specs.Prelude.{◌≡◌, ◌≤◌, ◌<◌, ℕ, ◌+◌, Bool, true, false, not, ◌&&◌, ◌==◌, nat_le, List, [], ◌∷◌, ◌++◌, length, if◌then◌else◌}
use Rattle.std.specs.List.{list_any}
use Rattle.std.specs.Str.{bytes_eq}
use Rattle.init_machine.specs.History.{sets_in}
use Rattle.init_machine.specs.Orderly.{number_of, seen_after}
use Rattle.init_machine.specs.Serial.{rank}
use Rattle.init_machine.specs.Sets.{Set}
use Rattle.init_machine.specs.declared.client.ClientRequest.{ClientRequest}
use Rattle.init_machine.specs.declared.input.Input.{Input}
use Rattle.init_machine.specs.declared.input.Input.TheVariants as input
use Rattle.init_machine.specs.declared.report.Entry.{Entry}
use Rattle.init_machine.specs.declared.report.Reading.{Reading}
use Rattle.init_machine.specs.declared.report.Reading.TheVariants as reading
use Rattle.script_lang.specs.declared.script.Ask.{Ask}
use Rattle.script_lang.specs.declared.script.Ask.TheVariants as ask
use Rattle.trace_audit.specs.declared.told.Bounds.{Bounds}
use Rattle.trace_audit.specs.declared.told.Request.{Request}

-- the set request of an entry, which stands behind so many sets and leaves so many
abbrev pub request_in : Input → ℕ → ℕ → List Request
request_in (input.Set who name value) before after = record { who = who; bounds = record { before = before; after = after } } ∷ []
request_in input.Boot before after = []
request_in input.Next before after = []
request_in (input.Tick ms) before after = []
request_in (input.Exit name status) before after = []
request_in (input.File path content) before after = []

-- the set requests of entries behind so many sets
abbrev pub all_requests : ℕ → List Entry → List Request
all_requests before [] = []
all_requests before (e ∷ entries) =
    request_in e.input before (before + length (sets_in e.outputs)) ++ all_requests (before + length (sets_in e.outputs)) entries

-- those of the client with this number
abbrev pub bounds_by : ℕ → List Request → List Bounds
bounds_by who [] = []
bounds_by who (request ∷ requests) = if request.who.0 == who then request.bounds ∷ bounds_by who requests else bounds_by who requests

abbrev pub bounds_in : ClientRequest → Bounds
bounds_in request = record { before = request.before; after = request.after }

abbrev pub bounds_of : Reading → Bounds
bounds_of told = record { before = number_of told; after = seen_after told }

-- the counts of a client's list
abbrev pub bounds_list : List Ask → List Bounds → List Reading → List Bounds
bounds_list [] requests readings = []
bounds_list (ask.Set pair ∷ asks) [] readings = bounds_list asks [] readings
bounds_list (ask.Set pair ∷ asks) (bounds ∷ requests) readings = bounds ∷ bounds_list asks requests readings
bounds_list (ask.Read name ∷ asks) requests [] = bounds_list asks requests []
bounds_list (ask.Read name ∷ asks) requests (told ∷ readings) = bounds_of told ∷ bounds_list asks requests readings
bounds_list (ask.Sync ∷ asks) requests [] = bounds_list asks requests []
bounds_list (ask.Sync ∷ asks) requests (told ∷ readings) = bounds_of told ∷ bounds_list asks requests readings
bounds_list (ask.Catch ∷ asks) requests [] = bounds_list asks requests []
bounds_list (ask.Catch ∷ asks) requests (told ∷ readings) = bounds_of told ∷ bounds_list asks requests readings

-- no count is lower than one before it
abbrev pub ascending : ℕ → List Bounds → Bool
ascending seen [] = true
ascending seen (bounds ∷ rest) = nat_le seen bounds.before && nat_le bounds.before bounds.after && ascending bounds.after rest

-- a read of this name met a write, and its second serial ranks no higher
abbrev pub is_no_higher : List ℕ → ℕ → Reading → Bool
is_no_higher name word (reading.Again other number first second) = bytes_eq other name && nat_le (rank second) (rank word)
is_no_higher name word (reading.Found other number value) = false
is_no_higher name word (reading.Absent other number) = false
is_no_higher name word (reading.Synced number) = false
is_no_higher name word (reading.Caught number) = false

-- of the reads of its name that met a write behind it, the second serial of each ranks higher
abbrev pub is_lowest : Reading → List Reading → Bool
is_lowest (reading.Again name number first second) rest = not (list_any (is_no_higher name second) rest)
is_lowest (reading.Found name number value) rest = true
is_lowest (reading.Absent name number) rest = true
is_lowest (reading.Synced number) rest = true
is_lowest (reading.Caught number) rest = true

-- of the second serials of one name each later one ranks higher
abbrev pub rises : List Reading → Bool
rises [] = true
rises (told ∷ readings) = is_lowest told readings && rises readings

-- some set with a number above `low`, up to `high`, is of this name
pub record SomeBetween (sets : List Set) (name : List ℕ) (low high : ℕ) : Type 0 where
  pub place : ℕ
  pub value : List ℕ
  pub above : low ≤ place
  pub below : place < high
  pub set_is : get_elem? sets place ≡ some (name, value)
