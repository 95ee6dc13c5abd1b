-- How clients get a reader's seat and give it back, and what a reader is told.
use Rattle.std.specs.Prelude.{◌≡◌, ◌≢◌, ℕ, ◌+◌, ◌-◌, ◌<◌, ◌≤◌, ◌⊎◌, true, false, ◌==◌, max, List, [], ◌∷◌, ◌++◌, length, take, map, Option, Some, None, if◌then◌else◌}
use Rattle.init_machine.specs.Sets.{Set as AcceptedSet}
use Rattle.init_machine.specs.Orderly.{ListStands, seen_again, seen_through}
use Rattle.init_machine.specs.History.{sets_in as sets_in_outputs}
use Rattle.init_machine.specs.Policy.{ContextLine, PolicyLines}
use Rattle.init_machine.specs.declared.config.Config.{Config}
use Rattle.init_machine.specs.declared.type_kind.TypeKind.TheVariants.{Any}
use Rattle.init_machine.specs.declared.input.Input.{Input}
use Rattle.init_machine.specs.declared.input.Input.TheVariants.{Boot, Next, Tick, Exit, File, Set}
use Rattle.init_machine.specs.declared.output.Output.{Output}
use Rattle.init_machine.specs.declared.output.Output.TheVariants.{Accepted, Control, Refused}
use Rattle.init_machine.specs.declared.output.SetRefusal.{SetRefusal}
use Rattle.init_machine.specs.declared.report.Entry.{Entry}
use Rattle.init_machine.specs.declared.client.ClientRequest.{ClientRequest}
use Rattle.init_machine.specs.declared.report.Reading.{Reading}
use Rattle.init_machine.specs.declared.report.Reading.TheVariants.{Found, Absent, Again, Synced, Caught}
use Rattle.init_machine.specs.declared.client.ClientItem.TheVariants.{Told, Asked}
use Rattle.serial_value.specs.declared.view.CellView.{CellView}
use Rattle.serial_value.specs.declared.view.CellView.TheVariants.{Writer, Reader}
use Rattle.init_base.specs.Value.{max_value_len}
use Rattle.serial_value.specs.Words.{IsValue}
use Rattle.serial_value.specs.History.{FewAgains}
use Rattle.property_area.specs.declared.view.LogLine.{LogLine}
use Rattle.property_area.specs.declared.view.LogOpening.{LogOpening}
use Rattle.property_area.specs.declared.view.Client.{Client}
use Rattle.property_area.specs.declared.view.AreaView.{AreaView}
use Rattle.property_area.specs.declared.reader.ReadAnswer.{ReadAnswer}
use Rattle.property_area.specs.declared.reader.ReadAnswer.TheVariants.{Found as AnswerFound, Absent as AnswerAbsent, Again as AnswerAgain}
use Rattle.property_area.specs.Area.{out_seat, with_cell, with_trie, noted}
use Rattle.property_area.specs.Seats.{sets_in}

-- the client, as it gave its seat back last; one that never had a seat begins with these sets and an empty list
abbrev pub client_in : List Client → ℕ → List AcceptedSet → Client
client_in [] who sets = record { who = who; began = sets; list = [] }
client_in (c ∷ clients) who sets = if c.who == who then c else client_in clients who sets

-- the other clients
abbrev pub others_in : List Client → ℕ → List Client
others_in [] who = []
others_in (c ∷ clients) who = if c.who == who then others_in clients who else c ∷ others_in clients who

-- the client has no seat
abbrev pub IsIn : AreaView → ℕ → Type 0
IsIn v who = out_seat v.out who ≡ 0

-- the clients that have a seat, but for this one
abbrev pub without : List (ℕ × ℕ) → ℕ → List (ℕ × ℕ)
without [] who = []
without (o ∷ out) who = if o.0 == who then without out who else o ∷ without out who

-- the view of the writer once the client has a seat, and the view of that seat
abbrev pub handing : ℕ → AreaView → AreaView
handing who v = record v { clients = others_in v.clients who; out = (who, v.seats) ∷ v.out; seats = v.seats + 1 }

abbrev pub handed : ℕ → AreaView → AreaView
handed who v = let client = client_in v.clients who (sets_in v) in record {
  cell = Reader (length (sets_in v)) None;
  who = who;
  began = client.began;
  list = client.list;
  trie = record { live = true; known = []; trail = None; adding = None };
  words = v.words;
  head = 0;
  clients = [];
  out = [];
  seats = 0;
  came = None;
  opening = v.opening;
  log = [];
}

-- the client of a reader's seat
abbrev pub client_of : AreaView → Client
client_of reader = record { who = reader.who; began = reader.began; list = reader.list }

-- the view of the writer once it has taken the seat of a client in, and the view that the seat is left with
abbrev pub taking : AreaView → AreaView → AreaView
taking v reader = record v {
  clients = client_of reader ∷ others_in v.clients reader.who;
  out = without v.out reader.who;
}

-- the view of the writer while the seat comes in, which is this one, and then
abbrev pub arriving : ℕ → AreaView → AreaView → AreaView
arriving seat v reader = record (taking v reader) {
  came = Some (record { who = reader.who; seat = seat; before = v.out; opening = reader.opening });
}

abbrev pub put_away : AreaView → AreaView
put_away v = record v { came = None }

abbrev pub spent : ℕ → AreaView
spent words = record {
  cell = Reader 0 None;
  who = 0;
  began = [];
  list = [];
  trie = record { live = false; known = []; trail = None; adding = None };
  words = words;
  head = 0;
  clients = [];
  out = [];
  seats = 0;
  came = None;
  opening = None;
  log = [];
}

-- the client was told how many sets there are
abbrev pub synced : ℕ → AreaView → AreaView
synced who v = let client = client_in v.clients who (sets_in v) in record v {
  clients = record client { list = client.list ++ Told (Synced (length (sets_in v))) ∷ [] } ∷ others_in v.clients who;
}

-- how many sets a reader has seen
abbrev pub seen_by : CellView → ℕ
seen_by (Writer sets making) = 0
seen_by (Reader number copying) = number

-- the reader was told this and has seen so many sets, and nothing else has changed but what it knows of the trie
abbrev pub Hears : AreaView → Reading → ℕ → AreaView → Type 0
Hears v reading seen after = after ≡ with_trie (noted (with_cell v (Reader seen None)) reading) after.trie

-- what a read answers is the one reading that it adds to the list. The value that is found stands at the front of the buffer,
-- which else is as before
abbrev pub Reads : AreaView → List ℕ → ReadAnswer → List ℕ → List ℕ → AreaView → Type 0
Reads v name (AnswerFound len number) before out after =
    (value : List ℕ) × IsValue value × (length value ≤ max_value_len name) × (len ≡ length value) × (take len out ≡ value)
    × (seen_by v.cell ≤ number)
    × Hears v (Found name number value) number after
Reads v name (AnswerAbsent number) before out after =
    (number ≡ seen_by v.cell) × (out ≡ before) × Hears v (Absent name number) number after
Reads v name (AnswerAgain number first second) before out after =
    (number ≡ seen_by v.cell) × (first ≢ second) × (out ≡ before)
    × Hears v (Again name number first second) (seen_again number second) after

-- the reader has loaded word 0
abbrev pub caught : ℕ → AreaView → AreaView
caught count v = let seen = max (seen_by v.cell) count in noted (with_cell v (Reader seen None)) (Caught seen)

-- what the client was told stands in these sets, at most two of its reads of a name met a write for each set of the name
-- since its list began, and it has seen no more sets than there are
abbrev pub ClientStands : List AcceptedSet → Client → Type 0
ClientStands sets client =
    ListStands sets None client.began client.list × FewAgains sets None client.began client.list
    × (seen_through (length client.began) client.list ≤ length sets)

abbrev pub EachClientStands : List AcceptedSet → List Client → Type 0
EachClientStands sets [] = Unit {0}
EachClientStands sets (c ∷ clients) = ClientStands sets c × EachClientStands sets clients

-- how many sets a reader has seen after an answer
abbrev pub seen_in : ReadAnswer → ℕ
seen_in (AnswerFound len number) = number
seen_in (AnswerAbsent number) = number
seen_in (AnswerAgain number first second) = seen_again number second

-- a reader that has loaded word 0 has seen no fewer sets than before, and as many as it was told
abbrev pub Catches : AreaView → ℕ → AreaView → Type 0
Catches v number after = (seen_by v.cell ≤ number) × Hears v (Caught number) number after

-- whose input it is; 0 for one that is no set
abbrev pub asker_of : Input → ℕ
asker_of Boot = 0
asker_of Next = 0
asker_of (Tick ms) = 0
asker_of (Exit name status) = 0
asker_of (File path content) = 0
asker_of (Set who name value) = who.0

-- the answer of a set is the last output of its entry; another input has none
abbrev pub last_of : List Output → Option Output
last_of [] = None
last_of (o ∷ []) = Some o
last_of (o ∷ p ∷ outputs) = last_of (p ∷ outputs)

abbrev pub answer_of : Input → List Output → Option Output
answer_of Boot outputs = None
answer_of Next outputs = None
answer_of (Tick ms) outputs = None
answer_of (Exit name status) outputs = None
answer_of (File path content) outputs = None
answer_of (Set who name value) outputs = last_of outputs

-- how many sets there were before an entry that is the last one
abbrev pub count_before_entry : AreaView → Entry → ℕ
count_before_entry v entry = length (sets_in v) - length (sets_in_outputs entry.outputs)

-- the request of an entry that comes next in the log
abbrev pub request_of : AreaView → Entry → ClientRequest
request_of v entry = record {
  input = entry.input;
  answer = answer_of entry.input entry.outputs;
  place = length v.log + 1;
  before = count_before_entry v entry;
  after = length (sets_in v);
}

-- the log has the entry, and the client's list the request
abbrev pub recording : AreaView → Entry → AreaView
recording v entry = let who = asker_of entry.input in let client = client_in v.clients who (sets_in v) in record v {
  clients = record client { list = client.list ++ Asked (request_of v entry) ∷ [] } ∷ others_in v.clients who;
  log = v.log ++ record { who = who; request = request_of v entry } ∷ [];
}

-- the entry comes next: its sets are the last ones, its client has no seat, and has seen no more sets than came before it
pub record ComesNext (v : AreaView) (entry : Entry) : Type 0 where
  pub earlier : List AcceptedSet
  pub sets : sets_in v ≡ earlier ++ sets_in_outputs entry.outputs
  pub inside : IsIn v (asker_of entry.input)
  pub seen : let client = client_in v.clients (asker_of entry.input) (sets_in v) in seen_through (length client.began) client.list ≤ length earlier

-- a history is opened with this
abbrev pub line_of : ContextLine → LogLine
line_of line = record { name = line.name; context = line.context }

abbrev pub opening_of : Config → PolicyLines → ℕ → LogOpening
opening_of config policy capacity = record {
  config = config;
  default = policy.default;
  exact = map line_of policy.exact;
  prefixes = map line_of policy.prefixes;
  allows = policy.allows;
  capacity = capacity;
}

abbrev pub opening_with : LogOpening → AreaView → AreaView
opening_with opening v = record v { opening = Some opening }

-- an entry of a set ends with its answer
abbrev pub IsAnswer : Option Output → Type 0
IsAnswer None = ⊥
IsAnswer (Some output) = ((number : ℕ) × ((output ≡ Accepted number) ⊎ (output ≡ Control number))) ⊎ ((refusal : SetRefusal) × (output ≡ Refused refusal))

abbrev pub IsAnswered : Entry → Type 0
IsAnswered entry = 0 < asker_of entry.input → IsAnswer (last_of entry.outputs)

-- an opening of no account
abbrev pub no_opening : LogOpening
no_opening = record {
  config = record { actions = []; services = []; pairs = []; saved = []; plans = []; domains = [] };
  default = record { label = []; kind = Any };
  exact = [];
  prefixes = [];
  allows = [];
  capacity = 0;
}
