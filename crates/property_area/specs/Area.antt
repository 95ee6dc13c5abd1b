-- The rule of the area: what holds of its words and of all views between any two steps.
use Rattle.std.specs.Prelude.{◌≡◌, ◌≢◌, ℕ, zero, suc, ◌+◌, ◌<◌, ◌≤◌, ◌^◌, ◌⊎◌, ◌==◌, IsTrue, List, [], ◌∷◌, ◌++◌, length, slice_index, Contains, Option, Some, None, if◌then◌else◌, true}
use Rattle.std.specs.Str.{bytes_eq}
use mathlib.Core.Option.{some}
use lib.ListN.{get_elem?}
use Rattle.atomic_table.specs.Table.{State}
use Rattle.init_base.specs.Value.{max_value_len}
use Rattle.init_machine.specs.Words.{cell_words}
use Rattle.init_machine.specs.Sets.{Set, LastSet}
use Rattle.init_machine.specs.declared.report.Reading.{Reading}
use Rattle.init_machine.specs.declared.client.ClientItem.{ClientItem}
use Rattle.init_machine.specs.declared.client.ClientItem.TheVariants.{Told, Asked}
use Rattle.init_machine.specs.declared.client.ClientRequest.{ClientRequest}
use Rattle.serial_value.specs.declared.view.Making.{Making}
use Rattle.serial_value.specs.declared.view.CellView.{CellView}
use Rattle.serial_value.specs.declared.view.CellView.TheVariants.{Writer, Reader}
use Rattle.serial_value.specs.Words.{IsValue, IsShortValue}
use Rattle.serial_value.specs.Cell.{sets_of, name_of, HasShortCell}
use Rattle.serial_value.specs.World.{World, ListHolds, ReaderHolds}
use Rattle.serial_value.specs.One.{CellHolds, done_of, new_value}
use Rattle.property_trie.specs.Parts.{parts_of}
use Rattle.property_trie.specs.Tree.{Tree, Cell, cell_in, find}
use Rattle.property_trie.specs.TrieSteps.{tree_of}
use Rattle.property_trie.specs.Additions.{tree_with, mark_of}
use Rattle.property_trie.specs.Held.{TrieStands, SeatStands, AdditionStands}
use Rattle.property_trie.specs.declared.view.Adding.{Adding}
use Rattle.property_trie.specs.declared.view.TrieView.{TrieView}
use Rattle.property_area.specs.declared.view.LogOpening.{LogOpening}
use Rattle.property_area.specs.declared.view.LogEntry.{LogEntry}
use Rattle.property_area.specs.declared.view.Client.{Client}
use Rattle.property_area.specs.declared.view.Arrival.{Arrival}
use Rattle.property_area.specs.declared.view.AreaView.{AreaView}

-- the tree, while nodes of a name are added
abbrev pub tree_now : List Set → Option Adding → Tree
tree_now sets None = tree_of sets
tree_now sets (Some adding) = tree_with sets adding.name adding.linked

-- the words spell the trie of the names of the sets, and the nodes and words of an addition that is under way
abbrev pub AddingStands : List ℕ → List Set → Option Adding → Type 0
AddingStands words sets None = TrieStands words (tree_of sets) (mark_of sets)
AddingStands words sets (Some adding) = AdditionStands words sets adding.name adding.linked adding.fresh

-- the update that is under way, where it is of this name
abbrev pub made_on : List ℕ → Option Making → Option Making
made_on name None = None
made_on name (Some making) = if bytes_eq making.name name then Some making else None

-- where the cell of a name lies, and how many words it has
abbrev pub cell_of : List Set → List ℕ → Cell
cell_of sets name = cell_in (tree_of sets) (parts_of name)

-- the word at the place of a cell, 0 for none
abbrev pub word_at : List ℕ → ℕ → ℕ
word_at words zero = 0
word_at words (suc n) = slice_index words (suc n)

-- the present serial of a name
abbrev pub serial_in : List ℕ → List Set → List ℕ → ℕ
serial_in words sets name = word_at words (find (tree_of sets) (parts_of name))

-- The cell of a name has the value of its last set, or is being updated from it, and as many words as its value needs.
pub record CellStands (words : List ℕ) (sets : List Set) (making : Option Making) (name : List ℕ) : Type 0 where
  pub number : ℕ
  pub value : List ℕ
  pub last : LastSet sets (length sets) name number value
  pub sized : (cell_of sets name).words ≡ cell_words (length value)
  pub cell : CellHolds words (find (tree_of sets) (parts_of name)) number value (new_value (made_on name making)) (done_of (made_on name making))

-- an update is of a name that has a short cell, at its place, by a value that fits it, and isn't accepted yet
abbrev pub MayMake : List Set → Option Making → Type 0
MayMake sets None = Unit {0}
MayMake sets (Some making) =
    (find (tree_of sets) (parts_of making.name) ≡ making.place) × (making.place ≢ 0) × IsShortValue making.value
    × HasShortCell sets making.name × (making.done ≤ 25)

-- the requests in a client's list
abbrev pub requests_in : List ClientItem → List ClientRequest
requests_in [] = []
requests_in (Told reading ∷ list) = requests_in list
requests_in (Asked request ∷ list) = request ∷ requests_in list

-- the requests of a client in the log
abbrev pub requests_of : ℕ → List LogEntry → List ClientRequest
requests_of who [] = []
requests_of who (e ∷ log) = if e.who == who then e.request ∷ requests_of who log else requests_of who log

-- the seat of a client, one more than its number; 0 for none
abbrev pub out_seat : List (ℕ × ℕ) → ℕ → ℕ
out_seat [] who = 0
out_seat (o ∷ out) who = if o.0 == who then suc o.1 else out_seat out who

-- the list that a client gave back last
abbrev pub list_in : List Client → ℕ → List ClientItem
list_in [] who = []
list_in (c ∷ clients) who = if c.who == who then c.list else list_in clients who

-- Each value is as long as its name allows, and of the sets of a name with a long value there is one.
pub record SetsFit (sets : List Set) : Type 0 where
  pub fits : (i : ℕ) (set : Set) → get_elem? sets i ≡ some set → length set.1 ≤ max_value_len set.0
  pub once : (i j : ℕ) (name long other : List ℕ)
      → get_elem? sets i ≡ some (name, long) → get_elem? sets j ≡ some (name, other) → 91 < length long → i ≡ j

-- What the writer knows at one moment: its seat, the accepted sets, the update or the addition that is under way, and the
-- number that word 0 has.
pub record Moment : Type 0 where
  pub writer : ℕ
  pub sets : List Set
  pub making : Option Making
  pub adding : Option Adding
  pub head : ℕ
  -- which clients have a seat, how many seats there were, and the recorded history
  pub out : List (ℕ × ℕ)
  pub seats : ℕ
  pub opening : Option LogOpening
  pub log : List LogEntry

abbrev pub world_of : List ℕ → Moment → World
world_of words m = record { sets = m.sets; making = name_of m.making; serial = serial_in words m.sets }

-- What holds of the words.
pub record WordsHold (words : List ℕ) (m : Moment) : Type 0 where
  pub few : length m.sets < 2 ^ 55
  pub legal : (i : ℕ) (set : Set) → get_elem? m.sets i ≡ some set → IsValue set.1
  pub fit : SetsFit m.sets
  -- word 0 is the number of sets, or one less from an acceptance on to the store of word 0
  pub head : slice_index words 0 ≡ m.head
  pub late : (m.head ≡ length m.sets) ⊎ (m.head + 1 ≡ length m.sets)
  pub empty : (slice_index words 2 ≡ 0) × (slice_index words 3 ≡ 0)
  pub trie : AddingStands words m.sets m.adding
  pub made : MayMake m.sets m.making
  pub cells : (name : List ℕ) → find (tree_of m.sets) (parts_of name) ≢ 0 → CellStands words m.sets m.making name

-- the lists of clients that have no seat now
abbrev pub ClientsHold : World → List Client → Type 0
ClientsHold w [] = Unit {0}
ClientsHold w (c ∷ clients) = ListHolds w c.began c.list × ClientsHold w clients

-- what a seat brings that comes in: it knows the recorded opening, it is the one that its client had, and the client's list
-- has the client's requests
abbrev pub Brings : AreaView → Arrival → Type 0
Brings v a =
    (a.opening ≡ v.opening) × (out_seat a.before a.who ≡ suc a.seat) × (requests_in (list_in v.clients a.who) ≡ requests_of a.who v.log)

abbrev pub ArrivalHolds : AreaView → Type 0
ArrivalHolds v = (a : Arrival) → v.came ≡ Some a → Brings v a

-- the writer's view has the record, the requests of a client that has no seat are those of the log, and so does a seat that
-- comes in bring them
abbrev pub RequestsHold : Moment → AreaView → Type 0
RequestsHold m v =
    (v.out ≡ m.out) × (v.seats ≡ m.seats) × (v.opening ≡ m.opening) × (v.log ≡ m.log)
    × ((who : ℕ) → out_seat m.out who ≡ 0 → requests_in (list_in v.clients who) ≡ requests_of who m.log)
    × ArrivalHolds v

-- a reader's opening is the recorded one, its client has this seat, and its list has the client's requests. The view that a
-- seat leaves which was taken in is excepted
abbrev pub AskedHolds : Moment → ℕ → AreaView → Type 0
AskedHolds m seat v =
    IsTrue v.trie.live
    → (v.opening ≡ m.opening) × (out_seat m.out v.who ≡ suc seat) × (requests_in v.list ≡ requests_of v.who m.log)

-- the writer's view is the moment; the view of another seat is a reader's
abbrev pub PartHolds : World → Moment → ℕ → CellView → AreaView → Type 0
PartHolds w m seat (Writer sets making) v =
    (seat ≡ m.writer) × (sets ≡ m.sets) × (making ≡ m.making) × (v.trie.adding ≡ m.adding) × (v.head ≡ m.head)
    × ClientsHold w v.clients × RequestsHold m v
PartHolds w m seat (Reader number copying) v = (seat ≢ m.writer) × ReaderHolds w number copying v.began v.list × AskedHolds m seat v

pub record ViewHolds (words : List ℕ) (m : Moment) (seat : ℕ) (v : AreaView) : Type 0 where
  pub width : v.words ≡ length words
  pub trie : SeatStands (tree_now m.sets m.adding) v.trie
  pub part : PartHolds (world_of words m) m seat v.cell v

pub record AreaHolds (s : State (Unit {0}) AreaView) : Type 0 where
  pub moment : Moment
  pub words : WordsHold s.words moment
  -- the writer's seat is there
  pub there : moment.writer < length s.views
  pub count : moment.seats ≡ length s.views
  pub each : (seat : ℕ) (v : AreaView) → get_elem? s.views seat ≡ some v → ViewHolds s.words moment seat v

abbrev pub with_cell : AreaView → CellView → AreaView
with_cell v cell = record v { cell = cell }

abbrev pub with_trie : AreaView → TrieView → AreaView
with_trie v trie = record v { trie = trie }

abbrev pub noted : AreaView → Reading → AreaView
noted v reading = record v { list = v.list ++ Told reading ∷ [] }

-- the cell of the name is one that the seat has found
abbrev pub Linked : AreaView → List ℕ → ℕ → Type 0
Linked v name place = Contains v.trie.known (name, place)

-- word 0 is the number of sets
abbrev pub Settled : AreaView → Type 0
Settled v = v.head ≡ length (sets_of v.cell)

-- the view of the writer's seat of a new area of so many words
abbrev pub begins : ℕ → AreaView
begins words = record {
  cell = Writer [] None;
  who = 0;
  began = [];
  list = [];
  trie = record { live = true; known = []; trail = None; adding = None };
  words = words;
  head = 0;
  clients = [];
  out = [];
  seats = 1;
  came = None;
  opening = None;
  log = [];
}
