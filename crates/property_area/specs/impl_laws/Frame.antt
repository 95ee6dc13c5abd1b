-- A step at the area changes one word and one seat's view: what has to be shown of each kind.
use Rattle.std.proofs.Common.{◌≡◌, ◌≢◌, ℕ, List, [], ◌∷◌, length, get_or, set, Option, Some, sym, ◌∙◌, subst, inr, ⊎_elim, arith, length-set}
use mathlib.Core.Option.{some}
use lib.ListN.{get_elem?}
use lib.Seq.{set-get_or}
use Rattle.std.proofs.lemmas.List.{append-nil}
use Rattle.atomic_table.specs.Table.{State, keeps, stepped}
use Rattle.atomic_table.proofs.Lists.{at_set}
use Rattle.init_machine.specs.Sets.{Set}
use Rattle.serial_value.specs.declared.view.Making.{Making}
use Rattle.serial_value.specs.declared.view.CellView.{CellView}
use Rattle.serial_value.specs.declared.view.CellView.TheVariants.{Writer, Reader}
use Rattle.serial_value.specs.Cell.{name_of}
use Rattle.serial_value.specs.World.{World, Moved, Later}
use Rattle.serial_value.specs.impl_laws.Worlds.{list_later, reader_later}
use Rattle.property_trie.specs.Tree.{Extends}
use Rattle.property_trie.specs.declared.view.Adding.{Adding}
use Rattle.property_trie.proofs.Loads.{seat_extends}
use Rattle.property_area.specs.declared.view.Client.{Client}
use Rattle.property_area.specs.declared.view.AreaView.{AreaView}
use Rattle.property_area.specs.Area.{tree_now, Moment, world_of, WordsHold, ClientsHold, RequestsHold, AskedHolds, PartHolds, ViewHolds, AreaHolds}

abbrev pub St : Type 0
St = State (Unit {0}) AreaView

abbrev pub Carried : Type 0
Carried = List (ℕ × Unit {0})

-- what the rule says of the writer's view
pub record Mine (words : List ℕ) (m : Moment) (id : ℕ) (v : AreaView) (sets : List Set) (making : Option Making) : Type 0 where
  pub writes : id ≡ m.writer
  pub sets_are : sets ≡ m.sets
  pub making_is : making ≡ m.making
  pub adding_is : v.trie.adding ≡ m.adding
  pub head_is : v.head ≡ m.head
  pub clients : ClientsHold (world_of words m) v.clients
  pub requests : RequestsHold m v

pub mine : (words : List ℕ) (m : Moment) (id : ℕ) (v : AreaView) (sets : List Set) (making : Option Making) → ViewHolds words m id v → v.cell ≡ Writer sets making
    → Mine words m id v sets making
mine words m id v sets making h is =
    let known = subst (λ (c : CellView). PartHolds (world_of words m) m id c v) is h.part in record {
      writes = known.0;
      sets_are = known.1;
      making_is = known.2;
      adding_is = known.3;
      head_is = known.4;
      clients = known.5;
      requests = known.6;
    }

-- the lists of the clients that have no seat, at a later moment
pub clients_later : (w w' : World) → Later w w' → (clients : List Client) → ClientsHold w clients → ClientsHold w' clients
clients_later w w' later [] h = tt
clients_later w w' later (c ∷ clients) h = (list_later w w' later c.began c.list h.0, clients_later w w' later clients h.1)

-- a step of a reader, or one that changes no word: its new view holds
pub reads : (s : St) (h : AreaHolds s) (i id : ℕ) (cs : Carried) (w : AreaView) → ViewHolds s.words h.moment id w
    → AreaHolds (stepped s i (get_or s.words i 0) id cs w keeps)
reads s h i id cs w mine =
    subst (λ (ws : List ℕ). AreaHolds record { words = ws; homes = s.homes; views = set s.views id w }) (sym (set-get_or s.words i 0)) record {
      moment = h.moment;
      words = h.words;
      there = let l = length-set s.views id w in let t = h.there in omega arith;
      count = h.count ∙ sym (length-set s.views id w);
      each = λ seat v e. ⊎_elim
          (λ (t : (seat ≡ id) × (w ≡ v)). subst (λ (x : ℕ × AreaView). ViewHolds s.words h.moment x.0 x.1) (λ j. (sym t.0 j, t.1 j)) mine)
          (λ (t : (seat ≢ id) × (get_elem? s.views seat ≡ some v)). h.each seat v t.1)
          (at_set s.views id seat w v e);
    }

-- what the writer's store leaves: the next moment, which is a later one, and a tree that has all that was in the one before
pub record After (words : List ℕ) (m : Moment) (words' : List ℕ) (m' : Moment) : Type 0 where
  pub wide : length words' ≡ length words
  pub holds : WordsHold words' m'
  pub later : Later (world_of words m) (world_of words' m')
  pub extends : Extends (tree_now m.sets m.adding) (tree_now m'.sets m'.adding)
  pub writer : m'.writer ≡ m.writer
  pub seats : m'.seats ≡ m.seats
  -- what was asked of readers still holds
  pub asked : (seat : ℕ) (v : AreaView) → AskedHolds m seat v → AskedHolds m' seat v

module _ (words : List ℕ) (m : Moment) (words' : List ℕ) (m' : Moment) (a : After words m words' m') where
  -- another seat's view at the later moment
  other_part : (seat : ℕ) (cell : CellView) (v : AreaView) → seat ≢ m.writer → PartHolds (world_of words m) m seat cell v → PartHolds (world_of words' m') m' seat cell v
  other_part seat (Writer sets making) v other h = absurd (other h.0)
  other_part seat (Reader number copying) v other h =
      ((λ is. other (is ∙ a.writer)), reader_later (world_of words m) (world_of words' m') a.later number copying v.began v.list h.1, a.asked seat v h.2)

  pub other_view : (seat : ℕ) (v : AreaView) → seat ≢ m.writer → ViewHolds words m seat v → ViewHolds words' m' seat v
  other_view seat v other h = record {
    width = h.width ∙ sym a.wide;
    trie = seat_extends (tree_now m.sets m.adding) (tree_now m'.sets m'.adding) v.trie a.extends h.trie;
    part = other_part seat v.cell v other h.part;
  }

-- a store of the writer
pub writes : (s : St) (h : AreaHolds s) (i n id : ℕ) (cs : Carried) (m' : Moment) (w : AreaView) → After s.words h.moment (set s.words i n) m' → id ≡ h.moment.writer
    → ViewHolds (set s.words i n) m' id w → AreaHolds (stepped s i n id cs w keeps)
writes s h i n id cs m' w a is own = record {
  moment = m';
  words = a.holds;
  there = let l = length-set s.views id w in let t = h.there in let e = a.writer in omega arith;
  count = a.seats ∙ h.count ∙ sym (length-set s.views id w);
  each = λ seat v e. ⊎_elim
      (λ (t : (seat ≡ id) × (w ≡ v)). subst (λ (x : ℕ × AreaView). ViewHolds (set s.words i n) m' x.0 x.1) (λ j. (sym t.0 j, t.1 j)) own)
      (λ (t : (seat ≢ id) × (get_elem? s.views seat ≡ some v)).
      other_view s.words h.moment (set s.words i n) m' a seat v (λ same. t.0 (same ∙ sym is)) (h.each seat v t.1))
      (at_set s.views id seat w v e);
}

-- a moment with the same sets
pub goes_on : (words words' : List ℕ) (m : Moment) (making' : Option Making) (adding' : Option Adding) (head' : ℕ)
    → ((q : List ℕ) → name_of m.making ≡ Some q → name_of making' ≡ Some q)
    → ((name : List ℕ) → Moved (world_of words m) (world_of words' (record m { making = making'; adding = adding'; head = head' })) name)
    → Later (world_of words m) (world_of words' (record m { making = making'; adding = adding'; head = head' }))
goes_on words words' m making' adding' head' step moves = record {
  more = [];
  grown = sym (append-nil m.sets);
  kept = λ q low within is. inr (step q is);
  moves = moves;
}
