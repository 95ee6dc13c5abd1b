-- A step at the table of one cell changes one word and one seat's view: what has to be shown of each kind.
use Rattle.std.proofs.Common.{◌≡◌, ◌≢◌, ℕ, zero, suc, ◌<◌, ◌≤◌, ◌^◌, List, [], length, get_or, set, Option, Some, sym, refl, ap, ◌∙◌, subst, inr, ⊎_elim, arith, length-set, get_or-set_other}
use mathlib.Core.Option.{some}
use lib.ListN.{get_elem?}
use lib.Seq.{set-get_or}
use Rattle.std.proofs.lemmas.List.{append-nil}
use Rattle.atomic_table.specs.Table.{State, keeps, stepped}
use Rattle.atomic_table.proofs.Lists.{at_set}
use Rattle.init_machine.specs.Sets.{Set, LastSet}
use Rattle.init_machine.specs.declared.client.ClientItem.{ClientItem}
use Rattle.serial_value.specs.declared.view.Making.{Making}
use Rattle.serial_value.specs.declared.view.CellView.{CellView}
use Rattle.serial_value.specs.declared.view.CellView.TheVariants.{Writer, Reader}
use Rattle.serial_value.specs.declared.one.OneView.{OneView}
use Rattle.serial_value.specs.Words.{IsShortValue}
use Rattle.serial_value.specs.Cell.{sets_of, name_of, update, IsUpdating}
use Rattle.serial_value.specs.World.{Moved, Later}
use Rattle.serial_value.specs.World.Moved.{stays}
use Rattle.serial_value.specs.One.{the_name, the_place, OneHolds, CellHolds, ViewHolds, MayMake, done_of, new_value, serial_on, world_of, with_cell}
use Rattle.serial_value.specs.impl_laws.Worlds.{reader_later}

abbrev pub St : Type 0
St = State (Unit {0}) OneView

abbrev pub serial_in : St → ℕ
serial_in s = get_or s.words the_place 0

abbrev pub Carried : Type 0
Carried = List (ℕ × Unit {0})

-- other seats at the same words
pub with_views : (s : St) (h : OneHolds s) (views : List OneView) → h.writer < length views
    → ((seat : ℕ) (v : OneView) → get_elem? views seat ≡ some v → ViewHolds (serial_in s) h.writer h.sets h.making seat v.cell v.began v.list)
    → OneHolds record { words = s.words; homes = s.homes; views = views }
with_views s h views there each = record {
  writer = h.writer;
  sets = h.sets;
  making = h.making;
  number = h.number;
  value = h.value;
  wide = h.wide;
  few = h.few;
  named = h.named;
  last = h.last;
  made = h.made;
  cell = h.cell;
  there = there;
  each = each;
}

-- a step of a reader: no word changes, and its new view holds
pub reads : (s : St) (h : OneHolds s) (i id : ℕ) (cs : Carried) (w : OneView)
    → ViewHolds (serial_in s) h.writer h.sets h.making id w.cell w.began w.list
    → OneHolds (stepped s i (get_or s.words i 0) id cs w keeps)
reads s h i id cs w mine =
    subst (λ (ws : List ℕ). OneHolds record { words = ws; homes = s.homes; views = set s.views id w }) (sym (set-get_or s.words i 0))
    (with_views s h (set s.views id w) (let l = length-set s.views id w in let t = h.there in omega arith) (λ seat v e. ⊎_elim
    (λ (t : (seat ≡ id) × (w ≡ v)). subst (λ (x : ℕ × OneView). ViewHolds (serial_in s) h.writer h.sets h.making x.0 x.1.cell x.1.began x.1.list) (λ j. (sym t.0 j, t.1 j)) mine)
    (λ (t : (seat ≢ id) × (get_elem? s.views seat ≡ some v)). h.each seat v t.1)
    (at_set s.views id seat w v e)))

-- what the writer's store leaves
pub record After (s : St) (i n : ℕ) : Type 0 where
  pub sets : List Set
  pub making : Option Making
  pub number : ℕ
  pub value : List ℕ
  pub few : length sets < 2 ^ 55
  pub named : (i : ℕ) (set : Set) → get_elem? sets i ≡ some set → (set.0 ≡ the_name) × IsShortValue set.1
  pub last : LastSet sets (length sets) the_name number value
  pub made : MayMake making
  pub cell : CellHolds (set s.words i n) the_place number value (new_value making) (done_of making)

-- the same sets
abbrev pub same_sets : (s : St) (h : OneHolds s) (i n : ℕ) (making : Option Making) → MayMake making
    → CellHolds (set s.words i n) the_place h.number h.value (new_value making) (done_of making) → After s i n
same_sets s h i n making made cell =
    record { sets = h.sets; making = making; number = h.number; value = h.value; few = h.few; named = h.named; last = h.last; made = made; cell = cell }

-- another seat's view at a later moment
other_view : (word word' writer : ℕ) (sets sets' : List Set) (making making' : Option Making) (seat : ℕ) (cell : CellView) (began : List Set) (list : List ClientItem)
    → seat ≢ writer → Later (world_of word sets making) (world_of word' sets' making')
    → ViewHolds word writer sets making seat cell began list → ViewHolds word' writer sets' making' seat cell began list
other_view word word' writer sets sets' making making' seat (Writer s m) began list other later h = absurd (other h.0)
other_view word word' writer sets sets' making making' seat (Reader number copying) began list other later h =
    (other, reader_later (world_of word sets making) (world_of word' sets' making') later number copying began list h.1)

-- a store of the writer: the words and the sets hold, and the moment that it leads to is a later one
pub writes : (s : St) (h : OneHolds s) (i n id : ℕ) (cs : Carried) (v : OneView) (a : After s i n)
    → id ≡ h.writer → Later (world_of (serial_in s) h.sets h.making) (world_of (get_or (set s.words i n) the_place 0) a.sets a.making)
    → OneHolds (stepped s i n id cs (with_cell v (Writer a.sets a.making)) keeps)
writes s h i n id cs v a mine later = let w = with_cell v (Writer a.sets a.making) in let word = get_or (set s.words i n) the_place 0 in record {
  writer = h.writer;
  sets = a.sets;
  making = a.making;
  number = a.number;
  value = a.value;
  wide = length-set s.words i n ∙ h.wide;
  few = a.few;
  named = a.named;
  last = a.last;
  made = a.made;
  cell = a.cell;
  there = let l = length-set s.views id w in let t = h.there in omega arith;
  each = λ seat u e. ⊎_elim
      (λ (t : (seat ≡ id) × (w ≡ u)). subst (λ (x : OneView). ViewHolds word h.writer a.sets a.making seat x.cell x.began x.list) t.1 (t.0 ∙ mine, refl, refl))
      (λ (t : (seat ≢ id) × (get_elem? s.views seat ≡ some u)). other_view (serial_in s) word h.writer h.sets a.sets h.making a.making seat u.cell u.began u.list
      (λ is. t.0 (is ∙ sym mine)) later (h.each seat u t.1))
      (at_set s.views id seat w u e);
}

-- what the rule says of a writer's view
pub record Mine (s : St) (h : OneHolds s) (id : ℕ) (v : OneView) (name value : List ℕ) (place done : ℕ) : Type 0 where
  pub writes : id ≡ h.writer
  pub sets_are : sets_of v.cell ≡ h.sets
  pub making_is : update name value place done ≡ h.making

pub mine : (s : St) (h : OneHolds s) (id : ℕ) (v : OneView) (name value : List ℕ) (place done : ℕ) → get_elem? s.views id ≡ some v
    → IsUpdating v.cell name value place done → Mine s h id v name value place done
mine s h id v name value place done here is =
    let known = subst (λ (c : CellView). ViewHolds (serial_in s) h.writer h.sets h.making id c v.began v.list) is (h.each id v here) in
    record { writes = known.0; sets_are = known.1; making_is = known.2 }

pub done-update : (name value : List ℕ) (place done : ℕ) → done_of (update name value place done) ≡ done
done-update name value place zero = refl
done-update name value place (suc done) = refl

pub new-update : (name value : List ℕ) (place done : ℕ) → 0 < done → new_value (update name value place done) ≡ value
new-update name value place zero some_done = absurd (omega arith)
new-update name value place (suc done) some_done = refl

pub name-update : (name value : List ℕ) (place done : ℕ) → 0 < done → name_of (update name value place done) ≡ Some name
name-update name value place zero some_done = absurd (omega arith)
name-update name value place (suc done) some_done = refl

pub name-update_later : (name value : List ℕ) (place done done' : ℕ) (q : List ℕ) → 0 < done' → name_of (update name value place done) ≡ Some q → name_of (update name value place done') ≡ Some q
name-update_later name value place zero done' q some_done e = absurd (cc)
name-update_later name value place (suc done) done' q some_done e = name-update name value place done' some_done ∙ e

pub made-update : (name value : List ℕ) (place done : ℕ) → name ≡ the_name → place ≡ the_place → IsShortValue value → done ≤ 25 → MayMake (update name value place done)
made-update name value place zero n p v d = tt
made-update name value place (suc done) n p v d = (n, p, v, d)

-- a moment with the same sets, at which an update begins or goes on
pub goes_on : (word word' : ℕ) (sets : List Set) (making making' : Option Making)
    → ((q : List ℕ) → name_of making ≡ Some q → name_of making' ≡ Some q)
    → ((name : List ℕ) → Moved (world_of word sets making) (world_of word' sets making') name)
    → Later (world_of word sets making) (world_of word' sets making')
goes_on word word' sets making making' step moves = record {
  more = [];
  grown = sym (append-nil sets);
  kept = λ q low within is. inr (step q is);
  moves = moves;
}

-- a store that leaves the serial and the sets
pub waits : (s : St) (h : OneHolds s) (i n : ℕ) (making' : Option Making) → the_place ≢ i
    → ((q : List ℕ) → name_of h.making ≡ Some q → name_of making' ≡ Some q)
    → Later (world_of (serial_in s) h.sets h.making) (world_of (get_or (set s.words i n) the_place 0) h.sets making')
waits s h i n making' other step =
    goes_on (serial_in s) (get_or (set s.words i n) the_place 0) h.sets h.making making' step
    (λ name. stays
    (ap (λ (word : ℕ). serial_on word name) (get_or-set_other s.words i the_place n 0 other))
    (λ k value above below e. omega arith))

-- the cell as the writer knows it
pub cell_known : (s : St) (h : OneHolds s) (id : ℕ) (v : OneView) (name value : List ℕ) (place done : ℕ) → Mine s h id v name value place done
    → CellHolds s.words the_place h.number h.value (new_value (update name value place done)) done
cell_known s h id v name value place done known =
    subst (λ (d : ℕ). CellHolds s.words the_place h.number h.value (new_value (update name value place done)) d) (done-update name value place done)
    (subst (λ (m : Option Making). CellHolds s.words the_place h.number h.value (new_value m) (done_of m)) (sym known.making_is) h.cell)

-- the last set as the writer knows it
pub last_known : (s : St) (h : OneHolds s) (id : ℕ) (v : OneView) (name value : List ℕ) (place done : ℕ) → Mine s h id v name value place done → name ≡ the_name
    → LastSet (sets_of v.cell) (length (sets_of v.cell)) name h.number h.value
last_known s h id v name value place done known is =
    subst (λ (x : List Set × List ℕ). LastSet x.0 (length x.0) x.1 h.number h.value) (λ i. (sym known.sets_are i, sym is i)) h.last

legal-update : (name value : List ℕ) (place done : ℕ) → 0 < done → MayMake (update name value place done) → IsShortValue value
legal-update name value place zero some_done made = absurd (omega arith)
legal-update name value place (suc done) some_done made = made.2

-- the value that is being set is legal
pub legal_known : (s : St) (h : OneHolds s) (id : ℕ) (v : OneView) (name value : List ℕ) (place done : ℕ) → Mine s h id v name value place done → 0 < done → IsShortValue value
legal_known s h id v name value place done known some_done = legal-update name value place done some_done (subst MayMake (sym known.making_is) h.made)

-- the name of the set that is being made
pub name_known : (s : St) (h : OneHolds s) (id : ℕ) (v : OneView) (name value : List ℕ) (place done : ℕ) → Mine s h id v name value place done → 0 < done → name_of h.making ≡ Some name
name_known s h id v name value place done known some_done = ap name_of (sym known.making_is) ∙ name-update name value place done some_done
