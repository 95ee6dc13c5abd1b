-- The loads of a walk keep the rule of the area.
use Rattle.std.proofs.Common.{◌≡◌, ◌≢◌, ℕ, zero, suc, ◌+◌, ◌<◌, List, [], ◌∷◌, ◌++◌, length, get_or, Option, Some, None, sym, refl, ap, ◌∙◌, subst, ⊎_elim, arith}
use Rattle.std.specs.Prelude.{IsTrue, Contains}
use mathlib.Core.Logic.{dite}
use native.Mathlib.Decide.{ℕ_discrete}
use Rattle.atomic_table.specs.Table.{Me, Allows, keeps}
use Rattle.init_machine.specs.Sets.{Set, value_at}
use Rattle.init_machine.specs.Serial.{rank}
use Rattle.init_machine.specs.declared.report.Reading.TheVariants.{Absent, Again}
use Rattle.init_machine.specs.declared.client.ClientItem.{ClientItem}
use Rattle.init_machine.specs.declared.client.ClientItem.TheVariants.{Told}
use Rattle.serial_value.specs.declared.view.Copying.{Copying}
use Rattle.serial_value.specs.declared.view.CellView.{CellView}
use Rattle.serial_value.specs.declared.view.CellView.TheVariants.{Writer, Reader}
use Rattle.serial_value.specs.Words.{text_word}
use Rattle.serial_value.specs.World.{World, MetUpTo, MayCopy, ReaderHolds}
use Rattle.serial_value.specs.impl_laws.Lists.{MayTell, tells, seen_through-end}
use Rattle.serial_value.specs.impl_laws.Places.{at_end}
use Rattle.property_trie.specs.Parts.{parts_of}
use Rattle.property_trie.specs.Tree.{Tree, find}
use Rattle.property_trie.specs.TreeWords.{part_words, link_at}
use Rattle.property_trie.specs.TrieSteps.{tree_of, missing_parts, LeadsTo, Follows, StandsAt, part_at, ComesTo, Ends, Misses, EndsWithout, EndsAtNode, HasCellAt, NodeInside, CellInside, rested, standing, knowing}
use Rattle.property_trie.specs.Walk.{EndsAt}
use Rattle.property_trie.specs.Held.{TrieStands}
use Rattle.property_trie.specs.declared.view.TrieView.{TrieView}
use Rattle.property_trie.proofs.Loads.{length_found, word_found, none_found, node_found, ends_there, cell_found, cell_inside}
use Rattle.property_area.specs.declared.view.AreaView.{AreaView}
use Rattle.property_area.specs.Area.{tree_now, Moment, world_of, WordsHold, PartHolds, ViewHolds, AreaHolds, with_trie, noted}
use Rattle.property_area.specs.impl_laws.Trees.{Parts, mark_now, now_stands, find_now}
use Rattle.property_area.specs.impl_laws.Sets.{no_value}
use Rattle.property_area.specs.impl_laws.Frame.{reads}
use Rattle.property_area.specs.impl_laws.Requests.{asked_told}

-- a view with another trie part, of the same addition
pub part_trie : (w : World) (m : Moment) (id : ℕ) (v : AreaView) (t : TrieView) → t.adding ≡ v.trie.adding → t.live ≡ v.trie.live → (cell : CellView) → PartHolds w m id cell v → PartHolds w m id cell (with_trie v t)
part_trie w m id v t same live (Writer sets making) part = (part.0, part.1, part.2, same ∙ part.3, part.4, part.5, part.6)
part_trie w m id v t same live (Reader number copying) part = (part.0, part.1, λ l. part.2 (subst IsTrue live l))

-- one more reading that is no Again, in a reader's list
met_still : (list : List ClientItem) (name q : List ℕ) (number high : ℕ) → MetUpTo list q high → MetUpTo (list ++ Told (Absent name number) ∷ []) q high
met_still list name q number high met i n first second e = ⊎_elim
    (λ old. met i n first second old)
    (λ (t : (i ≡ length list) × (Told (Absent name number) ≡ Told (Again q n first second))). let d = t.1 in absurd (cc))
    (at_end list (Told (Absent name number)) (Told (Again q n first second)) i e)

copy_still : (w : World) (number : ℕ) (list : List ClientItem) (name : List ℕ) (copying : Option Copying) → MayCopy w number list copying → MayCopy w number (list ++ Told (Absent name number) ∷ []) copying
copy_still w number list name None h = tt
copy_still w number list name (Some copying) h = record {
  serial = h.serial;
  below = h.below;
  above = met_still list name copying.name number (rank copying.first) h.above;
  whole = h.whole;
  moved = h.moved;
  lasting = h.lasting;
}

-- a reader is told that a name is absent
pub reader_misses : (w : World) (number : ℕ) (copying : Option Copying) (began : List Set) (list : List ClientItem) (name : List ℕ) → ReaderHolds w number copying began list
    → value_at w.sets number name ≡ None → ReaderHolds w number copying began (list ++ Told (Absent name number) ∷ [])
reader_misses w number copying began list name r none =
    let may : MayTell w began list (Absent name number) = record {
      stands = (r.early, none);
      after = r.seen;
      seen = r.early;
      again = λ q n first second e. absurd (cc);
    } in record {
      early = r.early;
      holds = tells w began list r.holds (Absent name number) may;
      seen = let e = seen_through-end (length began) list (Told (Absent name number)) in omega arith;
      copy = copy_still w number list name copying r.copy;
    }

-- one more cell that is known
module _ (tree : Tree) (known : List (List ℕ × ℕ)) (name : List ℕ) (place : ℕ) (some_place : place ≢ 0) (found : find tree (parts_of name) ≡ place)
    (old : (q : List ℕ) (p : ℕ) → Contains known (q, p) → (p ≢ 0) × (find tree (parts_of q) ≡ p)) where
  known_at : (k : ℕ) (q : List ℕ) (p : ℕ) → k < length ((name, place) ∷ known) → get_or ((name, place) ∷ known) k (q, p) ≡ (q, p) → (p ≢ 0) × (find tree (parts_of q) ≡ p)
  known_at zero q p small is = subst (λ (x : List ℕ × ℕ). (x.1 ≢ 0) × (find tree (parts_of x.0) ≡ x.1)) is (some_place, found)
  known_at (suc k) q p small is = old q p (k, omega arith, is)

  pub known_more : (q : List ℕ) (p : ℕ) → Contains ((name, place) ∷ known) (q, p) → (p ≢ 0) × (find tree (parts_of q) ≡ p)
  known_more q p there = known_at there.0 q p there.1 there.2

module _ (words : List ℕ) (m : Moment) (h : WordsHold words m) (id : ℕ) (v : AreaView) (view : ViewHolds words m id v) (name : List ℕ) where
  abbrev w : World
  w = world_of words m

  abbrev ps : Parts
  ps = parts_of name

  abbrev tree : Tree
  tree = tree_now m.sets m.adding

  abbrev mark : ℕ
  mark = mark_now m.sets m.adding

  stands : TrieStands words tree mark
  stands = now_stands words m.sets m.adding h.trie

  -- the tree of the sets, where no addition is under way
  at_rest : v.trie.adding ≡ None → v.trie.adding ≡ m.adding → tree ≡ tree_of m.sets
  at_rest none same = ap (tree_now m.sets) (sym same ∙ none)

  abbrev Missed : CellView → Type 0
  Missed cell = (u : AreaView) × ViewHolds words m id u × Misses with_trie noted cell v.trie v name u

  -- the name has no cell
  missed : (cell : CellView) → v.cell ≡ cell → PartHolds w m id cell v → find (tree_of m.sets) ps ≡ 0 → Missed cell
  missed (Writer sets making) is part none = (
    with_trie v (rested v.trie),
    record {
      width = view.width;
      trie = record { known = view.trie.known; trail = tt };
      part = part_trie w m id v (rested v.trie) refl refl v.cell view.part;
    },
    (subst (λ (s : List Set). find (tree_of s) ps ≡ 0) (sym part.1) none, refl),
  )
  missed (Reader number copying) is part none = let u = noted (with_trie v (rested v.trie)) (Absent name number) in (
    u,
    record {
      width = view.width;
      trie = record { known = view.trie.known; trail = tt };
      part = subst (λ (c : CellView). PartHolds w m id c u) (sym is)
          (part.0, reader_misses w number copying v.began v.list name part.1 (no_value m.sets name number part.1.early none), asked_told m id v (Absent name number) part.2);
    },
    refl,
  )

  without : (cell : CellView) (link : ℕ) (rest : Parts) → PartHolds w m id cell v → v.trie.adding ≡ None
      → (find tree ps ≡ 0) × (link ≡ link_at 1 tree ps) × (rest ≡ missing_parts tree ps) → EndsWithout cell name link rest
  without (Writer sets making) link rest part none found =
      let same : tree ≡ tree_of sets = at_rest none part.3 ∙ ap tree_of (sym part.1) in
      subst (λ (t : Tree). (link ≡ link_at 1 t ps) × (rest ≡ missing_parts t ps)) same (found.1, found.2)
  without (Reader number copying) link rest part none found = tt

  at_node : (cell : CellView) (link : ℕ) → PartHolds w m id cell v → v.trie.adding ≡ None → EndsAt tree ps link → EndsAtNode cell name link
  at_node (Writer sets making) link part none ends = subst (λ (t : Tree). EndsAt t ps link) (at_rest none part.3 ∙ ap tree_of (sym part.1)) ends
  at_node (Reader number copying) link part none ends = tt

  has_cell : (cell : CellView) (place : ℕ) → PartHolds w m id cell v → find (tree_of m.sets) ps ≡ place → HasCellAt cell name place
  has_cell (Writer sets making) place part found = subst (λ (s : List Set). find (tree_of s) ps ≡ place) (sym part.1) found
  has_cell (Reader number copying) place part found = tt

  found_none : find tree ps ≡ 0 → find (tree_of m.sets) ps ≡ 0
  found_none none = sym (find_now m.sets m.adding ps) ∙ none

  pub follows : (link : ℕ) (rest : Parts) → LeadsTo v.trie name link rest
      → (u : AreaView) × ViewHolds words m id u × Follows with_trie noted v.words v.cell v.trie v name link rest (get_or words link 0) u
  follows link rest leads = dite (ℕ_discrete (get_or words link 0) 0)
      (λ (zero_link : get_or words link 0 ≡ 0).
      let found = none_found words tree mark stands v.trie view.trie name link rest leads zero_link in
      let miss = missed v.cell refl view.part (found_none found.0) in (
        miss.0,
        miss.1,
        record {
          none = λ _. (miss.2, without v.cell link rest view.part leads.no_adding found);
          some = λ other. absurd (other zero_link);
        },
      ))
      (λ (some_link : get_or words link 0 ≢ 0).
      let found = node_found words tree mark stands v.trie view.trie name link rest leads some_link in
      let place = get_or words link 0 in
      let t = standing v.trie name rest place found.0 in (
        with_trie v t,
        record {
          width = view.width;
          trie = record { known = view.trie.known; trail = found.3 };
          part = part_trie w m id v t refl refl v.cell view.part;
        },
        record {
          none = λ is. absurd (some_link is);
          some = λ _. (found.0, found.1, subst (λ (n : ℕ). NodeInside n place found.0) (sym view.width) found.2, refl);
        },
      ))

  pub ends : (link : ℕ) → ComesTo v.trie name link
      → (u : AreaView) × ViewHolds words m id u × Ends with_trie noted v.words v.cell v.trie v name link (get_or words link 0) u
  ends link comes =
      let at = cell_found words tree mark stands v.trie view.trie name link comes in
      dite (ℕ_discrete (get_or words link 0) 0)
      (λ (zero_link : get_or words link 0 ≡ 0).
      let miss = missed v.cell refl view.part (found_none (sym at ∙ zero_link)) in (
        miss.0,
        miss.1,
        record {
          none = λ _. (miss.2, at_node v.cell link view.part comes.no_adding (ends_there words tree mark stands v.trie view.trie name link comes));
          some = λ other. absurd (other zero_link);
        },
      ))
      (λ (some_link : get_or words link 0 ≢ 0).
      let place = get_or words link 0 in
      let t = knowing v.trie name place in (
        with_trie v t,
        record {
          width = view.width;
          trie = record { known = known_more tree v.trie.known name place some_link (sym at) view.trie.known; trail = tt };
          part = part_trie w m id v t refl refl v.cell view.part;
        },
        record {
          none = λ is. absurd (some_link is);
          some = λ _. (
            subst (λ (n : ℕ). CellInside n place) (sym view.width) (cell_inside words tree mark stands v.trie view.trie name link comes some_link),
            has_cell v.cell place view.part (sym (find_now m.sets m.adding ps) ∙ sym at),
            refl,
          );
        },
      ))

pub area_followed : (key slots id : ℕ) (m : Me (Unit {0}) AreaView) (name : List ℕ) (link : ℕ) (rest : Parts) → LeadsTo m.0.trie name link rest
    → Allows AreaHolds slots id m link (λ n. n) (λ n after. (after.1 ≡ m.1) × Follows with_trie noted m.0.words m.0.cell m.0.trie m.0 name link rest n after.0)
area_followed key slots id m name link rest leads s h size here fits =
    let f = follows s.words h.moment h.words id m.0 (h.each id m.0 here) name link rest leads in
    (f.0, keeps, tt, reads s h link id m.1 f.0 f.1, (refl, f.2))

pub area_cell_link : (key slots id : ℕ) (m : Me (Unit {0}) AreaView) (name : List ℕ) (link : ℕ) → ComesTo m.0.trie name link
    → Allows AreaHolds slots id m link (λ n. n) (λ n after. (after.1 ≡ m.1) × Ends with_trie noted m.0.words m.0.cell m.0.trie m.0 name link n after.0)
area_cell_link key slots id m name link comes s h size here fits =
    let f = ends s.words h.moment h.words id m.0 (h.each id m.0 here) name link comes in
    (f.0, keeps, tt, reads s h link id m.1 f.0 f.1, (refl, f.2))

pub area_length : (key slots id : ℕ) (m : Me (Unit {0}) AreaView) (place : ℕ) → IsTrue m.0.trie.live → StandsAt m.0.trie.trail place
    → Allows AreaHolds slots id m place (λ n. n) (λ n after. (after ≡ m) × (n ≡ length (part_at m.0.trie.trail)))
area_length key slots id m place live at s h size here fits =
    let mo = h.moment in
    let view = h.each id m.0 here in (
      m.0,
      keeps,
      tt,
      reads s h place id m.1 m.0 view,
      (refl, length_found s.words (tree_now mo.sets mo.adding) (mark_now mo.sets mo.adding) (now_stands s.words mo.sets mo.adding h.words.trie) m.0.trie view.trie place at),
    )

pub area_word : (key slots id : ℕ) (m : Me (Unit {0}) AreaView) (place k : ℕ) → IsTrue m.0.trie.live → StandsAt m.0.trie.trail place → k < part_words (part_at m.0.trie.trail)
    → Allows AreaHolds slots id m (place + 5 + k) (λ n. n) (λ n after. (after ≡ m) × (n ≡ text_word (part_at m.0.trie.trail) k))
area_word key slots id m place k live at small s h size here fits =
    let mo = h.moment in
    let view = h.each id m.0 here in (
      m.0,
      keeps,
      tt,
      reads s h (place + 5 + k) id m.1 m.0 view,
      (refl, word_found s.words (tree_now mo.sets mo.adding) (mark_now mo.sets mo.adding) (now_stands s.words mo.sets mo.adding h.words.trie) m.0.trie view.trie place k at small),
    )
