use Rattle.std.proofs.Common.{◌≡◌, ℕ, List, ◌∷◌, Option, None, IfNone, sym, subst}
use Rattle.atomic_table.specs.Seated.{TableId}
use Rattle.init_machine.specs.Props.{lookup_in}
use Rattle.serial_value.specs.Steps.{HasCell}
use Rattle.property_trie.specs.TrieSteps.{Finds}
use Rattle.property_area.specs.declared.view.AreaView.{AreaView}
use Rattle.property_area.specs.Area.{with_trie, noted}
use Rattle.property_area.specs.Places.{AreNoted}
use Rattle.property_area.specs.Seats.{sets_in, store_of}
use Rattle.property_area.proofs.Looking.{found_none, found_at, held_at}
use Rattle.property_area.proofs.Meaning.{lookup_none}
use Rattle.property_area.proofs.Noting.{known_first, known_more, noted_more, still_noted}
use Rattle.property_area.proofs.store.find_cell.Goals as goal

pub returns-in_err-place-clause-absent : goal.returns-in_err-place-clause-absent
returns-in_err-place-clause-absent c =
    let v = c.args.seat.now.me.0 in
    let name = c.args.name.bytes.now in
    let w = c.find-2.new.seat.me.0 in
    let f = found_none v (sets_in v) c.requires.writer.2.writes name w
    (subst (λ (o : Option ℕ). Finds with_trie noted v.words v.cell v.trie v name o w) c.in_err-place.was c.find-2.ensures.found) in
    subst (λ (o : Option ℕ). IfNone o (lookup_in (store_of v).held name ≡ None)) (sym c.from_residual.ensures) (lookup_none v.words (sets_in v) name f.0)

pub returns-clause-noted : goal.returns-clause-noted
returns-clause-noted c =
    let v = c.args.seat.now.me.0 in
    let name = c.args.name.bytes.now in
    let w = c.find-2.new.seat.me.0 in
    let place = c.in_ok-place.place in
    let table : TableId = c.args.area.now in
    let f = found_at v (sets_in v) c.requires.writer.2.writes name w place
    (subst (λ (o : Option ℕ). Finds with_trie noted v.words v.cell v.trie v name o w) c.in_ok-place.was c.find-2.ensures.found) in
    let known : List (List ℕ × ℕ) = (name, place) ∷ v.trie.known in
    subst (λ (x : AreaView). AreNoted table x.trie.known (store_of x).held c.note.new.self) (sym f.2)
    (noted_more table known (store_of v).held c.args.places.now name place
    (subst (λ (t : TableId). HasCell t place) c.area.view_is c.in_ok-place.ensures.linked.0)
    (known_first v.trie.known name place) (held_at v.words (sets_in v) name place f.1 f.0.0) c.note.new.self
    (still_noted table v.trie.known known (store_of v).held c.args.places.now (known_more v.trie.known name place) c.requires.noted) c.note.ensures)

pub returns-clause-held : goal.returns-clause-held
returns-clause-held c =
    let v = c.args.seat.now.me.0 in
    let name = c.args.name.bytes.now in
    let w = c.find-2.new.seat.me.0 in
    let place = c.in_ok-place.place in
    let f = found_at v (sets_in v) c.requires.writer.2.writes name w place
    (subst (λ (o : Option ℕ). Finds with_trie noted v.words v.cell v.trie v name o w) c.in_ok-place.was c.find-2.ensures.found) in
    held_at v.words (sets_in v) name place f.1 f.0.0
