use Rattle.std.proofs.Common.{◌≡◌, sym, ap, subst, ◌∙◌, ℕ, ◌+◌, ◌≤◌, false, List, [], ◌∷◌, ◌++◌, length}
use Rattle.atomic_table.specs.Seated.{TableId}
use Rattle.init_machine.specs.Props.{Property, Props, lookup_in, is_absent}
use Rattle.init_machine.specs.Sets.{Set}
use Rattle.init_machine.specs.Words.{cell_words}
use Rattle.property_trie.specs.Additions.{new_place}
use Rattle.property_trie.specs.Parts.{parts_of}
use Rattle.property_trie.specs.Tree.{Trie, find}
use Rattle.property_trie.proofs.Grown.{levels_same}
use Rattle.property_trie.specs.TrieSteps.{tree_of}
use Rattle.property_trie.specs.declared.view.TrieView.{TrieView}
use Rattle.property_area.specs.impl_laws.Trees.{trie_same}
use Rattle.property_area.specs.Places.{AreNoted}
use Rattle.property_area.specs.Seats.{sets_in, store_of}
use Rattle.init_machine.proofs.LegalNames.{legal_len}
use Rattle.property_area.proofs.Looking.{may_update, next_number, new_fits, sets_after, store_after, used_kept, used_more}
use Rattle.property_area.proofs.Meaning.{has_cell, no_cell}
use Rattle.property_area.proofs.Noting.{noted_set}
use Rattle.property_area.proofs.store.set.Goals as goal

pub set_at-requires-clause-number : goal.set_at-requires-clause-number
set_at-requires-clause-number c =
    let v = c.args.seat.now.me.0 in
    let w = c.find_cell.new.seat.me.0 in
    next_number v w (ap sets_in c.find_cell.ensures.view) v.words c.args.name.bytes.now (length c.args.value.bytes.now) c.requires.room c.args.number c.requires.number c.requires.writer.2.few

pub set_at-requires-clause-short : goal.set_at-requires-clause-short
set_at-requires-clause-short c =
    let v = c.args.seat.now.me.0 in
    let w = c.find_cell.new.seat.me.0 in
    let name = c.args.name.bytes.now in
    let value = c.args.value.bytes.now in
    may_update v w name value (ap sets_in c.find_cell.ensures.view) c.requires.writer.2.fit c.requires.once
    (has_cell v.words (sets_in v) name c.in-Some.ensures.held) (legal_len name value c.requires.legal)

pub add_property-requires-clause-absent : goal.add_property-requires-clause-absent
add_property-requires-clause-absent c =
    let v = c.args.seat.now.me.0 in
    let name = c.args.name.bytes.now in
    subst (λ (s : List Set). find (tree_of s) (parts_of name) ≡ 0) (sym (ap sets_in c.find_cell.ensures.view)) (no_cell v.words (sets_in v) name c.in-None.ensures.absent)

pub add_property-requires-clause-room : goal.add_property-requires-clause-room
add_property-requires-clause-room c =
    let v = c.args.seat.now.me.0 in
    let w = c.find_cell.new.seat.me.0 in
    let name = c.args.name.bytes.now in
    subst (λ (n : ℕ). new_place (sets_in w) name + cell_words (length c.args.value.bytes.now) ≤ n) (c.requires.writer.2.wide ∙ ap (λ (t : TableId). t.words) c.requires.writer.0)
    (new_fits v w (ap sets_in c.find_cell.ensures.view) v.words name (length c.args.value.bytes.now) c.requires.room c.requires.writer.2.fit
    (no_cell v.words (sets_in v) name c.in-None.ensures.absent))

pub add_property-requires-clause-number : goal.add_property-requires-clause-number
add_property-requires-clause-number c =
    let v = c.args.seat.now.me.0 in
    let w = c.find_cell.new.seat.me.0 in
    next_number v w (ap sets_in c.find_cell.ensures.view) v.words c.args.name.bytes.now (length c.args.value.bytes.now) c.requires.room c.args.number c.requires.number c.requires.writer.2.few

pub returns-in-Some-clause-index : goal.returns-in-Some-clause-index
returns-in-Some-clause-index c =
    let v = c.args.seat.now.me.0 in
    let w = c.find_cell.new.seat.me.0 in
    let u = c.set_at.new.seat.me.0 in
    let name = c.args.name.bytes.now in
    let value = c.args.value.bytes.now in
    let new : Property = record { name = name; value = value; number = (store_of w).count + 1 } in
    let there = subst (λ (p : Props). is_absent (lookup_in p.held name) ≡ false) (sym (ap store_of c.find_cell.ensures.view)) c.in-Some.ensures.held in
    let sets : sets_in u ≡ sets_in v ++ (name, value) ∷ [] =
    sets_after w name value u c.set_at.ensures.view ∙ ap (λ (s : List Set). s ++ (name, value) ∷ []) (ap sets_in c.find_cell.ensures.view) in (
      subst (λ (t : TrieView). AreNoted c.args.area.now t.known (store_of u).held c.find_cell.new.places) (sym c.set_at.ensures.trie)
          (subst (λ (p : Props). AreNoted c.args.area.now w.trie.known p.held c.find_cell.new.places) (sym (store_after w name value u c.set_at.ensures.view))
          (noted_set c.args.area.now w.trie.known (store_of w).held c.find_cell.new.places new there c.find_cell.ensures.noted)),
      levels_same (sets_in v) (sets_in u) c.args.index.now.levels
          (ap tree_of sets ∙ ap (λ (t : Trie). t.tree) (trie_same (sets_in v) name value (has_cell v.words (sets_in v) name c.in-Some.ensures.held)))
          c.requires.index.1,
    )

pub returns-in-Some-clause-used : goal.returns-in-Some-clause-used
returns-in-Some-clause-used c =
    let v = c.args.seat.now.me.0 in
    let w = c.find_cell.new.seat.me.0 in
    let name = c.args.name.bytes.now in
    used_kept v w c.set_at.new.seat.me.0 name c.args.value.bytes.now c.args.used (ap sets_in c.find_cell.ensures.view)
    (has_cell v.words (sets_in v) name c.in-Some.ensures.held) c.requires.used c.set_at.ensures.view

pub returns-in-None-clause-used : goal.returns-in-None-clause-used
returns-in-None-clause-used c =
    let v = c.args.seat.now.me.0 in
    let w = c.find_cell.new.seat.me.0 in
    let name = c.args.name.bytes.now in
    used_more v w c.add_property.new.seat.me.0 name c.args.value.bytes.now c.add_property.result (ap sets_in c.find_cell.ensures.view)
    (no_cell v.words (sets_in v) name c.in-None.ensures.absent) c.add_property.ensures.used c.add_property.ensures.view
