use Rattle.std.proofs.Common.{◌≡◌, ◌+◌, ℕ, List, [], ◌∷◌, ◌++◌, sym, ap, ◌∙◌, subst}
use Rattle.atomic_table.specs.Seated.{TableId}
use Rattle.init_machine.specs.Props.{Property, Props}
use Rattle.init_machine.specs.Sets.{Set}
use Rattle.property_trie.specs.Additions.{IsMissing}
use Rattle.property_trie.specs.Levels.{AreLevels}
use Rattle.property_trie.proofs.Grown.{levels_cell}
use Rattle.property_area.specs.declared.index.Index.{Index}
use Rattle.property_area.specs.declared.view.AreaView.{AreaView}
use Rattle.property_area.specs.Places.{AreNoted}
use Rattle.property_area.specs.Seats.{sets_in, store_of}
use Rattle.property_area.proofs.Looking.{sets_after, store_after}
use Rattle.property_area.proofs.Noting.{noted_new}
use Rattle.property_area.proofs.store.add_property.Goals as goal
use Rattle.property_area.proofs.store.add_property.Goals.{in-Cell, in-Nodes}

pub returns-clause-index : goal.returns-clause-index
returns-clause-index c =
    let v = c.args.seat.now.me.0 in
    let w = c.missing_of-missing.new.seat.me.0 in
    let u = c.set_new-place.new.seat.me.0 in
    let table : TableId = c.args.area.now in
    let name = c.args.name.bytes.now in
    let value = c.args.value.bytes.now in
    let place = c.set_new-place.result in
    let same : w ≡ v = ap (λ m. m.0) c.missing_of-missing.ensures.seat.1 in
    let noted : AreNoted table w.trie.known (store_of w).held c.args.index.now.places =
    subst (λ (x : AreaView). AreNoted table x.trie.known (store_of x).held c.args.index.now.places) (sym same) c.requires.index.0 in
    let new : Property = record { name = name; value = value; number = (store_of w).count + 1 } in
    let places : AreNoted table u.trie.known (store_of u).held c.note.new.self =
    subst (λ (k : List (List ℕ × ℕ)). AreNoted table k (store_of u).held c.note.new.self) (sym c.set_new-place.ensures.known)
    (subst (λ (p : Props). AreNoted table ((name, place) ∷ w.trie.known) p.held c.note.new.self) (sym (store_after w name value u c.set_new-place.ensures.view))
    (noted_new table w.trie.known (store_of w).held c.args.index.now.places c.note.new.self new place c.set_new-place.ensures.cell c.note.ensures noted)) in
    let sets : sets_in u ≡ sets_in v ++ (name, value) ∷ [] =
    sets_after w name value u c.set_new-place.ensures.view ∙ ap (λ (x : AreaView). sets_in x ++ (name, value) ∷ []) same in
    elim c.match-missing.branch as (λ _. AreNoted table u.trie.known (store_of u).held c.match-missing.index.places × AreLevels (sets_in u) c.match-missing.index.levels) [
      | in-Cell b ↦
          let is = subst (IsMissing table.words (sets_in v) name) b.in-Cell.is c.missing_of-missing.ensures.missing in
          subst (λ (x : Index). AreNoted table u.trie.known (store_of u).held x.places × AreLevels (sets_in u) x.levels) (sym b.index-is) (
            places,
            subst (λ (s : List Set). AreLevels s c.args.index.now.levels) (sym sets)
                (levels_cell (sets_in v) name value c.args.index.now.levels b.in-Cell.link c.requires.absent is.0 c.requires.index.1),
          )
      | in-Nodes b ↦
          let is = subst (IsMissing table.words (sets_in v) name) b.in-Nodes.is c.missing_of-missing.ensures.missing in
          subst (λ (x : Index). AreNoted table u.trie.known (store_of u).held x.places × AreLevels (sets_in u) x.levels) (sym b.index-is) (
            places,
            subst (λ (s : List Set). AreLevels s b.grow.new.self) (sym sets)
                (b.grow.ensures (sets_in v) value (record { absent = c.requires.absent; missing = is.1; within = is.2; mark_is = c.requires.used }) c.requires.index.1),
          )
    ]
