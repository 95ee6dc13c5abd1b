use Rattle.std.proofs.Common.{◌≡◌, ◌==◌, ℕ, true, false, List, Option, Some, None, IfNone, IfSome, is_some, sym, ap, ◌∙◌, refl, subst, if◌then◌else◌}
use Rattle.init_machine.specs.Props.{is_absent, lookup_in}
use Rattle.init_machine.specs.Sets.{Set}
use Rattle.property_trie.specs.Levels.{AreLevels}
use Rattle.property_trie.specs.Parts.{parts_of}
use Rattle.property_trie.specs.Tree.{find}
use Rattle.property_trie.specs.TrieSteps.{knowing, looked_up, sizes_of, tree_of}
use Rattle.property_trie.proofs.Needed.{need_linked}
use Rattle.property_trie.proofs.Needing.{present}
use Rattle.property_area.specs.Area.{with_trie}
use Rattle.property_area.specs.Seats.{sets_in, store_of}
use Rattle.property_area.specs.declared.view.AreaView.{AreaView}
use Rattle.property_area.proofs.Meaning.{has_cell, no_cell}
use Rattle.property_area.proofs.Noting.{noted_looked}
use Rattle.property_area.proofs.store.words_needed.Goals as goal

told_some : (o : Option ℕ) (Q : Type 0) → IfSome o (λ _. Q) → is_some o ≡ true → Q
told_some None Q told e = absurd (cc)
told_some (Some place) Q told e = told

told_none : (o : Option ℕ) (Q : Type 0) → IfNone o Q → is_some o ≡ false → Q
told_none None Q told e = told
told_none (Some place) Q told e = absurd (cc)

pub returns-then-is_some-clause-need : goal.returns-then-is_some-clause-need
returns-then-is_some-clause-need c =
    let v = c.args.seat.now.me.0 in
    let name = c.args.name.bytes.now in
    let there = told_some c.find_cell.result (is_absent (lookup_in (store_of v).held name) ≡ false) c.find_cell.ensures.held (sym c.is_some.ensures ∙ c.if-is_some.true) in
    sym (present (sizes_of (sets_in v)) name c.args.len (has_cell v.words (sets_in v) name there))

pub words_from-requires-clause-within : goal.words_from-requires-clause-within
words_from-requires-clause-within c = (c.in-Some.ensures (sets_in c.args.seat.now.me.0) c.requires.index.1).2

pub returns-in-Some-clause-need : goal.returns-in-Some-clause-need
returns-in-Some-clause-need c =
    let v = c.args.seat.now.me.0 in
    let name = c.args.name.bytes.now in
    let none = told_none c.find_cell.result (lookup_in (store_of v).held name ≡ None) c.find_cell.ensures.absent (sym c.is_some.ensures ∙ c.if-is_some.false) in
    c.words_from.ensures
    ∙ sym (need_linked (sets_in v) name c.args.len c.in-Some.from c.in-Some.field-0-0 (no_cell v.words (sets_in v) name none) (c.in-Some.ensures (sets_in v) c.requires.index.1))

looked_sets : (v after : AreaView) (name : List ℕ) → after ≡ looked_up with_trie (tree_of (sets_in v)) v.trie v name → sets_in after ≡ sets_in v
looked_sets v after name is =
    let place = find (tree_of (sets_in v)) (parts_of name) in
    ap sets_in is ∙ elim (place == 0) as (λ b. sets_in (if b then v else with_trie v (knowing v.trie name place)) ≡ sets_in v) [
      | true ↦ refl
      | false ↦ refl
    ]

pub returns-in-None-clause-index : goal.returns-in-None-clause-index
returns-in-None-clause-index c =
    let w = c.find_cell.new.seat.me.0 in
    let u = c.need.new.seat.me.0 in
    let name = c.args.name.bytes.now in (
      noted_looked c.args.area.now w u name c.find_cell.new.places c.need.ensures.view c.find_cell.ensures.noted,
      subst (λ (s : List Set). AreLevels s c.args.index.now.levels) (sym (looked_sets w u name c.need.ensures.view ∙ ap sets_in c.find_cell.ensures.view)) c.requires.index.1,
    )
