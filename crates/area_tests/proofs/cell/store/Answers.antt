use Rattle.std.proofs.Common.{◌≡◌, ℕ, ◌-◌, List, [], ◌∷◌, Some, sym, ap, ◌∙◌, subst}
use Rattle.init_machine.specs.Sets.{Set}
use Rattle.serial_value.specs.Words.{body_word}
use Rattle.serial_value.specs.Cell.{sets_of, HasValue}
use Rattle.serial_value.specs.One.{the_name}
use Rattle.serial_value.specs.impl_laws.Bodies.{short_word}
use Rattle.area_tests.proofs.cell.store.Goals as goal

-- the one set's value
only_value : (old value : List ℕ) → HasValue ((the_name, old) ∷ []) the_name value → old ≡ value
only_value old value at = let same : Some old ≡ Some value = at in cc

pub backup_word-requires-clause-word : goal.backup_word-requires-clause-word
backup_word-requires-clause-word g c = λ value at.
    let old = c.args.old.now in
    let sets = ap sets_of c.requires.stop.1 in
    let same = only_value old value (subst (λ (s : List Set). HasValue s the_name value) sets at) in
    c.word_of.ensures ∙ (sym (short_word old c.args.done c.requires.short.0) ∙ ap (λ (v : List ℕ). body_word v c.args.done) same)

pub value_word-requires-clause-word : goal.value_word-requires-clause-word
value_word-requires-clause-word g c = c.word_of-then-done-lt25.ensures ∙ (sym (short_word c.args.new.now (c.args.done - 13) c.requires.short.1) ∙ ap (λ (v : List ℕ). body_word v (c.args.done - 13)) c.requires.asked)
