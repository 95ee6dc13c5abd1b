use Rattle.std.proofs.Common.{List, ℕ, [], sym, subst}
use Rattle.atomic_table.specs.Table.{opening}
use Rattle.serial_value.specs.One.{OneHolds, begins}
use Rattle.serial_value.proofs.OneReader.{one_opens}
use Rattle.serial_value.proofs.one.one_cell.Goals as goal

pub of_words-requires : goal.of_words-requires
of_words-requires c =
    let words = c.first_words-words in
    subst (λ (value : List ℕ). OneHolds (opening words.result [] (begins value))) (sym c.in_ok-text.ensures)
    (one_opens words.result c.args.value.bytes.now words.ensures.legal words.ensures.words)
