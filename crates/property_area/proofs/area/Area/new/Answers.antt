use Rattle.std.proofs.Common.{ℕ, List, [], sym, subst, ◌∙◌}
use Rattle.atomic_table.specs.Table.{opening}
use Rattle.property_area.specs.Area.{AreaHolds, begins}
use Rattle.property_area.proofs.Opening.{area_opens, size_fine}
use Rattle.property_area.proofs.area.Area.new.Goals as goal

pub of_words-requires : goal.of_words-requires
of_words-requires c =
    let fine = size_fine c.args.words (sym c.in_ok-check_size.ensures) in
    let zeros = c.deref.ensures.value ∙ c.in_ok-zeros.ensures.items_if_clones_equal (λ y is. is) in
    subst (λ (words : List ℕ). AreaHolds (opening words [] (begins c.args.words))) (sym zeros) (area_opens c.args.words fine)
