use Rattle.std.proofs.Common.{ap, sym, ◌∙◌, subst}
use Rattle.serial_value.specs.Cell.{sets_of, accepted, HasShortCell}
use Rattle.serial_value.specs.impl_laws.Sets.{short_end}
use Rattle.serial_value.specs.declared.view.CellView.{CellView}
use Rattle.serial_value.proofs.write.write_cell.Goals as goal

pub returns-clause-short : goal.returns-clause-short
returns-clause-short g c =
    let R = g.R.CellRule in
    let v = c.args.seat.now.me.0 in
    let name = c.args.name.bytes.now in
    let value = c.args.value.bytes.now in
    let cell = ap (λ m. R.cell m.0) c.write_as.ensures.view ∙ g.met.R.CellRule.part.cell_with v (accepted (R.cell v) name value) in
    subst (λ (x : CellView). HasShortCell (sets_of x) name) (sym cell) (short_end (sets_of (R.cell v)) name value c.requires.short.1)
