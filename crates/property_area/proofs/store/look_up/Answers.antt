use Rattle.std.proofs.Common.{sym, ap, subst, ◌∙◌, ℕ, Option}
use Rattle.init_machine.specs.Props.{lookup_in, IsLookUp}
use Rattle.property_area.specs.declared.view.AreaView.{AreaView}
use Rattle.property_area.specs.Seats.{sets_in, store_of}
use Rattle.property_area.proofs.Looking.{absent_look, look_found}
use Rattle.property_area.proofs.store.look_up.Goals as goal

pub returns-in_err-at-clause-found : goal.returns-in_err-at-clause-found
returns-in_err-at-clause-found c =
    let v = c.args.seat.now.me.0 in
    let name = c.args.name.bytes.now in
    subst (λ (o : Option (ℕ × ℕ)). IsLookUp (lookup_in (store_of v).held name) o c.args.out.now) (sym c.from_residual.ensures)
    (absent_look v name c.args.out.now c.in_err-at.ensures.absent)

pub returns-clause-found : goal.returns-clause-found
returns-clause-found c =
    let v = c.args.seat.now.me.0 in
    let name = c.args.name.bytes.now in
    let after = c.find_cell.new.seat.me.0 in
    let writes = c.requires.writer.2.writes in
    look_found after (sets_in v) (ap (λ (x : AreaView). x.cell) c.find_cell.ensures.view ∙ writes) name c.read_cell.new.seat.me.0 v.words c.in-Found.len c.in-Found.number c.args.out.now c.read_cell.new.out
    c.in-Found.ensures.answer
