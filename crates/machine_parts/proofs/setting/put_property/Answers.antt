-- What a property that is put does to the parts.
use Rattle.std.proofs.Common.{ap, ◌∙◌, ◌∷◌, [], ◌+◌, ℕ, subst}
use Rattle.init_machine.specs.Props.{Props}
use Rattle.init_machine.specs.declared.output.Output.TheVariants as output
use Rattle.machine_parts.proofs.Doing.{on_ok_both}
use Rattle.machine_parts.proofs.Putting.{in_store, in_told, puts}
use Rattle.machine_parts.proofs.setting.put_property.Goals as goal

pub returns-clause-done : goal.returns-clause-done
returns-clause-done g c =
    let meaning = g.S.PropStore.meaning in
    let told = g.S.PropStore.told in
    let a = c.args.parts.now in
    let name = c.args.name.now in
    let value = c.args.value.now in
    on_ok_both c.release.result
    (puts meaning told g.met.O.Outputs.joins a c.put-number.new.self c.queue_change.new.queue c.store_saved.new.saved c.release.new.waits c.put.new.self c.store_saved.new.outputs c.release.new.outputs
    c.is_awaited-ends.result c.put-number.result name value
    (in_store meaning told a.store c.reserve.new.self c.put-number.new.self name value c.args.property.bytes.now c.args.legal.bytes.now c.in_ok-reserve.ensures.same c.put-number.ensures.set c.requires.name c.requires.value)
    (in_told meaning told a.store c.reserve.new.self c.put-number.new.self name value c.args.property.bytes.now c.args.legal.bytes.now c.in_ok-reserve.ensures.told c.put-number.ensures.told c.requires.name c.requires.value)
    c.in_ok-queue_change.ensures
    (subst (λ (n : ℕ). g.O.Outputs.Adds a.outputs c.put.new.self (output.Put n name value ∷ [])) (c.put-number.ensures.number ∙ ap (λ (p : Props). p.count + 1) c.in_ok-reserve.ensures.same) c.in_ok-put.ensures)
    c.in_ok-store_saved.ensures.saved c.in_ok-store_saved.ensures.lines c.is_awaited-ends.ensures)
    c.release.ensures.waits c.release.ensures.lines
