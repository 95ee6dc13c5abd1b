use Rattle.std.proofs.Common.{ap, ◌∙◌}
use Rattle.std.specs.Str.{bytes_eq}
use Rattle.init_machine.specs.Props.{lookup_in}
use Rattle.init_machine.proofs.LookUps.{look_up_fits, look_up_gives}
use Rattle.init_machine.proofs.look_up.has_value_by.Goals as goal

pub slice_bounds-eq-end : goal.slice_bounds-eq-end
slice_bounds-eq-end g c =
    look_up_fits (lookup_in (g.S.PropStore.meaning c.args.store.now).held c.args.name.bytes.now) c.in-Some.len c.in-Some.field-0-1 c.get.new.out c.in-Some.ensures.found

pub returns-in-Some-clause-answer : goal.returns-in-Some-clause-answer
returns-in-Some-clause-answer g c =
    c.eq.ensures
    ∙ ap (λ v. bytes_eq v c.args.value.now)
    (look_up_gives (lookup_in (g.S.PropStore.meaning c.args.store.now).held c.args.name.bytes.now) c.in-Some.len c.in-Some.field-0-1 c.get.new.out c.in-Some.ensures.found)
