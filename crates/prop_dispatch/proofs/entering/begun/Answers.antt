use Rattle.std.proofs.Common.{sym, ◌∙◌, subst, List}
use Rattle.prop_dispatch.specs.internal.Serving.{HaveEntered}
use Rattle.prop_dispatch.specs.declared.session.Session.{Session}
use Rattle.prop_dispatch.proofs.Serving.{given_ok, serves_none}
use Rattle.prop_dispatch.proofs.entering.begun.Goals as goal

pub returns : goal.returns
returns g c fine =
    serves_none g.N.AreaName.area c.args.service c.args.sessions.now c.enter_all-entered.new.service c.enter_all-entered.new.seats.items c.requires.clients
    (subst (λ (l : List Session). HaveEntered g.N.AreaName.area c.args.service l c.enter_all-entered.new.service c.enter_all-entered.new.seats.items) c.items.ensures
    (given_ok c.enter_all-entered.result _ (sym c.is_err.ensures.value ∙ fine) c.enter_all-entered.ensures))
