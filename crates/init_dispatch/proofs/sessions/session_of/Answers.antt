use Rattle.std.proofs.Common.{List, ◌∷◌, [], ◌++◌, ap, ◌∙◌}
use Rattle.init_machine.specs.declared.config.Pair.{Pair}
use Rattle.init_dispatch.specs.internal.Sessions.{sets_among}
use Rattle.init_dispatch.proofs.EachSession.{sets_more}
use Rattle.init_dispatch.proofs.sessions.session_of.Goals as goal

pub loop-act-preserved : goal.loop-act-preserved
loop-act-preserved c =
    let more = sets_among c.args.who.0 (c.act-item.result ∷ []) in
    c.in_ok-add_set.ensures ∙ ap (λ (done : List Pair). done ++ more) c.loop-act.invariant
    ∙ sets_more c.args.who.0 c.args.acts.now c.loop-act.act-index c.act-item.result c.loop-act-test.true c.act-item.is
