use Rattle.prop_dispatch.proofs.beside.serve_beside.Goals as goal

pub returns-in-Ok : goal.returns-in-Ok
returns-in-Ok g c = c.serve_all.ensures c.args.sessions c.in-Ok.ensures.seated
