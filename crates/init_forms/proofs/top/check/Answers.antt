use Rattle.init_forms.proofs.Written.{check_says, check_writes}
use Rattle.init_forms.proofs.top.check.Goals as goal

pub returns-in-Ok-clause-tree : goal.returns-in-Ok-clause-tree
returns-in-Ok-clause-tree g c = λ world is.
    let load = c.in-Ok.ensures.diagnostics world is in
    check_says world load.0 _ _ _ c.write_diagnostics.result load.1 c.write_diagnostics.ensures.writes

pub returns-in-Ok-clause-writes : goal.returns-in-Ok-clause-writes
returns-in-Ok-clause-writes g c = λ world is.
    let load = c.in-Ok.ensures.diagnostics world is in
    check_writes world load.0 _ _ _ c.write_diagnostics.result load.1 c.write_diagnostics.ensures.writes
