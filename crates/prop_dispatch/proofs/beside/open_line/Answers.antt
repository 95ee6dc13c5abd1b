use Rattle.prop_dispatch.proofs.Moves.{begins}
use Rattle.prop_dispatch.proofs.beside.open_line.Goals as goal

pub ruled-requires-clause-rule : goal.ruled-requires-clause-rule
ruled-requires-clause-rule c = begins
