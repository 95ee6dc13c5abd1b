use Rattle.init_trace.proofs.Adding.{writes_last}
use Rattle.init_trace.proofs.printing.print_diagnostics.Goals as goal

pub returns-clause-written : goal.returns-clause-written
returns-clause-written g c =
    writes_last _ _ _ _ _ _ _ c.in_ok-printer.ensures c.in_ok-print_alone.ensures.added c.flush.ensures.written
