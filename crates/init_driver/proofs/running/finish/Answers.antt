use Rattle.std.proofs.Common.{[], append-nil}
use Rattle.std.proofs.lemmas.Result.{err_from_is_err_and}
use Rattle.init_trace.specs.Report.{TailText}
use Rattle.init_driver.proofs.Sinks.{prints_then}
use Rattle.init_driver.proofs.running.finish.Goals as goal

pub returns-in_err-print_tail-clause-prints : goal.returns-in_err-print_tail-clause-prints
returns-in_err-print_tail-clause-prints g c =
    let p = err_from_is_err_and c.from_residual.result c.from_residual.ensures.1 in
    rw (p.1, p.2) c.in_err-print_tail.ensures.prints

pub returns-clause-prints : goal.returns-clause-prints
returns-clause-prints g c =
    rw (← append-nil (TailText c.args.parts.now)) (prints_then _ _ _ _ _ _ [] (TailText c.args.parts.now) [] c.in_ok-print_tail.ensures.prints c.flush.ensures.prints)
