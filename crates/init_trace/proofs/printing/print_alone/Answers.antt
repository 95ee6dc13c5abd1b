use Rattle.std.proofs.Common.{[], ap, subst}
use Rattle.std.proofs.lemmas.Result.{err_from_is_err_and}
use Rattle.init_trace.specs.Report.{HeadText, TailText}
use Rattle.init_trace.specs.Written.{Adds}
use Rattle.init_trace.proofs.Adding.{adds_last, front_of_more}
use Rattle.init_trace.proofs.Texts.{text_parts}
use Rattle.init_trace.proofs.printing.print_alone.Goals as goal

pub returns-in_err-print_head-clause-added : goal.returns-in_err-print_head-clause-added
returns-in_err-print_head-clause-added g c =
    let p = err_from_is_err_and c.from_residual.result c.from_residual.ensures.1 in
    rw (p.1, text_parts) (front_of_more _ _ _ (HeadText c.args.diagnostics.now) (TailText []) c.in_err-print_head.ensures.added)

pub returns-clause-added : goal.returns-clause-added
returns-clause-added g c =
    rw text_parts
    (adds_last _ _ _ _ _ _ _ (HeadText c.args.diagnostics.now) (TailText []) c.in_ok-print_head.ensures.added
    (subst (Adds _ _ _ _ _) (ap TailText c.new.ensures) c.print_tail-2.ensures.added))
