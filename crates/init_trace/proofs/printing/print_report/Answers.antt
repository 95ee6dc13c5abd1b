use Rattle.std.proofs.Common.{◌++◌}
use Rattle.std.proofs.lemmas.Result.{err_from_is_err_and}
use Rattle.init_trace.specs.Report.{EntriesText, HeadText, TailText}
use Rattle.init_trace.proofs.Adding.{adds_last, front_of_more, front_then}
use Rattle.init_trace.proofs.Texts.{text_parts}
use Rattle.init_trace.proofs.printing.print_report.Goals as goal

pub returns-in_err-print_head-clause-added : goal.returns-in_err-print_head-clause-added
returns-in_err-print_head-clause-added g c =
    let p = err_from_is_err_and c.from_residual.result c.from_residual.ensures.1 in
    let report = c.args.report.now in
    rw (p.1, text_parts) (front_of_more _ _ _ (HeadText report.diagnostics) (EntriesText report.history ++ TailText report.clients) c.in_err-print_head.ensures.added)

pub returns-in_err-print_entries-clause-added : goal.returns-in_err-print_entries-clause-added
returns-in_err-print_entries-clause-added g c =
    let p = err_from_is_err_and c.from_residual-in_err-print_entries.result c.from_residual-in_err-print_entries.ensures.1 in
    let report = c.args.report.now in
    rw (p.1, text_parts, ← c.items.ensures)
    (front_then _ _ _ _ _ (HeadText report.diagnostics) (EntriesText c.items.result.now ++ TailText report.clients) c.in_ok-print_head.ensures.added
    (front_of_more _ _ _ (EntriesText c.items.result.now) (TailText report.clients) c.in_err-print_entries.ensures.added))

pub returns-clause-added : goal.returns-clause-added
returns-clause-added g c =
    let report = c.args.report.now in
    rw (text_parts, ← c.items.ensures)
    (adds_last _ _ _ _ _ _ _ (HeadText report.diagnostics) (EntriesText c.items.result.now ++ TailText report.clients) c.in_ok-print_head.ensures.added
    (adds_last _ _ _ _ _ _ _ (EntriesText c.items.result.now) (TailText report.clients) c.in_ok-print_entries.ensures.added c.print_tail.ensures.added))
