use Rattle.std.proofs.Common.{◌∙◌, refl, subst}
use Rattle.std.proofs.lemmas.Result.{err_from_is_err_and}
use Rattle.init_trace.specs.Report.{EntriesText, EntryText}
use Rattle.init_trace.proofs.Adding.{Left, left_at, left_front, left_less}
use Rattle.init_trace.proofs.printing.print_entries.Goals as goal

pub returns-in_err-print_entry-clause-added : goal.returns-in_err-print_entry-clause-added
returns-in_err-print_entry-clause-added g c =
    let p = err_from_is_err_and c.from_residual.result c.from_residual.ensures.1 in
    let is = left_at EntriesText EntryText (λ entry rest. refl) c.args.entries.now c.loop-entry.entry-index c.entry-item.result c.loop-entry-test.true c.entry-item.is in
    rw p.1 (left_front _ _ _ _ _ _ _ _ (subst (Left _ _ _ _ _) is c.loop-entry.invariant.added) c.in_err-print_entry.ensures.added)

pub loop-entry-preserved : goal.loop-entry-preserved
loop-entry-preserved g c =
    let is = left_at EntriesText EntryText (λ entry rest. refl) c.args.entries.now c.loop-entry.entry-index c.entry-item.result c.loop-entry-test.true c.entry-item.is in
    record {
      added = left_less _ _ _ _ _ _ _ _ _ (subst (Left _ _ _ _ _) is c.loop-entry.invariant.added) c.in_ok-print_entry.ensures.added;
      faults = c.in_ok-print_entry.ensures.cause ∙ c.loop-entry.invariant.faults;
    }
