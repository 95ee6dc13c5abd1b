use Rattle.std.proofs.Common.{◌∙◌, subst, sym}
use Rattle.init_base.specs.Faults.{Counted}
use Rattle.rc_import.specs.Answers.{is_read_fault}
use Rattle.rc_import.specs.declared.loaded.LoadRefusal.TheVariants.{NoMemory}
use Rattle.rc_lint.specs.internal.Reported.{Finds}
use Rattle.lint_sources.specs.Told.{IsTold}
use Rattle.rc_import.proofs.Outcomes.{err_is}
use Rattle.rc_lint.proofs.Said.{later_answer}
use Rattle.rc_lint.proofs.top.report_of.Goals as goal

pub returns-in_err-all-clause-found : goal.returns-in_err-all-clause-found
returns-in_err-all-clause-found g c = λ told is.
    err_is (λ r. Finds c.args.request.now told r) _ _ c.from_residual-in_err-all.ensures (later_answer _ _ c.in_err-all.ensures.kind)

pub returns-in_err-findings-clause-found : goal.returns-in_err-findings-clause-found
returns-in_err-findings-clause-found g c = λ told is.
    err_is (λ r. Finds c.args.request.now told r) _ NoMemory c.from_residual-in_err-findings.ensures tt

pub returns-in_err-findings-clause-cause : goal.returns-in_err-findings-clause-cause
returns-in_err-findings-clause-cause g c =
    err_is (λ r. Counted (is_read_fault r) (g.F.Files.fault_count c.args.files.now.files) (g.F.Files.fault_count c.findings_of.new.files)) _ NoMemory
    c.from_residual-in_err-findings.ensures (c.in_ok-all.ensures.cause ∙ c.in_ok-tree.ensures.cause)

pub returns-clause-found : goal.returns-clause-found
returns-clause-found g c = λ told is. record {
  load = c.in_ok-tree.tree.loaded;
  loads = c.in_ok-tree.ensures.load told is;
  all = c.in_ok-all.all;
  diagnostics_are = c.in_ok-all.ensures.told told (subst (λ t. IsTold t told) (sym c.in_ok-tree.ensures.tree) is);
  findings_are = c.in_ok-findings.ensures;
}
