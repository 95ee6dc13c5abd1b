use Rattle.std.proofs.Common.{◌≡◌, ◌∙◌, ap}
use Rattle.init_base.specs.Faults.{Counted}
use Rattle.rc_import.specs.Answers.{is_read_fault}
use Rattle.rc_import.specs.declared.loaded.LoadRefusal.TheVariants.{NoMemory}
use Rattle.lint_sources.specs.Excused.{errors_among}
use Rattle.lint_findings.specs.Findings.{diagnostics_of}
use Rattle.rc_import.proofs.Outcomes.{err_is}
use Rattle.rc_lint.proofs.top.findings_of.Goals as goal
use Rattle.rc_lint.proofs.top.findings_of.Goals.{then-request+in_ok-add_notes, else-request}

pub returns-in_err-add_notes-clause-cause : goal.returns-in_err-add_notes-clause-cause
returns-in_err-add_notes-clause-cause g c =
    err_is (λ r. Counted (is_read_fault r) (g.F.Files.fault_count c.args.files.now) (g.F.Files.fault_count c.tell_all.new.files)) _ NoMemory
    c.from_residual-in_err-add_notes.ensures c.in_ok-findings.ensures.cause

pub returns-clause-told : goal.returns-clause-told
returns-clause-told g c = λ told is.
    let same : diagnostics_of c.if-request.findings ≡ diagnostics_of c.in_ok-findings.field-0.findings = elim c.if-request.branch [
      | then-request+in_ok-add_notes w ↦ ap diagnostics_of w.findings-is ∙ w.in_ok-add_notes.ensures
      | else-request w ↦ ap diagnostics_of w.findings-is
    ] in
    same ∙ c.in_ok-findings.ensures.told told is ∙ ap (errors_among c.args.request.now.allowed told) c.items-diagnostics.ensures
