use Rattle.std.proofs.Common.{◌∙◌, ap, inr}
use Rattle.lint_findings.specs.Findings.{errors_in}
use Rattle.rc_lint.specs.internal.Reported.{status_of}
use Rattle.rc_lint.proofs.Said.{front_said, page_is, whole_said}
use Rattle.rc_lint.proofs.top.write_report.Goals as goal

pub returns-in-Ok-send-clause-report : goal.returns-in-Ok-send-clause-report
returns-in-Ok-send-clause-report g c = λ told tells.
    whole_said c.args.request.now told c.args.report.now.findings _ c.as_slice.result.now _ _ c.status_of.result tells
    (page_is c.args.request.now.style _ _ _ _ _ c.items-findings.ensures c.as_slice.ensures.value c.in-Ok.ensures) c.in-Ok-send.ensures.written
    (c.status_of.ensures ∙ ap (λ findings. status_of (errors_in c.args.request.now.style.promoted findings)) c.items-findings.ensures)

pub returns-in-Err-Failed-clause-report : goal.returns-in-Err-Failed-clause-report
returns-in-Err-Failed-clause-report g c = λ told tells.
    front_said c.args.request.now told c.args.report.now.findings _ c.as_slice.result.now _ _ tells
    (page_is c.args.request.now.style _ _ _ _ _ c.items-findings.ensures c.as_slice.ensures.value c.in-Ok.ensures) c.in-Err-Failed.ensures.written

pub returns-clause-report : goal.returns-clause-report
returns-clause-report g c = λ told tells.
    inr (front_said c.args.request.now told c.args.report.now.findings _ c.as_slice.result.now _ _ tells
    (page_is c.args.request.now.style _ _ _ _ _ c.items-findings.ensures c.as_slice.ensures.value c.in-Ok.ensures) c.in-Err-NoMemory.ensures.written)
