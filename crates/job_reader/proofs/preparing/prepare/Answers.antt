use Rattle.std.specs.Prelude.{IfErr}
use Rattle.rc_import.proofs.Outcomes.{err_is}
use Rattle.job_reader.specs.Endings.{IsRunStatus}
use Rattle.job_reader.specs.Stops.{status_of}
use Rattle.job_reader.proofs.Prepared.{permitted_in_job, prepared_script, rest_of_run, script_of_rest}
use Rattle.job_reader.proofs.Says.{script_stop_of_run}
use Rattle.job_reader.proofs.preparing.prepare.Goals as goal

pub returns-in_err-script-clause-kind : goal.returns-in_err-script-clause-kind
returns-in_err-script-clause-kind g c =
    err_is (λ r. IfErr r (λ why. IsRunStatus (status_of why))) _ _ c.from_residual.ensures
    (script_stop_of_run c.in_err-script.field-0.0 c.in_err-script.ensures.early)

pub returns-clause-script : goal.returns-clause-script
returns-clause-script g c =
    script_of_rest c.args.grammar (g.S.Source.left c.args.source.now) _ c.in_ok-script.script c.prepare_with.result
    c.in_ok-script.ensures.script c.prepare_with.ensures.script c.prepare_with.ensures.kind

pub returns-clause-permitted : goal.returns-clause-permitted
returns-clause-permitted g c = permitted_in_job c.args.grammar c.in_ok-script.script c.prepare_with.result c.in_ok-script.ensures.permitted c.prepare_with.ensures.script

pub returns-clause-kind : goal.returns-clause-kind
returns-clause-kind g c = rest_of_run c.prepare_with.result c.prepare_with.ensures.kind

pub returns-clause-counts : goal.returns-clause-counts
returns-clause-counts g c = λ trace out.
    prepared_script c.prepare_with.result _ _ _ _ trace _ _ out c.in_ok-script.ensures.cause c.prepare_with.ensures.counts
