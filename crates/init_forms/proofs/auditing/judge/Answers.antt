use Rattle.std.proofs.Common.{Ok}
use Rattle.std.proofs.lemmas.Result.{IfOk-weaker}
use Rattle.init_driver.specs.Keeper.{seen_by}
use Rattle.job_reader.proofs.Says.{run_stop_trace}
use Rattle.job_reader.specs.Prepared.{GivesSaved, ScriptOfJob, course_of}
use Rattle.job_reader.specs.declared.grammar.Grammar.TheVariants.{Whole}
use Rattle.job_reader.specs.Trace.{TraceSays}
use Rattle.rc_import.proofs.Outcomes.{err_is, if_told, told as told_of}
use Rattle.init_forms.specs.internal.Judging.{ending_of}
use Rattle.init_forms.proofs.Judged.{asked_alone, judged_counts, judged_script, judged_store, judged_tree}
use Rattle.init_forms.proofs.Performed.{course_is, setup_fits}
use Rattle.init_forms.proofs.auditing.judge.Goals as goal

pub returns-in_err-job-clause-trace : goal.returns-in_err-job-clause-trace
returns-in_err-job-clause-trace g c =
    if_told _ _ (λ bytes is. err_is (λ r. TraceSays bytes (g.T.Source.left c.args.trace.now) (ending_of r)) _ _ c.from_residual.ensures
    (run_stop_trace bytes _ c.in_err-job.field-0.0 c.in_err-job.ensures.kind))

pub returns-clause-script : goal.returns-clause-script
returns-clause-script g c =
    if_told _ _ (λ bytes is.
    let script : ScriptOfJob Whole bytes (g.S.Source.left c.prepare.new.source) (Ok c.in_ok-job.job) = told_of _ _ bytes is c.in_ok-job.ensures.script in
    judged_script c.judge_trace.result bytes _ c.judge_trace.ensures.last ((c.in_ok-job.job.script, script.0), script.1))

pub returns-clause-tree : goal.returns-clause-tree
returns-clause-tree g c = λ world is.
    judged_tree c.judge_trace.result world c.judge_trace.ensures.last (setup_fits world c.in_ok-job.job (c.in_ok-job.ensures.tree world is))

pub returns-clause-store : goal.returns-clause-store
returns-clause-store g c =
    if_told _ _ (λ held is.
    let store : GivesSaved held (Ok c.in_ok-job.job) = told_of _ _ held is c.in_ok-job.ensures.store in
    judged_store c.judge_trace.result held c.judge_trace.ensures.last (c.in_ok-job.job.setup.config.saved, store))

pub returns-clause-judged : goal.returns-clause-judged
returns-clause-judged g c = λ told tells trace_is.
    let script : ScriptOfJob Whole told.script (g.S.Source.left c.prepare.new.source) (Ok c.in_ok-job.job) = told_of _ _ told.script tells.script_is c.in_ok-job.ensures.script in
    let store : GivesSaved told.held (Ok c.in_ok-job.job) = told_of _ _ told.held tells.held_is c.in_ok-job.ensures.store in
    let course = course_is Whole c.in_ok-job.job told.script told.world told.held c.in_ok-job.ensures.fit script.0 (c.in_ok-job.ensures.tree told.world tells.world_is) store in
    IfOk-weaker c.judge_trace.result _ _ (λ verdict said. record { course = course_of c.in_ok-job.job; course_is = course; said = said })
    (told_of _ _ told.trace trace_is c.judge_trace.ensures.said)

pub returns-clause-asked : goal.returns-clause-asked
returns-clause-asked g c =
    let seen = seen_by g.P.Keeper.held g.P.Keeper.TellsCrash g.P.Keeper.moment g.P.Keeper.MayLeave in
    asked_alone c.judge_trace.result (seen c.args.keeper.now) (seen c.prepare.new.keeper) c.in_ok-job.ensures.asked c.in_ok-job.ensures.held

pub returns-clause-counts : goal.returns-clause-counts
returns-clause-counts g c = λ out.
    judged_counts c.judge_trace.result _ _ _ _ _ _ _ _ out (c.in_ok-job.ensures.counts 0 0) c.judge_trace.ensures.cause
