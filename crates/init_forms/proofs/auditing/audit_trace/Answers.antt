use Rattle.std.proofs.Common.{refl}
use Rattle.init_driver.specs.Keeper.{seen_by}
use Rattle.job_reader.specs.Endings.{IsAuditStatus}
use Rattle.job_reader.specs.Script.{ScriptSays}
use Rattle.job_reader.specs.declared.grammar.Grammar.TheVariants.{Whole}
use Rattle.job_reader.specs.Store.{StoreSays}
use Rattle.job_reader.specs.Trace.{TraceSays}
use Rattle.job_reader.specs.Tree.{TreeSays}
use Rattle.job_reader.specs.Tree.Purpose.{ToRun}
use Rattle.rc_import.proofs.Outcomes.{if_told, told as told_of}
use Rattle.init_forms.specs.Top.{IsAsBefore}
use Rattle.init_forms.proofs.Ends.{audit_stop_ends, judged_ends}
use Rattle.init_forms.proofs.Judged.{counts_written, same_as_before, stop_of_audit, written_status}
use Rattle.init_forms.proofs.auditing.audit_trace.Goals as goal

pub returns-in-Ok-clause-script : goal.returns-in-Ok-clause-script
returns-in-Ok-clause-script g c =
    if_told _ _ (λ bytes is.
    let read = told_of _ _ bytes is c.in-Ok.ensures.script in
    written_status (λ how. ScriptSays Whole bytes (g.S.Source.left c.judge.new.script) how) _ _ _ c.write_verdict.result c.write_verdict.ensures.writes read read tt)

pub returns-in-Ok-clause-tree : goal.returns-in-Ok-clause-tree
returns-in-Ok-clause-tree g c = λ world is.
    let fit = c.in-Ok.ensures.tree world is in
    written_status (λ how. TreeSays ToRun world how) _ _ _ c.write_verdict.result c.write_verdict.ensures.writes fit fit tt

pub returns-in-Ok-clause-store : goal.returns-in-Ok-clause-store
returns-in-Ok-clause-store g c =
    if_told _ _ (λ held is.
    let stored = told_of _ _ held is c.in-Ok.ensures.store in
    written_status (λ how. StoreSays held how) _ _ _ c.write_verdict.result c.write_verdict.ensures.writes stored stored tt)

pub returns-in-Ok-clause-trace : goal.returns-in-Ok-clause-trace
returns-in-Ok-clause-trace g c =
    if_told _ _ (λ bytes is.
    let read = told_of _ _ bytes is c.in-Ok.ensures.trace in
    written_status (λ how. TraceSays bytes (g.T.Source.left c.judge.new.trace) how) _ _ _ c.write_verdict.result c.write_verdict.ensures.writes read read tt)

pub returns-in-Ok-clause-ends : goal.returns-in-Ok-clause-ends
returns-in-Ok-clause-ends g c = λ told tells trace_is.
    let seen = seen_by g.P.Keeper.held g.P.Keeper.TellsCrash g.P.Keeper.moment g.P.Keeper.MayLeave in
    judged_ends c.in-Ok.verdict told (g.K.Sink.taken c.args.out.now) (g.K.Sink.taken c.write_verdict.new.out) (seen c.args.keeper.now) (seen c.judge.new.keeper)
    c.write_verdict.result c.in-Ok.ensures.asked (c.in-Ok.ensures.judged told tells trace_is) c.write_verdict.ensures.writes

pub returns-in-Ok-clause-unwritten : goal.returns-in-Ok-clause-unwritten
returns-in-Ok-clause-unwritten g c =
    written_status (λ how. IsAsBefore (g.K.Sink.taken c.args.out.now) (g.K.Sink.taken c.write_verdict.new.out) how (g.P.Keeper.fault_count c.args.keeper.now) (g.P.Keeper.fault_count c.judge.new.keeper)) _ _ _ c.write_verdict.result c.write_verdict.ensures.writes tt tt tt

pub returns-in-Ok-clause-counts : goal.returns-in-Ok-clause-counts
returns-in-Ok-clause-counts g c =
    counts_written c.write_verdict.result (g.F.Files.fault_count c.args.files.now) (g.F.Files.fault_count c.judge.new.files)
    (g.S.Source.fault_count c.args.script.now) (g.S.Source.fault_count c.judge.new.script)
    (g.T.Source.fault_count c.args.trace.now) (g.T.Source.fault_count c.judge.new.trace)
    (g.P.Keeper.fault_count c.args.keeper.now) (g.P.Keeper.fault_count c.judge.new.keeper)
    (g.K.Sink.fault_count c.args.out.now) (g.K.Sink.fault_count c.write_verdict.new.out)
    (c.in-Ok.ensures.counts 0) c.write_verdict.ensures.counts

pub returns-in-Ok-clause-formed : goal.returns-in-Ok-clause-formed
returns-in-Ok-clause-formed g c = written_status IsAuditStatus _ _ _ c.write_verdict.result c.write_verdict.ensures.writes tt tt tt

pub returns-in-Err-clause-ends : goal.returns-in-Err-clause-ends
returns-in-Err-clause-ends g c = λ told tells trace_is.
    let seen = seen_by g.P.Keeper.held g.P.Keeper.TellsCrash g.P.Keeper.moment g.P.Keeper.MayLeave in
    rw c.status.ensures
    (audit_stop_ends c.in-Err.stop told (g.S.Source.left c.judge.new.script) (g.T.Source.left c.judge.new.trace) (g.K.Sink.taken c.args.out.now) (seen c.args.keeper.now) (seen c.judge.new.keeper)
    (told_of _ _ told.script tells.script_is c.in-Err.ensures.script) (c.in-Err.ensures.tree told.world tells.world_is) (told_of _ _ told.held tells.held_is c.in-Err.ensures.store)
    (told_of _ _ told.trace trace_is c.in-Err.ensures.trace)
    c.in-Err.ensures.asked.0 c.in-Err.ensures.asked.1)

pub returns-in-Err-clause-unwritten : goal.returns-in-Err-clause-unwritten
returns-in-Err-clause-unwritten g c = same_as_before c.status.result _ _ _ _ refl

pub returns-in-Err-clause-formed : goal.returns-in-Err-clause-formed
returns-in-Err-clause-formed g c = rw c.status.ensures (stop_of_audit c.in-Err.stop)
