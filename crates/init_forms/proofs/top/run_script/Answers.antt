use Rattle.std.proofs.Common.{Ok, ap}
use Rattle.init_driver.specs.Keeper.{seen_by}
use Rattle.command_line.specs.declared.form.Form.TheVariants.{Run}
use Rattle.job_reader.specs.Counts.{Counts}
use Rattle.job_reader.specs.Prepared.{GivesSaved, ScriptOfJob, course_of}
use Rattle.job_reader.specs.declared.grammar.Grammar.TheVariants.{Whole}
use Rattle.rc_import.proofs.Outcomes.{told as told_of}
use Rattle.init_forms.proofs.Ends.{performed_ends, stop_ends}
use Rattle.init_forms.proofs.Performed.{counts_after, course_is, performed_as_before, performed_status, performed_tree}
use Rattle.init_forms.proofs.Seated.{run_given, run_records}
use Rattle.init_forms.proofs.top.run_script.Goals as goal

pub returns-in-Ok-clause-tree : goal.returns-in-Ok-clause-tree
returns-in-Ok-clause-tree g c = λ world is.
    let seen = seen_by g.P.Keeper.held g.P.Keeper.TellsCrash g.P.Keeper.moment g.P.Keeper.MayLeave in
    performed_tree c.in-Ok.job (g.K.Sink.taken c.args.out.now) (g.K.Sink.taken c.perform.new.out) (seen c.prepare.new.keeper) (seen c.perform.new.keeper)
    c.perform.result.0 world c.perform.ensures.leaves (c.in-Ok.ensures.tree world is)

pub returns-in-Ok-clause-ends : goal.returns-in-Ok-clause-ends
returns-in-Ok-clause-ends g c = λ trace told tells.
    let seen = seen_by g.P.Keeper.held g.P.Keeper.TellsCrash g.P.Keeper.moment g.P.Keeper.MayLeave in
    let script : ScriptOfJob Whole told.script (g.S.Source.left c.prepare.new.source) (Ok c.in-Ok.job) = told_of _ _ told.script tells.script_is c.in-Ok.ensures.script in
    let store : GivesSaved told.held (Ok c.in-Ok.job) = told_of _ _ told.held tells.held_is c.in-Ok.ensures.store in
    performed_ends (course_of c.in-Ok.job) told (g.K.Sink.taken c.args.out.now) (g.K.Sink.taken c.perform.new.out) (seen c.args.keeper.now) (seen c.prepare.new.keeper) (seen c.perform.new.keeper)
    c.perform.result.0 c.in-Ok.ensures.asked
    (course_is Whole c.in-Ok.job told.script told.world told.held c.in-Ok.ensures.fit script.0 (c.in-Ok.ensures.tree told.world tells.world_is) store)
    c.perform.ensures.leaves

pub returns-in-Ok-clause-unwritten : goal.returns-in-Ok-clause-unwritten
returns-in-Ok-clause-unwritten g c =
    let seen = seen_by g.P.Keeper.held g.P.Keeper.TellsCrash g.P.Keeper.moment g.P.Keeper.MayLeave in
    performed_as_before (course_of c.in-Ok.job) (g.K.Sink.taken c.args.out.now) (g.K.Sink.taken c.perform.new.out) (seen c.prepare.new.keeper) (seen c.perform.new.keeper)
    c.perform.result.0 _ (g.P.Keeper.fault_count c.prepare.new.keeper) _ (g.K.Sink.fault_count c.args.out.now) (g.K.Sink.fault_count c.perform.new.out) _ _ c.perform.ensures.leaves
    (ap (λ (counts : Counts). counts.keeper) (c.in-Ok.ensures.counts 0 0)) (c.perform.ensures.counts 0 0 0)

pub returns-in-Ok-clause-unkept : goal.returns-in-Ok-clause-unkept
returns-in-Ok-clause-unkept g c =
    let seen = seen_by g.P.Keeper.held g.P.Keeper.TellsCrash g.P.Keeper.moment g.P.Keeper.MayLeave in
    performed_as_before (course_of c.in-Ok.job) (g.K.Sink.taken c.args.out.now) (g.K.Sink.taken c.perform.new.out) (seen c.prepare.new.keeper) (seen c.perform.new.keeper)
    c.perform.result.0 _ (g.P.Keeper.fault_count c.prepare.new.keeper) _ (g.K.Sink.fault_count c.args.out.now) (g.K.Sink.fault_count c.perform.new.out) _ _ c.perform.ensures.leaves
    (ap (λ (counts : Counts). counts.keeper) (c.in-Ok.ensures.counts 0 0)) (c.perform.ensures.counts 0 0 0)

pub returns-in-Err-clause-ends : goal.returns-in-Err-clause-ends
returns-in-Err-clause-ends g c = λ trace told tells.
    let seen = seen_by g.P.Keeper.held g.P.Keeper.TellsCrash g.P.Keeper.moment g.P.Keeper.MayLeave in
    rw c.status.ensures
    (stop_ends Whole c.in-Err.stop Run told (g.S.Source.left c.prepare.new.source) (g.K.Sink.taken c.args.out.now) (seen c.args.keeper.now) (seen c.prepare.new.keeper)
    (λ how is. is) c.in-Err.ensures.kind (told_of _ _ told.script tells.script_is c.in-Err.ensures.script) (c.in-Err.ensures.tree told.world tells.world_is) (told_of _ _ told.held tells.held_is c.in-Err.ensures.store)
    c.in-Err.ensures.asked.0 c.in-Err.ensures.asked.1)

pub returns-in-Ok-clause-formed : goal.returns-in-Ok-clause-formed
returns-in-Ok-clause-formed g c =
    let seen = seen_by g.P.Keeper.held g.P.Keeper.TellsCrash g.P.Keeper.moment g.P.Keeper.MayLeave in
    performed_status (course_of c.in-Ok.job) (g.K.Sink.taken c.args.out.now) (g.K.Sink.taken c.perform.new.out) (seen c.prepare.new.keeper) (seen c.perform.new.keeper)
    c.perform.result.0 c.perform.ensures.leaves

pub returns-in-Ok-clause-counts : goal.returns-in-Ok-clause-counts
returns-in-Ok-clause-counts g c = λ trace.
    counts_after c.perform.result.0 (g.F.Files.fault_count c.args.files.now) (g.F.Files.fault_count c.prepare.new.files)
    (g.S.Source.fault_count c.args.script.now) (g.S.Source.fault_count c.prepare.new.source) trace
    (g.P.Keeper.fault_count c.args.keeper.now) (g.P.Keeper.fault_count c.prepare.new.keeper) (g.P.Keeper.fault_count c.perform.new.keeper)
    (g.K.Sink.fault_count c.args.out.now) (g.K.Sink.fault_count c.perform.new.out)
    (c.in-Ok.ensures.counts 0 0) c.perform.ensures.counts

pub returns-in-Err-clause-formed : goal.returns-in-Err-clause-formed
returns-in-Err-clause-formed g c = rw c.status.ensures c.in-Err.ensures.kind

pub returns-in-Ok-clause-seat : goal.returns-in-Ok-clause-seat
returns-in-Ok-clause-seat g c = run_given (course_of c.in-Ok.job) c.perform.result.0 c.perform.result.1 c.perform.ensures.seat

pub returns-in-Ok-clause-recorded : goal.returns-in-Ok-clause-recorded
returns-in-Ok-clause-recorded g c = λ trace told tells.
    let seen = seen_by g.P.Keeper.held g.P.Keeper.TellsCrash g.P.Keeper.moment g.P.Keeper.MayLeave in
    let script : ScriptOfJob Whole told.script (g.S.Source.left c.prepare.new.source) (Ok c.in-Ok.job) = told_of _ _ told.script tells.script_is c.in-Ok.ensures.script in
    let store : GivesSaved told.held (Ok c.in-Ok.job) = told_of _ _ told.held tells.held_is c.in-Ok.ensures.store in
    run_records (course_of c.in-Ok.job) told (g.K.Sink.taken c.args.out.now) (g.K.Sink.taken c.perform.new.out) (seen c.args.keeper.now) (seen c.prepare.new.keeper) (seen c.perform.new.keeper)
    c.perform.result.0 c.perform.result.1
    (course_is Whole c.in-Ok.job told.script told.world told.held c.in-Ok.ensures.fit script.0 (c.in-Ok.ensures.tree told.world tells.world_is) store)
    c.perform.ensures.leaves c.perform.ensures.seat
