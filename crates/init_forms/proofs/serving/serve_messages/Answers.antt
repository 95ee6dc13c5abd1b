use Rattle.std.proofs.Common.{◌≡◌, Ok, ◌∙◌}
use Rattle.init_driver.specs.Keeper.{seen_by}
use Rattle.init_wire.specs.Opening.{wire_script}
use Rattle.job_reader.specs.Prepared.{GivesSaved, course_of}
use Rattle.rc_import.proofs.Outcomes.{told as told_of}
use Rattle.init_forms.proofs.Answered.{opened_by, served_counts, served_ends, served_unwritten, unopened_ends}
use Rattle.init_forms.proofs.serving.serve_messages.Goals as goal

pub returns-in-Ok-prepare_with-clause-ends : goal.returns-in-Ok-prepare_with-clause-ends
returns-in-Ok-prepare_with-clause-ends g c = λ trace told tells.
    let seen = seen_by g.P.Keeper.held g.P.Keeper.TellsCrash g.P.Keeper.moment g.P.Keeper.MayLeave in
    let job = c.in-Ok-prepare_with.job in
    let gives = c.in-Ok-prepare_with.ensures in
    let script : job.script ≡ wire_script = gives.script ∙ c.in-Ok.ensures.script in
    let store : GivesSaved told.held (Ok job) = told_of _ _ told.held tells.held_is gives.store in
    served_ends (course_of job).opening job.setup.diagnostics told (g.K.Sink.taken c.args.out.now) (g.K.Sink.taken c.serve_job.new.out)
    (seen c.args.keeper.now) (seen c.prepare_with.new.keeper) gives.asked
    (opened_by job told.world told.held gives.fit script (gives.tree told.world tells.world_is) store)
    c.serve_job.result (c.serve_job.ensures.served told.script tells.script_is)

pub returns-in-Ok-prepare_with-clause-counts : goal.returns-in-Ok-prepare_with-clause-counts
returns-in-Ok-prepare_with-clause-counts g c = λ trace.
    served_counts c.serve_job.result (g.F.Files.fault_count c.args.files.now) (g.F.Files.fault_count c.prepare_with.new.files)
    (g.S.Source.fault_count c.args.messages.now) (g.S.Source.fault_count c.serve_job.new.messages) trace
    (g.P.Keeper.fault_count c.args.keeper.now) (g.P.Keeper.fault_count c.prepare_with.new.keeper)
    (g.K.Sink.fault_count c.args.out.now) (g.K.Sink.fault_count c.serve_job.new.out)
    (c.in-Ok-prepare_with.ensures.counts 0 0 0) c.serve_job.ensures.counts

pub returns-in-Ok-prepare_with-clause-unwritten : goal.returns-in-Ok-prepare_with-clause-unwritten
returns-in-Ok-prepare_with-clause-unwritten g c = λ trace.
    served_unwritten c.serve_job.result (g.K.Sink.taken c.args.out.now) (g.K.Sink.taken c.serve_job.new.out)
    (g.F.Files.fault_count c.args.files.now) (g.F.Files.fault_count c.prepare_with.new.files)
    (g.S.Source.fault_count c.args.messages.now) (g.S.Source.fault_count c.serve_job.new.messages) trace
    (g.P.Keeper.fault_count c.args.keeper.now) (g.P.Keeper.fault_count c.prepare_with.new.keeper)
    (g.K.Sink.fault_count c.args.out.now) (g.K.Sink.fault_count c.serve_job.new.out)
    c.serve_job.ensures.formed (c.serve_job.ensures.counts 0 0 0)

pub returns-in-Err-clause-ends : goal.returns-in-Err-clause-ends
returns-in-Err-clause-ends g c = λ trace told tells.
    let seen = seen_by g.P.Keeper.held g.P.Keeper.TellsCrash g.P.Keeper.moment g.P.Keeper.MayLeave in
    let stops = c.in-Err.ensures in
    rw c.status.ensures
    (unopened_ends c.in-Err.stop told (g.K.Sink.taken c.args.out.now) (seen c.args.keeper.now) (seen c.prepare_with.new.keeper) stops.kind
    (stops.tree told.world tells.world_is) (told_of _ _ told.held tells.held_is stops.store) stops.asked.0 stops.asked.1)
