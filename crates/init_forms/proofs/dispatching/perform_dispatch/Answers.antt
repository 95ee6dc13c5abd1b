use Rattle.std.proofs.Common.{length, ap, ◌∙◌, arith}
use Rattle.std.proofs.lemmas.List.{length-map}
use Rattle.init_driver.specs.Keeper.{seen_by}
use Rattle.job_reader.specs.Prepared.{course_of}
use Rattle.init_forms.proofs.Raced.{failed_race, stopped_race, written_race}
use Rattle.init_forms.specs.Racing.{IsRelayedReport}
use Rattle.init_forms.proofs.dispatching.perform_dispatch.Goals as goal

pub run_dispatch-requires-clause-domains : goal.run_dispatch-requires-clause-domains
run_dispatch-requires-clause-domains g c =
    let same = ap length c.requires.fit.domains ∙ length-map c.args.job.script.clients (λ client. client.domain) in
    omega (arith, same)

pub returns-in-Ok-clause-leaves : goal.returns-in-Ok-clause-leaves
returns-in-Ok-clause-leaves g c =
    let seen = seen_by g.P.Keeper.held g.P.Keeper.TellsCrash g.P.Keeper.moment g.P.Keeper.MayLeave in
    written_race IsRelayedReport (course_of c.args.job) c.in-Ok.raced.report (g.K.Sink.taken c.args.out.now) (g.K.Sink.taken c.write_dispatched.new.out)
    (seen c.args.keeper.now) (seen c.run_dispatch.new.keeper) c.write_dispatched.result c.in-Ok.ensures.dispatched c.in-Ok.ensures.kept c.write_dispatched.ensures.writes

pub returns-in-Err-Keeper-clause-leaves : goal.returns-in-Err-Keeper-clause-leaves
returns-in-Err-Keeper-clause-leaves g c =
    let seen = seen_by g.P.Keeper.held g.P.Keeper.TellsCrash g.P.Keeper.moment g.P.Keeper.MayLeave in
    failed_race IsRelayedReport (course_of c.args.job) (g.K.Sink.taken c.args.out.now) (seen c.args.keeper.now) (seen c.run_dispatch.new.keeper) (rw c.in-Err-Keeper.field-0-is at c.in-Err-Keeper.ensures.kept)

pub returns-clause-leaves : goal.returns-clause-leaves
returns-clause-leaves g c =
    let seen = seen_by g.P.Keeper.held g.P.Keeper.TellsCrash g.P.Keeper.moment g.P.Keeper.MayLeave in
    stopped_race IsRelayedReport (course_of c.args.job) (g.K.Sink.taken c.args.out.now) (seen c.args.keeper.now) (seen c.run_dispatch.new.keeper) (rw c.in-Err-NoMemory.field-0-is at c.in-Err-NoMemory.ensures.kept)
