use Rattle.std.proofs.Common.{length, ap, ◌∙◌, arith}
use Rattle.std.proofs.lemmas.List.{length-map}
use Rattle.init_driver.specs.Keeper.{seen_by}
use Rattle.job_reader.specs.Prepared.{course_of}
use Rattle.init_forms.proofs.Raced.{failed_race, stopped_race, written_race}
use Rattle.init_forms.proofs.Seated.{written_gives}
use Rattle.init_forms.specs.Racing.{IsAudited}
use Rattle.init_forms.proofs.racing.perform_race.Goals as goal

pub race-requires-clause-domains : goal.race-requires-clause-domains
race-requires-clause-domains g c =
    let same = ap length c.requires.domains ∙ length-map c.args.job.script.clients (λ client. client.domain) in
    omega (arith, same)

pub returns-in-Ok-clause-leaves : goal.returns-in-Ok-clause-leaves
returns-in-Ok-clause-leaves g c =
    let seen = seen_by g.P.Keeper.held g.P.Keeper.TellsCrash g.P.Keeper.moment g.P.Keeper.MayLeave in
    written_race IsAudited (course_of c.args.job) c.in-Ok.raced.report (g.K.Sink.taken c.args.out.now) (g.K.Sink.taken c.write_raced.new.out)
    (seen c.args.keeper.now) (seen c.race.new.keeper) c.write_raced.result.0 c.in-Ok.ensures.raced c.in-Ok.ensures.kept c.write_raced.ensures.writes

pub returns-in-Err-Keeper-clause-leaves : goal.returns-in-Err-Keeper-clause-leaves
returns-in-Err-Keeper-clause-leaves g c =
    let seen = seen_by g.P.Keeper.held g.P.Keeper.TellsCrash g.P.Keeper.moment g.P.Keeper.MayLeave in
    failed_race IsAudited (course_of c.args.job) (g.K.Sink.taken c.args.out.now) (seen c.args.keeper.now) (seen c.race.new.keeper) (rw c.in-Err-Keeper.field-0-is at c.in-Err-Keeper.ensures.kept)

pub returns-clause-leaves : goal.returns-clause-leaves
returns-clause-leaves g c =
    let seen = seen_by g.P.Keeper.held g.P.Keeper.TellsCrash g.P.Keeper.moment g.P.Keeper.MayLeave in
    stopped_race IsAudited (course_of c.args.job) (g.K.Sink.taken c.args.out.now) (seen c.args.keeper.now) (seen c.race.new.keeper) (rw c.in-Err-NoMemory.field-0-is at c.in-Err-NoMemory.ensures.kept)

pub returns-in-Ok-clause-seat : goal.returns-in-Ok-clause-seat
returns-in-Ok-clause-seat g c =
    let seen = seen_by g.P.Keeper.held g.P.Keeper.TellsCrash g.P.Keeper.moment g.P.Keeper.MayLeave in
    written_gives (course_of c.args.job) c.in-Ok.raced.report c.in-Ok.raced.seat (g.K.Sink.taken c.args.out.now) (g.K.Sink.taken c.write_raced.new.out)
    (seen c.args.keeper.now) (seen c.race.new.keeper) c.write_raced.result.0 c.write_raced.result.1 c.in-Ok.ensures.raced c.in-Ok.ensures.kept c.in-Ok.ensures.seat
    c.write_raced.ensures.writes c.write_raced.ensures.seat
