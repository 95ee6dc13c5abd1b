use Rattle.std.proofs.Common.{Err, ap, ◌∙◌}
use Rattle.init_race.proofs.racing.end.Goals as goal

pub unreachable-requires : goal.unreachable-requires
unreachable-requires g c =
    let who = c.in-Err-Missing.field-0-0 in
    let is = c.in-Err-Missing.is ∙ ap (λ why. Err why) c.in-Err-Missing.field-0-is in
    let missing = c.finish.ensures.missing who is in
    missing.0.1 (c.requires.all c.args.service (c.finish.ensures.given who is) who.0 missing.2)
