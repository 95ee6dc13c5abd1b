use Rattle.init_trace.proofs.Lone.{lone_is_known}
use Rattle.init_trace.proofs.line.lone_word.Goals as goal

pub unreachable-requires : goal.unreachable-requires
unreachable-requires c =
    let d = c.in_default in
    lone_is_known c.args.output.now c.requires
    (d.not-AllProperties, d.not-Noted, d.not-Ok, d.not-Released, d.not-Timeout, d.not-Blocked, d.not-Idle, d.not-Down, d.not-TooFar, d.not-NoProcess)
