use Rattle.std.proofs.Common.{subst}
use Rattle.persist_file.specs.Causes.{IsRefused}
use Rattle.refusal_causes.proofs.StoreFaults.{cause_there}
use Rattle.refusal_causes.proofs.store.cause_at.Goals as goal

pub returns-in-BadLine : goal.returns-in-BadLine
returns-in-BadLine c bytes refused =
    let bad = subst (IsRefused bytes) c.in-BadLine.is refused in
    cause_there bytes c.in-BadLine.line c.args.number c.in-BadLine.cause _ bad
    (λ other cause unfit. c.each_text_has_one_reading.ensures.line bytes c.in-BadLine.line other c.in-BadLine.cause cause bad unfit) c.at_line.ensures
