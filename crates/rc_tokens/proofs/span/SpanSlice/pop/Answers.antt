use Rattle.std.proofs.Common.{length}
use Rattle.rc_tokens.specs.internal.Ranges.{is_within}
use Rattle.rc_tokens.proofs.Ranges.{first_line, part_all}
use Rattle.rc_tokens.proofs.span.SpanSlice.pop.Goals as goal

pub invariant_of-result : goal.invariant_of-result
invariant_of-result c = part_all (is_within (length c.self.inside.buffer.now)) c.self.inside.words.now c.in-Some.mark.now.words c.self.invariant.words_within

pub returns : goal.returns
returns c =
    first_line c.self.inside.buffer.now c.self.inside.words.now c.self.inside.marks.now c.in-Some.behind.now c.in-Some.mark.now c.args.self.now
    c.self.view_is c.in-Some.ensures.cases.0
