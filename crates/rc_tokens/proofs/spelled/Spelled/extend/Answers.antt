use Rattle.rc_tokens.proofs.Ranges.{bytes_spelled, bytes_within}
use Rattle.rc_tokens.proofs.spelled.Spelled.extend.Goals as goal

pub invariant_of-self-2 : goal.invariant_of-self-2
invariant_of-self-2 c =
    let s = c.self.inside in
    rw c.in_ok-extend_from_slice.ensures.items (bytes_within s.bytes.items s.token_from s.words s.line_from s.lines c.args.bytes.now c.self.invariant)

pub returns : goal.returns
returns c =
    let s = c.self.inside in
    rw c.in_ok-extend_from_slice.ensures.items (bytes_spelled s.bytes.items s.token_from s.words s.line_from s.lines c.args.bytes.now c.args.self.now c.self.view_is c.self.invariant)
