use Rattle.std.proofs.Common.{◌≡◌, ◌∙◌, length, rules}
use Rattle.rc_tokens.proofs.Ranges.{word_spelled, word_within}
use Rattle.rc_tokens.proofs.spelled.Spelled.end_word.Goals as goal

pub invariant_of-self-2 : goal.invariant_of-self-2
invariant_of-self-2 c =
    let s = c.self.inside in
    let count : c.in_ok-to.to ≡ length s.bytes.items = c.in_ok-to.ensures ∙ search rules in
    rw c.in_ok-push.ensures.ok (word_within s.bytes.items s.token_from s.words s.line_from s.lines c.in_ok-to.to c.self.invariant count)

pub returns : goal.returns
returns c =
    let s = c.self.inside in
    let count : c.in_ok-to.to ≡ length s.bytes.items = c.in_ok-to.ensures ∙ search rules in
    rw c.in_ok-push.ensures.ok (word_spelled s.bytes.items s.token_from s.words s.line_from s.lines c.in_ok-to.to c.args.self.now c.self.view_is c.self.invariant count)
