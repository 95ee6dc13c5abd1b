use Rattle.std.proofs.Common.{◌≢◌, ◌+◌, subst}
use Rattle.std.specs.Bool.{MatchBool}
use Rattle.init_base.specs.internal.SameBytes.{AreSameIn}
use Rattle.init_base.proofs.SameBytes.{by_words}
use Rattle.init_base.proofs.comparing.same_words.Goals as goal

pub returns : goal.returns
returns c =
    let one = c.args.one.now in
    let other = c.args.other.now in
    by_words one other c.requires.many c.requires.least c.requires.most _ _ _ _ c.same_word.ensures
    (subst (λ at. MatchBool c.same_word-2.result (AreSameIn at (at + 8) one other) (one ≢ other)) c.min.ensures c.same_word-2.ensures)
    (subst (λ at. MatchBool c.same_word-3.result (AreSameIn at (at + 8) one other) (one ≢ other)) c.min-2.ensures c.same_word-3.ensures)
    c.same_word-4.ensures
