use Rattle.std.proofs.Common.{ap, sym, ◌∙◌, arith}
use Rattle.rc_tokens.specs.internal.Ranges.{Spelling, words_at}
use Rattle.rc_tokens.proofs.Ranges.{none_behind, words_count}
use Rattle.rc_tokens.proofs.spelled.Spelled.is_line_empty.Goals as goal

pub returns : goal.returns
returns c =
    let words = words_at c.self.inside.bytes.items c.self.inside.words in
    let count = words_count c.self.inside.bytes.items c.self.inside.words in
    none_behind words c.args.self.now.words c.self.inside.line_from c.len.result
    (omega (arith, count, c.self.invariant.line_within)) (c.len.ensures ∙ sym count) (sym (ap (λ (s : Spelling). s.words) c.self.view_is))
