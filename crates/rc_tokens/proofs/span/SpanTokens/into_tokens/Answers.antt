use Rattle.std.proofs.Common.{ℕ, List, ap, ◌∙◌}
use Rattle.rc_tokens.specs.Lines.{Tokens}
use Rattle.rc_tokens.specs.internal.Ranges.{lines_at, words_at}
use Rattle.rc_tokens.proofs.span.SpanTokens.into_tokens.Goals as goal

pub returns : goal.returns
returns c =
    let all : List (List ℕ) → Tokens = λ words. record { lines = lines_at words c.self.inside.lines; dropped = c.self.inside.dropped } in
    c.of.ensures ∙ ap all (c.in_ok-words.ensures ∙ ap (words_at c.self.inside.buffer) c.items.ensures) ∙ c.self.view_is
