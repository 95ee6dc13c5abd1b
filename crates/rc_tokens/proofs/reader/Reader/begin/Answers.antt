use Rattle.std.proofs.Common.{ℕ, not, drop, sym, ap, ◌∙◌, arith}
use Rattle.std.proofs.lemmas.List.Sums.{prefix_len-le-length}
use Rattle.rc_tokens.specs.Grammar.{is_blank}
use Rattle.rc_tokens.specs.internal.Steps.{run}
use Rattle.rc_tokens.specs.declared.reader.Reader.{Reader}
use Rattle.rc_tokens.proofs.Runs.{blanks_passed, token_begun}
use Rattle.rc_tokens.proofs.reader.Reader.begin.Goals as goal
use Rattle.rc_tokens.proofs.reader.Reader.begin.Goals.{Then-is_token_next, Else-is_token_next}

pub split_at-requires : goal.split_at-requires
split_at-requires c = omega (arith, c.blanks.ensures, prefix_len-le-length (λ b. not (not (is_blank b))) c.args.bytes.now)

pub returns-then-is_token_next-clause-same : goal.returns-then-is_token_next-clause-same
returns-then-is_token_next-clause-same c =
    let rest = c.split_at.result.1.now in
    ap (λ (s : Reader). run s rest) c.begin_token.ensures
    ∙ token_begun c.args.self.now rest c.in-Between.is (sym c.is_token_next.ensures ∙ c.if-is_token_next.true)
    ∙ blanks_passed c.args.self.now c.args.bytes.now rest c.in-Between.is (c.split_at.ensures.back ∙ ap (λ (n : ℕ). drop n c.args.bytes.now) c.blanks.ensures)

pub returns-else-is_token_next-clause-same : goal.returns-else-is_token_next-clause-same
returns-else-is_token_next-clause-same c =
    blanks_passed c.args.self.now c.args.bytes.now c.split_at.result.1.now c.in-Between.is
    (c.split_at.ensures.back ∙ ap (λ (n : ℕ). drop n c.args.bytes.now) c.blanks.ensures)
