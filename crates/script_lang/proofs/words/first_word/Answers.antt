use Rattle.std.proofs.Common.{sym}
use Rattle.script_lang.specs.Lines.{is_space}
use Rattle.script_lang.proofs.LineWords.{no_word, place_within, word_cut, word_shorter}
use Rattle.script_lang.proofs.words.first_word.Goals as goal

pub returns-in_err-word_start : goal.returns-in_err-word_start
returns-in_err-word_start c = rw c.from_residual.ensures (no_word c.args.line.now (sym c.in_err-word_start.ensures))

pub split_at-requires-2 : goal.split_at-requires-2
split_at-requires-2 c = rw c.word_len.ensures (place_within is_space c.split_at.result.1.now)

pub returns : goal.returns
returns c = (
  word_cut c.args.line.now c.split_at.result.1.now c.split_at-2.result.0.now c.split_at-2.result.1.now c.in_ok-word_start.field-0 c.word_len.result
      c.in_ok-word_start.ensures c.split_at.ensures.back c.word_len.ensures c.split_at-2.ensures.front c.split_at-2.ensures.back,
  word_shorter c.args.line.now c.split_at.result.1.now c.split_at-2.result.1.now c.in_ok-word_start.field-0 c.word_len.result
      c.in_ok-word_start.ensures c.split_at.ensures.back c.word_len.ensures c.split_at-2.ensures.back,
)
