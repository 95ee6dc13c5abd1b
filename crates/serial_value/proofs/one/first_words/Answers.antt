use Rattle.std.proofs.Common.{ℕ, ◌+◌, ◌∙◌, ap, sym, arith, get_or, set, get_or-set_other, get_or-set_same, length-set}
use mathlib.Core.Logic.{dite}
use native.Mathlib.Decide.{ℕ_discrete}
use Rattle.serial_value.specs.impl_laws.Bodies.{short_size, short_word}
use Rattle.serial_value.specs.Words.{body_word}
use Rattle.serial_value.proofs.one.first_words.Goals as goal

pub loop-k-preserved : goal.loop-k-preserved
loop-k-preserved c =
    let inv = c.loop-k.invariant in
    let words = c.loop-k.words in
    let k = c.loop-k.k in
    let word = c.word_of.result in
    record {
      wide = length-set words (17 + k) word ∙ inv.wide;
      serial = get_or-set_other words (17 + k) 16 word 0 (λ e. omega arith) ∙ inv.serial;
      done = λ j small. dite (ℕ_discrete j k)
          (λ e. ap (λ (i : ℕ). get_or (set words (17 + k) word) (17 + i) 0) e ∙ (get_or-set_same words (17 + k) word 0 (omega arith) ∙ (c.word_of.ensures ∙ (sym (short_word c.args.value.now k c.requires) ∙ ap (body_word c.args.value.now) (sym e)))))
          (λ other. get_or-set_other words (17 + k) (17 + j) word 0 (λ e. other (omega arith)) ∙ inv.done j (omega arith));
    }

pub returns-clause-words : goal.returns-clause-words
returns-clause-words c = let size = short_size c.args.value.now c.requires in record {
  wide = c.loop-k.invariant.wide;
  serial = c.loop-k.invariant.serial;
  words_are = λ k small. c.loop-k.invariant.done k (omega arith);
}
