use Rattle.std.proofs.Common.{◌≡◌, ℕ, ◌+◌, ◌-◌, ◌*◌, ◌<◌, ◌≤◌, get_or, inl, subst, ⊎_elim, ◌∙◌, arith}
use Rattle.std.proofs.lemmas.Bool.{cases_lt}
use Rattle.serial_value.proofs.Packing.{byte_of}
use Rattle.serial_value.specs.impl_laws.Bodies.{short_size, short_word}
use Rattle.serial_value.proofs.words.unpack.Goals as goal

pub loop-k-preserved : goal.loop-k-preserved
loop-k-preserved c = let k = c.loop-k.k in record {
  wide = c.put_word.auto.out ∙ c.loop-k.invariant.wide;
  done = λ value legal has i below.
      let size = short_size value legal.short in
      ⊎_elim
      (λ (low : i < 8 * k). c.put_word.ensures.others i (inl low) ∙ c.loop-k.invariant.done value legal has i low)
      (λ (high : 8 * k ≤ i).
      let j : ℕ = i - 8 * k in
      let there : 8 * k + j ≡ i = omega arith in
      subst (λ (p : ℕ). get_or c.put_word.new.out p 0 ≡ get_or value p 0) there
      (c.put_word.ensures.bytes j (omega arith)
      ∙ byte_of value (get_or c.args.words.now k 0) k j legal.bytes (has k (omega arith) ∙ short_word value k legal.short) (omega arith)))
      (cases_lt i (8 * k));
}

pub returns : goal.returns
returns c = λ value legal has i inside.
    let size = short_size value legal.short in
    ⊎_elim
    (λ (low : i < 88). c.put_cut_word.ensures.others i low ∙ c.loop-k.invariant.done value legal has i (omega arith))
    (λ (high : 88 ≤ i).
    let j : ℕ = i - 88 in
    let there : 88 + j ≡ i = omega arith in
    subst (λ (p : ℕ). get_or c.put_cut_word.new.out p 0 ≡ get_or value p 0) there
    (c.put_cut_word.ensures.bytes j (omega arith)
    ∙ byte_of value (get_or c.args.words.now 11 0) 11 j legal.bytes (has 11 (omega arith) ∙ short_word value 11 legal.short) (omega arith)))
    (cases_lt i 88)
