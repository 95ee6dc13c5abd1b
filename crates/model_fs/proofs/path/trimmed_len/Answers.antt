use Rattle.std.proofs.Common.{sym, ◌∙◌, arith}
use Rattle.model_fs.proofs.Parts.{parts-trimmed}
use Rattle.model_fs.proofs.path.trimmed_len.Goals as goal

pub loop-len-preserved : goal.loop-len-preserved
loop-len-preserved c = record {
  bound = omega arith;
  same = sym (parts-trimmed c.args.text.now c.loop-len.len (omega arith) (omega arith) c.if-text-len-eq47.true) ∙ c.loop-len.invariant.same;
}
