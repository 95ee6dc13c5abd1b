use Rattle.std.proofs.Common.{◌++◌, refl, rules, arith}
use Rattle.wire_format.proofs.Fronts.{filled, moved_on, waiting_is_not_whole}
use Rattle.wire_format.proofs.pieces.fill.Goals as goal

pub loop-len-init : goal.loop-len-init
loop-len-init c = record {
  moved = refl;
  exact = λ message behind is. absurd (waiting_is_not_whole c.args.tail.now.items message behind c.requires is);
}

pub loop-len-preserved : goal.loop-len-preserved
loop-len-preserved c = record {
  moved = moved_on (c.args.tail.now.items ++ c.args.piece.now) c.loop-len.tail.items c.extend_from_slice.new.self.items c.loop-len.left.now c.min-count.result
      c.loop-len.invariant.moved c.in_ok-extend_from_slice.ensures.items;
  exact = filled c.loop-len.tail.items c.extend_from_slice.new.self.items c.loop-len.left.now c.min-count.result c.in-Wants.len
      (search rules) c.in_ok-extend_from_slice.ensures.items (omega arith);
}
