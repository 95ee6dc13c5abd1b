use Rattle.std.proofs.Common.{◌≡◌, true, length}
use Rattle.std.specs.Prelude.{IfSome, reverse}
use Rattle.std.specs.List.{list_all}
use Rattle.init_base.specs.Resolve.{has_no_slash, is_below_root, stretch}
use Rattle.init_base.proofs.adapters.resolve.walk_on.Given as goal

abbrev pub invariant-loop-part : goal.invariant-loop-part
invariant-loop-part g l = record {
  stretch : IfSome (g.T.LinkTree.standing l.tree) (λ at.
      stretch at l.initial.walk.place (reverse l.initial.walk.left) ≡ stretch at l.walk.place (reverse l.walk.left));
  below : is_below_root l.walk.place ≡ true;
  left : list_all has_no_slash l.walk.left ≡ true;
}

abbrev pub decreases-loop-part : goal.decreases-loop-part
decreases-loop-part g l = length l.walk.left
