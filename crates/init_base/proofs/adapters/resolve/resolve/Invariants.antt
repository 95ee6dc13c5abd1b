use Rattle.std.proofs.Common.{◌≡◌, true, ◌-◌}
use Rattle.std.specs.Prelude.{IfSome, reverse}
use Rattle.std.specs.List.{list_all}
use Rattle.init_base.specs.Resolve.{has_no_slash, is_below_root, leads_in, leads_to}
use Rattle.init_base.proofs.adapters.resolve.resolve.Given as goal

abbrev pub invariant-stretches : goal.invariant-stretches
invariant-stretches g l = record {
  leads : IfSome (g.T.LinkTree.standing l.tree) (λ at.
      leads_in at (41 - l.counter) l.walk.place (reverse l.walk.left) ≡ leads_to at l.from l.path);
  below : is_below_root l.walk.place ≡ true;
  left : list_all has_no_slash l.walk.left ≡ true;
}
