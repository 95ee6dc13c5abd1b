use Rattle.std.proofs.Common.{◌≡◌, ◌-◌, ◌≤◌, length, drop, Ok}
use Rattle.init_machine.specs.Expand.{joined, values_of, pieces_of, pieces_from}
use Rattle.init_machine.specs.Props.{value_in}
use Rattle.prop_rules.proofs.expansion.append_all.Given as goal

abbrev pub invariant-loop-place : goal.invariant-loop-place
invariant-loop-place g l = record {
  left :
      joined (Ok l.out.items) (values_of (value_in (g.S.PropStore.meaning l.store)) (pieces_from 0 l.place (drop l.place l.text)))
      ≡ joined (Ok l.initial.out.items) (values_of (value_in (g.S.PropStore.meaning l.initial.store)) (pieces_of l.text));
  within : l.place ≤ length l.text;
  same : g.S.PropStore.meaning l.store ≡ g.S.PropStore.meaning l.initial.store;
  told : g.S.PropStore.told l.store ≡ g.S.PropStore.told l.initial.store;
  spare : g.S.PropStore.spare l.store ≡ g.S.PropStore.spare l.initial.store;
  beside : g.S.PropStore.Beside l.initial.store l.store;
}

abbrev pub decreases-loop-place : goal.decreases-loop-place
decreases-loop-place g l = length l.text - l.place
