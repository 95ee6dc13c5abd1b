use Rattle.std.proofs.Common.{IsTrue, drop}
use Rattle.std.specs.List.{list_all}
use Rattle.init_machine.specs.Setting.{is_persistent}
use Rattle.builtins.proofs.Savings.{Left}
use Rattle.builtins.proofs.saved.set_each.Given as goal

abbrev pub invariant-loop-pair : goal.invariant-loop-pair
invariant-loop-pair g l = record {
  left : Left g.S.PropStore.meaning g.S.PropStore.told g.O.Outputs.Adds l.initial.parts l.parts l.pairs (drop l.pair-index l.pairs);
  persistent : IsTrue (list_all (λ p. is_persistent p.name) (drop l.pair-index l.pairs));
  beside : g.S.PropStore.Beside l.initial.parts.store l.parts.store;
}
