use Rattle.std.proofs.Common.{drop}
use Rattle.init_machine.specs.Step.{set_pairs}
use Rattle.init_core.proofs.Left.{Left}
use Rattle.init_core.proofs.boot.set_pairs.Given as goal

abbrev pub invariant-loop-pair : goal.invariant-loop-pair
invariant-loop-pair g l = record {
  left : Left g.S.PropStore.meaning g.S.PropStore.told g.O.Outputs.Adds set_pairs l.pairs (drop l.pair-index l.pairs) l.initial.parts l.parts;
  beside : g.S.PropStore.Beside l.initial.parts.store l.parts.store;
}
