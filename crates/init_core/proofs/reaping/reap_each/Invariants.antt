use Rattle.std.proofs.Common.{drop}
use Rattle.init_core.specs.Reaped.{reap_one}
use Rattle.init_core.proofs.Left.{Left, each_by}
use Rattle.init_core.proofs.reaping.reap_each.Given as goal

abbrev pub invariant-loop-process : goal.invariant-loop-process
invariant-loop-process g l = record {
  left : Left g.S.PropStore.meaning g.S.PropStore.told g.O.Outputs.Adds (each_by reap_one) l.ended (drop l.process-index l.ended) l.initial.parts l.parts;
  beside : g.S.PropStore.Beside l.initial.parts.store l.parts.store;
}
