-- What was done so far decides with the places that are left.
use Rattle.std.proofs.Common.{drop}
use Rattle.machine_parts.specs.Parts.{rules_of}
use Rattle.machine_parts.proofs.Each.{SoFar, rule_of}
use Rattle.machine_parts.proofs.operations.operate_each.Given as goal

abbrev pub invariant-loop-at : goal.invariant-loop-at
invariant-loop-at g l = record {
  done : SoFar g.S.PropStore.meaning g.S.PropStore.told g.O.Outputs.Adds l.initial.parts l.parts (rule_of (rules_of l.initial.parts) l.op) l.places (drop l.at-index l.places);
  beside : g.S.PropStore.Beside l.initial.parts.store l.parts.store;
}
