use Rattle.std.proofs.Common.{◌≡◌, drop}
use Rattle.init_machine.specs.Effect.{expand_all}
use Rattle.init_machine.specs.Props.{value_in}
use Rattle.builtins.proofs.Expansions.{prepended}
use Rattle.builtins.proofs.expanding.expand_all.Given as goal

-- what is left decides
abbrev pub invariant-loop-arg : goal.invariant-loop-arg
invariant-loop-arg g l = record {
  left :
      prepended l.expanded (expand_all (value_in (g.S.PropStore.meaning l.store)) (drop l.arg-index l.args))
      ≡ expand_all (value_in (g.S.PropStore.meaning l.initial.store)) l.args;
  same : g.S.PropStore.meaning l.store ≡ g.S.PropStore.meaning l.initial.store;
  told : g.S.PropStore.told l.store ≡ g.S.PropStore.told l.initial.store;
  spare : g.S.PropStore.spare l.store ≡ g.S.PropStore.spare l.initial.store;
  beside : g.S.PropStore.Beside l.initial.store l.store;
}
