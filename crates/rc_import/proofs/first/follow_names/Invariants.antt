use Rattle.std.proofs.Common.{◌≡◌}
use Rattle.std.specs.List.{flat_map}
use Rattle.init_machine.specs.Props.{value_in}
use Rattle.rc_import.specs.Order.{at_first}
use Rattle.rc_import.specs.Paths.{file_in}
use Rattle.rc_import.specs.Stores.{IsKept}
use Rattle.rc_import.specs.internal.Steps.{Continues}
use Rattle.rc_import.proofs.first.follow_names.Given as goal

-- what is left decides
abbrev pub invariant-loop-name : goal.invariant-loop-name
invariant-loop-name g l = record {
  next : (goal.iterator-loop-name g).can_next l.name-iterator;
  finite : (goal.iterator-loop-name g).is_finite l.name-iterator;
  order :
      Continues g.G.Gathers.holds (g.F.Files.tree l.fn.files) (value_in (g.S.PropStore.meaning l.fn.props)) l.fn.loading
      (λ world. flat_map (λ name. at_first world (file_in l.dir name)) l.fn.names)
      l.loading
      (λ world. flat_map (λ name. at_first world (file_in l.dir name)) l.name-iterator.rest.items);
  tree : g.F.Files.tree l.files ≡ g.F.Files.tree l.fn.files;
  count : g.F.Files.fault_count l.files ≡ g.F.Files.fault_count l.fn.files;
  store : IsKept g.S.PropStore.meaning g.S.PropStore.told g.S.PropStore.spare g.S.PropStore.Beside l.fn.props l.props;
}
