use Rattle.std.proofs.Common.{◌≡◌, ◌+◌, ◌*◌}
use Rattle.std.specs.List.{flat_map}
use Rattle.init_machine.specs.Props.{value_in}
use Rattle.rc_import.specs.Order.{at_import, at_target}
use Rattle.rc_import.specs.Paths.{file_in}
use Rattle.rc_import.specs.Stores.{IsKept}
use Rattle.rc_import.specs.internal.Steps.{Continues}
use Rattle.rc_import.proofs.import.+imports.Given as goal

abbrev pub decreases-follow_file : goal.decreases-follow_file
decreases-follow_file g l = 6 * l.place.now.left + 5

abbrev pub decreases-follow_imports : goal.decreases-follow_imports
decreases-follow_imports g l = 6 * l.place.now.left + 4

abbrev pub decreases-follow_import : goal.decreases-follow_import
decreases-follow_import g l = 6 * l.place.now.left + 3

abbrev pub decreases-follow_path : goal.decreases-follow_path
decreases-follow_path g l = 6 * l.place.now.left + 2

abbrev pub decreases-follow_names : goal.decreases-follow_names
decreases-follow_names g l = 6 * l.place.now.left + 1

abbrev pub decreases-follow_target : goal.decreases-follow_target
decreases-follow_target g l = 6 * l.place.now.left

-- what is left decides
abbrev pub invariant-follow_imports-loop-import : goal.invariant-follow_imports-loop-import
invariant-follow_imports-loop-import g l = record {
  next : (goal.iterator-follow_imports-loop-import g).can_next l.import-iterator;
  finite : (goal.iterator-follow_imports-loop-import g).is_finite l.import-iterator;
  order :
      Continues g.G.Gathers.holds (g.F.Files.tree l.fn.files) (value_in (g.S.PropStore.meaning l.fn.props)) l.fn.loading
      (λ world. flat_map (at_import world l.place.file (at_target world l.place.left l.place.trail l.place.file)) l.fn.imports)
      l.loading
      (λ world. flat_map (at_import world l.place.file (at_target world l.place.left l.place.trail l.place.file)) l.import-iterator.rest.items);
  tree : g.F.Files.tree l.files ≡ g.F.Files.tree l.fn.files;
  count : g.F.Files.fault_count l.files ≡ g.F.Files.fault_count l.fn.files;
  store : IsKept g.S.PropStore.meaning g.S.PropStore.told g.S.PropStore.spare g.S.PropStore.Beside l.fn.props l.props;
}

abbrev pub invariant-follow_names-loop-name : goal.invariant-follow_names-loop-name
invariant-follow_names-loop-name g l = record {
  next : (goal.iterator-follow_names-loop-name g).can_next l.name-iterator;
  finite : (goal.iterator-follow_names-loop-name g).is_finite l.name-iterator;
  order :
      Continues g.G.Gathers.holds (g.F.Files.tree l.fn.files) (value_in (g.S.PropStore.meaning l.fn.props)) l.fn.loading
      (λ world. flat_map (λ name. at_target world l.place.left l.place.trail l.place.file l.line (file_in l.dir name)) l.fn.names)
      l.loading
      (λ world. flat_map (λ name. at_target world l.place.left l.place.trail l.place.file l.line (file_in l.dir name)) l.name-iterator.rest.items);
  tree : g.F.Files.tree l.files ≡ g.F.Files.tree l.fn.files;
  count : g.F.Files.fault_count l.files ≡ g.F.Files.fault_count l.fn.files;
  store : IsKept g.S.PropStore.meaning g.S.PropStore.told g.S.PropStore.spare g.S.PropStore.Beside l.fn.props l.props;
}
