use Rattle.std.proofs.Common.{◌≡◌, drop, map}
use Rattle.std.specs.List.{flat_map}
use Rattle.init_machine.specs.Props.{value_in}
use Rattle.rc_import.specs.Order.{directories, in_directory}
use Rattle.rc_import.specs.Stores.{IsKept}
use Rattle.rc_import.specs.internal.Steps.{Continues}
use Rattle.rc_import.proofs.first.follow_directories.Given as goal

-- what is left decides
abbrev pub invariant-loop-dir : goal.invariant-loop-dir
invariant-loop-dir g l = record {
  items : map (λ dir. dir.now) l.dir-items ≡ directories;
  order :
      Continues g.G.Gathers.holds (g.F.Files.tree l.fn.files) (value_in (g.S.PropStore.meaning l.fn.props)) l.fn.loading
      (λ world. flat_map (in_directory world) directories)
      l.loading
      (λ world. flat_map (in_directory world) (drop l.dir-index directories));
  tree : g.F.Files.tree l.files ≡ g.F.Files.tree l.fn.files;
  count : g.F.Files.fault_count l.files ≡ g.F.Files.fault_count l.fn.files;
  store : IsKept g.S.PropStore.meaning g.S.PropStore.told g.S.PropStore.spare g.S.PropStore.Beside l.fn.props l.props;
}
