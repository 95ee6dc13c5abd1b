use Rattle.init_machine.proofs.TreeMaps.{paths_ascend_after, told_by_nodes}
use Rattle.machine_laws.proofs.trees.tree_is_a_map.Goals as goal

pub returns-clause-after : goal.returns-clause-after
returns-clause-after c = paths_ascend_after

pub returns-clause-told : goal.returns-clause-told
returns-clause-told c = told_by_nodes
