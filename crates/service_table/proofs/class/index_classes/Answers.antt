-- A service more is added.
use Rattle.std.proofs.Common.{arith}
use Rattle.init_machine.specs.Services.{is_of_class}
use Rattle.service_table.specs.Classes.{found}
use Rattle.service_table.proofs.Classes.{one_service, still_behind}
use Rattle.service_table.proofs.class.index_classes.Goals as goal

pub loop-at-preserved : goal.loop-at-preserved
loop-at-preserved c =
    let i = c.loop-at.invariant in
    let at = c.loop-at.at in
    let def = c.index-defs-at.result in
    let added = c.in_ok-add_each.ensures in
    record {
      paired = added.paired;
      places = λ class. one_service c.args.defs.now at def class (found c.loop-at.classes class) (found c.add_each.new.self class) _
          c.loop-at-test.true c.index-defs-at.is (added.places class) (i.behind class at (omega arith)) (i.places class);
      behind = λ class. still_behind at (is_of_class class def) (found c.loop-at.classes class) (found c.add_each.new.self class) (added.places class) (i.behind class);
    }
