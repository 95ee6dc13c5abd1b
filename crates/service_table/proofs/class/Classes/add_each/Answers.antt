-- A class more is added.
use Rattle.service_table.specs.Classes.{found}
use Rattle.service_table.proofs.Classes.{one_class}
use Rattle.service_table.proofs.class.Classes.add_each.Goals as goal

pub loop-class-preserved : goal.loop-class-preserved
loop-class-preserved c =
    let added = c.in_ok-add.ensures in
    record {
      paired = added.paired;
      places = λ other. one_class c.items-class-items.result.now c.args.def.now.classes c.loop-class.class-index c.class-item.result c.bytes.result.now other c.args.service
          (found c.loop-class.self other) (found c.add.new.self other) _ c.items-class-items.ensures c.loop-class-test.true c.class-item.is c.bytes.ensures
          (added.places other) (c.loop-class.invariant.places other);
    }
