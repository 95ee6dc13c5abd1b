-- A class that is added has no places.
use Rattle.std.proofs.Common.{◌≡◌, None}
use Rattle.std.specs.Prelude.{position}
use Rattle.std.specs.Str.{bytes_eq}
use Rattle.service_table.proofs.Classes.{class_added}
use Rattle.service_table.proofs.class.Classes.ensure.Goals as goal

pub returns-clause-same : goal.returns-clause-same
returns-clause-same c = λ other.
    let old = c.args.self.now in
    let none : position (bytes_eq c.args.class.now) old.names ≡ None = cc in
    class_added old.names old.places.items c.add.new.self c.push.new.self.items c.args.class.now other c.new.result c.requires none
    c.in_ok-at.ensures.texts c.in_ok-push.ensures.items c.new.ensures
