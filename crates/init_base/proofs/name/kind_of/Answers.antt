use Rattle.std.proofs.Common.{arith}
use Rattle.init_base.proofs.NameBytes.{kind_in_table}
use Rattle.init_base.proofs.name.kind_of.Goals as goal

pub returns : goal.returns
returns c = kind_in_table c.args.byte 0 (omega arith)
