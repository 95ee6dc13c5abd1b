use Rattle.std.proofs.Common.{arith}
use Rattle.init_driver.proofs.Learned.{fits_in, tells_on_ok}
use Rattle.init_driver.proofs.reading.read_into.Goals as goal

pub told_by-requires : goal.told_by-requires
told_by-requires c = record {
  room = fits_in c.args.reader.now.view c.read-answer.new.self.view c.args.legal.bytes.now c.read-answer.result c.args.buffer.now c.read-answer.new.out c.requires.room (omega arith) c.read-answer.ensures.told;
}

pub returns-clause-told : goal.returns-clause-told
returns-clause-told c =
    tells_on_ok c.told_by.result c.args.reader.now.view c.read-answer.new.self.view c.args.legal.bytes.now c.args.name.now c.read-answer.result c.args.buffer.now c.read-answer.new.out
    c.requires.name c.read-answer.ensures.told c.told_by.ensures
