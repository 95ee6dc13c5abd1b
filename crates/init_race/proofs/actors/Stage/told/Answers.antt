use Rattle.init_race.proofs.Readings.{read_answers, read_goes}
use Rattle.init_race.proofs.actors.Stage.told.Goals as goal

pub returns-clause-told : goal.returns-clause-told
returns-clause-told g c = read_goes c.read.result c.args.reader.now c.read.new.reader c.args.name.now c.read.ensures.told c.read.ensures.reader

pub returns-clause-answers : goal.returns-clause-answers
returns-clause-answers g c =
    read_answers c.read.result c.args.reader.now.view c.read.new.reader.view c.args.name.now c.read.ensures.told
