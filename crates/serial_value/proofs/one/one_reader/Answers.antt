use Rattle.serial_value.proofs.OneReader.{one_splits}
use Rattle.serial_value.proofs.one.one_reader.Goals as goal

pub split_seat-requires : goal.split_seat-requires
split_seat-requires c = (c.requires.table.0, c.requires.table.1, one_splits c.args.seat.now.id c.args.seat.now.me.0 c.requires.writer)
