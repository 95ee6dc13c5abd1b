use Rattle.std.proofs.Common.{◌≡◌, ◌++◌, length, drop}
use Rattle.init_race.specs.internal.Ended.{readers_of, told_to}
use Rattle.init_race.proofs.racing.parted.Given as goal

-- what is left decides
abbrev pub invariant-loop-one : goal.invariant-loop-one
invariant-loop-one l = record {
  readers : l.readers.items ++ readers_of l.one-iterator.rest.items ≡ readers_of l.fn.acted.items;
  parts : l.parts ++ told_to (drop (length l.parts) l.clients) l.one-iterator.rest.items ≡ told_to l.clients l.fn.acted.items;
}
