use Rattle.std.proofs.Common.{◌≡◌, take}
use Rattle.rc_import.proofs.place.Place.trail.Given as goal

abbrev pub invariant-loop-file : goal.invariant-loop-file
invariant-loop-file l = l.trail ≡ take l.file-index l.self.trail
