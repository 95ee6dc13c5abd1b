use Rattle.std.proofs.Common.{length}
use Rattle.prop_contexts.proofs.names.Names.+longest.Given as goal

abbrev pub decreases-longest : goal.decreases-longest
decreases-longest l = length l.walked.now.name.now
