use Rattle.std.proofs.Common.{length}
use Rattle.model_fs.proofs.entries.Entries.+make_directories.Given as goal

abbrev pub decreases-make_directories : goal.decreases-make_directories
decreases-make_directories l = length l.path.now
