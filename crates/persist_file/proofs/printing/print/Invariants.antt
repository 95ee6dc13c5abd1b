use Rattle.std.proofs.Common.{◌≡◌, ◌++◌, codes, map, take}
use Rattle.persist_file.specs.Store.{ended, entry_under, lines_text}
use Rattle.persist_file.specs.declared.version.Version.TheVariants.{Second}
use Rattle.persist_file.proofs.printing.print.Given as goal

abbrev pub invariant-loop-pair : goal.invariant-loop-pair
invariant-loop-pair l = l.page.items ≡ ended (codes "persist 2") ++ lines_text Second (map (entry_under l.policy) (take l.pair-index l.pair-items))
