-- The names that are left make it whole.
use Rattle.std.proofs.Common.{◌≡◌, [], drop, fold}
use Rattle.service_table.specs.Table.{names_of}
use Rattle.collections.specs.Texts.{with_text}
use Rattle.service_table.proofs.fresh.index_names.Given as goal

abbrev pub invariant-loop-def : goal.invariant-loop-def
invariant-loop-def l = fold with_text l.names (names_of (drop l.def-index l.defs)) ≡ fold with_text [] (names_of l.defs)
