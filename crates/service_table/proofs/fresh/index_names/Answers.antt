-- Names that differ are added in turn.
use Rattle.std.proofs.Common.{arith, fold, sym, ◌∙◌}
use Rattle.std.proofs.lemmas.List.{at_drop_all}
use Rattle.service_table.specs.Table.{names_of}
use Rattle.collections.specs.Texts.{with_text}
use Rattle.collections.proofs.Added.{all_added}
use Rattle.service_table.proofs.fresh.index_names.Goals as goal

pub returns : goal.returns
returns c =
    let left = at_drop_all (λ rest. fold with_text c.loop-def.names (names_of rest)) c.args.defs.now c.loop-def.def-index (omega arith) in
    sym left ∙ c.loop-def.invariant ∙ all_added (names_of c.args.defs.now) c.requires
