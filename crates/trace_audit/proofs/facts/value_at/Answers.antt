use Rattle.std.proofs.Common.{Option, sym, ap, ◌∙◌}
use Rattle.std.specs.Option.{option_copied}
use Rattle.trace_audit.proofs.Indexing.{value_last, value_none}
use Rattle.trace_audit.proofs.facts.value_at.Goals as goal

pub returns-in_err-place : goal.returns-in_err-place
returns-in_err-place c =
    ap (λ (o : Option _). option_copied o) c.from_residual.ensures
    ∙ sym (value_none c.args.sets.now.pairs.items c.args.name.now c.args.number c.requires c.in_err-place.ensures)

pub returns : goal.returns
returns c =
    sym (value_last c.args.sets.now.pairs.items c.args.name.now c.args.number c.in_ok-place.place c.index.result.now c.requires c.in_ok-place.ensures c.index.ensures)
