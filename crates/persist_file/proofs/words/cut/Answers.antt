use Rattle.std.proofs.Common.{sym, ◌∙◌}
use Rattle.persist_file.proofs.Cuts.{none_at, some_at}
use Rattle.persist_file.proofs.words.cut.Goals as goal

pub returns-in_err-place-clause-parts : goal.returns-in_err-place-clause-parts
returns-in_err-place-clause-parts c = rw c.from_residual.ensures (none_at c.args.at c.args.bytes.now (sym c.place_of.ensures ∙ c.in_err-place.was))

pub returns-clause-parts : goal.returns-clause-parts
returns-clause-parts c = some_at c.args.at c.args.bytes.now c.in_ok-place.place (sym c.place_of.ensures ∙ c.in_ok-place.was)
