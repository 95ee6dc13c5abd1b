use Rattle.std.proofs.Common.{◌==◌, ◌+◌}
use Rattle.std.proofs.lemmas.List.{take_rest}
use Rattle.trace_reader.proofs.Cuts.{cut_first, cut_nowhere}
use Rattle.trace_reader.proofs.fields.cut.Goals as goal

pub returns-in_err-place-clause-parts : goal.returns-in_err-place-clause-parts
returns-in_err-place-clause-parts c = rw c.from_residual.ensures (cut_nowhere (λ byte. byte == c.args.at) c.args.bytes.now 0 c.in_err-place.ensures)

pub returns-clause-parts : goal.returns-clause-parts
returns-clause-parts c =
    rw (take_rest c.args.bytes.now (c.in_ok-place.place + 1)) (cut_first (λ byte. byte == c.args.at) c.args.bytes.now 0 c.in_ok-place.place c.in_ok-place.ensures)
