use Rattle.std.proofs.Common.{◌≡◌, ◌+◌, ◌∙◌, not, length, arith}
use Rattle.std.proofs.lemmas.List.Sums.{prefix_len-le-length}
use Rattle.rc_tokens.specs.internal.Steps.{ends_run}
use Rattle.rc_tokens.proofs.Runs.{RunTaken, after_run, then_byte}
use Rattle.rc_tokens.proofs.reader.Reader.take_next.Goals as goal

pub split_at-requires : goal.split_at-requires
split_at-requires c = omega (arith, c.run_len.ensures, prefix_len-le-length (λ b. not (ends_run c.begin-begun.new.self.mode b)) c.begin-begun.result.now)

pub returns-in_default-clause-same : goal.returns-in_default-clause-same
returns-in_default-clause-same c =
    let lengths : length c.split_at.result.0.now + length c.split_at.result.1.now ≡ length c.begin-begun.result.now = omega arith in
    (after_run c.begin-begun.new.self c.take_run.new.self c.begin-begun.result.now c.split_at.result.0.now c.split_at.result.1.now c.run_len.result
    c.run_len.ensures c.split_at.ensures.front c.split_at.ensures.back lengths c.in_ok-take_run.ensures).same
    ∙ c.begin-begun.ensures.same

returned : (c : goal.In_ok-take) → RunTaken c.begin-begun.new.self c.take.new.self c.begin-begun.result.now c.in-Some.rest.now
returned c =
    let lengths : length c.split_at.result.0.now + length c.split_at.result.1.now ≡ length c.begin-begun.result.now = omega arith in
    then_byte c.begin-begun.new.self c.take_run.new.self c.take.new.self c.begin-begun.result.now c.split_at.result.1.now c.in-Some.rest.now c.in-Some.byte.now
    (after_run c.begin-begun.new.self c.take_run.new.self c.begin-begun.result.now c.split_at.result.0.now c.split_at.result.1.now c.run_len.result
    c.run_len.ensures c.split_at.ensures.front c.split_at.ensures.back lengths c.in_ok-take_run.ensures)
    c.in-Some.ensures.cases.0 c.in_ok-take.ensures

pub returns-clause-same : goal.returns-clause-same
returns-clause-same c = (returned c).same ∙ c.begin-begun.ensures.same

pub returns-clause-number : goal.returns-clause-number
returns-clause-number c = omega (arith, (returned c).number, c.begin-begun.ensures.number, c.begin-begun.ensures.within)
