-- Each part has as many as there are services, and no time is kept.
use Rattle.std.proofs.Common.{ℕ, length, replicate, Option, None, sym, ap, ◌∙◌}
use Rattle.std.proofs.lemmas.List.{length-replicate}
use Rattle.init_machine.specs.State.{no_exits}
use Rattle.services.specs.Times.{kept_restart, kept_timeout, times_of}
use Rattle.services.proofs.Kept.{no_restarts, no_timeouts, made, same_each}
use Rattle.services.proofs.services.Services.new.Goals as goal

pub invariant_of-result : goal.invariant_of-result
invariant_of-result c =
    let all = c.in_ok-table.ensures in
    let table = all.first ∙ c.in_ok-new.ensures in
    let many = ap (λ n. replicate {A = Option ℕ} n None) c.len-count.ensures in (
      ap length (made _ _ _ all.others.0 c.new-2.ensures) ∙ length-replicate _ _ ∙ c.len-count.ensures ∙ ap (λ t. length t.defs) (sym table),
      made _ _ _ all.others.1 c.new-3.ensures ∙ many ∙ no_restarts c.args.defs ∙ ap (λ t. times_of kept_restart t.defs t.marks) (sym table),
      made _ _ _ all.others.2 c.new-4.ensures ∙ many ∙ no_timeouts c.args.defs ∙ ap (λ t. times_of kept_timeout t.defs t.marks) (sym table),
    )

pub returns : goal.returns
returns c =
    let all = c.in_ok-table.ensures in
    let exits = made _ _ _ all.others.0 c.new-2.ensures ∙ ap (λ n. replicate n no_exits) c.len-count.ensures ∙ same_each no_exits c.args.defs in
    let table = all.first ∙ c.in_ok-new.ensures in
    λ i. record { defs = (table i).defs; marks = (table i).marks; exits = exits i }
