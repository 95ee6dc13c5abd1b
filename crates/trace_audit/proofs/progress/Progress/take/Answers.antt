use Rattle.std.proofs.Common.{◌≡◌, ◌∷◌, [], false}
use Rattle.trace_audit.specs.Progress.{Left, Takes, left_of}
use Rattle.trace_audit.proofs.Lefts.{set_taken}
use Rattle.trace_audit.proofs.progress.Progress.take.Goals as goal

pub returns-in-Set-clause-refused : goal.returns-in-Set-clause-refused
returns-in-Set-clause-refused c =
    λ (no : c.take_set.result ≡ false) (new : Left) (takes : Takes (c.args.input.now ∷ []) (left_of c.args.acts.now c.args.self.now) new).
    let who = c.in-Set.who in
    c.take_set.ensures.refused no (new.sets who.0)
    (set_taken who c.in-Set.name c.in-Set.value (new.sets who.0) _ c.args.input.now c.in-Set.is (takes.sets who.0))
