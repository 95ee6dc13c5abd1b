use Rattle.std.proofs.Common.{◌≡◌, ◌<◌, ◌+◌, ℕ, []}
use Rattle.trace_audit.specs.Progress.{sets_left}
use Rattle.trace_audit.proofs.progress.have_no_set.Given as goal

-- the clients so far have no set left
abbrev pub invariant-loop-index : goal.invariant-loop-index
invariant-loop-index l = (who : ℕ) → who < l.index + 1 → sets_left l.acts l.places.items who ≡ []
