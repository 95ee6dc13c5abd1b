use Rattle.explanations.proofs.entry.entry_at.Given as goal

-- the machine declares as many clients as before
abbrev pub invariant-loop : goal.invariant-loop
invariant-loop g l = g.M.Replays.knows l.clients l.machine
