use Rattle.std.proofs.Common.{◌≡◌, drop, true}
use Rattle.action_queue.specs.Pending.{are_places, lines_at}
use Rattle.action_queue.proofs.taking.add_action_lines.Given as goal

abbrev pub invariant-loop-at : goal.invariant-loop-at
invariant-loop-at g l = record {
  places : are_places l.triggers (drop l.at-index l.places) ≡ true;
  lines : (o : _) → g.O.Outputs.Adds l.outputs o (lines_at l.triggers (drop l.at-index l.places)) → g.O.Outputs.Adds l.initial.outputs o (lines_at l.triggers l.places);
}
