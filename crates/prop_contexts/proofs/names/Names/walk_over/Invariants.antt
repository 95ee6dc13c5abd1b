-- Of the fronts so far, no longer one has a line.
use Rattle.std.proofs.Common.{◌≡◌, ◌≤◌, take}
use Rattle.prop_contexts.specs.Digests.{digest_of}
use Rattle.prop_contexts.proofs.Digests.{IsLongest, IsNone}
use Rattle.prop_contexts.proofs.names.Names.walk_over.Given as goal

abbrev pub invariant-loop-at : goal.invariant-loop-at
invariant-loop-at l = record {
  digest : l.digest ≡ digest_of (take l.at l.name);
  within : l.front.len ≤ l.at;
  longest : IsLongest l.self l.name l.front.len l.at;
  none : IsNone l.self l.front;
}
