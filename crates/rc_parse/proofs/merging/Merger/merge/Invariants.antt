use Rattle.std.proofs.Common.{◌≡◌, ◌++◌}
use Rattle.rc_parse.specs.Kept.{agains_behind, merged}
use Rattle.rc_parse.proofs.merging.Merger.merge.Given as goal

-- what is left decides
abbrev pub invariant-loop-service : goal.invariant-loop-service
invariant-loop-service l = record {
  services : merged l.services l.service-iterator.rest.items ≡ merged l.initial.services l.fn.parsed.services;
  diagnostics : l.diagnostics ++ agains_behind l.services l.service-iterator.rest.items ≡ agains_behind l.initial.services l.fn.parsed.services;
}
