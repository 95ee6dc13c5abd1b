use Rattle.std.proofs.Common.{◌∙◌, sym, rules}
use Rattle.rc_import.proofs.Slashes.{slash_last, other_last}
use Rattle.rc_import.proofs.path.without_last_slashes.Goals as goal

pub loop-rest-preserved : goal.loop-rest-preserved
loop-rest-preserved c = record {
  kept = slash_last c.loop-rest.rest.now c.in-len1-up.len_at_least (search rules) ∙ c.loop-rest.invariant.kept;
  shorter = search rules;
}

pub returns-then-last-ne47-clause-value : goal.returns-then-last-ne47-clause-value
returns-then-last-ne47-clause-value c = sym (other_last c.loop-rest.rest.now c.in-len1-up.len_at_least (search rules)) ∙ c.loop-rest.invariant.kept
