use Rattle.std.proofs.Common.{◌≡◌, ◌++◌, IsTrue, length}
use Rattle.std.specs.List.{flat_map, list_all}
use Rattle.init_base.specs.Quoted.{is_byte, quoted_byte}
use Rattle.init_base.proofs.q_form.spelled.Given as goal

abbrev pub invariant-loop-rest : goal.invariant-loop-rest
invariant-loop-rest l = record {
  there : l.word ≡ flat_map quoted_byte l.bytes.items ++ l.rest;
  all : IsTrue (list_all is_byte l.bytes.items);
}

abbrev pub decreases-loop-rest : goal.decreases-loop-rest
decreases-loop-rest l = length l.rest
