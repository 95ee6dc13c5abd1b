use Rattle.std.proofs.Common.{◌≡◌, ℕ, List, ◌++◌, take}
use Rattle.std.specs.List.{list_any}
use Rattle.init_machine.specs.Matches.{tests}
use Rattle.action_queue.specs.ByName.{places_of}
use Rattle.action_queue.specs.Index.{place_if}
use Rattle.action_queue.proofs.index.add_tests.Given as goal

abbrev pub invariant-loop-test : goal.invariant-loop-test
invariant-loop-test l =
    (name : List ℕ) → places_of l.places name ≡ places_of l.initial.places name ++ place_if (list_any (tests name) (take l.test-index l.props)) l.at
