-- The first moments are those that are due.
use Rattle.std.proofs.Common.{ap, ◌∙◌, eqb}
use Rattle.std.specs.List.{list_any}
use Rattle.collections.specs.Moments.{is_due}
use Rattle.collections.proofs.Ascending.{none_ascend}
use Rattle.collections.proofs.Held.{due_first}
use Rattle.collections.proofs.agenda.Agenda.due.Goals as goal

pub returns-clause-numbers : goal.returns-clause-numbers
returns-clause-numbers c = λ n.
    c.in_ok-numbers.ensures.numbers n ∙ ap (list_any (eqb n)) c.in_ok-first.ensures.numbers
    ∙ due_first c.args.now n c.self.inside.moments.keys c.in_ok-first.ensures.ordered
    ∙ ap (is_due c.args.now n) c.self.view_is

pub returns-then-is_free-clause-ascending : goal.returns-then-is_free-clause-ascending
returns-then-is_free-clause-ascending c = none_ascend c.new.result c.new.ensures
