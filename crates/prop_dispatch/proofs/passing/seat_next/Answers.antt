use Rattle.std.proofs.Common.{[], ap, refl, ◌∙◌, rules}
use Rattle.prop_dispatch.specs.internal.Views.{session_view}
use Rattle.prop_dispatch.proofs.Moves.{seats}
use Rattle.prop_dispatch.proofs.Passes.{seated_by}
use Rattle.prop_dispatch.proofs.passing.seat_next.Goals as goal

pub another-theirs-requires-clause-rule : goal.another-theirs-requires-clause-rule
another-theirs-requires-clause-rule c = seats _ _ (ap (λ v. v.gets) c.requires.begun)

pub returns-clause-sender : goal.returns-clause-sender
returns-clause-sender c before each =
    seated_by c.args.line.now before c.args.senders.now.items c.push.new.self.items c.args.session _ c.in_ok-push.ensures.items each (
      search rules,
      c.another-theirs.ensures.rule.1 ∙ ap (λ n. session_view n []) (ap (λ v. v.made) c.requires.begun ∙ search rules),
    ) (search rules) refl
