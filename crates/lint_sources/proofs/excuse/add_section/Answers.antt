use Rattle.std.proofs.Common.{sym, ◌∙◌}
use Rattle.lint_sources.proofs.Bodies.{in_action, in_service}
use Rattle.rc_import.proofs.Outcomes.{on_ok}
use Rattle.lint_sources.proofs.excuse.add_section.Goals as goal

pub returns-in_ok-add_header : goal.returns-in_ok-add_header
returns-in_ok-add_header c =
    on_ok _ _ c.add_lines.result c.add_lines.ensures (λ added.
    in_action c.args.allowed.now c.args.header.now c.args.numbers.now c.add_header.new.numbers c.add_lines.new.numbers c.before_header.result c.args.behind.now
    (sym c.is_on.ensures ∙ c.if-is_on.true) c.before_header.ensures c.in_ok-add_header.ensures added)

pub returns-then-is_service : goal.returns-then-is_service
returns-then-is_service c =
    on_ok _ _ c.add_lines-then-is_service.result c.add_lines-then-is_service.ensures (λ added.
    in_service c.args.allowed.now c.args.header.now c.args.numbers.now c.add_lines-then-is_service.new.numbers c.before_header-then-is_service.result c.args.behind.now
    (sym c.is_on.ensures ∙ c.if-is_on.false) (sym c.is_service.ensures ∙ c.if-is_service.true) c.before_header-then-is_service.ensures added)
