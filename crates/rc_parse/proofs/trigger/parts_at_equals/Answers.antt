use Rattle.std.proofs.Common.{ap, ◌∙◌}
use Rattle.std.specs.List.{position}
use Rattle.rc_parse.specs.Triggers.{is_equals_sign}
use Rattle.rc_parse.proofs.Signs.{parts_sliced}
use Rattle.rc_parse.proofs.trigger.parts_at_equals.Goals as goal

pub returns : goal.returns
returns c =
    parts_sliced c.args.text.now c.in_ok-name.name c.in_ok-value.value _ _ (c.in-Some.ensures ∙ ap (position is_equals_sign) c.bytes.ensures)
    c.in_ok-name.ensures c.len.ensures c.in_ok-value.ensures
