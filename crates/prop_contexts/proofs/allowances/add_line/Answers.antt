use Rattle.std.proofs.Common.{◌∙◌}
use Rattle.prop_contexts.proofs.Pairs.{line_added}
use Rattle.prop_contexts.proofs.allowances.add_line.Goals as goal

pub returns : goal.returns
returns c domain label =
    line_added c.args.pairs.now.keys c.insert.new.self.keys (record { domain = c.in_ok-of.field-0; label = c.in_ok-of-2.field-0 }) c.args.line.now domain label
    (c.in_ok-of.ensures ∙ c.bytes.ensures) (c.in_ok-of-2.ensures ∙ c.bytes-2.ensures) c.in_ok-insert.ensures.keys
