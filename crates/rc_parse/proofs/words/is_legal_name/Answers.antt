use Rattle.std.proofs.Common.{◌∙◌}
use Rattle.rc_parse.proofs.Signs.{some_test}
use Rattle.rc_parse.proofs.words.is_legal_name.Goals as goal

pub returns : goal.returns
returns c = c.is_some.ensures ∙ some_test _ _ c.of.ensures.exact
