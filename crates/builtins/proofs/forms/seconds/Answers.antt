use Rattle.builtins.proofs.Seconds.{no_time}
use Rattle.builtins.proofs.forms.seconds.Goals as goal

pub returns-in-None : goal.returns-in-None
returns-in-None c = no_time c.args.text.now c.in-Some.at _ _ c.in-Some.ensures c.in-None.ensures.number
