use Rattle.rc_parse.proofs.Alone.{named_badly, without_sign}
use Rattle.rc_parse.proofs.trigger.is_bad_test.Goals as goal

pub returns-in-Some : goal.returns-in-Some
returns-in-Some c = named_badly c.args.text.now c.in-Some.place c.is_legal_name.result c.in-Some.ensures c.is_legal_name.ensures

pub returns-in-None : goal.returns-in-None
returns-in-None c = without_sign c.args.text.now c.in-None.ensures
