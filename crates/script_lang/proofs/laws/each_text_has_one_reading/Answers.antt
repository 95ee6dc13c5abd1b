use Rattle.script_lang.proofs.OneReading.{one_script, one_limit, one_line, within_no_limit, script_or_line, some_reading}
use Rattle.script_lang.proofs.laws.each_text_has_one_reading.Goals as goal

pub returns-clause-one_script : goal.returns-clause-one_script
returns-clause-one_script c = one_script

pub returns-clause-one_limit : goal.returns-clause-one_limit
returns-clause-one_limit c = one_limit

pub returns-clause-one_line : goal.returns-clause-one_line
returns-clause-one_line c = one_line

pub returns-clause-script_within : goal.returns-clause-script_within
returns-clause-script_within c bytes script limit number is = within_no_limit bytes limit number is.within

pub returns-clause-line_within : goal.returns-clause-line_within
returns-clause-line_within c bytes line limit number bad = within_no_limit bytes limit number bad.within

pub returns-clause-script_or_line : goal.returns-clause-script_or_line
returns-clause-script_or_line c = script_or_line

pub returns-clause-one_of_three : goal.returns-clause-one_of_three
returns-clause-one_of_three c = some_reading
