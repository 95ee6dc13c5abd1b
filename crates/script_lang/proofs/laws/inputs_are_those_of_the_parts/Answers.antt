use Rattle.script_lang.proofs.InputParts.{main_part, client_part}
use Rattle.script_lang.proofs.laws.inputs_are_those_of_the_parts.Goals as goal

pub returns-clause-main : goal.returns-clause-main
returns-clause-main c = main_part

pub returns-clause-sets : goal.returns-clause-sets
returns-clause-sets c = client_part
