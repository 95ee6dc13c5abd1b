use Rattle.script_lang.proofs.Spellings.{statement_read, statement_written}
use Rattle.script_lang.proofs.laws.statements_are_written_in_one_way.Goals as goal

pub returns-clause-read : goal.returns-clause-read
returns-clause-read c = statement_read

pub returns-clause-written : goal.returns-clause-written
returns-clause-written c = statement_written
