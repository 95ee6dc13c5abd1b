use Rattle.init_base.proofs.QForms.{unquoted-quoted, quoted-unquoted, bytes-unquoted}
use Rattle.init_base.proofs.q_form.one_q_form.Goals as goal

pub returns-clause-read : goal.returns-clause-read
returns-clause-read c = unquoted-quoted

pub returns-clause-written : goal.returns-clause-written
returns-clause-written c = quoted-unquoted

pub returns-clause-text : goal.returns-clause-text
returns-clause-text c = bytes-unquoted
