use Rattle.std.proofs.Common.{sym, ◌∙◌}
use Rattle.script_lang.proofs.Readings.{is_bad_at, is_script, is_within}
use Rattle.script_lang.proofs.reader.read.Goals as goal

pub returns-in-Some-clause-refused : goal.returns-in-Some-clause-refused
returns-in-Some-clause-refused c =
    let within = is_within c.args.bytes.now c.in_ok-gathered.gathered c.in_ok-gathered.ensures.gathered in
    is_bad_at c.args.bytes.now c.in_ok-gathered.gathered c.in-Some.line within (sym c.in-Some.is ∙ c.in_ok-line.ensures)

pub returns-clause-script : goal.returns-clause-script
returns-clause-script c =
    let within = is_within c.args.bytes.now c.in_ok-gathered.gathered c.in_ok-gathered.ensures.gathered in
    is_script c.args.bytes.now c.in_ok-gathered.gathered c.in_ok-build.field-0 within (sym c.in_default.is ∙ c.in_ok-line.ensures) c.in_ok-build.ensures
