use Rattle.std.proofs.Common.{sym, ◌∙◌}
use Rattle.script_lang.proofs.Readings.{is_bad_of_sets_at, is_script_of_sets, is_within, only_sets_acts, said_fits}
use Rattle.script_lang.proofs.reader.read_sets.Goals as goal

pub returns-in-Some-clause-refused : goal.returns-in-Some-clause-refused
returns-in-Some-clause-refused c =
    let within = is_within c.args.bytes.now c.in_ok-gathered.gathered c.in_ok-gathered.ensures.gathered in
    is_bad_of_sets_at c.args.bytes.now c.in_ok-gathered.gathered c.in-Some.line within (sym c.in-Some.is ∙ c.in_ok-line.ensures)

pub build-requires : goal.build-requires
build-requires c = said_fits c.in_ok-gathered.gathered (sym c.in_default.is ∙ c.in_ok-line.ensures)

pub returns-clause-script : goal.returns-clause-script
returns-clause-script c =
    let within = is_within c.args.bytes.now c.in_ok-gathered.gathered c.in_ok-gathered.ensures.gathered in
    is_script_of_sets c.args.bytes.now c.in_ok-gathered.gathered c.in_ok-build.field-0 within (sym c.in_default.is ∙ c.in_ok-line.ensures) c.in_ok-build.ensures

pub returns-clause-sets : goal.returns-clause-sets
returns-clause-sets c =
    let within = is_within c.args.bytes.now c.in_ok-gathered.gathered c.in_ok-gathered.ensures.gathered in
    only_sets_acts c.args.bytes.now c.in_ok-gathered.gathered c.in_ok-build.field-0 within (sym c.in_default.is ∙ c.in_ok-line.ensures) c.in_ok-build.ensures
