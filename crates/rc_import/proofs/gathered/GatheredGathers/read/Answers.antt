use Rattle.std.proofs.Common.{ap, ◌++◌, ◌∙◌}
use Rattle.rc_parse.specs.Kept.{agains_behind}
use Rattle.rc_parse.specs.declared.parsed.Parsed.{Parsed}
use Rattle.rc_import.proofs.OneFile.{gathered_one}
use Rattle.rc_import.proofs.gathered.GatheredGathers.read.Goals as goal

pub returns-clause-gathered : goal.returns-clause-gathered
returns-clause-gathered c = λ actions services parsed held reads.
    gathered_one c.args.self c.in_ok-with_file.field-0.0 c.in_ok-parsed.parsed parsed actions services
    (c.one_meaning.ensures c.args.path.now c.args.content.now c.in_ok-parsed.parsed parsed c.in_ok-parsed.ensures.reads reads)
    c.in_ok-with_file.ensures.actions c.in_ok-with_file.ensures.services held

pub returns-clause-imports : goal.returns-clause-imports
returns-clause-imports c = λ parsed reads.
    c.in_ok-with_file.ensures.imports
    ∙ ap (λ (p : Parsed). p.imports) (c.one_meaning.ensures c.args.path.now c.args.content.now c.in_ok-parsed.parsed parsed c.in_ok-parsed.ensures.reads reads)

pub returns-clause-diagnostics : goal.returns-clause-diagnostics
returns-clause-diagnostics c = λ actions services parsed held reads.
    c.in_ok-with_file.ensures.diagnostics services held.1
    ∙ ap (λ (p : Parsed). c.args.diagnostics.now ++ (p.diagnostics ++ agains_behind services p.services))
    (c.one_meaning.ensures c.args.path.now c.args.content.now c.in_ok-parsed.parsed parsed c.in_ok-parsed.ensures.reads reads)
