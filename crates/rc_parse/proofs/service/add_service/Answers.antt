use Rattle.std.proofs.Common.{◌≡◌, true, rules}
use Rattle.std.proofs.lemmas.Result.{on_ok_weaker}
use Rattle.rc_parse.specs.Lines.{arguments}
use Rattle.rc_parse.specs.Services.{is_service_header}
use Rattle.rc_parse.proofs.Services.{service_added}
use Rattle.rc_parse.proofs.service.add_service.Goals as goal

pub returns : goal.returns
returns c =
    let header = c.args.section.header in
    let good : is_service_header (arguments header.words) ≡ true = search rules in
    on_ok_weaker c.push.result
    (λ services_are. service_added c.args.file.now c.args.parsed.now header c.args.section.body
    c.in_ok-service.service c.set_options.new.service c.push.new.self c.set_options.new.diagnostics
    c.requires.other c.requires.service good (search rules) c.in_ok-set_options.ensures.service services_are
    c.in_ok-set_options.ensures.diagnostics)
    c.push.ensures.ok
