use Rattle.std.proofs.lemmas.Result.{on_ok_weaker}
use Rattle.rc_parse.specs.internal.Adding.{section_of}
use Rattle.rc_parse.specs.Lines.{arguments}
use Rattle.rc_parse.specs.Triggers.{triggers_of}
use Rattle.rc_parse.proofs.Alone.{action_skipped}
use Rattle.rc_parse.proofs.skimming.judge_action.Goals as goal

pub returns-in-Err-Bad : goal.returns-in-Err-Bad
returns-in-Err-Bad c =
    let header = c.args.header.now in
    on_ok_weaker c.diagnose.result
    (action_skipped c.args.file.now (section_of header c.args.lines) (triggers_of (arguments header.words)) c.in-Err-Bad.field-0 c.in-Err-Bad.kind _ c.number.result
    c.args.diagnostics.now c.diagnose.new.diagnostics c.in-Err-Bad.ensures c.in-Err-Bad.field-0-is c.in-Err-Bad.kind-is c.number.ensures)
    c.diagnose.ensures
