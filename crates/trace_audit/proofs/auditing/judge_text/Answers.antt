use Rattle.trace_reader.specs.Pieces.{left_of}
use Rattle.trace_reader.proofs.Frames.{answer}
use Rattle.trace_audit.proofs.Texts.{none_of_text, says_of_text}
use Rattle.trace_audit.proofs.auditing.judge_text.Goals as goal

pub returns-in_default : goal.returns-in_default
returns-in_default c = λ o taken report is. none_of_text c.args.text.now c.in_default.ensures.all report is

pub returns : goal.returns
returns c = λ o taken.
    let left = left_of c.in-Some.pieces in
    says_of_text o c.args.diagnostics.now c.args.script.now c.args.text.now left c.judge_pieces.result (answer c.args.text.now left c.in-Some.ensures.all)
    (c.judge_pieces.ensures o taken)
