use Rattle.std.proofs.Common.{ℕ, List, Ok, subst}
use Rattle.std.specs.Prelude.{IfOk}
use Rattle.job_reader.specs.Prepared.{course_of}
use Rattle.job_reader.specs.Stops.{GivesTrace}
use Rattle.job_reader.specs.Trace.{TraceSays}
use Rattle.rc_import.proofs.Outcomes.{if_told, told as told_of}
use Rattle.init_forms.specs.internal.Judging.{JudgesText, ending_of}
use Rattle.init_forms.specs.Verdict.{IsVerdictOn}
use Rattle.init_forms.proofs.TextJudged.{judged_last, judged_said, judged_trace}
use Rattle.init_forms.proofs.auditing.judge_trace.Goals as goal

pub returns-in-Ok-clause-trace : goal.returns-in-Ok-clause-trace
returns-in-Ok-clause-trace g c =
    let course = course_of c.args.job in
    let text = c.in-Ok.text in
    let left = g.T.Source.left c.read_trace.new.source in
    let judged = subst (λ (t : List ℕ). JudgesText course t c.judge_text.result) c.bytes.ensures c.judge_text.ensures in
    if_told (λ (bytes : List ℕ). TraceSays bytes left (ending_of c.judge_text.result)) (g.T.Source.left c.args.trace.now)
    (λ bytes is. judged_trace course bytes text left c.judge_text.result
    (told_of (λ (b : List ℕ). GivesTrace b left (Ok text)) (g.T.Source.left c.args.trace.now) bytes is c.in-Ok.ensures.trace) judged)

pub returns-in-Ok-clause-said : goal.returns-in-Ok-clause-said
returns-in-Ok-clause-said g c =
    let course = course_of c.args.job in
    let text = c.in-Ok.text in
    let left = g.T.Source.left c.read_trace.new.source in
    let judged = subst (λ (t : List ℕ). JudgesText course t c.judge_text.result) c.bytes.ensures c.judge_text.ensures in
    if_told (λ (bytes : List ℕ). IfOk c.judge_text.result (IsVerdictOn course bytes)) (g.T.Source.left c.args.trace.now)
    (λ bytes is. judged_said course bytes text left c.judge_text.result
    (told_of (λ (b : List ℕ). GivesTrace b left (Ok text)) (g.T.Source.left c.args.trace.now) bytes is c.in-Ok.ensures.trace) judged)

pub returns-in-Ok-clause-last : goal.returns-in-Ok-clause-last
returns-in-Ok-clause-last g c = judged_last (course_of c.args.job) c.bytes.result.now c.judge_text.result c.judge_text.ensures

pub returns-in-Err-clause-said : goal.returns-in-Err-clause-said
returns-in-Err-clause-said g c = if_told _ _ (λ bytes is. tt)
