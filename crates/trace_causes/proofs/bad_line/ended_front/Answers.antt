use Rattle.std.proofs.Common.{List, [], ◌∷◌, ◌++◌, ◌-◌, ℕ, ap, ◌∙◌, arith}
use Rattle.init_base.specs.Lines.{lines_of}
use Rattle.trace_causes.specs.Lines.{front}
use Rattle.trace_causes.proofs.Fronts.{front_step}
use Rattle.trace_causes.proofs.bad_line.ended_front.Goals as goal

pub loop-left-preserved : goal.loop-left-preserved
loop-left-preserved c =
    let line = c.first_line.result.0.now in
    let behind = lines_of c.first_line.result.1.now in
    ap (λ (t : List ℕ). t ++ front behind (c.loop-left.left - 1))
    (c.in_ok-push.ensures.items ∙ ap (λ (t : List ℕ). t ++ 10 ∷ []) c.in_ok-extend_from_slice.ensures.items)
    ∙ front_step c.loop-left.page.items line (lines_of c.loop-left.rest.now) behind c.loop-left.left (omega arith) c.first_line.ensures.line
    ∙ c.loop-left.invariant
