use Rattle.std.proofs.Common.{List, ℕ, subst}
use Rattle.std.proofs.lemmas.Result.{on_ok_weaker}
use Rattle.init_machine.specs.declared.task.TreeCall.TheVariants as call
use Rattle.model_fs.specs.Calls.{IsDone, IsRefused}
use Rattle.machine_parts.proofs.Doing.{on_ok_both}
use Rattle.init_core.proofs.Ticks.{writes, writes_not, refused_by}
use Rattle.init_core.proofs.clock.file.Goals as goal

pub returns-in_ok-share-in-Ok-clause-done : goal.returns-in_ok-share-in-Ok-clause-done
returns-in_ok-share-in-Ok-clause-done g c =
    let old = c.args.parts.now in
    let write = subst (λ (path : List ℕ). IsDone old.tree (call.Write path c.in_ok-share.field-0) c.write.new.self) c.bytes.ensures c.in-Ok.ensures.done in
    on_ok_weaker c.push.result
    (writes g.met.O.Outputs.joins old c.write.new.self c.push.new.self c.args.path.now c.args.content.now c.in_ok-share.field-0 c.in_ok-share-in-Ok.field-0 c.in_ok-share.ensures c.in_ok-share-in-Ok.ensures write.0 write.1)
    c.push.ensures

pub returns-in-Err-clause-done : goal.returns-in-Err-clause-done
returns-in-Err-clause-done g c =
    let old = c.args.parts.now in
    let refused = subst (λ (path : List ℕ). IsRefused old.tree (call.Write path c.in_ok-share.field-0) c.write.new.self c.in-Err.kind) c.bytes.ensures c.in-Err.ensures.refused in
    on_ok_both c.add_refusal.result
    (λ line other. writes_not g.met.O.Outputs.joins old c.write.new.self c.add_refusal.new.outputs c.args.path.now c.args.content.now c.in_ok-share.field-0 c.in-Err.kind c.in_ok-share.ensures
    (refused_by _ _ _ c.in-Err.kind other refused) line)
    c.add_refusal.ensures.line c.add_refusal.ensures.other
