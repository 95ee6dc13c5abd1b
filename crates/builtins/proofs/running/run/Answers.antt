use Rattle.std.proofs.Common.{Ok, Err, refl, sym}
use Rattle.std.proofs.lemmas.Result.{on_ok_weaker}
use Rattle.builtins.proofs.Effects.{could_be, could_not_be, expanded_runs}
use Rattle.builtins.proofs.running.run.Goals as goal

pub returns-in-Ok-clause-done : goal.returns-in-Ok-clause-done
returns-in-Ok-clause-done g c =
    let expanded = c.in_ok-expand_args.ensures in
    let args = c.expand_args.new.args in
    on_ok_weaker c.run_expanded.result
    (expanded_runs g.met.O.Outputs.joins c.args.parts.now c.run_expanded.new.parts c.expand_args.new.store c.args.command args (Ok args) expanded.same expanded.told refl
    (could_be c.in_ok-expand_args.field-0 c.in-Ok.field-0 _ args c.args.command.args c.in-Ok.is expanded.expanded))
    c.run_expanded.ensures.done

pub returns-in-Err-clause-done : goal.returns-in-Err-clause-done
returns-in-Err-clause-done g c =
    let expanded = c.in_ok-expand_args.ensures in
    let args = c.expand_args.new.args in
    let could_not = could_not_be c.in_ok-expand_args.field-0 c.in-Err.why _ args c.args.command.args c.in-Err.is expanded.expanded in
    on_ok_weaker c.refuse.result
    (expanded_runs g.met.O.Outputs.joins c.args.parts.now c.refuse.new.parts c.expand_args.new.store c.args.command args (Err c.in-Err.why) expanded.same expanded.told
    (sym could_not.1) could_not.0)
    c.refuse.ensures.done
