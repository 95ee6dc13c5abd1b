use Rattle.std.proofs.Common.{◌≡◌, ◌∙◌, IfOk, IsOkAnd, Result, Ok, Err, ap}
use Rattle.std.proofs.lemmas.Result.{IfOk-weaker}
use Rattle.clap.specs.Words.{App, app_of, with_subcommand}
use Rattle.clap.specs.declared.builder.command.Command.{Command}
use Rattle.command_line.specs.internal.Command.{audit_app, check_app, dispatch_app, race_app, run_app, soak_app, wire_app}
use Rattle.command_line.proofs.command.command.Goals as goal

-- a form of this shape was added
added : {E : Type 0} (form : Result Command E) (old whole shape : App) → IsOkAnd form (λ f. whole ≡ with_subcommand old (app_of f).top)
    → IfOk form (λ f. app_of f ≡ shape) → whole ≡ with_subcommand old shape.top
added (Ok f) old whole shape h is = h ∙ ap (λ (a : App). with_subcommand old a.top) is
added (Err e) old whole shape h is = absurd h

pub returns : goal.returns
returns c =
    let with_run = added c.two_paths.result (app_of c.bare.result) (app_of c.in_ok-with_run.with_run) run_app c.in_ok-with_run.ensures.ok c.two_paths.ensures.ok in
    let with_race = added c.two_paths-2.result (app_of c.in_ok-with_run.with_run) (app_of c.in_ok-with_race.with_race) race_app c.in_ok-with_race.ensures.ok c.two_paths-2.ensures.ok in
    let with_check = added c.one_path.result (app_of c.in_ok-with_race.with_race) (app_of c.in_ok-with_check.with_check) check_app c.in_ok-with_check.ensures.ok c.one_path.ensures.ok in
    let with_soak = added c.one_path-2.result (app_of c.in_ok-with_check.with_check) (app_of c.in_ok-with_soak.with_soak) soak_app c.in_ok-with_soak.ensures.ok c.one_path-2.ensures.ok in
    let with_wire = added c.two_paths-3.result (app_of c.in_ok-with_soak.with_soak) (app_of c.in_ok-with_wire.with_wire) wire_app c.in_ok-with_wire.ensures.ok c.two_paths-3.ensures.ok in
    let with_dispatch = added c.two_paths-4.result (app_of c.in_ok-with_wire.with_wire) (app_of c.in_ok-with_dispatch.with_dispatch) dispatch_app c.in_ok-with_dispatch.ensures.ok c.two_paths-4.ensures.ok in
    record {
      ok = IfOk-weaker c.with_form-7.result _ _
          (λ whole h. added c.three_paths.result (app_of c.in_ok-with_dispatch.with_dispatch) (app_of whole) audit_app h c.three_paths.ensures.ok
          ∙ ap (λ (a : App). with_subcommand a audit_app.top) (with_dispatch
          ∙ ap (λ (a : App). with_subcommand a dispatch_app.top) (with_wire
          ∙ ap (λ (a : App). with_subcommand a wire_app.top) (with_soak
          ∙ ap (λ (a : App). with_subcommand a soak_app.top) (with_check
          ∙ ap (λ (a : App). with_subcommand a check_app.top) (with_race
          ∙ ap (λ (a : App). with_subcommand a race_app.top) (with_run
          ∙ ap (λ (a : App). with_subcommand a run_app.top) c.bare.ensures)))))))
          c.with_form-7.ensures.ok;
    }
