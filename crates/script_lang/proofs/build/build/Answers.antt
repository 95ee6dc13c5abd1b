use Rattle.std.proofs.Common.{sym, ap, subst, ◌∙◌}
use Rattle.script_lang.specs.Building.{built_from}
use Rattle.script_lang.specs.declared.script.Script.{Script}
use Rattle.script_lang.proofs.Builds.{RestFits, built_more}
use Rattle.script_lang.proofs.build.build.Goals as goal

pub loop-said-preserved : goal.loop-said-preserved
loop-said-preserved c =
    let rest = c.next.new.self.rest.items in
    let script = c.loop-said.script in
    let said = c.in-Some.said in
    record {
      left_decides = ap (λ (s : Script). built_from s rest) c.in_ok-add.ensures
          ∙ ap (built_from script) (sym c.in-Some.ensures.steps.0) ∙ c.loop-said.invariant.left_decides;
      rest_fits = subst (λ (s : Script). RestFits s rest) (sym c.in_ok-add.ensures)
          (built_more script said rest (subst (RestFits script) c.in-Some.ensures.steps.0 c.loop-said.invariant.rest_fits));
    }
