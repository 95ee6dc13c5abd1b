-- Paths that differ are added in turn.
use Rattle.std.proofs.Common.{arith, fold, sym, ◌∙◌}
use Rattle.std.proofs.lemmas.List.{at_drop_all}
use Rattle.model_kernel.specs.Kernel.{paths_of}
use Rattle.collections.specs.Texts.{with_text}
use Rattle.collections.proofs.Added.{all_added}
use Rattle.model_kernel.proofs.plans.index_paths.Goals as goal

pub returns : goal.returns
returns c =
    let left = at_drop_all (λ rest. fold with_text c.loop-plan.paths (paths_of rest)) c.args.plans.now c.loop-plan.plan-index (omega arith) in
    sym left ∙ c.loop-plan.invariant ∙ all_added (paths_of c.args.plans.now) c.requires
