use Rattle.std.proofs.Common.{◌∙◌}
use Rattle.init_base.specs.Faults.{Counted}
use Rattle.rc_import.specs.Answers.{IsAnswer, is_read_fault}
use Rattle.rc_import.specs.declared.loaded.LoadRefusal.TheVariants.{NoMemory}
use Rattle.lint_sources.specs.Loads.{loaded}
use Rattle.rc_import.proofs.BuildFiles.{world_viewed}
use Rattle.rc_import.proofs.Outcomes.{err_is, told}
use Rattle.lint_sources.proofs.Loads.{rc_files_loaded}
use Rattle.lint_sources.proofs.loading.load.Goals as goal

pub returns-in_err-behind-clause-load : goal.returns-in_err-behind-clause-load
returns-in_err-behind-clause-load g c = λ world is.
    err_is (λ r. IsAnswer r (loaded world)) _ NoMemory c.from_residual-in_err-behind.ensures tt

pub returns-in_err-behind-clause-cause : goal.returns-in_err-behind-clause-cause
returns-in_err-behind-clause-cause g c =
    err_is (λ r. Counted (is_read_fault r) (g.F.Files.fault_count c.args.files.now) (g.F.Files.fault_count c.load.new.files)) _ NoMemory
    c.from_residual-in_err-behind.ensures (c.in_ok-loaded.ensures.cause ∙ c.in_ok-build_files.ensures.cause)

pub returns-clause-load : goal.returns-clause-load
returns-clause-load g c = λ world is.
    let files = told _ _ world.tree is.tree_is c.in_ok-build_files.ensures.props in
    rc_files_loaded world c.in_ok-build_files.build_files c.in_ok-loaded.loaded c.in_ok-behind.field-0 files c.in_ok-behind.ensures
    (c.in_ok-loaded.ensures.loaded world
    (world_viewed _ _ _ _ world c.in_ok-build_files.ensures.tree c.in_ok-view.ensures files.pairs_are is))
