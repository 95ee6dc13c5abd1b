use Rattle.std.proofs.Common.{refl, ◌∙◌, rules}
use Rattle.init_base.specs.Faults.{Counted}
use Rattle.rc_import.proofs.BuildFiles.{world_viewed}
use Rattle.rc_import.proofs.Outcomes.{err_is, told}
use Rattle.job_reader.specs.Stops.{GivesDiagnostics, has_read_fault}
use Rattle.job_reader.specs.declared.stop.Stop.TheVariants.{NoMemory}
use Rattle.job_reader.proofs.RcFiles.{told_alone, untold}
use Rattle.job_reader.proofs.loading.diagnose.Goals as goal

pub returns-in_err-found-clause-diagnostics : goal.returns-in_err-found-clause-diagnostics
returns-in_err-found-clause-diagnostics g c = λ world is.
    let files = told _ _ world.tree is.tree_is c.in_ok-pairs.ensures.props in
    err_is (GivesDiagnostics world) _ _ c.from_residual-in_err-found.ensures
    (untold world c.in_err-found.field-0.0 files.short
    (c.in_err-found.ensures.diagnostics world
    (world_viewed _ _ _ _ world c.in_ok-pairs.ensures.tree c.in_ok-view.ensures files.pairs_are is)))

pub returns-in_err-append-clause-diagnostics : goal.returns-in_err-append-clause-diagnostics
returns-in_err-append-clause-diagnostics g c = λ world is. err_is (GivesDiagnostics world) _ NoMemory c.from_residual-in_err-append.ensures tt

pub returns-in_err-append-clause-cause : goal.returns-in_err-append-clause-cause
returns-in_err-append-clause-cause g c =
    err_is (λ r. Counted (has_read_fault r) (g.F.Files.fault_count c.args.files.now) (g.F.Files.fault_count c.diagnose.new.files)) _ NoMemory
    c.from_residual-in_err-append.ensures (c.in_ok-found.ensures.cause ∙ c.in_ok-pairs.ensures.cause)

pub returns-clause-diagnostics : goal.returns-clause-diagnostics
returns-clause-diagnostics g c = λ world is.
    let files = told _ _ world.tree is.tree_is c.in_ok-pairs.ensures.props in
    told_alone world c.in_ok-pairs.field-0 c.in_ok-found.found c.in_ok-pairs.field-0.diagnostics c.append.new.self files refl (search rules)
    (c.in_ok-found.ensures.diagnostics world
    (world_viewed _ _ _ _ world c.in_ok-pairs.ensures.tree c.in_ok-view.ensures files.pairs_are is))
