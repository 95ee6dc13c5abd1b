use Rattle.std.proofs.Common.{subst}
use Rattle.std.specs.Prelude.{IfErr}
use Rattle.init_base.specs.Faults.{Counted}
use Rattle.rc_import.proofs.Outcomes.{err_is}
use Rattle.job_reader.specs.Check.{IsCheckStatus}
use Rattle.job_reader.specs.Stops.{IsOfTree, has_read_fault, is_read_fault, status_of}
use Rattle.job_reader.specs.declared.stop.Stop.{Stop}
use Rattle.job_reader.specs.declared.stop.Stop.TheVariants as stop
use Rattle.job_reader.specs.Prepared.{GivesTree}
use Rattle.job_reader.proofs.RcFiles.{world_later}
use Rattle.job_reader.proofs.Says.{with_policy}
use Rattle.job_reader.proofs.preparing.read_tree.Goals as goal

-- what a check is refused by is of the tree
of_tree : (why : Stop) → IsCheckStatus (status_of why) → IsOfTree why
of_tree stop.ReadFault is = tt
of_tree stop.NoMemory is = tt
of_tree (stop.BadScript line) is = is
of_tree stop.NoInit is = tt
of_tree (stop.TooLarge limit number) is = is
of_tree (stop.BadPolicy allow line) is = tt
of_tree (stop.BadStore line why) is = is
of_tree stop.BadTrace is = is

pub returns-in_err-loaded-clause-tree : goal.returns-in_err-loaded-clause-tree
returns-in_err-loaded-clause-tree g c = λ world is.
    err_is (GivesTree world) _ _ c.from_residual-in_err-loaded.ensures
    (with_policy world c.in_err-loaded.field-0.0 (_, c.in_ok-policy.ensures.policy world is)
    (c.in_err-loaded.ensures.load world (world_later _ _ world c.in_ok-policy.ensures.tree is)))

pub returns-clause-tree : goal.returns-clause-tree
returns-clause-tree g c = λ world is. record {
  policy = c.in_ok-policy.ensures.policy world is;
  load = c.in_ok-loaded.ensures.load world (world_later _ _ world c.in_ok-policy.ensures.tree is);
}

pub returns-in_err-loaded-clause-kind : goal.returns-in_err-loaded-clause-kind
returns-in_err-loaded-clause-kind g c =
    err_is (λ r. IfErr r IsOfTree) _ _ c.from_residual-in_err-loaded.ensures
    (of_tree c.in_err-loaded.field-0.0 c.in_err-loaded.ensures.kind)

pub returns-in_err-loaded-clause-cause : goal.returns-in_err-loaded-clause-cause
returns-in_err-loaded-clause-cause g c =
    let now = g.F.Files.fault_count c.load.new.files in
    err_is (λ r. Counted (has_read_fault r) (g.F.Files.fault_count c.args.files.now) now) _ _ c.from_residual-in_err-loaded.ensures
    (subst (λ before. Counted (is_read_fault c.in_err-loaded.field-0.0) before now) c.in_ok-policy.ensures.cause c.in_err-loaded.ensures.cause)
