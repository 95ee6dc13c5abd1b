use Rattle.job_reader.specs.Tree.Purpose.{ToRun}
use Rattle.job_reader.proofs.Prepared.{setup_of_job, tree_fits}
use Rattle.job_reader.proofs.Says.{store_stop_tree}
use Rattle.job_reader.proofs.WellFormed.{job_is_fit}
use Rattle.job_reader.proofs.preparing.prepare_with.Goals as goal

pub returns-in-Err-read_store-clause-tree : goal.returns-in-Err-read_store-clause-tree
returns-in-Err-read_store-clause-tree g c = λ world is.
    store_stop_tree ToRun world c.in-Err-read_store.why c.in-Err-read_store.ensures.late (tree_fits world _ (c.in-Ok.ensures.tree world is))

pub returns-clause-tree : goal.returns-clause-tree
returns-clause-tree g c = λ world is.
    setup_of_job world _ _ _ _ (c.in-Ok.ensures.tree world is) c.in_ok-job_of.ensures

pub returns-clause-fit : goal.returns-clause-fit
returns-clause-fit g c =
    job_is_fit _ _ _ _ c.in_ok-job_of.ensures c.in-Ok.ensures.well_formed c.requires.conditions c.in-Ok-read_store.ensures.saved
