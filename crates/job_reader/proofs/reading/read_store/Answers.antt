use Rattle.std.specs.Prelude.{IfSome}
use Rattle.persist_file.proofs.Printed.{stored_are_saved}
use Rattle.rc_import.proofs.Outcomes.{err_is}
use Rattle.job_reader.specs.Stops.{GivesStore}
use Rattle.job_reader.proofs.Stores.{read_refused}
use Rattle.job_reader.proofs.reading.read_store.Goals as goal

pub returns-in_ok-read-in-Ok-clause-saved : goal.returns-in_ok-read-in-Ok-clause-saved
returns-in_ok-read-in-Ok-clause-saved g c = stored_are_saved _ _ c.in_ok-read-in-Ok.ensures.store

pub returns-in_err-read-in-Ok-clause-store : goal.returns-in_err-read-in-Ok-clause-store
returns-in_err-read-in-Ok-clause-store g c =
    err_is (λ answer. IfSome (g.P.Keeper.held c.args.keeper.now) (λ held. GivesStore held answer)) _ _ c.from_residual.ensures
    (read_refused _ c.bytes.result.now c.in-Ok.text c.in_err-read-in-Ok.field-0.0 c.bytes.ensures c.in-Ok.ensures.text c.in-Ok.ensures.bound c.in_err-read-in-Ok.ensures.refused)
