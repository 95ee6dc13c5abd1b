use Rattle.std.proofs.Common.{None}
use Rattle.job_reader.specs.Counts.{counts_of}
use Rattle.job_reader.specs.Prepared.{course_of}
use Rattle.init_forms.specs.Soaking.{soak_text}
use Rattle.init_forms.proofs.Soaked.{boot_done, boot_performed, boot_refused, no_fault, still_counted, written_done}
use Rattle.init_forms.proofs.soaking.soak_boot.Goals as goal

pub returns-in-Ok-clause-ends : goal.returns-in-Ok-clause-ends
returns-in-Ok-clause-ends g c =
    let boot = c.args.boot.now in
    let ok = c.in-Ok.ensures in
    boot_performed c.args.services boot.files boot.script boot.keeper None c.requires.files c.requires.script c.requires.keeper c.in-Ok.job (g.K.Sink.taken c.args.out.now) (g.K.Sink.taken c.perform_soak.new.out)
    c.perform_soak.result.0 c.perform_soak.result.1 ok.script.0 ok.tree ok.store ok.fit c.perform_soak.ensures.writes c.perform_soak.ensures.seat

pub returns-in-Ok-clause-complete : goal.returns-in-Ok-clause-complete
returns-in-Ok-clause-complete g c = λ can files script trace keeper.
    written_done (soak_text c.args.services (course_of c.in-Ok.job)) (g.K.Sink.taken c.args.out.now) (g.K.Sink.taken c.perform_soak.new.out) c.perform_soak.result.0 _ _
    c.perform_soak.ensures.writes (c.perform_soak.ensures.counts files script trace keeper)

pub returns-in-Err-clause-ends : goal.returns-in-Err-clause-ends
returns-in-Err-clause-ends g c =
    let boot = c.args.boot.now in
    let err = c.in-Err.ensures in
    rw c.status.ensures
    (boot_refused c.args.services boot.files boot.script boot.keeper _ c.requires.files c.requires.script c.requires.keeper c.in-Err.stop (g.K.Sink.taken c.args.out.now)
    (no_fault c.in-Err.stop (err.counts 0 0)) err.kind err.script err.tree err.store)

pub returns-in-Err-clause-complete : goal.returns-in-Err-clause-complete
returns-in-Err-clause-complete g c =
    let boot = c.args.boot.now in
    let err = c.in-Err.ensures in
    let steady = no_fault c.in-Err.stop (err.counts 0 0) in
    rw c.status.ensures
    (λ can files script trace keeper. boot_done c.args.services boot.files boot.script boot.keeper _ c.requires.files c.requires.script c.requires.keeper _ _ _
    err.kind err.script err.tree err.store (still_counted c.in-Err.stop (counts_of files script trace keeper (g.K.Sink.fault_count c.args.out.now)) steady) can)
