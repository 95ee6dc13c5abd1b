use Rattle.job_reader.specs.Prepared.{course_of}
use Rattle.init_forms.proofs.Soaked.{summary_written}
use Rattle.init_forms.proofs.soaking.perform_soak.Goals as goal

pub returns-in-Ok-clause-writes : goal.returns-in-Ok-clause-writes
returns-in-Ok-clause-writes g c =
    summary_written c.args.services (course_of c.args.job) c.in-Ok.tally (g.K.Sink.taken c.args.out.now) (g.K.Sink.taken c.write_counted.new.out) c.write_counted.result.0
    c.in-Ok.ensures.tally c.write_counted.ensures.writes
