use Rattle.std.proofs.Common.{Ok, Err}
use Rattle.job_reader.specs.Prepared.{course_of}
use Rattle.init_forms.proofs.Answered.{one_domain, performs_wire, words_in_range}
use Rattle.init_forms.proofs.serving.serve_job.Goals as goal

pub run_wire-requires-clause-domains : goal.run_wire-requires-clause-domains
run_wire-requires-clause-domains g c = one_domain c.args.job c.requires.fit c.requires.script

pub run_wire-requires-clause-words : goal.run_wire-requires-clause-words
run_wire-requires-clause-words g c = words_in_range c.args.job c.requires.script

pub returns-in-Ok-clause-served : goal.returns-in-Ok-clause-served
returns-in-Ok-clause-served g c = λ bytes is.
    performs_wire (course_of c.args.job).opening bytes (g.K.Sink.taken c.args.out.now) (g.K.Sink.taken c.run_wire.new.to) (Ok c.in-Ok.field-0)
    (c.in-Ok.ensures.answered bytes is)

pub returns-clause-served : goal.returns-clause-served
returns-clause-served g c = λ bytes is.
    rw c.refused.ensures
    (performs_wire (course_of c.args.job).opening bytes (g.K.Sink.taken c.args.out.now) (g.K.Sink.taken c.run_wire.new.to) (Err c.in-Err.refusal)
    (c.in-Err.ensures.answered bytes is))
