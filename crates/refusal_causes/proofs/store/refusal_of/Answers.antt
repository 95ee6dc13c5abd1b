use Rattle.persist_file.specs.Store.{IsStore}
use Rattle.refusal_causes.proofs.StoreFaults.{refused_or_not}
use Rattle.refusal_causes.proofs.store.refusal_of.Goals as goal

pub returns : goal.returns
returns c =
    refused_or_not c.args.bytes.now c.read.result c.err.result (λ pairs. IsStore c.args.bytes.now pairs) c.err.ensures.value c.read.ensures.store
    (λ pairs is number why. c.each_text_has_one_reading.ensures.not_both c.args.bytes.now pairs number why is) c.read.ensures.refused
