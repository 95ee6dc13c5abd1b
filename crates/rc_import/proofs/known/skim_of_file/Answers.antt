use Rattle.std.proofs.lemmas.Result.{IfOk-weaker}
use Rattle.rc_import.proofs.OneFile.{same_sections}
use Rattle.rc_import.proofs.known.skim_of_file.Goals as goal

pub returns : goal.returns
returns c =
    IfOk-weaker c.skim.result _ _
    (λ skimmed told parsed reads. told parsed (same_sections c.args.path.now c.bytes.result.now c.args.content.now c.in-Ok.tokens parsed c.bytes.ensures c.in-Ok.ensures.only reads))
    c.skim.ensures
