use Rattle.std.proofs.Common.{ap}
use Rattle.rc_parse.specs.declared.skimmed.Skimmed.{Skimmed}
use Rattle.rc_import.proofs.known.NamesGathers.read.Goals as goal

pub returns-clause-imports : goal.returns-clause-imports
returns-clause-imports c = λ parsed reads. ap (λ (s : Skimmed). s.imports) (c.in_ok-services.ensures parsed reads)
