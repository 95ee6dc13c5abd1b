-- A request among some clients is one among more clients.
use Rattle.std.proofs.Common.{ℕ, ◌≤◌, arith}
use Rattle.script_lang.specs.Laws.{IsAskAmong}
use Rattle.script_lang.specs.declared.script.Act.{Act}
use Rattle.script_lang.specs.declared.script.Act.TheVariants as act

pub among_more : (few many : ℕ) → few ≤ many → (a : Act) → IsAskAmong few a → IsAskAmong many a
among_more few many more (act.Step count) is = tt
among_more few many more (act.Tick ms) is = tt
among_more few many more (act.Exit name status) is = tt
among_more few many more (act.File path content) is = tt
among_more few many more (act.Ask who ask) is = (is.0, omega arith, is.2)
