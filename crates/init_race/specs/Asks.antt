-- The requests of a script are met in at most one way.
use Rattle.std.specs.Prelude.{ℕ, true, length}
use Rattle.std.specs.Coded.{Π_prop, Unit-prop, le_prop}
use mathlib.Core.Bool.{Bool-set}
use mathlib.Core.HLevel.{×₃_prop}
use Rattle.init_base.specs.Name.{is_legal_name}
use Rattle.init_driver.specs.Run.{AsksAreMet}
use Rattle.script_lang.specs.Laws.{IsAskAmong, ReadsLegal}
use Rattle.script_lang.specs.declared.script.Act.{Act}
use Rattle.script_lang.specs.declared.script.Act.TheVariants as act
use Rattle.script_lang.specs.declared.script.Ask.{Ask}
use Rattle.script_lang.specs.declared.script.Ask.TheVariants as ask
use Rattle.script_lang.specs.declared.script.Script.{Script}

reads-prop : (one : Ask) → IsProp (ReadsLegal one)
reads-prop (ask.Set pair) = Unit-prop
reads-prop (ask.Read name) = Bool-set (is_legal_name name) true
reads-prop ask.Sync = Unit-prop
reads-prop ask.Catch = Unit-prop

among-prop : (clients : ℕ) (one : Act) → IsProp (IsAskAmong clients one)
among-prop clients (act.Step count) = Unit-prop
among-prop clients (act.Tick ms) = Unit-prop
among-prop clients (act.Exit name status) = Unit-prop
among-prop clients (act.File path content) = Unit-prop
among-prop clients (act.Ask who one) = ×₃_prop le_prop le_prop (reads-prop one)

pub asks-prop : (script : Script) → IsProp (AsksAreMet script)
asks-prop script = Π_prop (λ k. Π_prop (λ d. Π_prop (λ within. among-prop (length script.clients) _)))
