-- What the code builds, statement by statement. No promise of the crate cites these definitions.
use Rattle.std.specs.Prelude.{ℕ, List, [], ◌∷◌, ◌++◌}
use Rattle.script_lang.specs.Script.{client_id}
use Rattle.script_lang.specs.declared.script.Act.{Act}
use Rattle.script_lang.specs.declared.script.Act.TheVariants as act
use Rattle.script_lang.specs.declared.script.Script.{Script}
use Rattle.script_lang.specs.declared.statement.Said.{Said}
use Rattle.script_lang.specs.declared.statement.Statement.{Statement}
use Rattle.script_lang.specs.declared.statement.Statement.TheVariants as statement

abbrev pub empty_script : Script
empty_script = record { words = 65536; plans = []; clients = []; acts = []; lines = [] }

abbrev pub with_act : Script → ℕ → Act → Script
with_act script line act = record script { acts = script.acts ++ act ∷ []; lines = script.lines ++ line ∷ [] }

abbrev pub with_statement : Script → ℕ → Statement → Script
with_statement script line (statement.Area size) = record script { words = size }
with_statement script line (statement.Plan plan) = record script { plans = script.plans ++ plan ∷ [] }
with_statement script line (statement.Client client) = record script { clients = script.clients ++ client ∷ [] }
with_statement script line (statement.Step count) = with_act script line (act.Step count)
with_statement script line (statement.Tick ms) = with_act script line (act.Tick ms)
with_statement script line (statement.Exit name status) = with_act script line (act.Exit name status)
with_statement script line (statement.File path content) = with_act script line (act.File path content)
with_statement script line (statement.Ask name ask) = with_act script line (act.Ask (client_id script.clients name) ask)

abbrev pub built_from : Script → List Said → Script
built_from script [] = script
built_from script (said ∷ more) = built_from (with_statement script said.line said.statement) more
