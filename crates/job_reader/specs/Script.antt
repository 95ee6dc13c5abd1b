-- What a status says of the script that a source tells.
use Rattle.std.specs.Prelude.{◌≡◌, ℕ, ⊤, All, List, [], Option, Some}
use Rattle.init_machine.specs.declared.limit.Limit.{Limit}
use Rattle.init_machine.specs.declared.limit.Limit.TheVariants as limits
use Rattle.script_lang.specs.Refusal.{IsBadAt, IsTooLarge}
use Rattle.script_lang.specs.Script.{IsScript}
use Rattle.script_lang.specs.Sets.{IsBadOfSetsAt, IsScriptOfSets, IsSetOrMain}
use Rattle.script_lang.specs.declared.script.Script.{Script}
use Rattle.job_reader.specs.declared.grammar.Grammar.{Grammar}
use Rattle.job_reader.specs.declared.grammar.Grammar.TheVariants as grammar
use Rattle.job_reader.specs.declared.status.Status.{Status}
use Rattle.job_reader.specs.declared.status.Status.TheVariants as status

-- the bytes are this script, by a grammar
abbrev pub IsScriptIn : Grammar → List ℕ → Script → Type 0
IsScriptIn grammar.Whole bytes script = IsScript bytes script
IsScriptIn grammar.Sets bytes script = IsScriptOfSets bytes script

-- all acts of the script are permitted by a grammar
abbrev pub ArePermitted : Grammar → Script → Type 0
ArePermitted grammar.Whole script = ⊤
ArePermitted grammar.Sets script = All IsSetOrMain script.acts

-- the bytes are no script by a grammar, and this is the first bad line
abbrev pub IsBadIn : Grammar → List ℕ → ℕ → Type 0
IsBadIn grammar.Whole bytes line = IsBadAt bytes line
IsBadIn grammar.Sets bytes line = IsBadOfSetsAt bytes line

-- the bytes are a script
abbrev pub HasScript : Grammar → List ℕ → Type 0
HasScript g bytes = (script : Script) × IsScriptIn g bytes script

-- the bytes are a script, and nothing is left of them
abbrev pub IsReadWhole : Grammar → List ℕ → Option (List ℕ) → Type 0
IsReadWhole g bytes left = HasScript g bytes × (left ≡ Some [])

-- A limit of scripts is passed. Where another limit is passed, the script was read before.
abbrev pub ScriptLimitSays : Grammar → List ℕ → Option (List ℕ) → Limit → ℕ → Type 0
ScriptLimitSays g bytes left limits.ScriptBytes number = IsTooLarge bytes limits.ScriptBytes number
ScriptLimitSays g bytes left limits.ScriptLines number = IsTooLarge bytes limits.ScriptLines number
ScriptLimitSays g bytes left limits.Steps number = IsTooLarge bytes limits.Steps number
ScriptLimitSays g bytes left limits.FileBytes number = IsReadWhole g bytes left
ScriptLimitSays g bytes left limits.Files number = IsReadWhole g bytes left
ScriptLimitSays g bytes left limits.Names number = IsReadWhole g bytes left
ScriptLimitSays g bytes left limits.RcBytes number = IsReadWhole g bytes left
ScriptLimitSays g bytes left limits.StoreBytes number = IsReadWhole g bytes left
ScriptLimitSays g bytes left limits.TraceBytes number = IsReadWhole g bytes left

-- What a status says of the bytes of a script, and of what is left of them. The script is read before all else, so what
-- comes later says that the bytes are a script.
abbrev pub ScriptSays : Grammar → List ℕ → Option (List ℕ) → Status → Type 0
ScriptSays g bytes left status.Usage = ⊤
ScriptSays g bytes left status.ReadFault = ⊤
ScriptSays g bytes left status.NoMemory = ⊤
ScriptSays g bytes left (status.BadScript line) = IsBadIn g bytes line
ScriptSays g bytes left (status.TooLarge limit number) = ScriptLimitSays g bytes left limit number
ScriptSays g bytes left (status.BadPolicy allow line) = IsReadWhole g bytes left
ScriptSays g bytes left status.NoInit = IsReadWhole g bytes left
ScriptSays g bytes left (status.BadStore line why) = IsReadWhole g bytes left
ScriptSays g bytes left (status.BadWire at) = ⊤
ScriptSays g bytes left status.BadTrace = IsReadWhole g bytes left
ScriptSays g bytes left status.WriteFault = IsReadWhole g bytes left
ScriptSays g bytes left status.Done = IsReadWhole g bytes left
