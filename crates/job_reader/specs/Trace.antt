-- What a status says of the trace that a source tells.
use Rattle.std.specs.Prelude.{◌≡◌, ℕ, ◌<◌, ◌≤◌, ⊤, List, [], length, Option, Some}
use Rattle.init_machine.specs.declared.limit.Limit.{Limit}
use Rattle.init_machine.specs.declared.limit.Limit.TheVariants as limits
use Rattle.init_machine.specs.declared.report.Report.{Report}
use Rattle.trace_reader.specs.Reports.{IsTextOf}
use Rattle.job_reader.specs.declared.status.Status.{Status}
use Rattle.job_reader.specs.declared.status.Status.TheVariants as status

-- the bytes are within the limit, and are the text of this report
pub record IsTraceOf (bytes : List ℕ) (report : Report) : Type 0 where
  pub short : length bytes ≤ 67108864
  pub text : IsTextOf bytes report

-- the bytes are a trace
abbrev pub HasTrace : List ℕ → Type 0
HasTrace bytes = (report : Report) × IsTraceOf bytes report

-- the bytes are within the limit, and are no report's text
pub record IsNoTrace (bytes : List ℕ) : Type 0 where
  pub short : length bytes ≤ 67108864
  pub none : (report : Report) → ¬ IsTextOf bytes report

-- the bytes are longer than the limit, and this is the number that is answered: one byte more
abbrev pub IsTraceTooLarge : List ℕ → ℕ → Type 0
IsTraceTooLarge bytes number = (67108864 < length bytes) × (number ≡ 67108865)

-- the bytes are a trace, and nothing is left of them
abbrev pub IsTraceReadWhole : List ℕ → Option (List ℕ) → Type 0
IsTraceReadWhole bytes left = HasTrace bytes × (left ≡ Some [])

-- The limit of a trace is passed. Where another limit is passed, the trace wasn't read yet.
abbrev pub TraceLimitSays : List ℕ → Limit → ℕ → Type 0
TraceLimitSays bytes limits.TraceBytes number = IsTraceTooLarge bytes number
TraceLimitSays bytes limits.ScriptBytes number = ⊤
TraceLimitSays bytes limits.ScriptLines number = ⊤
TraceLimitSays bytes limits.Steps number = ⊤
TraceLimitSays bytes limits.FileBytes number = ⊤
TraceLimitSays bytes limits.Files number = ⊤
TraceLimitSays bytes limits.Names number = ⊤
TraceLimitSays bytes limits.RcBytes number = ⊤
TraceLimitSays bytes limits.StoreBytes number = ⊤

-- What a status says of the bytes of a trace, and of what is left of them. The trace is read after all else, so the other
-- refusals say nothing of it, and what an audit writes says that the bytes are a trace.
abbrev pub TraceSays : List ℕ → Option (List ℕ) → Status → Type 0
TraceSays bytes left status.Usage = ⊤
TraceSays bytes left status.ReadFault = ⊤
TraceSays bytes left status.NoMemory = ⊤
TraceSays bytes left (status.BadScript line) = ⊤
TraceSays bytes left (status.BadPolicy allow line) = ⊤
TraceSays bytes left status.NoInit = ⊤
TraceSays bytes left (status.TooLarge limit number) = TraceLimitSays bytes limit number
TraceSays bytes left (status.BadStore line why) = ⊤
TraceSays bytes left (status.BadWire at) = ⊤
TraceSays bytes left status.BadTrace = IsNoTrace bytes
TraceSays bytes left status.WriteFault = IsTraceReadWhole bytes left
TraceSays bytes left status.Done = IsTraceReadWhole bytes left
