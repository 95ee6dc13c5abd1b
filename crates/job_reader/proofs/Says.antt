-- What the stops of one reader say of the objects of the others.
use Rattle.std.proofs.Common.{ℕ, List, Option, inl, inr}
use Rattle.init_machine.specs.declared.limit.Limit.{Limit}
use Rattle.init_machine.specs.declared.limit.Limit.TheVariants as limits
use Rattle.rc_import.specs.World.{World}
use Rattle.job_reader.specs.Check.{IsCheckStatus, IsTreeLimit}
use Rattle.job_reader.specs.Policy.{HasPolicy}
use Rattle.job_reader.specs.Script.{IsReadWhole, ScriptLimitSays, ScriptSays}
use Rattle.job_reader.specs.Endings.{IsRunLimit, IsRunStatus}
use Rattle.job_reader.specs.Stops.{IsOfScript, IsOfStore, IsOfTrace, IsOfTree, IsScriptLimit, IsStoreLimit, IsTraceLimit, status_of}
use Rattle.job_reader.specs.Store.{HasStore, StoreLimitSays, StoreSays}
use Rattle.job_reader.specs.Trace.{TraceLimitSays, TraceSays}
use Rattle.job_reader.specs.Tree.{AreRcFilesTooLarge, HasNoRoot, IsFitFor, IsTreeTooLarge, Purpose, TreeLimitSays, TreeSays}
use Rattle.job_reader.specs.Tree.Purpose.{ToRun, ToCheck}
use Rattle.job_reader.specs.declared.grammar.Grammar.{Grammar}
use Rattle.job_reader.specs.declared.stop.Stop.{Stop}
use Rattle.job_reader.specs.declared.stop.Stop.TheVariants as stop

-- ---- the script's

script_limit_tree : (purpose : Purpose) (world : World) (limit : Limit) (number : ℕ) → IsScriptLimit limit → TreeLimitSays purpose world limit number
script_limit_tree purpose world limits.ScriptBytes number is = tt
script_limit_tree purpose world limits.ScriptLines number is = tt
script_limit_tree purpose world limits.Steps number is = tt
script_limit_tree purpose world limits.FileBytes number is = absurd is
script_limit_tree purpose world limits.Files number is = absurd is
script_limit_tree purpose world limits.Names number is = absurd is
script_limit_tree purpose world limits.RcBytes number is = absurd is
script_limit_tree purpose world limits.StoreBytes number is = absurd is
script_limit_tree purpose world limits.TraceBytes number is = absurd is

pub script_stop_tree : (purpose : Purpose) (world : World) (why : Stop) → IsOfScript why → TreeSays purpose world (status_of why)
script_stop_tree purpose world stop.ReadFault is = tt
script_stop_tree purpose world stop.NoMemory is = tt
script_stop_tree purpose world (stop.BadScript line) is = tt
script_stop_tree purpose world stop.NoInit is = absurd is
script_stop_tree purpose world (stop.TooLarge limit number) is = script_limit_tree purpose world limit number is
script_stop_tree purpose world (stop.BadPolicy allow line) is = absurd is
script_stop_tree purpose world (stop.BadStore line why) is = absurd is
script_stop_tree purpose world stop.BadTrace is = absurd is

script_limit_store : (held : List ℕ) (limit : Limit) (number : ℕ) → IsScriptLimit limit → StoreLimitSays held limit number
script_limit_store held limits.ScriptBytes number is = tt
script_limit_store held limits.ScriptLines number is = tt
script_limit_store held limits.Steps number is = tt
script_limit_store held limits.FileBytes number is = absurd is
script_limit_store held limits.Files number is = absurd is
script_limit_store held limits.Names number is = absurd is
script_limit_store held limits.RcBytes number is = absurd is
script_limit_store held limits.StoreBytes number is = absurd is
script_limit_store held limits.TraceBytes number is = absurd is

pub script_stop_store : (held : List ℕ) (why : Stop) → IsOfScript why → StoreSays held (status_of why)
script_stop_store held stop.ReadFault is = tt
script_stop_store held stop.NoMemory is = tt
script_stop_store held (stop.BadScript line) is = tt
script_stop_store held stop.NoInit is = absurd is
script_stop_store held (stop.TooLarge limit number) is = script_limit_store held limit number is
script_stop_store held (stop.BadPolicy allow line) is = absurd is
script_stop_store held (stop.BadStore line why) is = absurd is
script_stop_store held stop.BadTrace is = absurd is

-- ---- the tree's

pub of_check : (why : Stop) → IsCheckStatus (status_of why) → IsOfTree why
of_check stop.ReadFault is = tt
of_check stop.NoMemory is = tt
of_check (stop.BadScript line) is = absurd is
of_check stop.NoInit is = tt
of_check (stop.TooLarge limit number) is = is
of_check (stop.BadPolicy allow line) is = tt
of_check (stop.BadStore line why) is = absurd is
of_check stop.BadTrace is = absurd is

tree_limit_script : (g : Grammar) (bytes : List ℕ) (left : Option (List ℕ)) (limit : Limit) (number : ℕ)
    → IsTreeLimit limit → IsReadWhole g bytes left → ScriptLimitSays g bytes left limit number
tree_limit_script g bytes left limits.ScriptBytes number is read = absurd is
tree_limit_script g bytes left limits.ScriptLines number is read = absurd is
tree_limit_script g bytes left limits.Steps number is read = absurd is
tree_limit_script g bytes left limits.FileBytes number is read = read
tree_limit_script g bytes left limits.Files number is read = read
tree_limit_script g bytes left limits.Names number is read = read
tree_limit_script g bytes left limits.RcBytes number is read = read
tree_limit_script g bytes left limits.StoreBytes number is read = absurd is
tree_limit_script g bytes left limits.TraceBytes number is read = absurd is

pub tree_stop_script : (g : Grammar) (bytes : List ℕ) (left : Option (List ℕ)) (why : Stop)
    → IsOfTree why → IsReadWhole g bytes left → ScriptSays g bytes left (status_of why)
tree_stop_script g bytes left stop.ReadFault is read = tt
tree_stop_script g bytes left stop.NoMemory is read = tt
tree_stop_script g bytes left (stop.BadScript line) is read = absurd is
tree_stop_script g bytes left stop.NoInit is read = read
tree_stop_script g bytes left (stop.TooLarge limit number) is read = tree_limit_script g bytes left limit number is read
tree_stop_script g bytes left (stop.BadPolicy allow line) is read = read
tree_stop_script g bytes left (stop.BadStore line why) is read = absurd is
tree_stop_script g bytes left stop.BadTrace is read = absurd is

tree_limit_store : (held : List ℕ) (limit : Limit) (number : ℕ) → IsTreeLimit limit → StoreLimitSays held limit number
tree_limit_store held limits.ScriptBytes number is = absurd is
tree_limit_store held limits.ScriptLines number is = absurd is
tree_limit_store held limits.Steps number is = absurd is
tree_limit_store held limits.FileBytes number is = tt
tree_limit_store held limits.Files number is = tt
tree_limit_store held limits.Names number is = tt
tree_limit_store held limits.RcBytes number is = tt
tree_limit_store held limits.StoreBytes number is = absurd is
tree_limit_store held limits.TraceBytes number is = absurd is

pub tree_stop_store : (held : List ℕ) (why : Stop) → IsOfTree why → StoreSays held (status_of why)
tree_stop_store held stop.ReadFault is = tt
tree_stop_store held stop.NoMemory is = tt
tree_stop_store held (stop.BadScript line) is = absurd is
tree_stop_store held stop.NoInit is = tt
tree_stop_store held (stop.TooLarge limit number) is = tree_limit_store held limit number is
tree_stop_store held (stop.BadPolicy allow line) is = tt
tree_stop_store held (stop.BadStore line why) is = absurd is
tree_stop_store held stop.BadTrace is = absurd is

-- ---- the store's

store_limit_script : (g : Grammar) (bytes : List ℕ) (left : Option (List ℕ)) (limit : Limit) (number : ℕ)
    → IsStoreLimit limit → IsReadWhole g bytes left → ScriptLimitSays g bytes left limit number
store_limit_script g bytes left limits.ScriptBytes number is read = absurd is
store_limit_script g bytes left limits.ScriptLines number is read = absurd is
store_limit_script g bytes left limits.Steps number is read = absurd is
store_limit_script g bytes left limits.FileBytes number is read = absurd is
store_limit_script g bytes left limits.Files number is read = absurd is
store_limit_script g bytes left limits.Names number is read = absurd is
store_limit_script g bytes left limits.RcBytes number is read = absurd is
store_limit_script g bytes left limits.StoreBytes number is read = read
store_limit_script g bytes left limits.TraceBytes number is read = absurd is

pub store_stop_script : (g : Grammar) (bytes : List ℕ) (left : Option (List ℕ)) (why : Stop)
    → IsOfStore why → IsReadWhole g bytes left → ScriptSays g bytes left (status_of why)
store_stop_script g bytes left stop.ReadFault is read = tt
store_stop_script g bytes left stop.NoMemory is read = tt
store_stop_script g bytes left (stop.BadScript line) is read = absurd is
store_stop_script g bytes left stop.NoInit is read = absurd is
store_stop_script g bytes left (stop.TooLarge limit number) is read = store_limit_script g bytes left limit number is read
store_stop_script g bytes left (stop.BadPolicy allow line) is read = absurd is
store_stop_script g bytes left (stop.BadStore line why) is read = read
store_stop_script g bytes left stop.BadTrace is read = absurd is

store_limit_tree : (purpose : Purpose) (world : World) (limit : Limit) (number : ℕ)
    → IsStoreLimit limit → IsFitFor purpose world → TreeLimitSays purpose world limit number
store_limit_tree purpose world limits.ScriptBytes number is fit = absurd is
store_limit_tree purpose world limits.ScriptLines number is fit = absurd is
store_limit_tree purpose world limits.Steps number is fit = absurd is
store_limit_tree purpose world limits.FileBytes number is fit = absurd is
store_limit_tree purpose world limits.Files number is fit = absurd is
store_limit_tree purpose world limits.Names number is fit = absurd is
store_limit_tree purpose world limits.RcBytes number is fit = absurd is
store_limit_tree purpose world limits.StoreBytes number is fit = fit
store_limit_tree purpose world limits.TraceBytes number is fit = absurd is

pub store_stop_tree : (purpose : Purpose) (world : World) (why : Stop)
    → IsOfStore why → IsFitFor purpose world → TreeSays purpose world (status_of why)
store_stop_tree purpose world stop.ReadFault is fit = tt
store_stop_tree purpose world stop.NoMemory is fit = tt
store_stop_tree purpose world (stop.BadScript line) is fit = absurd is
store_stop_tree purpose world stop.NoInit is fit = absurd is
store_stop_tree purpose world (stop.TooLarge limit number) is fit = store_limit_tree purpose world limit number is fit
store_stop_tree purpose world (stop.BadPolicy allow line) is fit = absurd is
store_stop_tree purpose world (stop.BadStore line why) is fit = fit
store_stop_tree purpose world stop.BadTrace is fit = absurd is

-- ---- the trace's

trace_limit_script : (g : Grammar) (bytes : List ℕ) (left : Option (List ℕ)) (limit : Limit) (number : ℕ) → IsTraceLimit limit → IsReadWhole g bytes left → ScriptLimitSays g bytes left limit number
trace_limit_script g bytes left limits.ScriptBytes number is read = absurd is
trace_limit_script g bytes left limits.ScriptLines number is read = absurd is
trace_limit_script g bytes left limits.Steps number is read = absurd is
trace_limit_script g bytes left limits.FileBytes number is read = absurd is
trace_limit_script g bytes left limits.Files number is read = absurd is
trace_limit_script g bytes left limits.Names number is read = absurd is
trace_limit_script g bytes left limits.RcBytes number is read = absurd is
trace_limit_script g bytes left limits.StoreBytes number is read = absurd is
trace_limit_script g bytes left limits.TraceBytes number is read = read

pub trace_stop_script : (g : Grammar) (bytes : List ℕ) (left : Option (List ℕ)) (why : Stop) → IsOfTrace why → IsReadWhole g bytes left → ScriptSays g bytes left (status_of why)
trace_stop_script g bytes left stop.ReadFault is read = tt
trace_stop_script g bytes left stop.NoMemory is read = tt
trace_stop_script g bytes left (stop.BadScript line) is read = absurd is
trace_stop_script g bytes left stop.NoInit is read = absurd is
trace_stop_script g bytes left (stop.TooLarge limit number) is read = trace_limit_script g bytes left limit number is read
trace_stop_script g bytes left (stop.BadPolicy allow line) is read = absurd is
trace_stop_script g bytes left (stop.BadStore line why) is read = absurd is
trace_stop_script g bytes left stop.BadTrace is read = read

trace_limit_tree : (purpose : Purpose) (world : World) (limit : Limit) (number : ℕ) → IsTraceLimit limit → IsFitFor purpose world → TreeLimitSays purpose world limit number
trace_limit_tree purpose world limits.ScriptBytes number is fit = absurd is
trace_limit_tree purpose world limits.ScriptLines number is fit = absurd is
trace_limit_tree purpose world limits.Steps number is fit = absurd is
trace_limit_tree purpose world limits.FileBytes number is fit = absurd is
trace_limit_tree purpose world limits.Files number is fit = absurd is
trace_limit_tree purpose world limits.Names number is fit = absurd is
trace_limit_tree purpose world limits.RcBytes number is fit = absurd is
trace_limit_tree purpose world limits.StoreBytes number is fit = absurd is
trace_limit_tree purpose world limits.TraceBytes number is fit = fit

pub trace_stop_tree : (purpose : Purpose) (world : World) (why : Stop) → IsOfTrace why → IsFitFor purpose world → TreeSays purpose world (status_of why)
trace_stop_tree purpose world stop.ReadFault is fit = tt
trace_stop_tree purpose world stop.NoMemory is fit = tt
trace_stop_tree purpose world (stop.BadScript line) is fit = absurd is
trace_stop_tree purpose world stop.NoInit is fit = absurd is
trace_stop_tree purpose world (stop.TooLarge limit number) is fit = trace_limit_tree purpose world limit number is fit
trace_stop_tree purpose world (stop.BadPolicy allow line) is fit = absurd is
trace_stop_tree purpose world (stop.BadStore line why) is fit = absurd is
trace_stop_tree purpose world stop.BadTrace is fit = fit

trace_limit_store : (held : List ℕ) (limit : Limit) (number : ℕ) → IsTraceLimit limit → HasStore held → StoreLimitSays held limit number
trace_limit_store held limits.ScriptBytes number is stored = absurd is
trace_limit_store held limits.ScriptLines number is stored = absurd is
trace_limit_store held limits.Steps number is stored = absurd is
trace_limit_store held limits.FileBytes number is stored = absurd is
trace_limit_store held limits.Files number is stored = absurd is
trace_limit_store held limits.Names number is stored = absurd is
trace_limit_store held limits.RcBytes number is stored = absurd is
trace_limit_store held limits.StoreBytes number is stored = absurd is
trace_limit_store held limits.TraceBytes number is stored = stored

pub trace_stop_store : (held : List ℕ) (why : Stop) → IsOfTrace why → HasStore held → StoreSays held (status_of why)
trace_stop_store held stop.ReadFault is stored = tt
trace_stop_store held stop.NoMemory is stored = tt
trace_stop_store held (stop.BadScript line) is stored = absurd is
trace_stop_store held stop.NoInit is stored = absurd is
trace_stop_store held (stop.TooLarge limit number) is stored = trace_limit_store held limit number is stored
trace_stop_store held (stop.BadPolicy allow line) is stored = absurd is
trace_stop_store held (stop.BadStore line why) is stored = absurd is
trace_stop_store held stop.BadTrace is stored = stored

-- what a run is refused by says nothing of the trace
run_limit_trace : (bytes : List ℕ) (limit : Limit) (number : ℕ) → IsRunLimit limit → TraceLimitSays bytes limit number
run_limit_trace bytes limits.ScriptBytes number is = tt
run_limit_trace bytes limits.ScriptLines number is = tt
run_limit_trace bytes limits.Steps number is = tt
run_limit_trace bytes limits.FileBytes number is = tt
run_limit_trace bytes limits.Files number is = tt
run_limit_trace bytes limits.Names number is = tt
run_limit_trace bytes limits.RcBytes number is = tt
run_limit_trace bytes limits.StoreBytes number is = tt
run_limit_trace bytes limits.TraceBytes number is = absurd is

pub run_stop_trace : (bytes : List ℕ) (left : Option (List ℕ)) (why : Stop) → IsRunStatus (status_of why) → TraceSays bytes left (status_of why)
run_stop_trace bytes left stop.ReadFault is = tt
run_stop_trace bytes left stop.NoMemory is = tt
run_stop_trace bytes left (stop.BadScript line) is = tt
run_stop_trace bytes left stop.NoInit is = tt
run_stop_trace bytes left (stop.TooLarge limit number) is = run_limit_trace bytes limit number is
run_stop_trace bytes left (stop.BadPolicy allow line) is = tt
run_stop_trace bytes left (stop.BadStore line why) is = tt
run_stop_trace bytes left stop.BadTrace is = absurd is

-- ---- which refusals are of a run: those of its script, its tree and its store

script_limit_of_run : (limit : Limit) → IsScriptLimit limit → IsRunLimit limit
script_limit_of_run limits.ScriptBytes is = tt
script_limit_of_run limits.ScriptLines is = tt
script_limit_of_run limits.Steps is = tt
script_limit_of_run limits.FileBytes is = absurd is
script_limit_of_run limits.Files is = absurd is
script_limit_of_run limits.Names is = absurd is
script_limit_of_run limits.RcBytes is = absurd is
script_limit_of_run limits.StoreBytes is = absurd is
script_limit_of_run limits.TraceBytes is = absurd is

pub script_stop_of_run : (why : Stop) → IsOfScript why → IsRunStatus (status_of why)
script_stop_of_run stop.ReadFault is = tt
script_stop_of_run stop.NoMemory is = tt
script_stop_of_run (stop.BadScript line) is = tt
script_stop_of_run stop.NoInit is = absurd is
script_stop_of_run (stop.TooLarge limit number) is = script_limit_of_run limit is
script_stop_of_run (stop.BadPolicy allow line) is = absurd is
script_stop_of_run (stop.BadStore line why) is = absurd is
script_stop_of_run stop.BadTrace is = absurd is

tree_limit_of_run : (limit : Limit) → IsTreeLimit limit → IsRunLimit limit
tree_limit_of_run limits.ScriptBytes is = absurd is
tree_limit_of_run limits.ScriptLines is = absurd is
tree_limit_of_run limits.Steps is = absurd is
tree_limit_of_run limits.FileBytes is = tt
tree_limit_of_run limits.Files is = tt
tree_limit_of_run limits.Names is = tt
tree_limit_of_run limits.RcBytes is = tt
tree_limit_of_run limits.StoreBytes is = absurd is
tree_limit_of_run limits.TraceBytes is = absurd is

pub tree_stop_of_run : (why : Stop) → IsOfTree why → IsRunStatus (status_of why)
tree_stop_of_run stop.ReadFault is = tt
tree_stop_of_run stop.NoMemory is = tt
tree_stop_of_run (stop.BadScript line) is = absurd is
tree_stop_of_run stop.NoInit is = tt
tree_stop_of_run (stop.TooLarge limit number) is = tree_limit_of_run limit is
tree_stop_of_run (stop.BadPolicy allow line) is = tt
tree_stop_of_run (stop.BadStore line why) is = absurd is
tree_stop_of_run stop.BadTrace is = absurd is

store_limit_of_run : (limit : Limit) → IsStoreLimit limit → IsRunLimit limit
store_limit_of_run limits.ScriptBytes is = absurd is
store_limit_of_run limits.ScriptLines is = absurd is
store_limit_of_run limits.Steps is = absurd is
store_limit_of_run limits.FileBytes is = absurd is
store_limit_of_run limits.Files is = absurd is
store_limit_of_run limits.Names is = absurd is
store_limit_of_run limits.RcBytes is = absurd is
store_limit_of_run limits.StoreBytes is = tt
store_limit_of_run limits.TraceBytes is = absurd is

pub store_stop_of_run : (why : Stop) → IsOfStore why → IsRunStatus (status_of why)
store_stop_of_run stop.ReadFault is = tt
store_stop_of_run stop.NoMemory is = tt
store_stop_of_run (stop.BadScript line) is = absurd is
store_stop_of_run stop.NoInit is = absurd is
store_stop_of_run (stop.TooLarge limit number) is = store_limit_of_run limit is
store_stop_of_run (stop.BadPolicy allow line) is = absurd is
store_stop_of_run (stop.BadStore line why) is = tt
store_stop_of_run stop.BadTrace is = absurd is

-- ---- a run's tree: a policy, and else what a check reads

rc_too_large : (world : World) (limit : Limit) (number : ℕ)
    → HasPolicy world.tree → AreRcFilesTooLarge ToCheck world limit number → AreRcFilesTooLarge ToRun world limit number
rc_too_large world limit number policy large = record {
  policy = policy;
  build_files = large.build_files;
  refusal = large.refusal;
  refused = large.refused;
  passes = large.passes;
}

too_large : (world : World) (limit : Limit) (number : ℕ)
    → HasPolicy world.tree → IsTreeTooLarge ToCheck world limit number → IsTreeTooLarge ToRun world limit number
too_large world limit number policy (inl never) = absurd never
too_large world limit number policy (inr (inl build)) = inr (inl (policy, build.1))
too_large world limit number policy (inr (inr rc)) = inr (inr (rc_too_large world limit number policy rc))

limit_with_policy : (world : World) (limit : Limit) (number : ℕ)
    → HasPolicy world.tree → TreeLimitSays ToCheck world limit number → TreeLimitSays ToRun world limit number
limit_with_policy world limits.ScriptBytes number policy says = tt
limit_with_policy world limits.ScriptLines number policy says = tt
limit_with_policy world limits.Steps number policy says = tt
limit_with_policy world limits.FileBytes number policy says = too_large world limits.FileBytes number policy says
limit_with_policy world limits.Files number policy says = too_large world limits.Files number policy says
limit_with_policy world limits.Names number policy says = too_large world limits.Names number policy says
limit_with_policy world limits.RcBytes number policy says = too_large world limits.RcBytes number policy says
limit_with_policy world limits.StoreBytes number policy says = (policy, says.1)
limit_with_policy world limits.TraceBytes number policy says = (policy, says.1)

no_root : (world : World) → HasPolicy world.tree → HasNoRoot ToCheck world → HasNoRoot ToRun world
no_root world policy none = record { policy = policy; build_files = none.build_files; absent = none.absent }

pub with_policy : (world : World) (why : Stop)
    → HasPolicy world.tree → TreeSays ToCheck world (status_of why) → TreeSays ToRun world (status_of why)
with_policy world stop.ReadFault policy says = tt
with_policy world stop.NoMemory policy says = tt
with_policy world (stop.BadScript line) policy says = tt
with_policy world stop.NoInit policy says = no_root world policy says
with_policy world (stop.TooLarge limit number) policy says = limit_with_policy world limit number policy says
with_policy world (stop.BadPolicy allow line) policy says = absurd says
with_policy world (stop.BadStore line why) policy says = (policy, says.1)
with_policy world stop.BadTrace policy says = (policy, says.1)
