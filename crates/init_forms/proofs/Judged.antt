-- What is said of the objects once there is a verdict, or a stop of the trace's reader.
use Rattle.std.proofs.Common.{◌≡◌, ℕ, List, [], Option, Result, Ok, Err, ap, subst, inl}
use Rattle.std.specs.Prelude.{IfErr}
use Rattle.init_base.specs.Faults.{Counted}
use Rattle.init_driver.proofs.Keepers.{risks_nothing, risks_then}
use Rattle.init_driver.specs.Keeper.{KeeperView, Took}
use Rattle.job_reader.proofs.Prepared.{no_stop_counts, trace_stop_counts}
use Rattle.job_reader.proofs.Says.{trace_stop_script, trace_stop_store, trace_stop_tree}
use Rattle.job_reader.specs.Counts.{AreCounted, Counts, counts_of}
use Rattle.job_reader.specs.Endings.{IsAuditStatus}
use Rattle.job_reader.specs.Prepared.{IsAsked, WritesText}
use Rattle.job_reader.specs.Script.{IsReadWhole, ScriptSays}
use Rattle.job_reader.specs.Stops.{IsOfTrace, has_read_fault, status_of}
use Rattle.job_reader.specs.Store.{HasStore, StoreSays}
use Rattle.job_reader.specs.Tree.{IsFitFor, TreeSays}
use Rattle.job_reader.specs.Tree.Purpose.{ToRun}
use Rattle.job_reader.specs.declared.grammar.Grammar.TheVariants.{Whole}
use Rattle.job_reader.specs.declared.status.Status.{Status}
use Rattle.job_reader.specs.declared.status.Status.TheVariants as status
use Rattle.job_reader.specs.declared.stop.Stop.{Stop}
use Rattle.job_reader.specs.declared.stop.Stop.TheVariants as stop
use Rattle.rc_import.specs.World.{World}
use Rattle.init_forms.specs.internal.Judging.{ending_of}
use Rattle.init_forms.specs.Top.{IsAsBefore}

pub judged_script : {T : Type 0} (result : Result T Stop) (bytes : List ℕ) (left : Option (List ℕ))
    → IfErr result IsOfTrace → IsReadWhole Whole bytes left → ScriptSays Whole bytes left (ending_of result)
judged_script (Ok value) bytes left last read = read
judged_script (Err why) bytes left last read = trace_stop_script Whole bytes left why last read

pub judged_tree : {T : Type 0} (result : Result T Stop) (world : World)
    → IfErr result IsOfTrace → IsFitFor ToRun world → TreeSays ToRun world (ending_of result)
judged_tree (Ok value) world last fit = fit
judged_tree (Err why) world last fit = trace_stop_tree ToRun world why last fit

pub judged_store : {T : Type 0} (result : Result T Stop) (held : List ℕ)
    → IfErr result IsOfTrace → HasStore held → StoreSays held (ending_of result)
judged_store (Ok value) held last stored = stored
judged_store (Err why) held last stored = trace_stop_store held why last stored

-- what holds where a text was written whole or in part holds of the status of that
pub written_status : (P : Status → Type 0) (text : List ℕ) (old new : Option (List ℕ)) (how : Status)
    → WritesText text old new how → P status.Done → P status.WriteFault → P status.NoMemory → P how
written_status P text old new status.Done writes done fault memory = done
written_status P text old new status.WriteFault writes done fault memory = fault
written_status P text old new status.NoMemory writes done fault memory = memory
written_status P text old new status.ReadFault writes done fault memory = absurd writes
written_status P text old new status.Usage writes done fault memory = absurd writes
written_status P text old new (status.BadScript line) writes done fault memory = absurd writes
written_status P text old new status.NoInit writes done fault memory = absurd writes
written_status P text old new (status.TooLarge limit number) writes done fault memory = absurd writes
written_status P text old new (status.BadPolicy allow line) writes done fault memory = absurd writes
written_status P text old new (status.BadStore line why) writes done fault memory = absurd writes
written_status P text old new (status.BadWire at) writes done fault memory = absurd writes
written_status P text old new status.BadTrace writes done fault memory = absurd writes

-- a keeper that was asked for its text alone
pub asked_alone : {T : Type 0} (result : Result T Stop) (a b : KeeperView) → Took a b [] → b.held ≡ a.held → IsAsked result a b
asked_alone (Ok value) a b took held = took
asked_alone (Err why) a b took held = (held, risks_then a b b [] [] [] took (λ tells. risks_nothing b []))

pub judged_counts : {T : Type 0} (result : Result T Stop) (files files' script script' trace trace' keeper keeper' out : ℕ)
    → counts_of files' script' 0 keeper' 0 ≡ counts_of files script 0 keeper 0 → Counted (has_read_fault result) trace trace'
    → AreCounted (ending_of result) (counts_of files script trace keeper out) (counts_of files' script' trace' keeper' out)
judged_counts (Ok value) files files' script script' trace trace' keeper keeper' out same counted =
    no_stop_counts files files' script script' trace trace' keeper keeper' out same counted
judged_counts (Err why) files files' script script' trace trace' keeper keeper' out same counted =
    trace_stop_counts why files files' script script' trace trace' keeper keeper' out same counted

-- what stands as it was
pub same_as_before : {A : Type 0} (how : Status) (one other : A) (k k' : ℕ) → other ≡ one → IsAsBefore one other how k k'
same_as_before status.Done one other k k' same = tt
same_as_before status.Usage one other k k' same = same
same_as_before status.ReadFault one other k k' same = inl same
same_as_before status.WriteFault one other k k' same = tt
same_as_before status.NoMemory one other k k' same = tt
same_as_before (status.BadScript line) one other k k' same = same
same_as_before status.NoInit one other k k' same = same
same_as_before (status.TooLarge limit number) one other k k' same = same
same_as_before (status.BadPolicy allow line) one other k k' same = same
same_as_before (status.BadStore line why) one other k k' same = same
same_as_before (status.BadWire at) one other k k' same = same
same_as_before status.BadTrace one other k k' same = same

pub stop_of_audit : (why : Stop) → IsAuditStatus (status_of why)
stop_of_audit stop.ReadFault = tt
stop_of_audit stop.NoMemory = tt
stop_of_audit (stop.BadScript line) = tt
stop_of_audit stop.NoInit = tt
stop_of_audit (stop.TooLarge limit number) = tt
stop_of_audit (stop.BadPolicy allow line) = tt
stop_of_audit (stop.BadStore line why) = tt
stop_of_audit stop.BadTrace = tt

pub counts_written : (how : Status) (f f' s s' t t' k k' o o' : ℕ)
    → counts_of f' s' t' k' 0 ≡ counts_of f s t k 0
    → ((files script trace keeper : ℕ) → AreCounted how (counts_of files script trace keeper o) (counts_of files script trace keeper o'))
    → AreCounted how (counts_of f s t k o) (counts_of f' s' t' k' o')
counts_written how f f' s s' t t' k k' o o' same counted =
    let now : Counts = counts_of f' s' t' k' o' in
    let files : f' ≡ f = ap (λ (c : Counts). c.files) same in
    let script : s' ≡ s = ap (λ (c : Counts). c.script) same in
    let trace : t' ≡ t = ap (λ (c : Counts). c.trace) same in
    let keeper : k' ≡ k = ap (λ (c : Counts). c.keeper) same in
    subst (λ x. AreCounted how (counts_of f s t x o) now) keeper
    (subst (λ x. AreCounted how (counts_of f s x k' o) now) trace
    (subst (λ x. AreCounted how (counts_of f x t' k' o) now) script
    (subst (λ x. AreCounted how (counts_of x s' t' k' o) now) files (counted f' s' t' k'))))
