-- What is prepared of a run.
use Rattle.std.proofs.Common.{◌≡◌, ◌⊎◌, ℕ, List, [], Option, Some, None, Result, Ok, Err, refl, sym, subst, ap, inl, inr, ◌∙◌}
use Rattle.std.specs.Prelude.{IfErr, IfOk, IfSome}
use Rattle.init_base.specs.Faults.{Counted}
use Rattle.init_machine.specs.declared.config.Pair.{Pair}
use Rattle.rc_import.specs.World.{World}
use Rattle.script_lang.specs.declared.script.Script.{Script}
use Rattle.job_reader.specs.Counts.{AreCounted, Counts, counts_of}
use Rattle.job_reader.specs.Policy.{IsPolicyOf}
use Rattle.job_reader.specs.Endings.{IsRunStatus}
use Rattle.job_reader.specs.Prepared.{ArePrepared, IsJobFor, IsSetupOf, IsTree, ScriptOfJob}
use Rattle.job_reader.specs.Script.{ArePermitted, IsReadWhole, IsScriptIn, ScriptSays}
use Rattle.job_reader.specs.Stops.{GivesScript, IsOfStore, IsOfTree, is_read_fault, status_of}
use Rattle.job_reader.specs.Tree.{IsFitFor}
use Rattle.job_reader.specs.Tree.Purpose.{ToRun}
use Rattle.job_reader.specs.declared.grammar.Grammar.{Grammar}
use Rattle.job_reader.specs.declared.preparing.Job.{Job}
use Rattle.job_reader.specs.declared.preparing.TreeParts.{TreeParts}
use Rattle.job_reader.specs.declared.stop.Stop.{Stop}
use Rattle.job_reader.specs.declared.stop.Stop.TheVariants as stop
use Rattle.job_reader.proofs.Says.{store_stop_of_run, store_stop_script, tree_stop_of_run, tree_stop_script}

pub tree_fits : (world : World) (parts : TreeParts) → IsTree world parts → IsFitFor ToRun world
tree_fits world parts tree = ((parts.policy, tree.policy), (tree.load.short, (tree.load.loaded, tree.load.rc_files)))

pub setup_of_job : (world : World) (script : Script) (parts : TreeParts) (saved : List Pair) (job : Job)
    → IsTree world parts → IsJobFor script parts saved job → IsSetupOf world job.setup
setup_of_job world script parts saved job tree is = record {
  policy = subst (λ p. IsPolicyOf world.tree p) (sym is.policy) tree.policy;
  load = record {
    short = tree.load.short;
    loaded = tree.load.loaded;
    rc_files = tree.load.rc_files;
    actions = is.actions ∙ tree.load.actions;
    services = is.services ∙ tree.load.services;
    pairs = is.pairs ∙ tree.load.pairs;
    diagnostics_are = is.diagnostics ∙ tree.load.diagnostics_are;
  };
}

-- ---- counts

counts : ℕ → ℕ → ℕ → ℕ → ℕ → Counts
counts files script trace keeper out = counts_of files script trace keeper out

same_counts : (files files' script script' trace trace' keeper keeper' out : ℕ) → files' ≡ files → script' ≡ script → trace' ≡ trace → keeper' ≡ keeper
    → counts files' script' trace' keeper' out ≡ counts files script trace keeper out
same_counts files files' script script' trace trace' keeper keeper' out one two three four = cc

-- a stop of the store's reader
pub store_stop_counts : (why : Stop) (files files' script script' trace keeper keeper' out : ℕ) → files' ≡ files → script' ≡ script
    → Counted (is_read_fault why) keeper keeper'
    → AreCounted (status_of why) (counts_of files script trace keeper out) (counts_of files' script' trace keeper' out)
unfolding counts
store_stop_counts stop.ReadFault files files' script script' trace keeper keeper' out one two counted = (inr (inr (inr counted)), refl)
store_stop_counts stop.NoMemory files files' script script' trace keeper keeper' out one two counted =
    same_counts files files' script script' trace trace keeper keeper' out one two refl counted
store_stop_counts (stop.BadScript line) files files' script script' trace keeper keeper' out one two counted =
    same_counts files files' script script' trace trace keeper keeper' out one two refl counted
store_stop_counts stop.NoInit files files' script script' trace keeper keeper' out one two counted =
    same_counts files files' script script' trace trace keeper keeper' out one two refl counted
store_stop_counts (stop.TooLarge limit number) files files' script script' trace keeper keeper' out one two counted =
    same_counts files files' script script' trace trace keeper keeper' out one two refl counted
store_stop_counts (stop.BadPolicy allow line) files files' script script' trace keeper keeper' out one two counted =
    same_counts files files' script script' trace trace keeper keeper' out one two refl counted
store_stop_counts (stop.BadStore line why) files files' script script' trace keeper keeper' out one two counted =
    same_counts files files' script script' trace trace keeper keeper' out one two refl counted
store_stop_counts stop.BadTrace files files' script script' trace keeper keeper' out one two counted =
    same_counts files files' script script' trace trace keeper keeper' out one two refl counted

-- counts that stand still but for that of the trace, and that one does so too
pub no_stop_counts : (files files' script script' trace trace' keeper keeper' out : ℕ)
    → counts_of files' script' 0 keeper' 0 ≡ counts_of files script 0 keeper 0 → trace' ≡ trace
    → counts_of files' script' trace' keeper' out ≡ counts_of files script trace keeper out
unfolding counts
no_stop_counts files files' script script' trace trace' keeper keeper' out same counted =
    same_counts files files' script script' trace trace' keeper keeper' out
    (ap (λ (c : Counts). c.files) same) (ap (λ (c : Counts). c.script) same) counted (ap (λ (c : Counts). c.keeper) same)

-- a stop of the trace's reader
pub trace_stop_counts : (why : Stop) (files files' script script' trace trace' keeper keeper' out : ℕ)
    → counts_of files' script' 0 keeper' 0 ≡ counts_of files script 0 keeper 0 → Counted (is_read_fault why) trace trace'
    → AreCounted (status_of why) (counts_of files script trace keeper out) (counts_of files' script' trace' keeper' out)
trace_stop_counts stop.ReadFault files files' script script' trace trace' keeper keeper' out same counted = (inr (inr (inl counted)), refl)
trace_stop_counts stop.NoMemory files files' script script' trace trace' keeper keeper' out same counted =
    no_stop_counts files files' script script' trace trace' keeper keeper' out same counted
trace_stop_counts (stop.BadScript line) files files' script script' trace trace' keeper keeper' out same counted =
    no_stop_counts files files' script script' trace trace' keeper keeper' out same counted
trace_stop_counts stop.NoInit files files' script script' trace trace' keeper keeper' out same counted =
    no_stop_counts files files' script script' trace trace' keeper keeper' out same counted
trace_stop_counts (stop.TooLarge limit number) files files' script script' trace trace' keeper keeper' out same counted =
    no_stop_counts files files' script script' trace trace' keeper keeper' out same counted
trace_stop_counts (stop.BadPolicy allow line) files files' script script' trace trace' keeper keeper' out same counted =
    no_stop_counts files files' script script' trace trace' keeper keeper' out same counted
trace_stop_counts (stop.BadStore line why) files files' script script' trace trace' keeper keeper' out same counted =
    no_stop_counts files files' script script' trace trace' keeper keeper' out same counted
trace_stop_counts stop.BadTrace files files' script script' trace trace' keeper keeper' out same counted =
    no_stop_counts files files' script script' trace trace' keeper keeper' out same counted

-- ---- with a script that is given

pub prepared_script : {T : Type 0} (result : Result T Stop) (files files' script script' trace keeper keeper' out : ℕ) → script' ≡ script
    → ((script trace out : ℕ) → ArePrepared result (counts_of files script trace keeper out) (counts_of files' script trace keeper' out))
    → ArePrepared result (counts_of files script trace keeper out) (counts_of files' script' trace keeper' out)
prepared_script result files files' script script' trace keeper keeper' out same counted =
    subst (λ x. ArePrepared result (counts_of files x trace keeper out) (counts_of files' script' trace keeper' out)) same (counted script' trace out)

rest_stop_script : (g : Grammar) (bytes : List ℕ) (left : Option (List ℕ)) (why : Stop) → IsOfTree why ⊎ IsOfStore why → IsReadWhole g bytes left
    → ScriptSays g bytes left (status_of why)
rest_stop_script g bytes left why (inl tree) read = tree_stop_script g bytes left why tree read
rest_stop_script g bytes left why (inr store) read = store_stop_script g bytes left why store read

pub rest_of_run : {T : Type 0} (result : Result T Stop) → IfErr result (λ why. IsOfTree why ⊎ IsOfStore why) → IfErr result (λ why. IsRunStatus (status_of why))
rest_of_run (Ok value) kind = tt
rest_of_run (Err why) (inl tree) = tree_stop_of_run why tree
rest_of_run (Err why) (inr store) = store_stop_of_run why store

of_job : (g : Grammar) (bytes : List ℕ) (left : Option (List ℕ)) (script : Script) (result : Result Job Stop) → IsScriptIn g bytes script → left ≡ Some []
    → IfOk result (λ job. job.script ≡ script) → IfErr result (λ why. IsOfTree why ⊎ IsOfStore why) → ScriptOfJob g bytes left result
of_job g bytes left script (Ok job) is read same kind = (subst (λ s. IsScriptIn g bytes s) (sym same) is, read)
of_job g bytes left script (Err why) is read same kind = rest_stop_script g bytes left why kind ((script, is), read)

pub permitted_in_job : (g : Grammar) (script : Script) (result : Result Job Stop) → ArePermitted g script → IfOk result (λ job. job.script ≡ script)
    → IfOk result (λ job. ArePermitted g job.script)
permitted_in_job g script (Ok job) permitted same = subst (λ s. ArePermitted g s) (sym same) permitted
permitted_in_job g script (Err why) permitted same = tt

pub script_of_rest : (g : Grammar) (told left : Option (List ℕ)) (script : Script) (result : Result Job Stop)
    → IfSome told (λ bytes. GivesScript g bytes left (Ok script))
    → IfOk result (λ job. job.script ≡ script) → IfErr result (λ why. IsOfTree why ⊎ IsOfStore why) → IfSome told (λ bytes. ScriptOfJob g bytes left result)
script_of_rest g None left script result gives same kind = tt
script_of_rest g (Some bytes) left script result gives same kind = of_job g bytes left script result gives.0 gives.1 same kind
