-- What an audit knows behind one more entry.
use Rattle.std.proofs.Common.{◌≡◌, ◌<◌, ◌≤◌, ◌++◌, ◌∷◌, ℕ, [], List, length, Option, Some, None, is_some, true, ap, arith}
use Rattle.init_core.specs.Core.{CoreView, IsDeclared}
use Rattle.init_machine.specs.State.{Opening}
use Rattle.init_machine.specs.declared.config.Config.{Config}
use Rattle.init_machine.specs.declared.report.Entry.{Entry}
use Rattle.script_lang.specs.Laws.{IsAskAmong}
use Rattle.script_lang.specs.declared.script.Script.{Script}
use Rattle.std.specs.Prelude.{All}
use Rattle.trace_audit.specs.Audited.{IllegalAt, StraysAt}
use Rattle.trace_audit.specs.Progress.{left_of}
use Rattle.trace_audit.specs.Taken.{Goes, HasChecked, HasGathered, HasMerged, HasTaken, IsBehind}
use Rattle.trace_audit.specs.declared.merge.Merge.{Merge}
use Rattle.trace_audit.specs.declared.taking.Audit.{Audit}
use Rattle.trace_audit.proofs.Declared.{begins_declared}
use Rattle.trace_audit.proofs.Legality.{illegal_more}
use Rattle.trace_audit.proofs.MergeFaults.{goes_begins}
use Rattle.trace_audit.proofs.Options.{none_is}

pub next_taken : (o : Opening) (script : Script) (history : List Entry) (e : Entry) (old new : Audit) → HasMerged script (history ++ e ∷ []) new.merge
    → (new.merge.strays ≡ None → HasChecked o (history ++ e ∷ []) new.illegal new.core)
    → (0 < length script.clients → HasGathered (history ++ e ∷ []) new.told)
    → HasTaken o script history old → HasTaken o script (history ++ e ∷ []) new
next_taken o script history e old new merged checked told taken = record {
  declared = taken.declared;
  merged = merged;
  checked = checked;
  told = told;
}

-- the machine is looked at no more
pub stays_checked : {S : Type 0} (o : Opening) (history : List Entry) (e : Entry) (illegal : Option ℕ) (core : CoreView S) → is_some illegal ≡ true
    → HasChecked o history illegal core → HasChecked o (history ++ e ∷ []) illegal core
stays_checked o history e None core some checked = cc
stays_checked o history e (Some number) core some at = illegal_more o history e number at

pub behind_of : {S : Type 0} (o : Opening) (history : List Entry) (illegal : Option ℕ) (core : CoreView S) → illegal ≡ None → HasChecked o history illegal core
    → IsBehind o history core
behind_of o history illegal core none checked = none_is illegal (IsBehind o history core) (IllegalAt o history) checked none

pub entry_declared : {S : Type 0} (o : Opening) (script : Script) (history : List Entry) (e : Entry) (merge : Merge) (core : CoreView S)
    → All (IsAskAmong (length script.clients)) script.acts → length script.clients ≤ length o.config.domains
    → HasMerged script (history ++ e ∷ []) merge → merge.strays ≡ None → IsBehind o history core → IsDeclared core.config e.input
entry_declared o script history e merge core asks few merged none behind =
    let same : length core.config.domains ≡ length o.config.domains = ap (λ (config : Config). length config.domains) behind.config in
    let goes = none_is merge.strays (Goes script (history ++ e ∷ []) (left_of script.acts merge.progress)) (StraysAt script (history ++ e ∷ [])) merged.order none in
    begins_declared script core.config history e (omega (arith, same, few)) (goes_begins script (history ++ e ∷ []) (left_of script.acts merge.progress) asks goes)
