-- What can be done is refused by a fault alone, or for want of memory.
use Rattle.std.proofs.Common.{◌≡◌, ℕ, ◌<◌, ◌≤◌, Bool, true, false, List, length, Option, Some, None, Result, Ok, Err, ap, inl, inr}
use Rattle.std.specs.Prelude.{IfSome, IsSomeAnd}
use native.Mathlib.Omega.{arith}
use Rattle.init_base.specs.Tree.{file_at}
use Rattle.init_machine.specs.Policy.{PolicyLines}
use Rattle.init_machine.specs.declared.limit.Limit.{Limit}
use Rattle.init_machine.specs.declared.limit.Limit.TheVariants as limits
use Rattle.job_reader.specs.Check.{IsCheckStatus}
use Rattle.job_reader.specs.Counts.{AreCounted, Counts, IsDoneUnlessRisen}
use Rattle.job_reader.specs.Endings.{IsAuditStatus, IsRunLimit, IsRunStatus}
use Rattle.job_reader.specs.Policy.{IsBadLine}
use Rattle.job_reader.specs.Script.{HasScript, ScriptLimitSays, ScriptSays}
use Rattle.job_reader.specs.Store.{HasStore, StoreSays}
use Rattle.job_reader.specs.Texts.{AreShort, IsOneLong, allow_text, contexts_text}
use Rattle.job_reader.specs.Trace.{HasTrace, TraceLimitSays, TraceSays}
use Rattle.job_reader.specs.Tree.{HasNoRoot, IsBadPolicyFor, IsFitFor, IsPolicyTooLargeFor, IsTreeTooLarge, Purpose, TreeSays}
use Rattle.job_reader.specs.Tree.Purpose.{ToRun, ToCheck}
use Rattle.job_reader.specs.declared.grammar.Grammar.{Grammar}
use Rattle.job_reader.specs.declared.grammar.Grammar.TheVariants.{Whole}
use Rattle.job_reader.specs.declared.status.Status.{Status}
use Rattle.job_reader.specs.declared.status.Status.TheVariants as status
use Rattle.persist_file.proofs.Determined.{not_both as store_or_line}
use Rattle.prop_contexts.proofs.Readers.{not_both as policy_or_refusal}
use Rattle.prop_contexts.specs.Grammar.{IsPolicy}
use Rattle.prop_contexts.specs.declared.refusal.PolicyRefusal.TheVariants as policy
use Rattle.rc_import.specs.Limits.{loaded as rc_files_of, loaded_from}
use Rattle.rc_import.specs.Order.{root_file}
use Rattle.rc_import.specs.World.{World}
use Rattle.rc_import.specs.declared.loaded.LoadRefusal.{LoadRefusal}
use Rattle.rc_import.specs.declared.loaded.LoadRefusal.TheVariants.{NoInit}
use Rattle.rc_import.specs.declared.loaded.Loaded.{Loaded}
use Rattle.script_lang.proofs.OneReading.{within_no_limit}
use Rattle.init_forms.proofs.Grammars.{is_script, script_or_bad}
use Rattle.init_forms.specs.Outcome.{Sources}
use Rattle.init_forms.specs.Top.{CanRun}

-- ---- the tree

not_long : (size : ℕ) → size ≤ 1048576 → 1048576 < size → ⊥
not_long size short long = omega (arith, short, long)

pub none_long : (one other : List ℕ) → AreShort one other → IsOneLong one other → ⊥
none_long one other short (inl long) = not_long (length one) short.0 long
none_long one other short (inr long) = not_long (length other) short.1 long

no_policy_limit : (purpose : Purpose) (world : World) (limit : Limit) (number : ℕ)
    → IsFitFor purpose world → IsPolicyTooLargeFor purpose world.tree limit number → ⊥
no_policy_limit ToRun world limit number fit large =
    none_long (contexts_text world.tree) (allow_text world.tree) fit.0.1.short large.0
no_policy_limit ToCheck world limit number fit large = large

pub ok_or_err : (result : Result Loaded LoadRefusal) (loaded : Loaded) (why : LoadRefusal) → result ≡ Ok loaded → result ≡ Err why → ⊥
ok_or_err result loaded why is refused = cc

no_tree_limit : (purpose : Purpose) (world : World) (limit : Limit) (number : ℕ)
    → IsFitFor purpose world → IsTreeTooLarge purpose world limit number → ⊥
no_tree_limit purpose world limit number fit (inl large) = no_policy_limit purpose world limit number fit large
no_tree_limit purpose world limit number fit (inr (inl build)) = none_long _ _ fit.1.0 build.1.0
no_tree_limit purpose world limit number fit (inr (inr rc)) =
    ok_or_err (rc_files_of world) fit.1.1.0 rc.refusal fit.1.1.1 rc.refused

pub absent_is_refused : (world : World) (file : Option (List ℕ)) → file ≡ None → loaded_from world file ≡ Err NoInit
absent_is_refused world file absent = ap (loaded_from world) absent

root_is_there : (purpose : Purpose) (world : World) → IsFitFor purpose world → HasNoRoot purpose world → ⊥
root_is_there purpose world fit none =
    ok_or_err (rc_files_of world) fit.1.1.0 NoInit fit.1.1.1
    (absent_is_refused world (file_at world.tree root_file) none.absent)

pub no_bad_line : (contexts allow : List ℕ) (lines : PolicyLines) (in_allow : Bool) (line : ℕ)
    → IsPolicy contexts allow lines → IsBadLine contexts allow in_allow line → ⊥
no_bad_line contexts allow lines true line is bad =
    let same = policy_or_refusal contexts allow lines (policy.BadLine true line) is bad in cc
no_bad_line contexts allow lines false line is (inl bad) =
    let same = policy_or_refusal contexts allow lines (policy.BadLine false line) is bad in cc
no_bad_line contexts allow lines false line is (inr (inl bad)) =
    let same = policy_or_refusal contexts allow lines (policy.Twice line) is bad in cc
no_bad_line contexts allow lines false line is (inr (inr bad)) =
    let same = policy_or_refusal contexts allow lines (policy.NoDefault line) is bad in cc

no_bad_policy : (purpose : Purpose) (world : World) (in_allow : Bool) (line : ℕ)
    → IsFitFor purpose world → IsBadPolicyFor purpose world.tree in_allow line → ⊥
no_bad_policy ToRun world in_allow line fit bad =
    no_bad_line (contexts_text world.tree) (allow_text world.tree) fit.0.0 in_allow line fit.0.1.policy_is bad.bad
no_bad_policy ToCheck world in_allow line fit bad = bad

-- ---- a check

check_limit : (world : World) (limit : Limit) (number : ℕ)
    → IsCheckStatus (status.TooLarge limit number) → TreeSays ToCheck world (status.TooLarge limit number) → IsFitFor ToCheck world → ⊥
check_limit world limits.FileBytes number is says fit = no_tree_limit ToCheck world limits.FileBytes number fit says
check_limit world limits.Files number is says fit = no_tree_limit ToCheck world limits.Files number fit says
check_limit world limits.Names number is says fit = no_tree_limit ToCheck world limits.Names number fit says
check_limit world limits.RcBytes number is says fit = no_tree_limit ToCheck world limits.RcBytes number fit says
check_limit world limits.ScriptBytes number is says fit = is
check_limit world limits.ScriptLines number is says fit = is
check_limit world limits.Steps number is says fit = is
check_limit world limits.StoreBytes number is says fit = is
check_limit world limits.TraceBytes number is says fit = is

pub complete_check : (how : Status) (world : World) (before now : Counts)
    → IsCheckStatus how → TreeSays ToCheck world how → AreCounted how before now → IsFitFor ToCheck world → IsDoneUnlessRisen how before now
complete_check status.Done world before now is says counted fit = tt
complete_check status.Usage world before now is says counted fit = is
complete_check status.ReadFault world before now is says counted fit = counted.0
complete_check status.WriteFault world before now is says counted fit = counted.0
complete_check status.NoMemory world before now is says counted fit = tt
complete_check (status.BadScript line) world before now is says counted fit = is
complete_check status.NoInit world before now is says counted fit = root_is_there ToCheck world fit says
complete_check (status.TooLarge limit number) world before now is says counted fit = check_limit world limit number is says fit
complete_check (status.BadPolicy allow line) world before now is says counted fit = is
complete_check (status.BadStore line why) world before now is says counted fit = is
complete_check (status.BadWire at) world before now is says counted fit = is
complete_check status.BadTrace world before now is says counted fit = is

-- ---- a run

no_script_limit : (g : Grammar) (bytes : List ℕ) (left : Option (List ℕ)) (world : World) (held : List ℕ) (limit : Limit) (number : ℕ)
    → IsRunLimit limit → ScriptLimitSays g bytes left limit number → TreeSays ToRun world (status.TooLarge limit number) → StoreSays held (status.TooLarge limit number)
    → HasScript g bytes → IsFitFor ToRun world → HasStore held → ⊥
no_script_limit g bytes left world held limits.ScriptBytes number is script tree store has fit stored =
    within_no_limit bytes limits.ScriptBytes number (is_script g bytes has.0 has.1).within script
no_script_limit g bytes left world held limits.ScriptLines number is script tree store has fit stored =
    within_no_limit bytes limits.ScriptLines number (is_script g bytes has.0 has.1).within script
no_script_limit g bytes left world held limits.Steps number is script tree store has fit stored =
    within_no_limit bytes limits.Steps number (is_script g bytes has.0 has.1).within script
no_script_limit g bytes left world held limits.FileBytes number is script tree store has fit stored =
    no_tree_limit ToRun world limits.FileBytes number fit tree
no_script_limit g bytes left world held limits.Files number is script tree store has fit stored =
    no_tree_limit ToRun world limits.Files number fit tree
no_script_limit g bytes left world held limits.Names number is script tree store has fit stored =
    no_tree_limit ToRun world limits.Names number fit tree
no_script_limit g bytes left world held limits.RcBytes number is script tree store has fit stored =
    no_tree_limit ToRun world limits.RcBytes number fit tree
no_script_limit g bytes left world held limits.TraceBytes number is script tree store has fit stored = absurd is
no_script_limit g bytes left world held limits.StoreBytes number is script tree store has fit stored =
    not_more (length held) stored.1.short store.0
  where
    not_more : (size : ℕ) → size ≤ 33554432 → 33554432 < size → ⊥
    not_more size short more = omega (arith, short, more)

done : (g : Grammar) (how : Status) (bytes : List ℕ) (left : Option (List ℕ)) (world : World) (held : List ℕ) (before now : Counts)
    → IsRunStatus how → ScriptSays g bytes left how → TreeSays ToRun world how → StoreSays held how → AreCounted how before now
    → HasScript g bytes → IsFitFor ToRun world → HasStore held → IsDoneUnlessRisen how before now
done g status.Done bytes left world held before now is script tree store counted has fit stored = tt
done g status.Usage bytes left world held before now is script tree store counted has fit stored = is
done g status.ReadFault bytes left world held before now is script tree store counted has fit stored = counted.0
done g status.WriteFault bytes left world held before now is script tree store counted has fit stored = counted.0
done g status.NoMemory bytes left world held before now is script tree store counted has fit stored = tt
done g (status.BadScript line) bytes left world held before now is script tree store counted has fit stored =
    script_or_bad g bytes has.0 line has.1 script
done g status.NoInit bytes left world held before now is script tree store counted has fit stored = root_is_there ToRun world fit tree
done g (status.TooLarge limit number) bytes left world held before now is script tree store counted has fit stored =
    no_script_limit g bytes left world held limit number is script tree store has fit stored
done g (status.BadPolicy allow line) bytes left world held before now is script tree store counted has fit stored =
    no_bad_policy ToRun world allow line fit tree
done g (status.BadStore line why) bytes left world held before now is script tree store counted has fit stored =
    store_or_line held stored.0 line why stored.1.pairs store.1
done g (status.BadWire at) bytes left world held before now is script tree store counted has fit stored = is
done g status.BadTrace bytes left world held before now is script tree store counted has fit stored = is

run_is_done : (g : Grammar) (how : Status) (script left held : Option (List ℕ)) (world : World) (before now : Counts)
    → IsRunStatus how → IfSome script (λ bytes. ScriptSays g bytes left how) → TreeSays ToRun world how → IfSome held (λ text. StoreSays text how)
    → AreCounted how before now → IsSomeAnd script (HasScript g) → IsFitFor ToRun world → IsSomeAnd held HasStore → IsDoneUnlessRisen how before now
run_is_done g how None left held world before now is says tree store counted has fit stored = absurd has
run_is_done g how (Some bytes) left None world before now is says tree store counted has fit stored = absurd stored
run_is_done g how (Some bytes) left (Some held) world before now is says tree store counted has fit stored =
    done g how bytes left world held before now is says tree store counted has fit stored

pub complete_run : (g : Grammar) (how : Status) (sources : Sources) (left : Option (List ℕ)) (world : World) (before now : Counts)
    → IsRunStatus how → IfSome sources.script (λ bytes. ScriptSays g bytes left how) → TreeSays ToRun world how
    → IfSome sources.held (λ text. StoreSays text how) → AreCounted how before now → CanRun g sources world → IsDoneUnlessRisen how before now
complete_run g how sources left world before now is says tree store counted can =
    run_is_done g how sources.script left sources.held world before now is says tree store counted can.script can.world_is_fit can.store

-- ---- an audit: with a trace that can be read, it ends as a run may

not_more_trace : (size : ℕ) → size ≤ 67108864 → 67108864 < size → ⊥
not_more_trace size short more = omega (arith, short, more)

limit_of_run : (limit : Limit) (number : ℕ) (bytes : List ℕ) → TraceLimitSays bytes limit number → HasTrace bytes → IsRunLimit limit
limit_of_run limits.TraceBytes number bytes says has = not_more_trace (length bytes) has.1.short says.0
limit_of_run limits.ScriptBytes number bytes says has = tt
limit_of_run limits.ScriptLines number bytes says has = tt
limit_of_run limits.Steps number bytes says has = tt
limit_of_run limits.FileBytes number bytes says has = tt
limit_of_run limits.Files number bytes says has = tt
limit_of_run limits.Names number bytes says has = tt
limit_of_run limits.RcBytes number bytes says has = tt
limit_of_run limits.StoreBytes number bytes says has = tt

ends_as_run : (how : Status) (bytes : List ℕ) (left : Option (List ℕ)) → IsAuditStatus how → TraceSays bytes left how → HasTrace bytes → IsRunStatus how
ends_as_run status.Done bytes left is says has = tt
ends_as_run status.Usage bytes left is says has = is
ends_as_run status.ReadFault bytes left is says has = tt
ends_as_run status.WriteFault bytes left is says has = tt
ends_as_run status.NoMemory bytes left is says has = tt
ends_as_run (status.BadScript line) bytes left is says has = tt
ends_as_run status.NoInit bytes left is says has = tt
ends_as_run (status.TooLarge limit number) bytes left is says has = limit_of_run limit number bytes says has
ends_as_run (status.BadPolicy allow line) bytes left is says has = tt
ends_as_run (status.BadStore line why) bytes left is says has = tt
ends_as_run (status.BadWire at) bytes left is says has = is
ends_as_run status.BadTrace bytes left is says has = says.none has.0 has.1.text

told_ends_as_run : (how : Status) (trace left : Option (List ℕ)) → IsAuditStatus how → IfSome trace (λ bytes. TraceSays bytes left how)
    → IsSomeAnd trace HasTrace → IsRunStatus how
told_ends_as_run how None left is says has = absurd has
told_ends_as_run how (Some bytes) left is says has = ends_as_run how bytes left is says has

pub complete_audit : (how : Status) (sources : Sources) (left behind : Option (List ℕ)) (world : World) (before now : Counts)
    → IsAuditStatus how → IfSome sources.script (λ bytes. ScriptSays Whole bytes left how) → TreeSays ToRun world how
    → IfSome sources.held (λ text. StoreSays text how) → IfSome sources.trace (λ bytes. TraceSays bytes behind how)
    → AreCounted how before now → CanRun Whole sources world → IsSomeAnd sources.trace HasTrace → IsDoneUnlessRisen how before now
complete_audit how sources left behind world before now is says tree store trace counted can has =
    complete_run Whole how sources left world before now (told_ends_as_run how sources.trace behind is trace has) says tree store counted can
