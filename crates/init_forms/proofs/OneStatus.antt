-- What is told comes to one status: each text has one reading, and each reader that refuses it one refusal.
use Rattle.std.proofs.Common.{◌≡◌, ℕ, ◌<◌, ◌≤◌, Bool, true, false, List, length, Option, Some, None, Result, Err, refl, sym, ap, ◌∙◌, subst, inl, inr, arith}
use Rattle.std.specs.Prelude.{⊤, ◌⊎◌}
use Rattle.init_base.specs.Tree.{file_at}
use Rattle.init_machine.specs.declared.config.Pair.{Pair}
use Rattle.init_machine.specs.declared.limit.Limit.{Limit}
use Rattle.init_machine.specs.declared.limit.Limit.TheVariants as limits
use Rattle.command_line.specs.declared.form.Form.{Form}
use Rattle.command_line.specs.declared.form.Form.TheVariants.{Run, Race, Wire, Check, Soak, Dispatch, Audit}
use Rattle.job_reader.specs.Policy.{HasPolicy, IsBadLine, IsBadPolicyAt, IsPolicyTooLarge}
use Rattle.job_reader.specs.Run.{Course, IsCourseOf}
use Rattle.job_reader.specs.Script.{HasScript, IsBadIn}
use Rattle.job_reader.specs.Stops.{policy_stop, status_of}
use Rattle.job_reader.specs.Store.{HasStore}
use Rattle.job_reader.specs.Texts.{Tree, allow_text, contexts_text}
use Rattle.job_reader.specs.Trace.{HasTrace, IsNoTrace, IsTraceTooLarge}
use Rattle.job_reader.specs.Tree.{AreBuildFilesShort, AreBuildFilesTooLarge, IsLoadable, PassesLimit}
use Rattle.job_reader.specs.declared.grammar.Grammar.{Grammar}
use Rattle.job_reader.specs.declared.grammar.Grammar.TheVariants.{Whole, Sets}
use Rattle.job_reader.specs.declared.status.Status.{Status}
use Rattle.job_reader.specs.declared.status.Status.TheVariants as status
use Rattle.persist_file.proofs.Determined.{not_both as store_or_line, unfit_read}
use Rattle.persist_file.specs.Causes.{IsUnfitAt}
use Rattle.persist_file.specs.declared.refusal.StoreCause.{StoreCause}
use Rattle.persist_file.specs.declared.refusal.StoreRefusal.{StoreRefusal}
use Rattle.persist_file.specs.declared.refusal.StoreRefusal.TheVariants as store
use Rattle.prop_contexts.proofs.Readers.{same_refusal}
use Rattle.prop_contexts.specs.Grammar.{IsRefused}
use Rattle.prop_contexts.specs.declared.refusal.PolicyRefusal.{PolicyRefusal}
use Rattle.prop_contexts.specs.declared.refusal.PolicyRefusal.TheVariants as policy
use Rattle.rc_import.specs.Limits.{loaded as rc_files_of}
use Rattle.rc_import.specs.Order.{root_file}
use Rattle.rc_import.specs.World.{World}
use Rattle.rc_import.specs.declared.loaded.LoadRefusal.{LoadRefusal}
use Rattle.rc_import.specs.declared.loaded.LoadRefusal.TheVariants as load
use Rattle.rc_import.specs.declared.loaded.Loaded.{Loaded}
use Rattle.script_lang.proofs.OneReading.{one_limit, within_no_limit}
use Rattle.script_lang.specs.Refusal.{IsTooLarge}
use Rattle.init_forms.specs.Outcome.{AuditRefused, CanBeRun, ComesTo, Ends, FilesRefuse, IsCut, IsServed, MachineRefused, Outcome, PassRcLimit, PolicyRefuses, RunRefused, ScriptRefuses, Shown, StoreRefuses, Told, TraceRefuses, status_of_outcome}
use Rattle.init_forms.specs.Outcome.Outcome.{Checked, Judged, Raced, Ran, Refused, Served, Soaked, Unformed}
use Rattle.init_forms.proofs.Complete.{absent_is_refused, no_bad_line, none_long, ok_or_err}
use Rattle.init_forms.proofs.Grammars.{bad_within, is_script, one_bad_line, script_or_bad}
use Rattle.init_forms.proofs.Streams.{IsStreamStatus, answered_status, one_stream_status}

-- ---- readers one after another

-- of two readers the first that refuses has the status
first_once : (Refuses Next : Status → Type 0) (Passes : Type 0) → ((s t : Status) → Refuses s → Refuses t → s ≡ t) → ((s : Status) → Passes → Refuses s → ⊥)
    → ((s t : Status) → Next s → Next t → s ≡ t) → (s t : Status) → Refuses s ⊎ (Passes × Next s) → Refuses t ⊎ (Passes × Next t) → s ≡ t
first_once Refuses Next Passes once not next s t (inl a) (inl b) = once s t a b
first_once Refuses Next Passes once not next s t (inl a) (inr b) = absurd (not s b.0 a)
first_once Refuses Next Passes once not next s t (inr a) (inl b) = absurd (not t a.0 b)
first_once Refuses Next Passes once not next s t (inr a) (inr b) = next s t a.1 b.1

-- where both pass, neither refuses
both_pass : (Refuses Next : Status → Type 0) (Passes Rest : Type 0) → ((s : Status) → Passes → Refuses s → ⊥) → ((s : Status) → Rest → Next s → ⊥)
    → (s : Status) → Passes → Rest → Refuses s ⊎ (Passes × Next s) → ⊥
both_pass Refuses Next Passes Rest not next s passes rest (inl a) = not s passes a
both_pass Refuses Next Passes Rest not next s passes rest (inr a) = next s rest a.1

not_more : (size most : ℕ) → size ≤ most → most < size → ⊥
not_more size most short more = omega (arith, short, more)

same_large : (limit other : Limit) (number count : ℕ) → limit ≡ other → number ≡ count → status.TooLarge limit number ≡ status.TooLarge other count
same_large limit other number count e f = cc

-- ---- the script

abbrev ScriptCase : Grammar → List ℕ → Status → Type 0
ScriptCase g bytes how =
    ((line : ℕ) × (how ≡ status.BadScript line) × IsBadIn g bytes line)
    ⊎ ((limit : Limit) × (number : ℕ) × (how ≡ status.TooLarge limit number) × IsTooLarge bytes limit number)

script_case : (g : Grammar) (bytes : List ℕ) (how : Status) → ScriptRefuses g bytes how → ScriptCase g bytes how
script_case g bytes status.Done h = absurd h
script_case g bytes status.Usage h = absurd h
script_case g bytes status.ReadFault h = absurd h
script_case g bytes status.WriteFault h = absurd h
script_case g bytes status.NoMemory h = absurd h
script_case g bytes (status.BadScript line) h = inl (line, refl, h)
script_case g bytes status.NoInit h = absurd h
script_case g bytes (status.TooLarge limit number) h = inr (limit, number, refl, h)
script_case g bytes (status.BadPolicy allow line) h = absurd h
script_case g bytes (status.BadStore line why) h = absurd h
script_case g bytes (status.BadWire at) h = absurd h
script_case g bytes status.BadTrace h = absurd h

script_same : (g : Grammar) (bytes : List ℕ) (s t : Status) → ScriptCase g bytes s → ScriptCase g bytes t → s ≡ t
script_same g bytes s t (inl a) (inl b) = a.1 ∙ ap (λ line. status.BadScript line) (one_bad_line g bytes a.0 b.0 a.2 b.2) ∙ sym b.1
script_same g bytes s t (inl a) (inr b) = absurd (within_no_limit bytes b.0 b.1 (bad_within g bytes a.0 a.2) b.3)
script_same g bytes s t (inr a) (inl b) = absurd (within_no_limit bytes a.0 a.1 (bad_within g bytes b.0 b.2) a.3)
script_same g bytes s t (inr a) (inr b) =
    let same = one_limit bytes a.0 b.0 a.1 b.1 a.3 b.3 in a.2 ∙ same_large a.0 b.0 a.1 b.1 same.0 same.1 ∙ sym b.2

script_once : (g : Grammar) (bytes : List ℕ) (s t : Status) → ScriptRefuses g bytes s → ScriptRefuses g bytes t → s ≡ t
script_once g bytes s t h k = script_same g bytes s t (script_case g bytes s h) (script_case g bytes t k)

script_passes : (g : Grammar) (bytes : List ℕ) (s : Status) → HasScript g bytes → ScriptCase g bytes s → ⊥
script_passes g bytes s has (inl a) = script_or_bad g bytes has.0 a.0 has.1 a.2
script_passes g bytes s has (inr a) = within_no_limit bytes a.0 a.1 (is_script g bytes has.0 has.1).within a.3

script_not : (g : Grammar) (bytes : List ℕ) (s : Status) → HasScript g bytes → ScriptRefuses g bytes s → ⊥
script_not g bytes s has h = script_passes g bytes s has (script_case g bytes s h)

-- ---- the policy

abbrev PolicyCase : Tree → Status → Type 0
PolicyCase tree how =
    ((allow : Bool) × (line : ℕ) × (how ≡ status.BadPolicy allow line) × IsBadPolicyAt tree allow line)
    ⊎ ((limit : Limit) × (number : ℕ) × (how ≡ status.TooLarge limit number) × IsPolicyTooLarge tree limit number)

policy_case : (tree : Tree) (how : Status) → PolicyRefuses tree how → PolicyCase tree how
policy_case tree status.Done h = absurd h
policy_case tree status.Usage h = absurd h
policy_case tree status.ReadFault h = absurd h
policy_case tree status.WriteFault h = absurd h
policy_case tree status.NoMemory h = absurd h
policy_case tree (status.BadScript line) h = absurd h
policy_case tree status.NoInit h = absurd h
policy_case tree (status.TooLarge limit number) h = inr (limit, number, refl, h)
policy_case tree (status.BadPolicy allow line) h = inl (allow, line, refl, h)
policy_case tree (status.BadStore line why) h = absurd h
policy_case tree (status.BadWire at) h = absurd h
policy_case tree status.BadTrace h = absurd h

-- the refusal of a bad line
record BadLineIs (contexts allow : List ℕ) (in_allow : Bool) (line : ℕ) : Type 0 where
  why : PolicyRefusal
  refused : IsRefused contexts allow why
  some : why ≡ policy.NoMemory → ⊥
  status_is : status.BadPolicy in_allow line ≡ status_of (policy_stop why)

bad_line_is : (contexts allow : List ℕ) (in_allow : Bool) (line : ℕ) → IsBadLine contexts allow in_allow line → BadLineIs contexts allow in_allow line
bad_line_is contexts allow true line bad = record { why = policy.BadLine true line; refused = bad; some = λ e. cc e; status_is = refl }
bad_line_is contexts allow false line (inl bad) = record { why = policy.BadLine false line; refused = bad; some = λ e. cc e; status_is = refl }
bad_line_is contexts allow false line (inr (inl bad)) = record { why = policy.Twice line; refused = bad; some = λ e. cc e; status_is = refl }
bad_line_is contexts allow false line (inr (inr bad)) = record { why = policy.NoDefault line; refused = bad; some = λ e. cc e; status_is = refl }

same_bad_line : (contexts allow : List ℕ) (in_allow other : Bool) (line next : ℕ) → IsBadLine contexts allow in_allow line → IsBadLine contexts allow other next
    → status.BadPolicy in_allow line ≡ status.BadPolicy other next
same_bad_line contexts allow in_allow other line next bad bad' =
    let p = bad_line_is contexts allow in_allow line bad in
    let q = bad_line_is contexts allow other next bad' in
    p.status_is ∙ ap (λ why. status_of (policy_stop why)) (same_refusal contexts allow p.why q.why p.refused q.refused p.some q.some) ∙ sym q.status_is

policy_same : (tree : Tree) (s t : Status) → PolicyCase tree s → PolicyCase tree t → s ≡ t
policy_same tree s t (inl a) (inl b) = a.2 ∙ same_bad_line (contexts_text tree) (allow_text tree) a.0 b.0 a.1 b.1 a.3.bad b.3.bad ∙ sym b.2
policy_same tree s t (inl a) (inr b) = absurd (none_long (contexts_text tree) (allow_text tree) a.3.short b.3.0)
policy_same tree s t (inr a) (inl b) = absurd (none_long (contexts_text tree) (allow_text tree) b.3.short a.3.0)
policy_same tree s t (inr a) (inr b) = a.2 ∙ same_large a.0 b.0 a.1 b.1 (a.3.1 ∙ sym b.3.1) (a.3.2 ∙ sym b.3.2) ∙ sym b.2

policy_once : (tree : Tree) (s t : Status) → PolicyRefuses tree s → PolicyRefuses tree t → s ≡ t
policy_once tree s t h k = policy_same tree s t (policy_case tree s h) (policy_case tree t k)

policy_passes : (tree : Tree) (s : Status) → HasPolicy tree → PolicyCase tree s → ⊥
policy_passes tree s has (inl a) = no_bad_line (contexts_text tree) (allow_text tree) has.0 a.0 a.1 has.1.policy_is a.3.bad
policy_passes tree s has (inr a) = none_long (contexts_text tree) (allow_text tree) has.1.short a.3.0

policy_not : (tree : Tree) (s : Status) → HasPolicy tree → PolicyRefuses tree s → ⊥
policy_not tree s has h = policy_passes tree s has (policy_case tree s h)

-- ---- the build files and the rc files

abbrev FilesLarge : World → Limit → ℕ → Type 0
FilesLarge world limit number = AreBuildFilesTooLarge world.tree limit number ⊎ (AreBuildFilesShort world.tree × PassRcLimit world limit number)

abbrev FilesCase : World → Status → Type 0
FilesCase world how =
    ((how ≡ status.NoInit) × AreBuildFilesShort world.tree × (file_at world.tree root_file ≡ None))
    ⊎ ((limit : Limit) × (number : ℕ) × (how ≡ status.TooLarge limit number) × FilesLarge world limit number)

files_case : (world : World) (how : Status) → FilesRefuse world how → FilesCase world how
files_case world status.Done h = absurd h
files_case world status.Usage h = absurd h
files_case world status.ReadFault h = absurd h
files_case world status.WriteFault h = absurd h
files_case world status.NoMemory h = absurd h
files_case world (status.BadScript line) h = absurd h
files_case world status.NoInit h = inl (refl, h.0, h.1)
files_case world (status.TooLarge limit number) h = inr (limit, number, refl, h)
files_case world (status.BadPolicy allow line) h = absurd h
files_case world (status.BadStore line why) h = absurd h
files_case world (status.BadWire at) h = absurd h
files_case world status.BadTrace h = absurd h

same_refused : (r : Result Loaded LoadRefusal) (why other : LoadRefusal) → r ≡ Err why → r ≡ Err other → why ≡ other
same_refused r why other e f = cc

root_or_large : (world : World) (limit : Limit) (number : ℕ) → AreBuildFilesShort world.tree → file_at world.tree root_file ≡ None → FilesLarge world limit number → ⊥
root_or_large world limit number short absent (inl build) = none_long _ _ short build.0
root_or_large world limit number short absent (inr rc) =
    let same = same_refused (rc_files_of world) rc.1.refusal load.NoInit rc.1.refused (absent_is_refused world (file_at world.tree root_file) absent) in
    subst (λ why. PassesLimit why limit number) same rc.1.passes

one_passed : (why : LoadRefusal) (limit other : Limit) (number count : ℕ) → PassesLimit why limit number → PassesLimit why other count → (limit ≡ other) × (number ≡ count)
one_passed load.NoInit limit other number count h k = absurd h
one_passed load.ReadFault limit other number count h k = absurd h
one_passed (load.TooLarge path passed found) limit other number count h k = (h.0 ∙ sym k.0, h.1 ∙ sym k.1)
one_passed (load.TooMany path found) limit other number count h k = (h.0 ∙ sym k.0, h.1 ∙ sym k.1)
one_passed load.NoMemory limit other number count h k = absurd h

one_large : (world : World) (limit other : Limit) (number count : ℕ) → FilesLarge world limit number → FilesLarge world other count → (limit ≡ other) × (number ≡ count)
one_large world limit other number count (inl h) (inl k) = (h.1 ∙ sym k.1, h.2 ∙ sym k.2)
one_large world limit other number count (inl h) (inr k) = absurd (none_long _ _ k.0 h.0)
one_large world limit other number count (inr h) (inl k) = absurd (none_long _ _ h.0 k.0)
one_large world limit other number count (inr h) (inr k) =
    let same = same_refused (rc_files_of world) h.1.refusal k.1.refusal h.1.refused k.1.refused in
    one_passed k.1.refusal limit other number count (subst (λ why. PassesLimit why limit number) same h.1.passes) k.1.passes

files_same : (world : World) (s t : Status) → FilesCase world s → FilesCase world t → s ≡ t
files_same world s t (inl a) (inl b) = a.0 ∙ sym b.0
files_same world s t (inl a) (inr b) = absurd (root_or_large world b.0 b.1 a.1 a.2 b.3)
files_same world s t (inr a) (inl b) = absurd (root_or_large world a.0 a.1 b.1 b.2 a.3)
files_same world s t (inr a) (inr b) =
    let same = one_large world a.0 b.0 a.1 b.1 a.3 b.3 in a.2 ∙ same_large a.0 b.0 a.1 b.1 same.0 same.1 ∙ sym b.2

files_once : (world : World) (s t : Status) → FilesRefuse world s → FilesRefuse world t → s ≡ t
files_once world s t h k = files_same world s t (files_case world s h) (files_case world t k)

not_large : (world : World) (limit : Limit) (number : ℕ) → IsLoadable world → FilesLarge world limit number → ⊥
not_large world limit number can (inl build) = none_long _ _ can.0 build.0
not_large world limit number can (inr rc) = ok_or_err (rc_files_of world) can.1.0 rc.1.refusal can.1.1 rc.1.refused

files_pass : (world : World) (s : Status) → IsLoadable world → FilesCase world s → ⊥
files_pass world s can (inl a) =
    ok_or_err (rc_files_of world) can.1.0 load.NoInit can.1.1 (absent_is_refused world (file_at world.tree root_file) a.2)
files_pass world s can (inr a) = not_large world a.0 a.1 can a.3

files_not : (world : World) (s : Status) → IsLoadable world → FilesRefuse world s → ⊥
files_not world s can h = files_pass world s can (files_case world s h)

-- ---- the store

abbrev StoreCase : List ℕ → Status → Type 0
StoreCase held how =
    ((line : ℕ) × (why : StoreCause) × (how ≡ status.BadStore line why) × (length held ≤ 33554432) × IsUnfitAt held line why)
    ⊎ ((number : ℕ) × (how ≡ status.TooLarge limits.StoreBytes number) × (33554432 < length held) × (number ≡ 33554433))

store_large : (held : List ℕ) (limit : Limit) (number : ℕ) → (limit ≡ limits.StoreBytes) × (33554432 < length held) × (number ≡ 33554433)
    → StoreCase held (status.TooLarge limit number)
store_large held limit number h = inr (number, ap (λ l. status.TooLarge l number) h.0, h.1, h.2)

store_case : (held : List ℕ) (how : Status) → StoreRefuses held how → StoreCase held how
store_case held status.Done h = absurd h
store_case held status.Usage h = absurd h
store_case held status.ReadFault h = absurd h
store_case held status.WriteFault h = absurd h
store_case held status.NoMemory h = absurd h
store_case held (status.BadScript line) h = absurd h
store_case held status.NoInit h = absurd h
store_case held (status.TooLarge limit number) h = store_large held limit number h
store_case held (status.BadPolicy allow line) h = absurd h
store_case held (status.BadStore line why) h = inl (line, why, refl, h.0, h.1)
store_case held (status.BadWire at) h = absurd h
store_case held status.BadTrace h = absurd h

same_unfit : (r : Result (List Pair) StoreRefusal) (line next : ℕ) (why other : StoreCause) → r ≡ Err (store.BadLine line why) → r ≡ Err (store.BadLine next other)
    → status.BadStore line why ≡ status.BadStore next other
same_unfit r line next why other e f = cc

store_same : (held : List ℕ) (s t : Status) → StoreCase held s → StoreCase held t → s ≡ t
store_same held s t (inl a) (inl b) = a.2 ∙ same_unfit _ a.0 b.0 a.1 b.1 (unfit_read held a.0 a.1 a.4) (unfit_read held b.0 b.1 b.4) ∙ sym b.2
store_same held s t (inl a) (inr b) = absurd (not_more (length held) 33554432 a.3 b.2)
store_same held s t (inr a) (inl b) = absurd (not_more (length held) 33554432 b.3 a.2)
store_same held s t (inr a) (inr b) = a.1 ∙ same_large limits.StoreBytes limits.StoreBytes a.0 b.0 refl (a.3 ∙ sym b.3) ∙ sym b.1

store_once : (held : List ℕ) (s t : Status) → StoreRefuses held s → StoreRefuses held t → s ≡ t
store_once held s t h k = store_same held s t (store_case held s h) (store_case held t k)

store_passes : (held : List ℕ) (s : Status) → HasStore held → StoreCase held s → ⊥
store_passes held s has (inl a) = store_or_line held has.0 a.0 a.1 has.1.pairs a.4
store_passes held s has (inr a) = not_more (length held) 33554432 has.1.short a.2

store_not : (held : List ℕ) (s : Status) → HasStore held → StoreRefuses held s → ⊥
store_not held s has h = store_passes held s has (store_case held s h)

-- ---- the trace

abbrev TraceCase : List ℕ → Status → Type 0
TraceCase trace how =
    ((how ≡ status.BadTrace) × IsNoTrace trace)
    ⊎ ((number : ℕ) × (how ≡ status.TooLarge limits.TraceBytes number) × IsTraceTooLarge trace number)

trace_large : (trace : List ℕ) (limit : Limit) (number : ℕ) → (limit ≡ limits.TraceBytes) × IsTraceTooLarge trace number → TraceCase trace (status.TooLarge limit number)
trace_large trace limit number h = inr (number, ap (λ l. status.TooLarge l number) h.0, h.1)

trace_case : (trace : List ℕ) (how : Status) → TraceRefuses trace how → TraceCase trace how
trace_case trace status.Done h = absurd h
trace_case trace status.Usage h = absurd h
trace_case trace status.ReadFault h = absurd h
trace_case trace status.WriteFault h = absurd h
trace_case trace status.NoMemory h = absurd h
trace_case trace (status.BadScript line) h = absurd h
trace_case trace status.NoInit h = absurd h
trace_case trace (status.TooLarge limit number) h = trace_large trace limit number h
trace_case trace (status.BadPolicy allow line) h = absurd h
trace_case trace (status.BadStore line why) h = absurd h
trace_case trace (status.BadWire at) h = absurd h
trace_case trace status.BadTrace h = inl (refl, h)

trace_same : (trace : List ℕ) (s t : Status) → TraceCase trace s → TraceCase trace t → s ≡ t
trace_same trace s t (inl a) (inl b) = a.0 ∙ sym b.0
trace_same trace s t (inl a) (inr b) = absurd (not_more (length trace) 67108864 a.1.short b.2.0)
trace_same trace s t (inr a) (inl b) = absurd (not_more (length trace) 67108864 b.1.short a.2.0)
trace_same trace s t (inr a) (inr b) = a.1 ∙ same_large limits.TraceBytes limits.TraceBytes a.0 b.0 refl (a.2.1 ∙ sym b.2.1) ∙ sym b.1

trace_once : (trace : List ℕ) (s t : Status) → TraceRefuses trace s → TraceRefuses trace t → s ≡ t
trace_once trace s t h k = trace_same trace s t (trace_case trace s h) (trace_case trace t k)

trace_passes : (trace : List ℕ) (s : Status) → HasTrace trace → TraceCase trace s → ⊥
trace_passes trace s has (inl a) = a.1.none has.0 has.1.text
trace_passes trace s has (inr a) = not_more (length trace) 67108864 has.1.short a.2.0

trace_not : (trace : List ℕ) (s : Status) → HasTrace trace → TraceRefuses trace s → ⊥
trace_not trace s has h = trace_passes trace s has (trace_case trace s h)

-- ---- a machine, a run, and an audit

abbrev FilesOrStore : Told → Status → Type 0
FilesOrStore told s = FilesRefuse told.world s ⊎ (IsLoadable told.world × StoreRefuses told.held s)

-- nothing of what a machine is opened with is refused
pub record CanOpen (told : Told) : Type 0 where
  pub policy : HasPolicy told.world.tree
  pub files : IsLoadable told.world
  pub store : HasStore told.held

machine_once : (told : Told) (s t : Status) → MachineRefused told s → MachineRefused told t → s ≡ t
machine_once told =
    first_once (PolicyRefuses told.world.tree) (FilesOrStore told) (HasPolicy told.world.tree) (policy_once told.world.tree) (policy_not told.world.tree)
    (first_once (FilesRefuse told.world) (StoreRefuses told.held) (IsLoadable told.world) (files_once told.world) (files_not told.world)
    (store_once told.held))

pub machine_not : (told : Told) (s : Status) → CanOpen told → MachineRefused told s → ⊥
machine_not told s can =
    both_pass (PolicyRefuses told.world.tree) (FilesOrStore told) (HasPolicy told.world.tree) (CanOpen told) (policy_not told.world.tree)
    (λ s can. both_pass (FilesRefuse told.world) (StoreRefuses told.held) (IsLoadable told.world) (HasStore told.held) (files_not told.world)
    (store_not told.held) s can.files can.store)
    s can.policy can

run_once : (g : Grammar) (told : Told) (s t : Status) → RunRefused g told s → RunRefused g told t → s ≡ t
run_once g told =
    first_once (ScriptRefuses g told.script) (MachineRefused told) (HasScript g told.script) (script_once g told.script) (script_not g told.script)
    (machine_once told)

can_open : (g : Grammar) (told : Told) → CanBeRun g told → CanOpen told
can_open g told can = record { policy = can.policy; files = can.files; store = can.store }

run_not : (g : Grammar) (told : Told) (s : Status) → CanBeRun g told → RunRefused g told s → ⊥
run_not g told s can =
    both_pass (ScriptRefuses g told.script) (MachineRefused told) (HasScript g told.script) (CanOpen told) (script_not g told.script) (machine_not told)
    s can.script (can_open g told can)

audit_once : (told : Told) (s t : Status) → AuditRefused told s → AuditRefused told t → s ≡ t
audit_once told = first_once (RunRefused Whole told) (TraceRefuses told.trace) (CanBeRun Whole told) (run_once Whole told) (run_not Whole told) (trace_once told.trace)

audit_not : (told : Told) (s : Status) → CanBeRun Whole told → HasTrace told.trace → AuditRefused told s → ⊥
audit_not told = both_pass (RunRefused Whole told) (TraceRefuses told.trace) (CanBeRun Whole told) (HasTrace told.trace) (run_not Whole told) (trace_not told.trace)

-- ---- each form

abbrev pub FormRefuses : Option Form → Told → Status → Type 0
FormRefuses None told s = ⊥
FormRefuses (Some Run) told s = RunRefused Whole told s
FormRefuses (Some Race) told s = RunRefused Whole told s
FormRefuses (Some Dispatch) told s = RunRefused Sets told s
FormRefuses (Some Wire) told s = MachineRefused told s
FormRefuses (Some Check) told s = FilesRefuse told.world s
FormRefuses (Some Audit) told s = AuditRefused told s
FormRefuses (Some (Soak services)) told s = RunRefused Whole told s

abbrev pub FormPasses : Option Form → Told → Type 0
FormPasses None told = ⊤
FormPasses (Some Run) told = CanBeRun Whole told
FormPasses (Some Race) told = CanBeRun Whole told
FormPasses (Some Dispatch) told = CanBeRun Sets told
FormPasses (Some Wire) told = CanOpen told
FormPasses (Some Check) told = IsLoadable told.world
FormPasses (Some Audit) told = CanBeRun Whole told × HasTrace told.trace
FormPasses (Some (Soak services)) told = CanBeRun Whole told

-- what a form that isn't refused ends with
abbrev pub FormEnds : Option Form → Told → Status → Type 0
FormEnds None told s = s ≡ status.Usage
FormEnds (Some Run) told s = s ≡ status.Done
FormEnds (Some Race) told s = s ≡ status.Done
FormEnds (Some Dispatch) told s = s ≡ status.Done
FormEnds (Some Wire) told s = IsStreamStatus told.script s
FormEnds (Some Check) told s = s ≡ status.Done
FormEnds (Some Audit) told s = s ≡ status.Done
FormEnds (Some (Soak services)) told s = s ≡ status.Done

form_ends : (asked : Option Form) (told : Told) (s t : Status) → FormEnds asked told s → FormEnds asked told t → s ≡ t
form_ends None told s t h k = h ∙ sym k
form_ends (Some Run) told s t h k = h ∙ sym k
form_ends (Some Race) told s t h k = h ∙ sym k
form_ends (Some Dispatch) told s t h k = h ∙ sym k
form_ends (Some Wire) told s t h k = one_stream_status told.script s t h k
form_ends (Some Check) told s t h k = h ∙ sym k
form_ends (Some Audit) told s t h k = h ∙ sym k
form_ends (Some (Soak services)) told s t h k = h ∙ sym k

form_once : (asked : Option Form) (told : Told) (s t : Status) → FormRefuses asked told s → FormRefuses asked told t → s ≡ t
form_once None told s t h k = absurd h
form_once (Some Run) told s t h k = run_once Whole told s t h k
form_once (Some Race) told s t h k = run_once Whole told s t h k
form_once (Some Dispatch) told s t h k = run_once Sets told s t h k
form_once (Some Wire) told s t h k = machine_once told s t h k
form_once (Some Check) told s t h k = files_once told.world s t h k
form_once (Some Audit) told s t h k = audit_once told s t h k
form_once (Some (Soak services)) told s t h k = run_once Whole told s t h k

form_not : (asked : Option Form) (told : Told) (s : Status) → FormPasses asked told → FormRefuses asked told s → ⊥
form_not None told s passes h = h
form_not (Some Run) told s passes h = run_not Whole told s passes h
form_not (Some Race) told s passes h = run_not Whole told s passes h
form_not (Some Dispatch) told s passes h = run_not Sets told s passes h
form_not (Some Wire) told s passes h = machine_not told s passes h
form_not (Some Check) told s passes h = files_not told.world s passes h
form_not (Some Audit) told s passes h = audit_not told s passes.0 passes.1 h
form_not (Some (Soak services)) told s passes h = run_not Whole told s passes h

course_can : (g : Grammar) (told : Told) (course : Course) → IsCourseOf g told.script told.world told.held course → CanBeRun g told
course_can g told course is = record {
  script = (course.script, is.script_is);
  policy = (course.opening.policy, is.opened.policy);
  files = (is.opened.load.short, (is.opened.load.loaded, is.opened.load.rc_files));
  store = (course.opening.config.saved, is.opened.saved);
}

served_can : (told : Told) (how : Status) (replies : List ℕ) → IsServed told how replies → CanOpen told
served_can told how replies is = record {
  policy = (is.opening.policy, is.opened.policy);
  files = (is.opened.load.short, (is.opened.load.loaded, is.opened.load.rc_files));
  store = (is.opening.config.saved, is.opened.saved);
}

abbrev pub Comes : Option Form → Told → Outcome → Type 0
Comes asked told outcome = FormRefuses asked told (status_of_outcome outcome) ⊎ (FormPasses asked told × FormEnds asked told (status_of_outcome outcome))

pub comes : (asked : Option Form) (told : Told) (outcome : Outcome) → ComesTo asked told outcome → Comes asked told outcome
comes None told Unformed h = inr (tt, refl)
comes None told (Refused why) h = absurd h
comes None told (Checked diagnostics) h = absurd h
comes None told (Ran course) h = absurd h
comes None told (Raced course report) h = absurd h
comes None told (Served how replies) h = absurd h
comes None told (Judged verdict) h = absurd h
comes None told (Soaked given course) h = absurd h
comes (Some Run) told Unformed h = absurd h
comes (Some Run) told (Refused why) h = inl h
comes (Some Run) told (Checked diagnostics) h = absurd h
comes (Some Run) told (Ran course) h = inr (course_can Whole told course h, refl)
comes (Some Run) told (Raced course report) h = absurd h
comes (Some Run) told (Served how replies) h = absurd h
comes (Some Run) told (Judged verdict) h = absurd h
comes (Some Run) told (Soaked given course) h = absurd h
comes (Some Race) told Unformed h = absurd h
comes (Some Race) told (Refused why) h = inl h
comes (Some Race) told (Checked diagnostics) h = absurd h
comes (Some Race) told (Ran course) h = absurd h
comes (Some Race) told (Raced course report) h = inr (course_can Whole told course h.course_is, refl)
comes (Some Race) told (Served how replies) h = absurd h
comes (Some Race) told (Judged verdict) h = absurd h
comes (Some Race) told (Soaked given course) h = absurd h
comes (Some Dispatch) told Unformed h = absurd h
comes (Some Dispatch) told (Refused why) h = inl h
comes (Some Dispatch) told (Checked diagnostics) h = absurd h
comes (Some Dispatch) told (Ran course) h = absurd h
comes (Some Dispatch) told (Raced course report) h = inr (course_can Sets told course h.course_is, refl)
comes (Some Dispatch) told (Served how replies) h = absurd h
comes (Some Dispatch) told (Judged verdict) h = absurd h
comes (Some Dispatch) told (Soaked given course) h = absurd h
comes (Some Wire) told Unformed h = absurd h
comes (Some Wire) told (Refused why) h = inl h
comes (Some Wire) told (Checked diagnostics) h = absurd h
comes (Some Wire) told (Ran course) h = absurd h
comes (Some Wire) told (Raced course report) h = absurd h
comes (Some Wire) told (Served how replies) h = inr (served_can told how replies h, answered_status h.opening told.script how replies h.stream)
comes (Some Wire) told (Judged verdict) h = absurd h
comes (Some Wire) told (Soaked given course) h = absurd h
comes (Some Check) told Unformed h = absurd h
comes (Some Check) told (Refused why) h = inl h
comes (Some Check) told (Checked diagnostics) h = inr ((h.1.short, (h.1.loaded, h.1.rc_files)), refl)
comes (Some Check) told (Ran course) h = absurd h
comes (Some Check) told (Raced course report) h = absurd h
comes (Some Check) told (Served how replies) h = absurd h
comes (Some Check) told (Judged verdict) h = absurd h
comes (Some Check) told (Soaked given course) h = absurd h
comes (Some Audit) told Unformed h = absurd h
comes (Some Audit) told (Refused why) h = inl h
comes (Some Audit) told (Checked diagnostics) h = absurd h
comes (Some Audit) told (Ran course) h = absurd h
comes (Some Audit) told (Raced course report) h = absurd h
comes (Some Audit) told (Served how replies) h = absurd h
comes (Some Audit) told (Judged verdict) h = inr ((course_can Whole told h.course h.course_is, (h.said.report, h.said.report_is)), refl)
comes (Some Audit) told (Soaked given course) h = absurd h
comes (Some (Soak services)) told Unformed h = absurd h
comes (Some (Soak services)) told (Refused why) h = inl h
comes (Some (Soak services)) told (Checked diagnostics) h = absurd h
comes (Some (Soak services)) told (Ran course) h = absurd h
comes (Some (Soak services)) told (Raced course report) h = absurd h
comes (Some (Soak services)) told (Served how replies) h = absurd h
comes (Some (Soak services)) told (Judged verdict) h = absurd h
comes (Some (Soak services)) told (Soaked given course) h = inr (course_can Whole told course h.1, refl)

same_status : (asked : Option Form) (told : Told) (one other : Outcome) → Comes asked told one → Comes asked told other → status_of_outcome one ≡ status_of_outcome other
same_status asked told one other (inl h) (inl k) = form_once asked told (status_of_outcome one) (status_of_outcome other) h k
same_status asked told one other (inl h) (inr k) = absurd (form_not asked told (status_of_outcome one) k.0 h)
same_status asked told one other (inr h) (inl k) = absurd (form_not asked told (status_of_outcome other) h.0 k)
same_status asked told one other (inr h) (inr k) = form_ends asked told (status_of_outcome one) (status_of_outcome other) h.1 k.1

-- all outcomes that what is told comes to have one status
pub one_status : (asked : Option Form) (told : Told) (one other : Outcome) → ComesTo asked told one → ComesTo asked told other → status_of_outcome one ≡ status_of_outcome other
one_status asked told one other h k = same_status asked told one other (comes asked told one h) (comes asked told other k)

-- a call that wasn't cut ends with the status of each outcome
pub only_status : (asked : Option Form) (told : Told) (how : Status) (shown : Shown) → Ends asked told how shown → (outcome : Outcome) → ComesTo asked told outcome
    → IsCut how ⊎ (how ≡ status_of_outcome outcome)
only_status asked told status.Done shown ends outcome comes = inr (ends.2 ∙ one_status asked told ends.0 outcome ends.1 comes)
only_status asked told status.Usage shown ends outcome comes = inr (ends.2 ∙ one_status asked told ends.0 outcome ends.1 comes)
only_status asked told status.ReadFault shown ends outcome comes = inl tt
only_status asked told status.WriteFault shown ends outcome comes = inl tt
only_status asked told status.NoMemory shown ends outcome comes = inl tt
only_status asked told (status.BadScript line) shown ends outcome comes = inr (ends.2 ∙ one_status asked told ends.0 outcome ends.1 comes)
only_status asked told status.NoInit shown ends outcome comes = inr (ends.2 ∙ one_status asked told ends.0 outcome ends.1 comes)
only_status asked told (status.TooLarge limit number) shown ends outcome comes = inr (ends.2 ∙ one_status asked told ends.0 outcome ends.1 comes)
only_status asked told (status.BadPolicy allow line) shown ends outcome comes = inr (ends.2 ∙ one_status asked told ends.0 outcome ends.1 comes)
only_status asked told (status.BadStore line why) shown ends outcome comes = inr (ends.2 ∙ one_status asked told ends.0 outcome ends.1 comes)
only_status asked told (status.BadWire at) shown ends outcome comes = inr (ends.2 ∙ one_status asked told ends.0 outcome ends.1 comes)
only_status asked told status.BadTrace shown ends outcome comes = inr (ends.2 ∙ one_status asked told ends.0 outcome ends.1 comes)
