-- How the serving of messages ends, and what it says of the objects.
use Rattle.std.proofs.Common.{◌≡◌, ℕ, ◌≤◌, true, false, List, [], length, map, Option, Some, Result, Ok, Err, refl, sym, ap, ◌∙◌, subst, inl, inr, arith}
use Rattle.std.specs.Prelude.{◌⊎◌}
use Rattle.std.specs.Io.KnownBytes.{append_known}
use Rattle.init_base.specs.Faults.{Counted, Rose}
use Rattle.init_driver.specs.Keeper.{KeeperView, Risks, Took}
use Rattle.init_driver.specs.declared.refusal.DriveRefusal.{DriveRefusal}
use Rattle.init_driver.specs.declared.refusal.DriveRefusal.TheVariants as drive
use Rattle.init_machine.specs.State.{Opening}
use Rattle.init_machine.specs.declared.diagnostic.Diagnostic.{Diagnostic}
use Rattle.init_machine.specs.declared.limit.Limit.{Limit}
use Rattle.init_machine.specs.declared.limit.Limit.TheVariants as limits
use Rattle.init_trace.specs.Written.{TakesFront}
use Rattle.init_wire.specs.Opening.{wire_script}
use Rattle.init_wire.specs.Served.{IsAnswered, booted, client}
use Rattle.command_line.specs.declared.form.Form.TheVariants.{Wire}
use Rattle.job_reader.specs.Check.{IsTreeLimit}
use Rattle.job_reader.specs.Counts.{AreCounted, Counts, SomeReadRose, counts_of}
use Rattle.job_reader.specs.Endings.{IsWireLimit, IsWireStatus}
use Rattle.job_reader.specs.Prepared.{IsFit, IsSetupOf, course_of}
use Rattle.job_reader.specs.Run.{IsOpened}
use Rattle.job_reader.specs.Stops.{IsOfStore, IsOfTree, IsStoreLimit, status_of}
use Rattle.job_reader.specs.Store.{IsStoreOf, StoreLimitSays, StoreSays}
use Rattle.job_reader.specs.Tree.{TreeLimitSays, TreeSays}
use Rattle.job_reader.specs.Tree.Purpose.{ToRun}
use Rattle.job_reader.specs.declared.preparing.Job.{Job}
use Rattle.job_reader.specs.declared.status.Status.{Status}
use Rattle.job_reader.specs.declared.status.Status.TheVariants as status
use Rattle.job_reader.specs.declared.stop.Stop.{Stop}
use Rattle.job_reader.specs.declared.stop.Stop.TheVariants as stop
use Rattle.prop_wire.specs.Refusals.{is_read_fault, is_write_fault}
use Rattle.prop_wire.specs.Replies.{Replies}
use Rattle.prop_wire.specs.Serving.{TakesBytes}
use Rattle.prop_wire.specs.declared.refusal.WireRefusal.{WireRefusal}
use Rattle.prop_wire.specs.declared.refusal.WireRefusal.TheVariants as refusal
use Rattle.rc_import.specs.World.{World}
use Rattle.script_lang.specs.declared.script.Script.{Script}
use Rattle.wire_format.specs.declared.message.Rest.{Rest}
use Rattle.wire_format.specs.declared.message.Rest.TheVariants as rest
use Rattle.init_forms.proofs.Ends.{machine_limit, refused}
use Rattle.init_forms.proofs.Streams.{open_stream, short_stream}
use Rattle.init_forms.specs.Outcome.{ComesTo, CutShort, Ends, IsServed, MachineRefused, Outcome, Shows, Told, shown_as, status_of_outcome}
use Rattle.init_forms.specs.Outcome.Outcome.{Served}
use Rattle.init_forms.specs.Serving.{CutsReplies, IsAnsweredStream, PerformsWire, WritesReplies, stream_status}
use Rattle.init_forms.specs.Top.{IsUnwritten}
use Rattle.init_forms.specs.internal.Serving.{IsOfStream, status_of_serving}

-- ---- what serving a stream writes

ended_so : (last other : Rest) (place many : ℕ) (how : Status) → last ≡ other → stream_status other place many ≡ how → how ≡ stream_status last place many
ended_so last other place many how is ends = sym ends ∙ sym (ap (λ (l : Rest). stream_status l place many) is)

bad_at : (at place : ℕ) → at ≡ place → status.BadWire place ≡ status.BadWire at
bad_at at place e = ap (λ p. status.BadWire p) (sym e)

module _ (o : Opening) (bytes : List ℕ) (old new : Option (List ℕ)) where
  answered : (r : Result ℕ WireRefusal) (how : Status) (is : IsAnswered o bytes old new r) → how ≡ stream_status is.last is.place (length bytes)
      → IsAnsweredStream o bytes how (Replies o booted client is.messages is.last)
  answered r how is ends = record {
    messages = is.messages;
    last = is.last;
    wire = is.wire;
    place = is.place;
    place_is = is.place_is;
    how_is = ends;
    replies_are = refl;
  }

  all_taken : (replies : List ℕ) → TakesBytes true replies old new → new ≡ append_known old replies
  all_taken replies takes = takes.taken ∙ ap (λ (l : List ℕ). append_known old l) takes.part

  some_taken : (replies : List ℕ) → TakesBytes false replies old new → TakesFront old new replies
  some_taken replies takes = record { front = takes.written; rest = takes.part.0; whole = takes.part.1; taken = takes.taken }

  writes : (r : Result ℕ WireRefusal) (how : Status) (is : IsAnswered o bytes old new r) → how ≡ stream_status is.last is.place (length bytes)
      → TakesBytes true (Replies o booted client is.messages is.last) old new → WritesReplies o bytes old new how
  writes r how is ends takes = record {
    replies = Replies o booted client is.messages is.last;
    stream = answered r how is ends;
    written = all_taken (Replies o booted client is.messages is.last) takes;
  }

  cuts : (r : Result ℕ WireRefusal) (is : IsAnswered o bytes old new r) → TakesBytes false (Replies o booted client is.messages is.last) old new
      → CutsReplies o bytes old new
  cuts r is takes = record {
    how = stream_status is.last is.place (length bytes);
    replies = Replies o booted client is.messages is.last;
    stream = answered r (stream_status is.last is.place (length bytes)) is refl;
    written = some_taken (Replies o booted client is.messages is.last) takes;
  }

  pub performs_wire : (r : Result ℕ WireRefusal) → IsAnswered o bytes old new r → PerformsWire o bytes old new (status_of_serving r)
  performs_wire (Ok count) is =
      writes (Ok count) status.Done is
      (ended_so is.last rest.End is.place (length bytes) status.Done is.end.0 (short_stream (length bytes) status.Done is.limit))
      is.written
  performs_wire (Err (refusal.BadCommand at word)) is =
      writes (Err (refusal.BadCommand at word)) (status.BadWire at) is
      (ended_so is.last (rest.BadCommand word) is.place (length bytes) (status.BadWire at) is.end.0 (bad_at at is.place is.end.1))
      is.written
  performs_wire (Err (refusal.BadLength at len)) is =
      writes (Err (refusal.BadLength at len)) (status.BadWire at) is
      (ended_so is.last (rest.BadLength len) is.place (length bytes) (status.BadWire at) is.end.0 (bad_at at is.place is.end.1))
      is.written
  performs_wire (Err (refusal.Torn at)) is =
      writes (Err (refusal.Torn at)) (status.BadWire at) is
      (ended_so is.last (rest.Torn is.end.0) is.place (length bytes) (status.BadWire at) is.end.1
      (short_stream (length bytes) (status.BadWire is.place) is.limit ∙ bad_at at is.place is.end.2))
      is.written
  performs_wire (Err (refusal.TooLong taken)) is =
      writes (Err (refusal.TooLong taken)) (status.TooLarge limits.ScriptBytes taken) is
      (ap (λ (n : ℕ). status.TooLarge limits.ScriptBytes n) is.end.1 ∙ sym (open_stream is.last is.place (length bytes) is.end.0 is.limit))
      is.written
  performs_wire (Err refusal.Spent) is = cuts (Err refusal.Spent) is is.written
  performs_wire (Err refusal.ReadFault) is = cuts (Err refusal.ReadFault) is is.written
  performs_wire (Err refusal.WriteFault) is = cuts (Err refusal.WriteFault) is is.written
  performs_wire (Err refusal.NoMemory) is = cuts (Err refusal.NoMemory) is is.written

-- ---- the machine of a job

pub one_domain : (job : Job) → IsFit job → job.script ≡ wire_script → length job.setup.config.domains ≡ 1
one_domain job fit same =
    ap (λ (l : List (List ℕ)). length l) fit.domains ∙ ap (λ (s : Script). length (map (λ client. client.domain) s.clients)) same

pub words_in_range : (job : Job) → job.script ≡ wire_script → (64 ≤ job.script.words) × (job.script.words ≤ 1048576)
words_in_range job same = let words : job.script.words ≡ 65536 = ap (λ (s : Script). s.words) same in (omega (arith, words), omega (arith, words))

pub opened_by : (job : Job) (world : World) (held : List ℕ) → IsFit job → job.script ≡ wire_script → IsSetupOf world job.setup → IsStoreOf held job.setup.config.saved
    → IsOpened wire_script world held job.setup.diagnostics (course_of job).opening
opened_by job world held fit same setup store =
    subst (λ (s : Script). IsOpened s world held job.setup.diagnostics (course_of job).opening) same
    (record {
      policy = setup.policy;
      load = setup.load;
      saved = store;
      plans = fit.plans;
      domains = fit.domains;
      capacity = refl;
    })

-- ---- how it ends

module _ (o : Opening) (found : List Diagnostic) (told : Told) (old new : Option (List ℕ)) (a b : KeeperView) (asked : Took a b [])
    (opened : IsOpened wire_script told.world told.held found o) where
  served : (how : Status) (replies : List ℕ) → IsAnsweredStream o told.script how replies → IsServed told how replies
  served how replies stream = record { opening = o; diagnostics = found; opened = opened; stream = stream }

  whole_ends : (how : Status) → WritesReplies o told.script old new how
      → (outcome : Outcome) × ComesTo (Some Wire) told outcome × (how ≡ status_of_outcome outcome) × Shows outcome (shown_as old new a b)
  whole_ends how h = (Served how h.replies, served how h.replies h.stream, refl, (h.written, asked))

  cut_ends : (why : DriveRefusal) → CutsReplies o told.script old new
      → (outcome : Outcome) × ComesTo (Some Wire) told outcome × CutShort why outcome (shown_as old new a b)
  cut_ends drive.Keeper h = (Served h.how h.replies, served h.how h.replies h.stream, (h.written, asked))
  cut_ends drive.Write h = (Served h.how h.replies, served h.how h.replies h.stream, (h.written, asked))
  cut_ends drive.NoMemory h = (Served h.how h.replies, served h.how h.replies h.stream, (h.written, asked))

  pub served_ends : (how : Status) → PerformsWire o told.script old new how → Ends (Some Wire) told how (shown_as old new a b)
  served_ends status.Done h = whole_ends status.Done h
  served_ends status.Usage h = whole_ends status.Usage h
  served_ends status.ReadFault h = inr (cut_ends drive.Keeper h)
  served_ends status.WriteFault h = cut_ends drive.Write h
  served_ends status.NoMemory h = inr (cut_ends drive.NoMemory h)
  served_ends (status.BadScript line) h = whole_ends (status.BadScript line) h
  served_ends status.NoInit h = whole_ends status.NoInit h
  served_ends (status.TooLarge limit number) h = whole_ends (status.TooLarge limit number) h
  served_ends (status.BadPolicy allow line) h = whole_ends (status.BadPolicy allow line) h
  served_ends (status.BadStore line why) h = whole_ends (status.BadStore line why) h
  served_ends (status.BadWire at) h = whole_ends (status.BadWire at) h
  served_ends status.BadTrace h = whole_ends status.BadTrace h

-- ---- a machine that isn't opened

neither : {A : Type 0} → ⊥ ⊎ ⊥ → A
neither (inl wrong) = absurd wrong
neither (inr wrong) = absurd wrong

limit_of_machine : (told : Told) (limit : Limit) (number : ℕ) → IsTreeLimit limit ⊎ IsStoreLimit limit → TreeLimitSays ToRun told.world limit number
    → StoreLimitSays told.held limit number → MachineRefused told (status.TooLarge limit number)
limit_of_machine told limits.FileBytes number is tree store = machine_limit told limits.FileBytes number tree
limit_of_machine told limits.Files number is tree store = machine_limit told limits.Files number tree
limit_of_machine told limits.Names number is tree store = machine_limit told limits.Names number tree
limit_of_machine told limits.RcBytes number is tree store = machine_limit told limits.RcBytes number tree
limit_of_machine told limits.StoreBytes number is tree store = inr (tree.0, inr (tree.1, (refl, store.0, store.1)))
limit_of_machine told limits.ScriptBytes number is tree store = neither is
limit_of_machine told limits.ScriptLines number is tree store = neither is
limit_of_machine told limits.Steps number is tree store = neither is
limit_of_machine told limits.TraceBytes number is tree store = neither is

pub unopened_ends : (why : Stop) (told : Told) (old : Option (List ℕ)) (a b : KeeperView) → IsOfTree why ⊎ IsOfStore why → TreeSays ToRun told.world (status_of why)
    → StoreSays told.held (status_of why) → b.held ≡ a.held → (a.TellsCrash → Risks a b [] []) → Ends (Some Wire) told (status_of why) (shown_as old old a b)
unopened_ends stop.ReadFault told old a b is tree store held crash = inl (record { written = refl; held = held; crash = crash })
unopened_ends stop.NoMemory told old a b is tree store held crash = inl (record { written = refl; held = held; crash = crash })
unopened_ends (stop.BadScript line) told old a b is tree store held crash = neither is
unopened_ends stop.NoInit told old a b is tree store held crash =
    refused Wire told status.NoInit old a b (inr (tree.policy, inl (tree.build_files, tree.absent))) held crash
unopened_ends (stop.TooLarge limit number) told old a b is tree store held crash =
    refused Wire told (status.TooLarge limit number) old a b (limit_of_machine told limit number is tree store) held crash
unopened_ends (stop.BadPolicy allow line) told old a b is tree store held crash =
    refused Wire told (status.BadPolicy allow line) old a b (inl tree) held crash
unopened_ends (stop.BadStore line why) told old a b is tree store held crash =
    refused Wire told (status.BadStore line why) old a b (inr (tree.0, inr (tree.1, store))) held crash
unopened_ends stop.BadTrace told old a b is tree store held crash = neither is

limit_of_wire : (limit : Limit) → IsTreeLimit limit ⊎ IsStoreLimit limit → IsWireLimit limit
limit_of_wire limits.FileBytes is = tt
limit_of_wire limits.Files is = tt
limit_of_wire limits.Names is = tt
limit_of_wire limits.RcBytes is = tt
limit_of_wire limits.StoreBytes is = tt
limit_of_wire limits.ScriptBytes is = tt
limit_of_wire limits.ScriptLines is = neither is
limit_of_wire limits.Steps is = neither is
limit_of_wire limits.TraceBytes is = neither is

pub unopened_status : (why : Stop) → IsOfTree why ⊎ IsOfStore why → IsWireStatus (status_of why)
unopened_status stop.ReadFault is = tt
unopened_status stop.NoMemory is = tt
unopened_status (stop.BadScript line) is = neither is
unopened_status stop.NoInit is = tt
unopened_status (stop.TooLarge limit number) is = limit_of_wire limit is
unopened_status (stop.BadPolicy allow line) is = tt
unopened_status (stop.BadStore line why) is = tt
unopened_status stop.BadTrace is = neither is

-- ---- statuses and counts

pub stream_status_of_wire : (how : Status) → IsOfStream how → IsWireStatus how
stream_status_of_wire status.Done is = tt
stream_status_of_wire status.Usage is = is
stream_status_of_wire status.ReadFault is = tt
stream_status_of_wire status.WriteFault is = tt
stream_status_of_wire status.NoMemory is = tt
stream_status_of_wire (status.BadScript line) is = is
stream_status_of_wire status.NoInit is = tt
stream_status_of_wire (status.TooLarge limit number) is = subst IsWireLimit (sym is) tt
stream_status_of_wire (status.BadPolicy allow line) is = tt
stream_status_of_wire (status.BadStore line why) is = tt
stream_status_of_wire (status.BadWire at) is = tt
stream_status_of_wire status.BadTrace is = is

pub serving_is_of_stream : (r : Result ℕ WireRefusal) → IsOfStream (status_of_serving r)
serving_is_of_stream (Ok count) = tt
serving_is_of_stream (Err refusal.Spent) = tt
serving_is_of_stream (Err (refusal.BadCommand at word)) = tt
serving_is_of_stream (Err (refusal.BadLength at len)) = tt
serving_is_of_stream (Err (refusal.TooLong taken)) = refl
serving_is_of_stream (Err (refusal.Torn at)) = tt
serving_is_of_stream (Err refusal.ReadFault) = tt
serving_is_of_stream (Err refusal.WriteFault) = tt
serving_is_of_stream (Err refusal.NoMemory) = tt

module _ (files script script' trace keeper out out' : ℕ) where
  same_counts : script' ≡ script → out' ≡ out → counts_of files script' trace keeper out' ≡ counts_of files script trace keeper out
  same_counts one other = cc

  pub serving_counts : (r : Result ℕ WireRefusal) → Counted (is_read_fault r) script script' → Counted (is_write_fault r) out out'
      → AreCounted (status_of_serving r) (counts_of files script trace keeper out) (counts_of files script' trace keeper out')
  serving_counts (Ok count) one other = same_counts one other
  serving_counts (Err refusal.Spent) one other = same_counts one other
  serving_counts (Err (refusal.BadCommand at word)) one other = same_counts one other
  serving_counts (Err (refusal.BadLength at len)) one other = same_counts one other
  serving_counts (Err (refusal.TooLong taken)) one other = same_counts one other
  serving_counts (Err (refusal.Torn at)) one other = same_counts one other
  serving_counts (Err refusal.ReadFault) one other = (inr (inl one), other)
  serving_counts (Err refusal.WriteFault) one other = (other, ap (λ (s : ℕ). counts_of files s trace keeper out') one)
  serving_counts (Err refusal.NoMemory) one other = same_counts one other

-- the counts over the tree and the store, and then over the stream
pub served_counts : (how : Status) (f f' s s' t k k' o o' : ℕ) → counts_of f' 0 0 k' 0 ≡ counts_of f 0 0 k 0
    → ((files trace keeper : ℕ) → AreCounted how (counts_of files s trace keeper o) (counts_of files s' trace keeper o'))
    → AreCounted how (counts_of f s t k o) (counts_of f' s' t k' o')
served_counts how f f' s s' t k k' o o' same counted =
    let now : Counts = counts_of f' s' t k' o' in
    let files : f' ≡ f = ap (λ (c : Counts). c.files) same in
    let keeper : k' ≡ k = ap (λ (c : Counts). c.keeper) same in
    subst (λ x. AreCounted how (counts_of f s t x o) now) keeper
    (subst (λ x. AreCounted how (counts_of x s t k' o) now) files (counted f' t k'))

-- ---- what is written before a refusal

not_risen : Rose 0 0 → ⊥
not_risen rose = omega (arith, rose)

script_rose : (s s' o o' : ℕ) → SomeReadRose (counts_of 0 s 0 0 o) (counts_of 0 s' 0 0 o') → Rose s s'
script_rose s s' o o' (inl rose) = absurd (not_risen rose)
script_rose s s' o o' (inr (inl rose)) = rose
script_rose s s' o o' (inr (inr (inl rose))) = absurd (not_risen rose)
script_rose s s' o o' (inr (inr (inr rose))) = absurd (not_risen rose)

too_large_unwritten : (limit : Limit) (number : ℕ) (old new : Option (List ℕ)) (before now : Counts) → limit ≡ limits.ScriptBytes
    → IsUnwritten (Some Wire) old new (status.TooLarge limit number) before now
too_large_unwritten limit number old new before now is = subst (λ l. IsUnwritten (Some Wire) old new (status.TooLarge l number) before now) (sym is) tt

pub served_unwritten : (how : Status) (old new : Option (List ℕ)) (f f' s s' t k k' o o' : ℕ) → IsOfStream how
    → AreCounted how (counts_of 0 s 0 0 o) (counts_of 0 s' 0 0 o')
    → IsUnwritten (Some Wire) old new how (counts_of f s t k o) (counts_of f' s' t k' o')
served_unwritten status.Done old new f f' s s' t k k' o o' is counted = tt
served_unwritten status.Usage old new f f' s s' t k k' o o' is counted = absurd is
served_unwritten status.ReadFault old new f f' s s' t k k' o o' is counted = inr (script_rose s s' o o' counted.0)
served_unwritten status.WriteFault old new f f' s s' t k k' o o' is counted = tt
served_unwritten status.NoMemory old new f f' s s' t k k' o o' is counted = tt
served_unwritten (status.BadScript line) old new f f' s s' t k k' o o' is counted = absurd is
served_unwritten status.NoInit old new f f' s s' t k k' o o' is counted = absurd is
served_unwritten (status.TooLarge limit number) old new f f' s s' t k k' o o' is counted = too_large_unwritten limit number old new _ _ is
served_unwritten (status.BadPolicy allow line) old new f f' s s' t k k' o o' is counted = absurd is
served_unwritten (status.BadStore line why) old new f f' s s' t k k' o o' is counted = absurd is
served_unwritten (status.BadWire at) old new f f' s s' t k k' o o' is counted = tt
served_unwritten status.BadTrace old new f f' s s' t k k' o o' is counted = absurd is

limit_unwritten : (limit : Limit) (number : ℕ) (old : Option (List ℕ)) (before now : Counts) → IsUnwritten (Some Wire) old old (status.TooLarge limit number) before now
limit_unwritten limits.ScriptBytes number old before now = tt
limit_unwritten limits.ScriptLines number old before now = refl
limit_unwritten limits.Steps number old before now = refl
limit_unwritten limits.FileBytes number old before now = refl
limit_unwritten limits.Files number old before now = refl
limit_unwritten limits.Names number old before now = refl
limit_unwritten limits.RcBytes number old before now = refl
limit_unwritten limits.StoreBytes number old before now = refl
limit_unwritten limits.TraceBytes number old before now = refl

pub unopened_unwritten : (why : Stop) (old : Option (List ℕ)) (before now : Counts) → IsUnwritten (Some Wire) old old (status_of why) before now
unopened_unwritten stop.ReadFault old before now = inl refl
unopened_unwritten stop.NoMemory old before now = tt
unopened_unwritten (stop.BadScript line) old before now = refl
unopened_unwritten stop.NoInit old before now = refl
unopened_unwritten (stop.TooLarge limit number) old before now = limit_unwritten limit number old before now
unopened_unwritten (stop.BadPolicy allow line) old before now = refl
unopened_unwritten (stop.BadStore line why) old before now = refl
unopened_unwritten stop.BadTrace old before now = refl
