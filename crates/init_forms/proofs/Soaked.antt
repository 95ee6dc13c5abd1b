-- How a soak ends, by what its parts say.
use Rattle.std.proofs.Common.{◌≡◌, ℕ, ◌≤◌, Bool, true, false, ◌&&◌, nat_le, List, [], ◌∷◌, Option, Some, None, arith, inl, inr, refl, sym, ap, ◌∙◌, subst}
use Rattle.std.specs.Prelude.{if◌then◌else◌, option_map}
use Rattle.std.specs.Char.{is_ascii_digit}
use Rattle.std.specs.List.{list_all}
use Rattle.std.specs.Option.{option_map_or}
use Rattle.std.specs.Str.Parse.{digits_value}
use Rattle.std.proofs.lemmas.Bool.{leb-true}
use Rattle.init_driver.proofs.Keepers.{took_nothing}
use Rattle.init_driver.specs.Keeper.{KeeperView}
use Rattle.init_driver.specs.Run.{report_of}
use Rattle.command_line.specs.Form.{form_of, form_with}
use Rattle.command_line.specs.FormName.{form_named}
use Rattle.command_line.specs.Services.{begins_number, services_in}
use Rattle.command_line.specs.declared.form.Form.{Form}
use Rattle.command_line.specs.declared.form.Form.TheVariants as form
use Rattle.command_line.specs.declared.form.Form.TheVariants.{Soak}
use Rattle.command_line.specs.declared.form_name.FormName.{FormName}
use Rattle.command_line.specs.declared.form_name.FormName.TheVariants as name
use Rattle.job_reader.specs.Counts.{AreCounted, Counts, IsDoneUnlessRisen, counts_of}
use Rattle.job_reader.specs.Endings.{IsRunStatus}
use Rattle.job_reader.specs.Prepared.{IsFit, IsSetupOf, WritesText, course_of}
use Rattle.job_reader.specs.Run.{Course, IsCourseOf}
use Rattle.job_reader.specs.Script.{ScriptSays}
use Rattle.job_reader.specs.Stops.{status_of}
use Rattle.job_reader.specs.Store.{IsStoreOf, StoreSays}
use Rattle.job_reader.specs.Texts.{Tree}
use Rattle.job_reader.specs.Tree.{IsWorldOf, TreeSays}
use Rattle.job_reader.specs.Tree.Purpose.{ToRun}
use Rattle.job_reader.specs.declared.preparing.Job.{Job}
use Rattle.job_reader.specs.declared.grammar.Grammar.TheVariants.{Whole}
use Rattle.job_reader.specs.declared.status.Status.{Status}
use Rattle.job_reader.specs.declared.status.Status.TheVariants as status
use Rattle.job_reader.specs.declared.stop.Stop.{Stop}
use Rattle.job_reader.specs.declared.stop.Stop.TheVariants as stop
use Rattle.property_area.specs.Seats.{Seated}
use Rattle.rc_import.specs.World.{World}
use Rattle.script_lang.specs.Script.{IsScript}
use Rattle.soak_summary.specs.Counting.{tally_of}
use Rattle.soak_summary.specs.Summary.{SummaryText}
use Rattle.soak_summary.specs.declared.tally.Tally.{Tally}
use Rattle.init_forms.specs.Outcome.{Ends, TellRun, Told, generated_sources, shown_as}
use Rattle.init_forms.specs.Outcome.Outcome.{Refused, Soaked}
use Rattle.init_forms.specs.Seats.{Records, RunGives}
use Rattle.init_forms.specs.SoakEnds.{EndsSoak}
use Rattle.init_forms.specs.Soaking.{generated_script, generated_tree, soak_text}
use Rattle.init_forms.specs.Top.{CanSoak}
use Rattle.init_forms.proofs.Complete.{complete_run}
use Rattle.init_forms.proofs.Ends.{limit_refused, nothing_new}
use Rattle.init_forms.proofs.Judged.{written_status}
use Rattle.init_forms.proofs.Performed.{course_is, rose_from_nothing}

-- the call ends as the soak did, whatever the keeper is, which isn't asked
pub soak_ends : (services : ℕ) (told : Told) (old new : Option (List ℕ)) (a : KeeperView) (how : Status) (seat : Option Seated)
    → EndsSoak services told old new how seat → Ends (Some (Soak services)) told how (shown_as old new a a)
soak_ends services told old new a status.Done seat h = (Soaked services h.0, (refl, h.1), refl, (h.2, took_nothing a))
soak_ends services told old new a status.WriteFault seat h = (Soaked services h.0, (refl, h.1), (h.2, took_nothing a))
soak_ends services told old new a status.NoMemory seat (inl same) = inl (nothing_new old new a same)
soak_ends services told old new a status.NoMemory seat (inr h) = inr (Soaked services h.0, (refl, h.1), (h.2, took_nothing a))
soak_ends services told old new a status.ReadFault seat h = absurd h
soak_ends services told old new a status.Usage seat h = absurd h
soak_ends services told old new a (status.BadScript line) seat h = (Refused (status.BadScript line), h.0, refl, nothing_new old new a h.1)
soak_ends services told old new a status.NoInit seat h = (Refused status.NoInit, h.0, refl, nothing_new old new a h.1)
soak_ends services told old new a (status.TooLarge limit number) seat h = (Refused (status.TooLarge limit number), h.0, refl, nothing_new old new a h.1)
soak_ends services told old new a (status.BadPolicy allow line) seat h = (Refused (status.BadPolicy allow line), h.0, refl, nothing_new old new a h.1)
soak_ends services told old new a (status.BadStore line why) seat h = (Refused (status.BadStore line why), h.0, refl, nothing_new old new a h.1)
soak_ends services told old new a (status.BadWire at) seat h = (Refused (status.BadWire at), h.0, refl, nothing_new old new a h.1)
soak_ends services told old new a status.BadTrace seat h = (Refused status.BadTrace, h.0, refl, nothing_new old new a h.1)

pub soak_records : (services : ℕ) (told : Told) (old new : Option (List ℕ)) (a : KeeperView) (how : Status) (seat : Option Seated)
    → EndsSoak services told old new how seat → Records (Some (Soak services)) told how (shown_as old new a a) seat
soak_records services told old new a status.Done seat h = h
soak_records services told old new a status.WriteFault seat h = tt
soak_records services told old new a status.NoMemory seat h = tt
soak_records services told old new a status.ReadFault seat h = tt
soak_records services told old new a status.Usage seat h = tt
soak_records services told old new a (status.BadScript line) seat h = tt
soak_records services told old new a status.NoInit seat h = tt
soak_records services told old new a (status.TooLarge limit number) seat h = tt
soak_records services told old new a (status.BadPolicy allow line) seat h = tt
soak_records services told old new a (status.BadStore line why) seat h = tt
soak_records services told old new a (status.BadWire at) seat h = tt
soak_records services told old new a status.BadTrace seat h = tt

-- a soak that isn't begun
pub soak_refused : (why : Stop) (services : ℕ) (told : Told) (left old : Option (List ℕ)) → (why ≡ stop.ReadFault → ⊥) → IsRunStatus (status_of why)
    → ScriptSays Whole told.script left (status_of why) → TreeSays ToRun told.world (status_of why) → StoreSays told.held (status_of why)
    → EndsSoak services told old old (status_of why) None
soak_refused stop.ReadFault services told left old steady is script tree store = absurd (steady refl)
soak_refused stop.NoMemory services told left old steady is script tree store = inl refl
soak_refused (stop.BadScript line) services told left old steady is script tree store = (inl script, refl)
soak_refused stop.NoInit services told left old steady is script tree store =
    (inr (script.0, inr (tree.policy, inl (tree.build_files, tree.absent))), refl)
soak_refused (stop.TooLarge limit number) services told left old steady is script tree store =
    (limit_refused Whole told left limit number is script tree store, refl)
soak_refused (stop.BadPolicy allow line) services told left old steady is script tree store = (inr (script.0, inl tree), refl)
soak_refused (stop.BadStore line why) services told left old steady is script tree store =
    (inr (script.0, inr (tree.0, inr (tree.1, store))), refl)
soak_refused stop.BadTrace services told left old steady is script tree store = absurd is

-- a summary with the numbers of a course's report
pub summary_written : (services : ℕ) (course : Course) (tally : Tally) (old new : Option (List ℕ)) (how : Status)
    → tally ≡ tally_of (report_of course.opening course.diagnostics course.script) → WritesText (SummaryText (record { services = services; tally = tally })) old new how
    → WritesText (soak_text services course) old new how
unfolding soak_text
summary_written services course tally old new how same writes =
    subst (λ (t : Tally). WritesText (SummaryText (record { services = services; tally = t })) old new how) same writes

-- a course whose report was counted
pub soak_performed : (services : ℕ) (course : Course) (told : Told) (old new : Option (List ℕ)) (how : Status) (seat : Option Seated)
    → IsCourseOf Whole told.script told.world told.held course → WritesText (soak_text services course) old new how → RunGives course how seat
    → EndsSoak services told old new how seat
soak_performed services course told old new status.Done seat is writes gives = (course, is, writes, gives)
soak_performed services course told old new status.WriteFault seat is writes gives = (course, is, writes)
soak_performed services course told old new status.NoMemory seat is writes gives = inr (course, is, writes)
soak_performed services course told old new status.ReadFault seat is writes gives = absurd writes
soak_performed services course told old new status.Usage seat is writes gives = absurd writes
soak_performed services course told old new (status.BadScript line) seat is writes gives = absurd writes
soak_performed services course told old new status.NoInit seat is writes gives = absurd writes
soak_performed services course told old new (status.TooLarge limit number) seat is writes gives = absurd writes
soak_performed services course told old new (status.BadPolicy allow line) seat is writes gives = absurd writes
soak_performed services course told old new (status.BadStore line why) seat is writes gives = absurd writes
soak_performed services course told old new (status.BadWire at) seat is writes gives = absurd writes
soak_performed services course told old new status.BadTrace seat is writes gives = absurd writes

-- ---- a generated boot that was read

some_same : {X : Type 0} (x y : X) → Some x ≡ Some y → x ≡ y
some_same x y e = cc

none_rose : AreCounted status.ReadFault (counts_of 0 0 0 0 0) (counts_of 0 0 0 0 0) → ⊥
none_rose (inl rose, out) = rose_from_nothing rose
none_rose (inr (inl rose), out) = rose_from_nothing rose
none_rose (inr (inr (inl rose)), out) = rose_from_nothing rose
none_rose (inr (inr (inr rose)), out) = rose_from_nothing rose

-- what never fails has no fault
pub no_fault : (why : Stop) → AreCounted (status_of why) (counts_of 0 0 0 0 0) (counts_of 0 0 0 0 0) → why ≡ stop.ReadFault → ⊥
no_fault why counted is = none_rose (subst (λ (w : Stop). AreCounted (status_of w) (counts_of 0 0 0 0 0) (counts_of 0 0 0 0 0)) is counted)

module _ (services : ℕ) (files : Tree) (bytes held : List ℕ) (left : Option (List ℕ)) (files_are : files ≡ generated_tree services) (bytes_are : bytes ≡ generated_script services) (held_is : held ≡ []) where
  told_world : (told : Told) → TellRun (generated_sources services) told → IsWorldOf (Some files) told.world
  told_world told tells = subst (λ (tree : Tree). IsWorldOf (Some tree) told.world) (sym files_are) tells.world_is

  told_script : (told : Told) → TellRun (generated_sources services) told → bytes ≡ told.script
  told_script told tells = bytes_are ∙ some_same (generated_script services) told.script tells.script_is

  told_store : (told : Told) → TellRun (generated_sources services) told → held ≡ told.held
  told_store told tells = held_is ∙ some_same [] told.held tells.held_is

  pub boot_performed : (job : Job) (old new : Option (List ℕ)) (how : Status) (seat : Option Seated) → IsScript bytes job.script
      → ((world : World) → IsWorldOf (Some files) world → IsSetupOf world job.setup) → IsStoreOf held job.setup.config.saved → IsFit job
      → WritesText (soak_text services (course_of job)) old new how → RunGives (course_of job) how seat
      → (told : Told) → TellRun (generated_sources services) told → EndsSoak services told old new how seat
  boot_performed job old new how seat script setup store fit writes gives told tells =
      soak_performed services (course_of job) told old new how seat
      (course_is Whole job told.script told.world told.held fit (subst (λ (b : List ℕ). IsScript b job.script) (told_script told tells) script)
      (setup told.world (told_world told tells)) (subst (λ (h : List ℕ). IsStoreOf h job.setup.config.saved) (told_store told tells) store))
      writes gives

  pub boot_refused : (why : Stop) (old : Option (List ℕ)) → (why ≡ stop.ReadFault → ⊥) → IsRunStatus (status_of why) → ScriptSays Whole bytes left (status_of why)
      → ((world : World) → IsWorldOf (Some files) world → TreeSays ToRun world (status_of why)) → StoreSays held (status_of why)
      → (told : Told) → TellRun (generated_sources services) told → EndsSoak services told old old (status_of why) None
  boot_refused why old steady is script tree store told tells =
      soak_refused why services told left old steady is (subst (λ (b : List ℕ). ScriptSays Whole b left (status_of why)) (told_script told tells) script)
      (tree told.world (told_world told tells)) (subst (λ (h : List ℕ). StoreSays h (status_of why)) (told_store told tells) store)

  -- a generated boot that can be run isn't refused
  pub boot_done : (how : Status) (before now : Counts) → IsRunStatus how → ScriptSays Whole bytes left how → ((world : World) → IsWorldOf (Some files) world → TreeSays ToRun world how)
      → StoreSays held how → AreCounted how before now → CanSoak services → IsDoneUnlessRisen how before now
  boot_done how before now is script tree store counted can =
      complete_run Whole how (generated_sources services) left can.world before now is (subst (λ (b : List ℕ). ScriptSays Whole b left how) bytes_are script)
      (tree can.world (subst (λ (t : Tree). IsWorldOf (Some t) can.world) (sym files_are) can.world_is)) (subst (λ (h : List ℕ). StoreSays h how) held_is store) counted can.can

-- what is written of it is done, unless the sink's count rose
pub written_done : (text : List ℕ) (old new : Option (List ℕ)) (how : Status) (before now : Counts) → WritesText text old new how → AreCounted how before now
    → IsDoneUnlessRisen how before now
written_done text old new how before now writes counted =
    written_status (λ how. AreCounted how before now → IsDoneUnlessRisen how before now) text old new how writes (λ k. tt) (λ k. k.0) (λ k. tt) counted

pub still_counted : (why : Stop) (c : Counts) → (why ≡ stop.ReadFault → ⊥) → AreCounted (status_of why) c c
still_counted stop.ReadFault c steady = absurd (steady refl)
still_counted stop.NoMemory c steady = refl
still_counted (stop.BadScript line) c steady = refl
still_counted stop.NoInit c steady = refl
still_counted (stop.TooLarge limit number) c steady = refl
still_counted (stop.BadPolicy allow line) c steady = refl
still_counted (stop.BadStore line why) c steady = refl
still_counted stop.BadTrace c steady = refl

-- ---- the number of services

numbered : (first low high : Bool) (v n : ℕ) → nat_le 1 v ≡ low → nat_le v 1000 ≡ high → (if first && low && high then Some v else None) ≡ Some n → (1 ≤ n) × (n ≤ 1000)
numbered true true true v n low high e = let same : v ≡ n = cc in (omega (arith, leb-true 1 v low, same), omega (arith, leb-true v 1000 high, same))
numbered true true false v n low high e = cc
numbered true false high v n low above e = cc
numbered false low high v n below above e = cc

in_range : (word : List ℕ) (n : ℕ) → services_in word ≡ Some n → (1 ≤ n) × (n ≤ 1000)
in_range word n e =
    numbered (begins_number word && list_all is_ascii_digit word) (nat_le 1 (digits_value 10 word)) (nat_le (digits_value 10 word) 1000) (digits_value 10 word) n refl refl e

soak_found : (b : Bool) (found : Option ℕ) (n : ℕ) → (if b then option_map Soak found else None) ≡ Some (Soak n) → found ≡ Some n
soak_found true (Some m) n e = let same : m ≡ n = cc in ap (λ k. Some k) same
soak_found true None n e = cc
soak_found false found n e = cc

no_soak : (b : Bool) (form : Form) (n : ℕ) → (form ≡ Soak n → ⊥) → (if b then Some form else None) ≡ Some (Soak n) → ⊥
no_soak true form n other e = other (cc e)
no_soak false form n other e = cc

-- the words after the name of the form `soak` are such a number
in_words : (name : FormName) (words : List (List ℕ)) (n : ℕ) → form_with words name ≡ Some (Soak n) → (1 ≤ n) × (n ≤ 1000)
in_words name.Run [] n e = cc
in_words name.Run (root ∷ []) n e = cc
in_words name.Run (root ∷ script ∷ []) n e = absurd (no_soak _ form.Run n (λ d. cc) e)
in_words name.Run (root ∷ script ∷ trace ∷ []) n e = cc
in_words name.Run (root ∷ script ∷ trace ∷ more ∷ rest) n e = cc
in_words name.Race [] n e = cc
in_words name.Race (root ∷ []) n e = cc
in_words name.Race (root ∷ script ∷ []) n e = absurd (no_soak _ form.Race n (λ d. cc) e)
in_words name.Race (root ∷ script ∷ trace ∷ []) n e = cc
in_words name.Race (root ∷ script ∷ trace ∷ more ∷ rest) n e = cc
in_words name.Check [] n e = cc
in_words name.Check (root ∷ []) n e = absurd (no_soak _ form.Check n (λ d. cc) e)
in_words name.Check (root ∷ script ∷ []) n e = cc
in_words name.Check (root ∷ script ∷ trace ∷ []) n e = cc
in_words name.Check (root ∷ script ∷ trace ∷ more ∷ rest) n e = cc
in_words name.Soak [] n e = cc
in_words name.Soak (root ∷ []) n e = in_range root n (soak_found _ (services_in root) n e)
in_words name.Soak (root ∷ script ∷ []) n e = cc
in_words name.Soak (root ∷ script ∷ trace ∷ []) n e = cc
in_words name.Soak (root ∷ script ∷ trace ∷ more ∷ rest) n e = cc
in_words name.Dispatch [] n e = cc
in_words name.Dispatch (root ∷ []) n e = cc
in_words name.Dispatch (root ∷ script ∷ []) n e = absurd (no_soak _ form.Dispatch n (λ d. cc) e)
in_words name.Dispatch (root ∷ script ∷ trace ∷ []) n e = cc
in_words name.Dispatch (root ∷ script ∷ trace ∷ more ∷ rest) n e = cc
in_words name.Wire [] n e = cc
in_words name.Wire (root ∷ []) n e = cc
in_words name.Wire (root ∷ script ∷ []) n e = absurd (no_soak _ form.Wire n (λ d. cc) e)
in_words name.Wire (root ∷ script ∷ trace ∷ []) n e = cc
in_words name.Wire (root ∷ script ∷ trace ∷ more ∷ rest) n e = cc
in_words name.Audit [] n e = cc
in_words name.Audit (root ∷ []) n e = cc
in_words name.Audit (root ∷ script ∷ []) n e = cc
in_words name.Audit (root ∷ script ∷ trace ∷ []) n e = absurd (no_soak _ form.Audit n (λ d. cc) e)
in_words name.Audit (root ∷ script ∷ trace ∷ more ∷ rest) n e = cc

in_named : (found : Option FormName) (words : List (List ℕ)) (n : ℕ) → option_map_or (form_with words) found None ≡ Some (Soak n) → (1 ≤ n) × (n ≤ 1000)
in_named None words n e = cc
in_named (Some name) words n e = in_words name words n e

-- words of the form `soak` have such a number
pub soak_in_range : (words : List (List ℕ)) (n : ℕ) → form_of words ≡ Some (Soak n) → (1 ≤ n) × (n ≤ 1000)
soak_in_range [] n e = cc
soak_in_range (word ∷ words) n e = in_named (form_named word) words n e
