-- What a job that was run says and leaves.
use Rattle.std.proofs.Common.{◌≡◌, ℕ, List, Option, refl, subst, ap, inl, inr}
use native.Mathlib.Omega.{arith}
use Rattle.init_base.specs.Faults.{Rose}
use Rattle.init_driver.specs.Keeper.{KeeperView}
use Rattle.job_reader.specs.Counts.{AreCounted, Counts, counts_of}
use Rattle.job_reader.specs.Endings.{IsRunStatus}
use Rattle.job_reader.specs.Prepared.{IsFit, IsSetupOf, Performs, course_of}
use Rattle.job_reader.specs.Run.{Course, IsCourseOf}
use Rattle.job_reader.specs.Script.{IsScriptIn}
use Rattle.job_reader.specs.Store.{IsStoreOf}
use Rattle.job_reader.specs.Tree.{IsFitFor, TreeSays}
use Rattle.job_reader.specs.Tree.Purpose.{ToRun}
use Rattle.job_reader.specs.declared.preparing.Job.{Job}
use Rattle.job_reader.specs.declared.grammar.Grammar.{Grammar}
use Rattle.job_reader.specs.declared.status.Status.{Status}
use Rattle.job_reader.specs.declared.status.Status.TheVariants as status
use Rattle.rc_import.specs.World.{World}
use Rattle.init_forms.specs.Top.{IsAsBefore}

-- ---- what it says

pub setup_fits : (world : World) (job : Job) → IsSetupOf world job.setup → IsFitFor ToRun world
setup_fits world job is = ((job.setup.policy, is.policy), (is.load.short, (is.load.loaded, is.load.rc_files)))

pub performed_tree : (job : Job) (old new : Option (List ℕ)) (keeper kept : KeeperView) (how : Status) (world : World)
    → Performs (course_of job) old new keeper kept how → IsSetupOf world job.setup → TreeSays ToRun world how
performed_tree job old new keeper kept status.Done world performs is = setup_fits world job is
performed_tree job old new keeper kept status.WriteFault world performs is = setup_fits world job is
performed_tree job old new keeper kept status.ReadFault world performs is = tt
performed_tree job old new keeper kept status.NoMemory world performs is = tt
performed_tree job old new keeper kept status.Usage world performs is = tt
performed_tree job old new keeper kept (status.BadScript line) world performs is = tt
performed_tree job old new keeper kept status.NoInit world performs is = absurd performs
performed_tree job old new keeper kept (status.TooLarge limit number) world performs is = absurd performs
performed_tree job old new keeper kept (status.BadPolicy allow line) world performs is = absurd performs
performed_tree job old new keeper kept (status.BadStore line why) world performs is = setup_fits world job is
performed_tree job old new keeper kept (status.BadWire at) world performs is = absurd performs
performed_tree job old new keeper kept status.BadTrace world performs is = absurd performs

pub course_is : (g : Grammar) (job : Job) (bytes : List ℕ) (world : World) (held : List ℕ)
    → IsFit job → IsScriptIn g bytes job.script → IsSetupOf world job.setup → IsStoreOf held job.setup.config.saved
    → IsCourseOf g bytes world held (course_of job)
course_is g job bytes world held fit script setup store = record {
  script_is = script;
  opened = record {
    policy = setup.policy;
    load = setup.load;
    saved = store;
    plans = fit.plans;
    domains = fit.domains;
    capacity = refl;
  };
}

-- ---- counts

pub counts_after : (how : Status) (f f' s s' t k k' k'' o o' : ℕ)
    → counts_of f' s' 0 k' 0 ≡ counts_of f s 0 k 0
    → ((files script trace : ℕ) → AreCounted how (counts_of files script trace k' o) (counts_of files script trace k'' o'))
    → AreCounted how (counts_of f s t k o) (counts_of f' s' t k'' o')
counts_after how f f' s s' t k k' k'' o o' same counted =
    let now : Counts = counts_of f' s' t k'' o' in
    let files : f' ≡ f = ap (λ (c : Counts). c.files) same in
    let script : s' ≡ s = ap (λ (c : Counts). c.script) same in
    let keeper : k' ≡ k = ap (λ (c : Counts). c.keeper) same in
    subst (λ x. AreCounted how (counts_of f s t x o) now) keeper
    (subst (λ x. AreCounted how (counts_of f x t k' o) now) script
    (subst (λ x. AreCounted how (counts_of x s' t k' o) now) files (counted f' s' t)))

pub rose_from_nothing : Rose 0 0 → ⊥
rose_from_nothing rose = omega (arith, rose)

pub performed_as_before : {A : Type 0} (course : Course) (old new : Option (List ℕ)) (keeper kept : KeeperView) (how : Status) (k k' k'' o o' : ℕ) (one other : A)
    → Performs course old new keeper kept how → k' ≡ k
    → AreCounted how (counts_of 0 0 0 k' o) (counts_of 0 0 0 k'' o')
    → IsAsBefore one other how k k''
performed_as_before course old new keeper kept status.Done k k' k'' o o' one other performs same counted = tt
performed_as_before course old new keeper kept status.WriteFault k k' k'' o o' one other performs same counted = tt
performed_as_before course old new keeper kept status.NoMemory k k' k'' o o' one other performs same counted = tt
performed_as_before course old new keeper kept status.ReadFault k k' k'' o o' one other performs same (inl rose, out) = absurd (rose_from_nothing rose)
performed_as_before course old new keeper kept status.ReadFault k k' k'' o o' one other performs same (inr (inl rose), out) = absurd (rose_from_nothing rose)
performed_as_before course old new keeper kept status.ReadFault k k' k'' o o' one other performs same (inr (inr (inl rose)), out) = absurd (rose_from_nothing rose)
performed_as_before course old new keeper kept status.ReadFault k k' k'' o o' one other performs same (inr (inr (inr rose)), out) =
    inr (subst (λ x. Rose x k'') same rose)
performed_as_before course old new keeper kept status.Usage k k' k'' o o' one other performs same counted = absurd performs
performed_as_before course old new keeper kept (status.BadScript line) k k' k'' o o' one other performs same counted = absurd performs
performed_as_before course old new keeper kept status.NoInit k k' k'' o o' one other performs same counted = absurd performs
performed_as_before course old new keeper kept (status.TooLarge limit number) k k' k'' o o' one other performs same counted = absurd performs
performed_as_before course old new keeper kept (status.BadPolicy allow line) k k' k'' o o' one other performs same counted = absurd performs
performed_as_before course old new keeper kept (status.BadStore line why) k k' k'' o o' one other performs same counted = absurd performs
performed_as_before course old new keeper kept (status.BadWire at) k k' k'' o o' one other performs same counted = absurd performs
performed_as_before course old new keeper kept status.BadTrace k k' k'' o o' one other performs same counted = absurd performs

pub performed_status : (course : Course) (old new : Option (List ℕ)) (keeper kept : KeeperView) (how : Status)
    → Performs course old new keeper kept how → IsRunStatus how
performed_status course old new keeper kept status.Done performs = tt
performed_status course old new keeper kept status.Usage performs = absurd performs
performed_status course old new keeper kept status.ReadFault performs = tt
performed_status course old new keeper kept status.WriteFault performs = tt
performed_status course old new keeper kept status.NoMemory performs = tt
performed_status course old new keeper kept (status.BadScript line) performs = absurd performs
performed_status course old new keeper kept status.NoInit performs = absurd performs
performed_status course old new keeper kept (status.TooLarge limit number) performs = absurd performs
performed_status course old new keeper kept (status.BadPolicy allow line) performs = absurd performs
performed_status course old new keeper kept (status.BadStore line why) performs = absurd performs
performed_status course old new keeper kept (status.BadWire at) performs = absurd performs
performed_status course old new keeper kept status.BadTrace performs = absurd performs
