-- The promise of the top call, form by form.
use Rattle.std.proofs.Common.{◌≡◌, ◌↔◌, ℕ, Option, Some, None, refl, sym, subst, inl}
use Rattle.std.specs.Prelude.{⊤, IfSome}
use Rattle.command_line.specs.declared.form.Form.{Form}
use Rattle.command_line.specs.declared.form.Form.TheVariants.{Run, Race, Wire, Check, Soak, Dispatch, Audit}
use Rattle.job_reader.specs.Check.{IsCheckStatus}
use Rattle.job_reader.specs.Counts.{AreCounted, IsDoneUnlessRisen}
use Rattle.job_reader.specs.Endings.{IsAuditStatus, IsRunStatus, IsWireStatus}
use Rattle.job_reader.specs.Script.{ScriptSays}
use Rattle.job_reader.specs.Trace.{TraceSays}
use Rattle.job_reader.specs.Tree.{IsWorldOf}
use Rattle.job_reader.specs.declared.grammar.Grammar.TheVariants.{Whole}
use Rattle.job_reader.specs.declared.status.Status.{Status}
use Rattle.job_reader.specs.declared.status.Status.TheVariants as status
use Rattle.property_area.specs.Seats.{Seated}
use Rattle.rc_import.specs.World.{World}
use Rattle.init_forms.specs.Outcome.{Ends, Tell, Told}
use Rattle.init_forms.specs.Promise.{Objects, Promise, shown_by, told_by}
use Rattle.init_forms.specs.Seats.{GivesSeat, Records}
use Rattle.init_forms.specs.Top.{CanBeDone, CanSoak, IsAsBefore, IsUnwritten, ReadsScript, grammar_of}
use Rattle.init_forms.proofs.Ends.{left_alone, usage_ends}
use Rattle.init_forms.proofs.OneStatus.{only_status}

some_not_none : (form : Form) → Some form ≡ None → ⊥
some_not_none form e = cc

-- a form whose statuses leave out Usage
no_usage : (Is : Status → Type 0) (form : Form) (how : Status) → (Is status.Usage → ⊥) → Is how → (how ≡ status.Usage) ↔ (Some form ≡ None)
no_usage Is form how never is = (λ usage. absurd (never (subst Is usage is)), λ none. absurd (some_not_none form none))

always : {T : Type 0} (o : Option T) (P : T → Type 0) → ((x : T) → P x) → IfSome o P
always None P h = tt
always (Some x) P h = h x

-- a form whose call runs a script
abbrev pub Runs : Form → Type 0
Runs Run = ⊤
Runs Race = ⊤
Runs Dispatch = ⊤
Runs Wire = ⊥
Runs Check = ⊥
Runs Audit = ⊥
Runs (Soak services) = ⊤

no_audit : (form : Form) → Runs form → Some form ≡ Some Audit → ⊥
no_audit Run runs e = cc
no_audit Race runs e = cc
no_audit Dispatch runs e = cc
no_audit Wire runs e = runs
no_audit Check runs e = runs
no_audit Audit runs e = runs
no_audit (Soak services) runs e = cc

no_check : (form : Form) → Runs form → Some form ≡ Some Check → ⊥
no_check Run runs e = cc
no_check Race runs e = cc
no_check Dispatch runs e = cc
no_check Wire runs e = runs
no_check Check runs e = runs
no_check Audit runs e = runs
no_check (Soak services) runs e = cc

no_wire : (form : Form) → Runs form → Some form ≡ Some Wire → ⊥
no_wire Run runs e = cc
no_wire Race runs e = cc
no_wire Dispatch runs e = cc
no_wire Wire runs e = runs
no_wire Check runs e = cc
no_wire Audit runs e = cc
no_wire (Soak services) runs e = cc

-- such a call writes nothing before it refuses
run_unwritten : (form : Form) → Runs form → (before after : Objects) (how : Status)
    → IsAsBefore before.taken after.taken how before.counts.keeper after.counts.keeper
    → IsUnwritten (Some form) before.taken after.taken how before.counts after.counts
run_unwritten Run runs before after how is = is
run_unwritten Race runs before after how is = is
run_unwritten Dispatch runs before after how is = is
run_unwritten Wire runs before after how is = absurd runs
run_unwritten Check runs before after how is = absurd runs
run_unwritten Audit runs before after how is = absurd runs
run_unwritten (Soak services) runs before after how is = is

pub run_is_no_soak : (services : ℕ) → Some Run ≡ Some (Soak services) → ⊥
run_is_no_soak services e = cc

pub race_is_no_soak : (services : ℕ) → Some Race ≡ Some (Soak services) → ⊥
race_is_no_soak services e = cc

pub dispatch_is_no_soak : (services : ℕ) → Some Dispatch ≡ Some (Soak services) → ⊥
dispatch_is_no_soak services e = cc

module _ (before after : Objects) (how : Status) (seat : Option Seated) where
  -- what a call that runs a script says of its objects
  pub record Said (form : Form) : Type 0 where
    pub ends : (told : Told) → Tell (Some form) (told_by before) told → Ends (Some form) told how (shown_by before after)
    pub read : ReadsScript (Some form) → IfSome before.script (λ bytes. ScriptSays (grammar_of (Some form)) bytes after.script how)
    pub gives : GivesSeat (Some form) how seat
    pub records : (told : Told) → Tell (Some form) (told_by before) told → Records (Some form) told how (shown_by before after) seat
    pub faults : AreCounted how before.counts after.counts
    pub unwritten : IsAsBefore before.taken after.taken how before.counts.keeper after.counts.keeper
    pub unkept : IsAsBefore before.keeper.held after.keeper.held how before.counts.keeper after.counts.keeper
    pub formed : IsRunStatus how
    pub complete : (world : World) → IsWorldOf before.tree world → CanBeDone (Some form) (told_by before) world
        → IsDoneUnlessRisen how before.counts after.counts
    pub soaked : (services : ℕ) → Some form ≡ Some (Soak services) → CanSoak services → IsDoneUnlessRisen how before.counts after.counts

  pub run_promised : (form : Form) → Runs form → Said form → Promise (Some form) before after how seat
  run_promised form runs said = record {
    usage = no_usage IsRunStatus form how (λ no. no) said.formed;
    ends = said.ends;
    only = λ told tells outcome comes. only_status (Some form) told how (shown_by before after) (said.ends told tells) outcome comes;
    read = said.read;
    traced = λ e. absurd (no_audit form runs e);
    gives = said.gives;
    records = said.records;
    faults = said.faults;
    unwritten = run_unwritten form runs before after how said.unwritten;
    unkept = said.unkept;
    audited = λ e. absurd (no_audit form runs e);
    served = λ e. absurd (no_wire form runs e);
    of_check = λ e. absurd (no_check form runs e);
    of_run = λ e. said.formed;
    of_race = λ e. said.formed;
    of_wire = λ e. absurd (no_wire form runs e);
    of_dispatch = λ e. said.formed;
    of_soak = λ services e. said.formed;
    complete = said.complete;
    soaked = said.soaked;
  }

-- a check, which leaves the keeper alone and gives no seat
pub check_promised : (before after : Objects) (how : Status)
    → ((told : Told) → IsWorldOf before.tree told.world → Ends (Some Check) told how (shown_by before after))
    → AreCounted how before.counts after.counts
    → IsAsBefore before.taken after.taken how before.counts.keeper after.counts.keeper
    → IsAsBefore before.keeper.held after.keeper.held how before.counts.keeper after.counts.keeper
    → IsCheckStatus how
    → ((world : World) → IsWorldOf before.tree world → CanBeDone (Some Check) (told_by before) world → IsDoneUnlessRisen how before.counts after.counts)
    → Promise (Some Check) before after how None
check_promised before after how ends faults unwritten unkept formed complete = record {
  usage = no_usage IsCheckStatus Check how (λ no. no) formed;
  ends = ends;
  only = λ told tells outcome comes. only_status (Some Check) told how (shown_by before after) (ends told tells) outcome comes;
  read = λ reads. absurd reads;
  traced = λ e. absurd (other e);
  gives = refl;
  records = λ told tells. tt;
  faults = faults;
  unwritten = unwritten;
  unkept = unkept;
  audited = λ e. absurd (other e);
  served = λ e. absurd (unserved e);
  of_check = λ e. formed;
  of_run = λ e. absurd (unrun e);
  of_race = λ e. absurd (unraced e);
  of_wire = λ e. absurd (unserved e);
  of_dispatch = λ e. absurd (undispatched e);
  of_soak = λ services e. absurd (unsoaked services e);
  complete = complete;
  soaked = λ services e can. absurd (unsoaked services e);
}
  where
    other : Some Check ≡ Some Audit → ⊥
    other e = cc

    unrun : Some Check ≡ Some Run → ⊥
    unrun e = cc

    unraced : Some Check ≡ Some Race → ⊥
    unraced e = cc

    unserved : Some Check ≡ Some Wire → ⊥
    unserved e = cc

    undispatched : Some Check ≡ Some Dispatch → ⊥
    undispatched e = cc

    unsoaked : (services : ℕ) → Some Check ≡ Some (Soak services) → ⊥
    unsoaked services e = cc

-- an audit
pub audit_promised : (before after : Objects) (how : Status)
    → ((told : Told) → Tell (Some Audit) (told_by before) told → Ends (Some Audit) told how (shown_by before after))
    → IfSome before.script (λ bytes. ScriptSays Whole bytes after.script how)
    → IfSome before.trace (λ bytes. TraceSays bytes after.trace how)
    → AreCounted how before.counts after.counts
    → IsAsBefore before.taken after.taken how before.counts.keeper after.counts.keeper
    → IsAsBefore before.keeper.held after.keeper.held how before.counts.keeper after.counts.keeper
    → after.keeper.held ≡ before.keeper.held
    → IsAuditStatus how
    → ((world : World) → IsWorldOf before.tree world → CanBeDone (Some Audit) (told_by before) world → IsDoneUnlessRisen how before.counts after.counts)
    → Promise (Some Audit) before after how None
audit_promised before after how ends read traced faults unwritten unkept held formed complete = record {
  usage = no_usage IsAuditStatus Audit how (λ no. no) formed;
  ends = ends;
  only = λ told tells outcome comes. only_status (Some Audit) told how (shown_by before after) (ends told tells) outcome comes;
  read = λ reads. read;
  traced = λ e. traced;
  gives = refl;
  records = λ told tells. tt;
  faults = faults;
  unwritten = unwritten;
  unkept = unkept;
  audited = λ e. held;
  served = λ e. absurd (unserved e);
  of_check = λ e. absurd (unchecked e);
  of_run = λ e. absurd (unrun e);
  of_race = λ e. absurd (unraced e);
  of_wire = λ e. absurd (unserved e);
  of_dispatch = λ e. absurd (undispatched e);
  of_soak = λ services e. absurd (unsoaked services e);
  complete = complete;
  soaked = λ services e can. absurd (unsoaked services e);
}
  where
    unchecked : Some Audit ≡ Some Check → ⊥
    unchecked e = cc

    unrun : Some Audit ≡ Some Run → ⊥
    unrun e = cc

    unraced : Some Audit ≡ Some Race → ⊥
    unraced e = cc

    unserved : Some Audit ≡ Some Wire → ⊥
    unserved e = cc

    undispatched : Some Audit ≡ Some Dispatch → ⊥
    undispatched e = cc

    unsoaked : (services : ℕ) → Some Audit ≡ Some (Soak services) → ⊥
    unsoaked services e = cc

-- the serving of messages, which leaves what the keeper holds and gives no seat
pub wire_promised : (before after : Objects) (how : Status)
    → ((told : Told) → Tell (Some Wire) (told_by before) told → Ends (Some Wire) told how (shown_by before after))
    → AreCounted how before.counts after.counts
    → IsUnwritten (Some Wire) before.taken after.taken how before.counts after.counts
    → IsAsBefore before.keeper.held after.keeper.held how before.counts.keeper after.counts.keeper
    → after.keeper.held ≡ before.keeper.held
    → IsWireStatus how
    → ((world : World) → IsWorldOf before.tree world → CanBeDone (Some Wire) (told_by before) world → IsDoneUnlessRisen how before.counts after.counts)
    → Promise (Some Wire) before after how None
wire_promised before after how ends faults unwritten unkept held formed complete = record {
  usage = no_usage IsWireStatus Wire how (λ no. no) formed;
  ends = ends;
  only = λ told tells outcome comes. only_status (Some Wire) told how (shown_by before after) (ends told tells) outcome comes;
  read = λ reads. absurd reads;
  traced = λ e. absurd (unaudited e);
  gives = refl;
  records = λ told tells. tt;
  faults = faults;
  unwritten = unwritten;
  unkept = unkept;
  audited = λ e. absurd (unaudited e);
  served = λ e. held;
  of_check = λ e. absurd (unchecked e);
  of_run = λ e. absurd (unrun e);
  of_race = λ e. absurd (unraced e);
  of_wire = λ e. formed;
  of_dispatch = λ e. absurd (undispatched e);
  of_soak = λ services e. absurd (unsoaked services e);
  complete = complete;
  soaked = λ services e can. absurd (unsoaked services e);
}
  where
    unaudited : Some Wire ≡ Some Audit → ⊥
    unaudited e = cc

    unchecked : Some Wire ≡ Some Check → ⊥
    unchecked e = cc

    unrun : Some Wire ≡ Some Run → ⊥
    unrun e = cc

    unraced : Some Wire ≡ Some Race → ⊥
    unraced e = cc

    undispatched : Some Wire ≡ Some Dispatch → ⊥
    undispatched e = cc

    unsoaked : (services : ℕ) → Some Wire ≡ Some (Soak services) → ⊥
    unsoaked services e = cc

-- words of no form
pub usage_promised : (objects : Objects) → Promise None objects objects status.Usage None
usage_promised objects = record {
  usage = (λ usage. refl, λ none. refl);
  ends = λ told tells. usage_ends told objects.taken objects.keeper;
  only = λ told tells outcome comes. only_status None told status.Usage (shown_by objects objects) (usage_ends told objects.taken objects.keeper) outcome comes;
  read = λ reads. absurd reads;
  traced = λ e. absurd (some_not_none Audit (sym e));
  gives = refl;
  records = λ told tells. tt;
  faults = refl;
  unwritten = refl;
  unkept = refl;
  audited = λ e. refl;
  served = λ e. refl;
  of_check = λ e. absurd (some_not_none Check (sym e));
  of_run = λ e. absurd (some_not_none Run (sym e));
  of_race = λ e. absurd (some_not_none Race (sym e));
  of_wire = λ e. absurd (some_not_none Wire (sym e));
  of_dispatch = λ e. absurd (some_not_none Dispatch (sym e));
  of_soak = λ services e. absurd (some_not_none (Soak services) (sym e));
  complete = λ world is can. absurd can;
  soaked = λ services e can. absurd (some_not_none (Soak services) (sym e));
}

-- Want of memory says nothing of the words, but that they have a form or none, and leaves all as it was.
pub memory_promised : (asked : Option Form) (objects : Objects) → (asked ≡ None → ⊥) → Promise asked objects objects status.NoMemory None
memory_promised asked objects formed = record {
  usage = (λ usage. cc, λ none. absurd (formed none));
  ends = λ told tells. inl (left_alone objects.taken objects.keeper);
  only = λ told tells outcome comes. inl tt;
  read = λ reads. always objects.script _ (λ bytes. tt);
  traced = λ e. always objects.trace _ (λ bytes. tt);
  gives = none_given asked;
  records = λ told tells. none_recorded asked told;
  faults = refl;
  unwritten = none_written asked;
  unkept = tt;
  audited = λ e. refl;
  served = λ e. refl;
  of_check = λ e. tt;
  of_run = λ e. tt;
  of_race = λ e. tt;
  of_wire = λ e. tt;
  of_dispatch = λ e. tt;
  of_soak = λ services e. tt;
  complete = λ world is can. tt;
  soaked = λ services e can. tt;
}
  where
    none_written : (asked : Option Form) → IsUnwritten asked objects.taken objects.taken status.NoMemory objects.counts objects.counts
    none_written None = tt
    none_written (Some Run) = tt
    none_written (Some Race) = tt
    none_written (Some Dispatch) = tt
    none_written (Some Wire) = tt
    none_written (Some Check) = tt
    none_written (Some Audit) = tt
    none_written (Some (Soak services)) = tt

    none_given : (asked : Option Form) → GivesSeat asked status.NoMemory None
    none_given None = refl
    none_given (Some Run) = refl
    none_given (Some Race) = refl
    none_given (Some Dispatch) = refl
    none_given (Some Wire) = refl
    none_given (Some Check) = refl
    none_given (Some Audit) = refl
    none_given (Some (Soak services)) = refl

    none_recorded : (asked : Option Form) (told : Told) → Records asked told status.NoMemory (shown_by objects objects) None
    none_recorded None told = tt
    none_recorded (Some Run) told = tt
    none_recorded (Some Race) told = tt
    none_recorded (Some Dispatch) told = tt
    none_recorded (Some Wire) told = tt
    none_recorded (Some Check) told = tt
    none_recorded (Some Audit) told = tt
    none_recorded (Some (Soak services)) told = tt
