-- What a machine has done when its script is through, and what the seat of its area has then.
use Rattle.std.proofs.Common.{◌≡◌, ℕ, suc, ◌+◌, ◌≤◌, List, [], ◌∷◌, ◌++◌, length, Some, Result, Ok, Err, refl, sym, ap, ◌∙◌, subst, arith}
use Rattle.std.specs.Result.{IfOk}
use Rattle.init_core.specs.Core.{opening_of, without_saved}
use Rattle.init_machine.specs.Policy.{PolicyLines}
use Rattle.init_machine.specs.State.{Opening, State, first_state}
use Rattle.init_machine.specs.declared.config.Config.{Config}
use Rattle.init_machine.specs.declared.diagnostic.Diagnostic.{Diagnostic}
use Rattle.init_machine.specs.declared.input.Input.{Input}
use Rattle.init_machine.specs.declared.report.ClientPart.{ClientPart}
use Rattle.init_machine.specs.declared.report.Entry.{Entry}
use Rattle.init_machine.specs.declared.report.Reading.{Reading}
use Rattle.init_machine.specs.declared.report.Report.{Report}
use Rattle.machine_laws.specs.Histories.{history_from}
use Rattle.property_area.specs.Seats.{Seated}
use Rattle.property_area.specs.declared.view.AreaView.{AreaView}
use Rattle.property_service.specs.Record.{log_of, recorded}
use Rattle.script_lang.specs.declared.script.Act.{Act}
use Rattle.script_lang.specs.declared.script.Client.{Client}
use Rattle.script_lang.specs.declared.script.Script.{Script}
use Rattle.init_driver.specs.Course.{HasDone}
use Rattle.init_driver.specs.Machine.{MachineView, told_to}
use Rattle.init_driver.specs.Readings.{parts_from}
use Rattle.init_driver.specs.Run.{Due, report_from, report_of}
use Rattle.init_driver.specs.Seat.{AreTold, HasRecorded, readings_at}
use Rattle.init_driver.specs.declared.refusal.DriveRefusal.{DriveRefusal}
use Rattle.init_driver.proofs.Reached.{due_opened}

-- the machine stood as it was, took the inputs, and stands as it did then
pub has_done : (a b c d : MachineView) (report : Report) (inputs : List Input) (parts : List ClientPart) → b ≡ a
    → c.config ≡ b.config → c.desk.opening ≡ b.desk.opening → c.desk.history ≡ b.desk.history ++ history_from b.config b.policy b.state inputs
    → report.history ≡ history_from a.config a.policy a.state inputs → AreTold (told_to c.readers) 1 parts → parts ≡ report.clients → d ≡ c → HasDone a d report
has_done a b c d report inputs parts before config opening history is told clients behind = record {
  config = ap (λ m. m.config) behind ∙ config ∙ ap (λ m. m.config) before;
  opening = ap (λ m. m.desk.opening) behind ∙ opening ∙ ap (λ m. m.desk.opening) before;
  history =
      ap (λ m. m.desk.history) behind ∙ history ∙ ap (λ (m : MachineView). m.desk.history ++ history_from m.config m.policy m.state inputs) before
      ∙ ap (λ (es : List Entry). a.desk.history ++ es) (sym is);
  told =
      subst (λ (m : MachineView). AreTold (told_to m.readers) 1 report.clients) (sym behind)
      (subst (AreTold (told_to c.readers) 1) clients told);
}

parts_length : (config : Config) (policy : PolicyLines) (s : State) (acts : List Act) (id : ℕ) (clients : List Client) → length (parts_from config policy s acts id clients) ≡ length clients
parts_length config policy s acts id [] = refl
parts_length config policy s acts id (client ∷ rest) = ap suc (parts_length config policy s acts (id + 1) rest)

-- so many clients were told the same
told_given : (told told' : ℕ → List Reading) (most id : ℕ) (parts : List ClientPart) → ((q : ℕ) → q ≤ most → told' q ≡ told q) → id + length parts ≤ most + 1
    → AreTold told id parts → AreTold told' id parts
told_given told told' most id [] same few h = tt
told_given told told' most id (part ∷ parts) same few h = (same id (omega arith) ∙ h.0, told_given told told' most (id + 1) parts same (omega arith) h.1)

-- the seat of the area of a machine that has done the script
pub recorded_from : (a b : MachineView) (diagnostics : List Diagnostic) (script : Script) (view : AreaView)
    → length script.clients ≤ length a.config.domains → a.desk.history ≡ [] → HasDone a b (report_from a.config a.policy a.state diagnostics script)
    → view.opening ≡ Some (recorded b.desk.opening) → view.log ≡ log_of b.desk.history
    → ((who : ℕ) → who ≤ length b.config.domains → readings_at view who ≡ told_to b.readers who)
    → HasRecorded a.desk.opening (report_from a.config a.policy a.state diagnostics script) view
recorded_from a b diagnostics script view few empty done opening log told =
    let made = report_from a.config a.policy a.state diagnostics script in
    let many : length made.clients ≡ length script.clients = parts_length a.config a.policy _ script.acts 1 script.clients in
    let domains : length b.config.domains ≡ length a.config.domains = ap (λ (c : Config). length c.domains) done.config in
    record {
      opening = opening ∙ ap (λ (x : Opening). Some (recorded x)) done.opening;
      log = log ∙ ap log_of (done.history ∙ ap (λ (es : List Entry). es ++ made.history) empty);
      told = told_given (told_to b.readers) (readings_at view) (length b.config.domains) 1 made.clients told (omega arith) done.told;
    }

-- from the first state of the machine
pub recorded_first : (r : Result Seated DriveRefusal) (config config' : Config) (policy policy' : PolicyLines) (words : ℕ) (s : State) (diagnostics : List Diagnostic) (script : Script) (x : Opening)
    → config' ≡ without_saved config → policy' ≡ policy → s ≡ first_state (opening_of config policy words) → x ≡ opening_of config policy words
    → IfOk r (λ seat. HasRecorded x (report_from config' policy' s diagnostics script) seat.view)
    → IfOk r (λ seat. HasRecorded (opening_of config policy words) (report_of (opening_of config policy words) diagnostics script) seat.view)
recorded_first (Ok seat) config config' policy policy' words s diagnostics script x config_is policy_is state_is opening_is h =
    let o = opening_of config policy words in
    let same : report_from config' policy' s diagnostics script ≡ report_of o diagnostics script =
    ap (λ (d : Due). d.report) (due_opened config config' policy policy' words s diagnostics script config_is policy_is state_is) in
    subst (λ (report : Report). HasRecorded o report seat.view) same
    (subst (λ (opening : Opening). HasRecorded opening (report_from config' policy' s diagnostics script) seat.view) opening_is h)
recorded_first (Err e) config config' policy policy' words s diagnostics script x config_is policy_is state_is opening_is h = tt
