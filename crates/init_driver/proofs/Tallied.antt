-- Inputs that are taken and counted one after another.
use Rattle.std.proofs.Common.{◌≡◌, ℕ, ◌+◌, ◌≤◌, Bool, true, false, List, [], ◌∷◌, ◌++◌, length, Option, Some, None, Result, Ok, Err, append-nil, append_assoc, refl, sym, ap, ◌∙◌, subst}
use Rattle.std.specs.Result.{IfOk, OnOk}
use Rattle.init_core.specs.Core.{IsDeclared, opening_of, without_saved}
use Rattle.init_machine.specs.History.{after_from}
use Rattle.init_machine.specs.Policy.{PolicyLines}
use Rattle.init_machine.specs.State.{Opening, State, first_state}
use Rattle.init_machine.specs.declared.config.Config.{Config}
use Rattle.init_machine.specs.declared.diagnostic.Diagnostic.{Diagnostic}
use Rattle.init_machine.specs.declared.input.Input.{Input}
use Rattle.init_machine.specs.declared.input.Input.TheVariants as input
use Rattle.init_machine.specs.declared.report.ClientPart.{ClientPart}
use Rattle.init_machine.specs.declared.report.Entry.{Entry}
use Rattle.init_machine.specs.declared.report.Report.{Report}
use Rattle.machine_laws.specs.Histories.{history_from}
use Rattle.property_area.specs.Seats.{Seated}
use Rattle.script_lang.specs.Inputs.{act_inputs}
use Rattle.script_lang.specs.Laws.{IsAskAmong}
use Rattle.script_lang.specs.declared.script.Act.{Act}
use Rattle.script_lang.specs.declared.script.Act.TheVariants as act
use Rattle.script_lang.specs.declared.script.Ask.{Ask}
use Rattle.script_lang.specs.declared.script.Ask.TheVariants as ask
use Rattle.script_lang.specs.declared.script.Script.{Script}
use Rattle.soak_summary.specs.Counting.{tally_of}
use Rattle.soak_summary.specs.Counts.{Counts, counted_of, tally_with, with_entries, with_outputs}
use Rattle.soak_summary.specs.declared.tally.Tally.{Tally}
use Rattle.soak_summary.proofs.Counted.{counted_all, entries_more}
use Rattle.init_driver.specs.internal.Counted.{CountsOn, inputs_in}
use Rattle.init_driver.specs.Machine.{MachineView, StaysSo, entry_of, step_of}
use Rattle.init_driver.specs.Run.{Due, report_from, report_of}
use Rattle.init_driver.specs.Seat.{HasRecorded}
use Rattle.init_driver.proofs.Courses.{after_more, history_more}
use Rattle.init_driver.proofs.Reached.{due_opened}

-- what holds of a machine, by the one that came to it
moved : {X : Type 0} (f : Config → PolicyLines → State → X) (inputs : List Input) (a b : MachineView) (c d : Counts) → CountsOn inputs a b c d
    → f b.config b.policy b.state ≡ f a.config a.policy (after_from a.config a.policy a.state inputs)
moved f inputs a b c d h =
    ap (λ x. f x b.policy b.state) h.config ∙ ap (λ p. f a.config p b.state) h.policy ∙ ap (λ s. f a.config a.policy s) h.state

-- nothing was taken
pub counts_nothing : (a b : MachineView) (c : Counts) → StaysSo a b → CountsOn [] a b c c
counts_nothing a b c same = record {
  config = same.config;
  policy = same.policy;
  state = same.state;
  opening = same.opening;
  history = same.history ∙ sym (append-nil a.desk.history);
  counted = refl;
}

pub stays_itself : (a : MachineView) → StaysSo a a
stays_itself a = record { config = refl; policy = refl; state = refl; opening = refl; history = refl }

-- one input was taken
pub counts_one : (i : Input) (a b : MachineView) (c begun d : Counts) → b.config ≡ a.config → b.policy ≡ a.policy → b.state ≡ (step_of a i).state
    → b.desk.opening ≡ a.desk.opening
    → b.desk.history ≡ a.desk.history ++ entry_of i (step_of a i).lines ∷ []
    → begun ≡ record c { entries = c.entries + 1 } → d ≡ with_outputs begun (step_of a i).lines → CountsOn (i ∷ []) a b c d
counts_one i a b c begun d config policy state opening history first counted = record {
  config = config;
  policy = policy;
  state = state;
  opening = opening;
  history = history;
  counted = counted ∙ ap (λ (x : Counts). with_outputs x (step_of a i).lines) first;
}

-- inputs behind others
pub counts_then : (first more : List Input) (a b m : MachineView) (c d e : Counts) → CountsOn first a b c d → CountsOn more b m d e → CountsOn (first ++ more) a m c e
counts_then first more a b m c d e h k =
    let entries : history_from a.config a.policy a.state (first ++ more)
    ≡ history_from a.config a.policy a.state first ++ history_from b.config b.policy b.state more =
    history_more a.config a.policy a.state first more
    ∙ ap (λ (es : List Entry). history_from a.config a.policy a.state first ++ es) (sym (moved (λ x p s. history_from x p s more) first a b c d h)) in
    record {
      config = k.config ∙ h.config;
      policy = k.policy ∙ h.policy;
      state =
          k.state ∙ moved (λ x p s. after_from x p s more) first a b c d h
          ∙ sym (after_more a.config a.policy a.state first more);
      opening = k.opening ∙ h.opening;
      history =
          k.history ∙ ap (λ (es : List Entry). es ++ history_from b.config b.policy b.state more) h.history
          ∙ append_assoc a.desk.history (history_from a.config a.policy a.state first) (history_from b.config b.policy b.state more)
          ∙ ap (λ (es : List Entry). a.desk.history ++ es) (sym entries);
      counted =
          k.counted ∙ ap (λ (x : Counts). with_entries x (history_from b.config b.policy b.state more)) h.counted
          ∙ sym (entries_more c (history_from a.config a.policy a.state first) (history_from b.config b.policy b.state more))
          ∙ ap (with_entries c) (sym entries);
    }

-- of all these inputs, some were taken, and these are left
pub record CountingOn (all left : List Input) (a b : MachineView) (c d : Counts) : Type 0 where
  pub done : List Input
  pub whole : done ++ left ≡ all
  pub counts : CountsOn done a b c d

pub counting_begins : (all left : List Input) (a : MachineView) (c : Counts) → left ≡ all → CountingOn all left a a c c
counting_begins all left a c is = record { done = []; whole = is; counts = counts_nothing a a c (stays_itself a) }

pub counting_on : (all left part rest : List Input) (a b m : MachineView) (c d e : Counts) → left ≡ part ++ rest → CountingOn all left a b c d → CountsOn part b m d e
    → CountingOn all rest a m c e
counting_on all left part rest a b m c d e is h k = record {
  done = h.done ++ part;
  whole = append_assoc h.done part rest ∙ ap (λ z. h.done ++ z) (sym is) ∙ h.whole;
  counts = counts_then h.done part a b m c d e h.counts k;
}

pub counting_ends : (all left : List Input) (a b : MachineView) (c d : Counts) → left ≡ [] → CountingOn all left a b c d → CountsOn all a b c d
counting_ends all left a b c d none h = subst (λ is. CountsOn is a b c d) (sym (append-nil h.done) ∙ ap (λ z. h.done ++ z) (sym none) ∙ h.whole) h.counts

-- a client was told something, and then inputs were taken
pub told_and_counted : (inputs : List Input) (a b m : MachineView) (c d : Counts) → StaysSo a b → CountsOn inputs b m c d → CountsOn inputs a m c d
told_and_counted inputs a b m c d same h = counts_then [] inputs a b m c c d (counts_nothing a b c same) h

-- the input of an act of the main actor, or of a request among the clients of a configuration
one_declared : (config : Config) (a : Act) (i : Input) → IsAskAmong (length config.domains) a → ((count : ℕ) → a ≡ act.Step count → ⊥) → i ∷ [] ≡ act_inputs a
    → IsDeclared config i
one_declared config (act.Step count) i among other is = absurd (other count refl)
one_declared config (act.Tick ms) i among other is = let e : input.Tick ms ≡ i = cc in subst (IsDeclared config) e tt
one_declared config (act.Exit name status) i among other is = let e : input.Exit name status ≡ i = cc in subst (IsDeclared config) e tt
one_declared config (act.File path content) i among other is = let e : input.File path content ≡ i = cc in subst (IsDeclared config) e tt
one_declared config (act.Ask who (ask.Set pair)) i among other is =
    let e : input.Set who pair.name pair.value ≡ i = cc in subst (IsDeclared config) e (among.0, among.1)
one_declared config (act.Ask who (ask.Read name)) i among other is = absurd (cc)
one_declared config (act.Ask who ask.Sync) i among other is = absurd (cc)
one_declared config (act.Ask who ask.Catch) i among other is = absurd (cc)

pub input_declared : (config : Config) (a : Act) (found : Option Input) (i : Input) → IsAskAmong (length config.domains) a → ((count : ℕ) → a ≡ act.Step count → ⊥)
    → inputs_in found ≡ act_inputs a → found ≡ Some i → IsDeclared config i
input_declared config a found i among other inputs is = one_declared config a i among other (ap inputs_in (sym is) ∙ inputs)

-- no input was taken, where an act has none
pub counts_none : (a : MachineView) (c : Counts) (act : Act) (found : Option Input) → inputs_in found ≡ act_inputs act → found ≡ None → CountsOn (act_inputs act) a a c c
counts_none a c act found inputs is = subst (λ (l : List Input). CountsOn l a a c c) (ap inputs_in (sym is) ∙ inputs) (counts_nothing a a c (stays_itself a))

pub counts_alone : {T E : Type 0} (r : Result T E) (a b : MachineView) (c d : Counts) (act : Act) (found : Option Input) (i : Input) → inputs_in found ≡ act_inputs act → found ≡ Some i
    → OnOk r (CountsOn (i ∷ []) a b c d) → OnOk r (CountsOn (act_inputs act) a b c d)
counts_alone (Ok v) a b c d act found i inputs is h = subst (λ (l : List Input). CountsOn l a b c d) (ap inputs_in (sym is) ∙ inputs) h
counts_alone (Err e) a b c d act found i inputs is h = h

-- the tally of a whole history
pub tally_is : {E : Type 0} (r : Result Tally E) (counts : Counts) (history : List Entry) (given clients : List ClientPart)
    → IfOk r (λ t. t ≡ tally_with counts given) → counts ≡ with_entries (counted_of []) history → given ≡ clients
    → IfOk r (λ t. (found : List Diagnostic) → t ≡ tally_of (record { diagnostics = found; history = history; clients = clients }))
tally_is (Ok t) counts history given clients is counted same =
    λ found. is ∙ ap (λ (x : Counts). tally_with x given) (counted ∙ counted_all history) ∙ ap (λ (parts : List ClientPart). tally_with (counted_of history) parts) same
tally_is (Err e) counts history given clients is counted same = is

-- ---- from the first state

module _ (config config' : Config) (policy policy' : PolicyLines) (words : ℕ) (s : State) (diagnostics : List Diagnostic) (script : Script)
    (config_is : config' ≡ without_saved config) (policy_is : policy' ≡ policy) (state_is : s ≡ first_state (opening_of config policy words)) where
  same_report : report_from config' policy' s diagnostics script ≡ report_of (opening_of config policy words) diagnostics script
  same_report = ap (λ (d : Due). d.report) (due_opened config config' policy policy' words s diagnostics script config_is policy_is state_is)

  pub tally_first : {E : Type 0} (r : Result (Tally × Seated) E) → IfOk r (λ made. (found : List Diagnostic) → made.0 ≡ tally_of (report_from config' policy' s found script))
      → IfOk r (λ made. made.0 ≡ tally_of (report_of (opening_of config policy words) diagnostics script))
  tally_first (Ok made) h = h diagnostics ∙ ap tally_of same_report
  tally_first (Err e) h = tt

  pub recorded_tally : {E : Type 0} (r : Result (Tally × Seated) E) (x : Opening) → x ≡ opening_of config policy words
      → IfOk r (λ made. (found : List Diagnostic) → HasRecorded x (report_from config' policy' s found script) made.1.view)
      → IfOk r (λ made. HasRecorded (opening_of config policy words) (report_of (opening_of config policy words) diagnostics script) made.1.view)
  recorded_tally (Ok made) x opening_is h =
      subst (λ (report : Report). HasRecorded (opening_of config policy words) report made.1.view) same_report
      (subst (λ (opening : Opening). HasRecorded opening (report_from config' policy' s diagnostics script) made.1.view) opening_is (h diagnostics))
  recorded_tally (Err e) x opening_is h = tt
