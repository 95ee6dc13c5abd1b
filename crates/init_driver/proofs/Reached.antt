-- States that a well-formed machine reaches: where a property is stored, the saved pairs have a text.
use Rattle.std.proofs.Common.{◌≡◌, ℕ, ◌+◌, Bool, true, false, IsTrue, ◌&&◌, List, [], ◌∷◌, ◌++◌, take, refl, sym, ap, ◌∙◌, subst}
use Rattle.std.specs.List.{list_all}
use Rattle.init_core.specs.Core.{opening_of, without_saved}
use Rattle.init_machine.specs.Changes.{Change}
use Rattle.init_machine.specs.History.{after, after_from, inputs_of}
use Rattle.init_machine.specs.Pairs.{is_before}
use Rattle.init_machine.specs.Policy.{PolicyLines}
use Rattle.init_machine.specs.State.{State, first_state}
use Rattle.init_machine.specs.Step.{step}
use Rattle.init_machine.specs.WellFormed.{ascend, IsWellFormed}
use Rattle.init_machine.specs.declared.config.Config.{Config}
use Rattle.init_machine.specs.declared.config.Pair.{Pair}
use Rattle.init_machine.specs.declared.diagnostic.Diagnostic.{Diagnostic}
use Rattle.init_machine.specs.declared.input.Input.{Input}
use Rattle.init_machine.specs.declared.input.Input.TheVariants as input
use Rattle.init_machine.specs.declared.report.ClientPart.{ClientPart}
use Rattle.init_machine.specs.declared.report.Entry.{Entry}
use Rattle.init_machine.specs.declared.report.Reading.{Reading}
use Rattle.init_machine.specs.declared.report.Report.{Report}
use Rattle.machine_laws.specs.Histories.{history_from, history_of}
use Rattle.machine_laws.proofs.Legal.{history_is_legal, inputs_of_history, same_after, same_step}
use Rattle.machine_laws.proofs.Stored.{stores_while_saving}
use Rattle.machine_laws.proofs.Printable.{saved_pairs_are_typed, saved_pairs_ascend, saved_pairs_print}
use Rattle.persist_file.specs.Store.{are_saved, are_typed, is_saved, names_ascend}
use Rattle.property_area.specs.Area.{begins}
use Rattle.property_area.specs.declared.view.AreaView.{AreaView}
use Rattle.script_lang.specs.Inputs.{act_inputs, InOrder}
use Rattle.script_lang.specs.declared.script.Act.{Act}
use Rattle.script_lang.specs.declared.script.Client.{Client}
use Rattle.script_lang.specs.declared.script.Script.{Script}
use Rattle.init_driver.specs.Course.{IsReached, Leads, Place}
use Rattle.init_driver.specs.Run.{Due, due_from, due_of, report_from}
use Rattle.init_driver.specs.Readings.{parts_from, readings_from, told_by}
use Rattle.init_driver.specs.Stored.{given_at, given_from, has_stored}
use Rattle.init_driver.proofs.Courses.{Going, after_more}

-- the first state
pub reached_first : (config config' : Config) (policy policy' : PolicyLines) (words : ℕ) (s : State) → IsWellFormed config
    → config' ≡ without_saved config → policy' ≡ policy → s ≡ first_state (opening_of config policy words) → IsReached config' policy' s
reached_first config config' policy policy' words s well same_config same_policy same_state = record {
  opening = opening_of config policy words;
  inputs = [];
  well_formed = well;
  config_is = same_config;
  policy_is = same_policy;
  state_is = same_state;
}

-- inputs lead from one such state to another
pub reached_more : (inputs : List Input) (a b : Place) → Leads inputs a b → IsReached a.config a.policy a.state → IsReached b.config b.policy b.state
reached_more inputs a b h r =
    let o = r.opening in
    record {
      opening = o;
      inputs = r.inputs ++ inputs;
      well_formed = r.well_formed;
      config_is = h.config ∙ r.config_is;
      policy_is = h.policy ∙ r.policy_is;
      state_is =
          h.state
          ∙ ap (λ c. after_from c a.policy a.state inputs) r.config_is
          ∙ ap (λ p. after_from (without_saved o.config) p a.state inputs) r.policy_is
          ∙ ap (λ s. after_from (without_saved o.config) o.policy s inputs) r.state_is
          ∙ same_after o.config o.policy [] (after o r.inputs) inputs
          ∙ sym (after_more o.config o.policy (first_state o) r.inputs inputs);
    }

-- a step from such a state is one of a legal history
same_now : (config : Config) (policy : PolicyLines) (s : State) (i : Input) (r : IsReached config policy s)
    → (step config policy s i).state ≡ after r.opening (inputs_of (history_of r.opening (r.inputs ++ i ∷ [])))
same_now config policy s i r =
    let o = r.opening in
    ap (λ c. (step c policy s i).state) r.config_is ∙ ap (λ p. (step (without_saved o.config) p s i).state) r.policy_is
    ∙ ap (λ t. (step (without_saved o.config) o.policy t i).state) r.state_is
    ∙ ap (λ c. c.state) (same_step o.config o.policy [] (after o r.inputs) i)
    ∙ sym (after_more o.config o.policy (first_state o) r.inputs (i ∷ []))
    ∙ ap (after o) (sym (inputs_of_history o (r.inputs ++ i ∷ [])))

same_order : (pairs : List Pair) → names_ascend pairs ≡ ascend pairs
same_order [] = refl
same_order (p ∷ []) = refl
same_order (p ∷ q ∷ rest) = ap (λ b. is_before p.name q.name && b) (same_order (q ∷ rest))

both : (a b : Bool) → IsTrue a → IsTrue b → IsTrue (a && b)
both true b h k = k
both false b h k = h

-- where an input stores a property, the saved pairs behind it have a text
pub stored_pairs_print : (config : Config) (policy : PolicyLines) (s : State) (i : Input) → IsReached config policy s
    → IsTrue (has_stored (step config policy s i).lines) → IsTrue (are_saved (step config policy s i).state.saved)
stored_pairs_print config policy s i r stored =
    let o = r.opening in
    let history = history_of o (r.inputs ++ i ∷ []) in
    let legal = history_is_legal o (r.inputs ++ i ∷ []) in
    let same = same_now config policy s i r in
    let saving : IsTrue (after o (inputs_of history)).saving = subst (λ (t : State). IsTrue t.saving) same (stores_while_saving config policy s i stored) in
    subst (λ (t : State). IsTrue (are_saved t.saved)) (sym same)
    (both (list_all is_saved (after o (inputs_of history)).saved) (names_ascend (after o (inputs_of history)).saved)
    (saved_pairs_print o history r.well_formed legal saving)
    (subst IsTrue (sym (same_order (after o (inputs_of history)).saved)) (saved_pairs_ascend o history r.well_formed legal)))

-- and each of their values passes the type of its name's context
stored_pairs_typed : (config : Config) (policy : PolicyLines) (s : State) (i : Input) → IsReached config policy s
    → IsTrue (has_stored (step config policy s i).lines) → IsTrue (are_typed policy (step config policy s i).state.saved)
stored_pairs_typed config policy s i r stored =
    let o = r.opening in
    let history = history_of o (r.inputs ++ i ∷ []) in
    let legal = history_is_legal o (r.inputs ++ i ∷ []) in
    let same = same_now config policy s i r in
    let saving : IsTrue (after o (inputs_of history)).saving = subst (λ (t : State). IsTrue t.saving) same (stores_while_saving config policy s i stored) in
    subst (λ (t : State). IsTrue (are_typed policy t.saved)) (sym same)
    (subst (λ (p : PolicyLines). IsTrue (are_typed p (after o (inputs_of history)).saved)) (sym r.policy_is) (saved_pairs_are_typed o history r.well_formed legal saving))

-- the same, where a core took the input
pub saved_print : (config : Config) (policy : PolicyLines) (s : State) (i : Input) (t : State) → IsReached config policy s
    → t ≡ (step config policy s i).state → IsTrue (has_stored (step config policy s i).lines) → IsTrue (are_saved t.saved)
saved_print config policy s i t r state stored =
    subst (λ (u : State). IsTrue (are_saved u.saved)) (sym state) (stored_pairs_print config policy s i r stored)

pub saved_typed : (config : Config) (policy policy' : PolicyLines) (s : State) (i : Input) (t : State) → IsReached config policy s → policy' ≡ policy
    → t ≡ (step config policy s i).state → IsTrue (has_stored (step config policy s i).lines) → IsTrue (are_typed policy' t.saved)
saved_typed config policy policy' s i t r same state stored =
    subst (λ (p : PolicyLines). IsTrue (are_typed p t.saved)) (sym same)
    (subst (λ (u : State). IsTrue (are_typed policy u.saved)) (sym state) (stored_pairs_typed config policy s i r stored))

-- a loop over inputs keeps to such states
pub reached_within : (all left : List Input) (a b : Place) → Going all left a b → IsReached a.config a.policy a.state → IsReached b.config b.policy b.state
reached_within all left a b h r = reached_more h.done a b h.leads r

-- ---- the saved pairs of a configuration, which no step reads

history_same : (config : Config) (policy : PolicyLines) (s : State) (inputs : List Input)
    → history_from (without_saved config) policy s inputs ≡ history_from config policy s inputs
history_same config policy s [] = refl
history_same config policy s (i ∷ inputs) =
    let now = step config policy s i in
    ap (λ (c : Change). let e : Entry = record { input = i; outputs = c.lines } in e ∷ history_from (without_saved config) policy c.state inputs) (same_step config policy [] s i)
    ∙ ap (λ (rest : List Entry). let e : Entry = record { input = i; outputs = now.lines } in e ∷ rest) (history_same config policy now.state inputs)

given_same : (config : Config) (policy : PolicyLines) (s : State) (inputs : List Input)
    → given_from (without_saved config) policy s inputs ≡ given_from config policy s inputs
given_same config policy s [] = refl
given_same config policy s (i ∷ inputs) =
    let now = step config policy s i in
    ap (λ (c : Change). given_at policy c ++ given_from (without_saved config) policy c.state inputs) (same_step config policy [] s i)
    ∙ ap (λ rest. given_at policy now ++ rest) (given_same config policy now.state inputs)

readings_same : (config : Config) (policy : PolicyLines) (who : ℕ) (s : State) (acts : List Act)
    → readings_from (without_saved config) policy who s acts ≡ readings_from config policy who s acts
readings_same config policy who s [] = refl
readings_same config policy who s (act ∷ acts) =
    ap (λ (t : State). told_by who s act ++ readings_from (without_saved config) policy who t acts) (same_after config policy [] s (act_inputs act))
    ∙ ap (λ rest. told_by who s act ++ rest) (readings_same config policy who (after_from config policy s (act_inputs act)) acts)

parts_same : (config : Config) (policy : PolicyLines) (s : State) (acts : List Act) (id : ℕ) (clients : List Client)
    → parts_from (without_saved config) policy s acts id clients ≡ parts_from config policy s acts id clients
parts_same config policy s acts id [] = refl
parts_same config policy s acts id (client ∷ rest) =
    ap (λ (rs : List Reading). let p : ClientPart = record { name = client.name; domain = client.domain; readings = rs } in p ∷ parts_from (without_saved config) policy s acts (id + 1) rest) (readings_same config policy id s acts)
    ∙ ap (λ (ps : List ClientPart). let p : ClientPart = record { name = client.name; domain = client.domain; readings = readings_from config policy id s acts } in p ∷ ps) (parts_same config policy s acts (id + 1) rest)

abbrev report_with : List Diagnostic → List Entry → List ClientPart → Report
report_with diagnostics history clients = record { diagnostics = diagnostics; history = history; clients = clients }

report_same : (config : Config) (policy : PolicyLines) (s : State) (diagnostics : List Diagnostic) (script : Script)
    → report_from (without_saved config) policy s diagnostics script ≡ report_from config policy s diagnostics script
report_same config policy s diagnostics script =
    let booted = after_from (without_saved config) policy s (input.Boot ∷ []) in
    ap (λ (h : List Entry). report_with diagnostics h (parts_from (without_saved config) policy booted script.acts 1 script.clients)) (history_same config policy s (InOrder script))
    ∙ ap (λ (ps : List ClientPart). report_with diagnostics (history_from config policy s (InOrder script)) ps)
    (parts_same config policy booted script.acts 1 script.clients
    ∙ ap (λ (t : State). parts_from config policy t script.acts 1 script.clients) (same_after config policy [] s (input.Boot ∷ [])))

abbrev due_with : Report → (ℕ → List (List ℕ)) → List (List ℕ) → Due
due_with report upto all = record { report = report; upto = upto; all = all }

due_same : (config : Config) (policy : PolicyLines) (s : State) (diagnostics : List Diagnostic) (script : Script)
    → due_from (without_saved config) policy s diagnostics script ≡ due_from config policy s diagnostics script
due_same config policy s diagnostics script = λ i.
    due_with (report_same config policy s diagnostics script i) (λ n. given_same config policy s (take n (InOrder script)) i) (given_same config policy s (InOrder script) i)

-- what is due from the first state
-- what an area in which nothing was set has as many words as gives
pub begins_with : {X : Type 0} (f : ℕ → X) (x : X) (view : AreaView) (words : ℕ) → view ≡ begins words → x ≡ f view.words → x ≡ f words
begins_with f x view words is same = same ∙ ap (λ (v : AreaView). f v.words) is

pub due_opened : (config config' : Config) (policy policy' : PolicyLines) (words : ℕ) (s : State) (diagnostics : List Diagnostic) (script : Script)
    → config' ≡ without_saved config → policy' ≡ policy → s ≡ first_state (opening_of config policy words)
    → due_from config' policy' s diagnostics script ≡ due_of (opening_of config policy words) diagnostics script
due_opened config config' policy policy' words s diagnostics script same_config same_policy same_state =
    ap (λ (c : Config). due_from c policy' s diagnostics script) same_config
    ∙ ap (λ (p : PolicyLines). due_from (without_saved config) p s diagnostics script) same_policy
    ∙ ap (λ (t : State). due_from (without_saved config) policy t diagnostics script) same_state
    ∙ due_same config policy (first_state (opening_of config policy words)) diagnostics script
