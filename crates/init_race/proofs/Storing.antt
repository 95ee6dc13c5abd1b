-- Where an entry of a legal history stores a property, the saved pairs have a text at its end.
use Rattle.std.proofs.Common.{◌≡◌, ℕ, Bool, true, false, ◌&&◌, ◌||◌, IsTrue, List, [], ◌∷◌, refl, sym, ap, ◌∙◌, subst, ⊎_elim}
use Rattle.std.proofs.lemmas.Bool.{cases_Bool, and_from}
use Rattle.std.specs.List.{list_all}
use Rattle.init_machine.specs.History.{LegalFrom, Legal, after, after_from, inputs_of}
use Rattle.init_machine.specs.Pairs.{is_before}
use Rattle.init_machine.specs.Policy.{PolicyLines}
use Rattle.init_machine.specs.Setting.{put_line, put_property}
use Rattle.init_machine.specs.State.{Opening, Rules, State, first_state, rules_of}
use Rattle.init_machine.specs.Step.{step}
use Rattle.init_machine.specs.WellFormed.{IsWellFormed, ascend}
use Rattle.init_machine.specs.declared.config.Config.{Config}
use Rattle.init_machine.specs.declared.config.Pair.{Pair}
use Rattle.init_machine.specs.declared.output.Output.{Output}
use Rattle.init_machine.specs.declared.report.Entry.{Entry}
use Rattle.machine_laws.proofs.Printable.{saved_pairs_are_typed, saved_pairs_ascend, saved_pairs_print}
use Rattle.machine_laws.proofs.Relation.{Sets}
use Rattle.machine_laws.proofs.Saving.{loaded_by}
use Rattle.machine_laws.proofs.Stepping.{Clocks, Steps, exit_by, step_by, tick_by}
use Rattle.machine_laws.proofs.Stored.{stores_while_saving}
use Rattle.machine_laws.specs.Saved.{has_stored}
use Rattle.persist_file.specs.Store.{are_saved, are_typed, is_saved, names_ascend}
use Rattle.init_race.specs.Keeping.{stored_in}

-- saving stays on
abbrev Stays : State → List Output → State → Type 0
Stays s lines t = s.saving ≡ true → t.saving ≡ true

put_stays : (s : State) (name value : List ℕ) → Stays s (put_line s name value ∷ []) (put_property s name value).state
unfolding put_property
put_stays s name value on = on

sets : (rules : Rules) → Sets rules Stays
sets rules = record {
  none = λ s on. on;
  joined = λ s t u first second one other on. other (one on);
  line = λ s o plain on. on;
  stored = λ s name saving on. on;
  aside = λ s t same on. same.saving ∙ on;
  put = λ s by name value accepted. put_stays s name value;
}

clocks : (rules : Rules) → Clocks rules Stays
clocks rules = record {
  reaps = record {
    runs = record {
      acts = record {
        sets = sets rules;
        mark = λ s at m same on. on;
        spawned = λ s at service on here pid alone saving. saving;
        program = λ s path on pid saving. saving;
        killed = λ s at service pid on here is saving. saving;
        loaded = loaded_by rules Stays (sets rules) (record { forgotten = λ s name on. on; turned_on = λ s on. refl });
      };
      command = λ s c args on. on;
      rebooted = λ s target over on. on;
    };
    unmarked = λ s at on. on;
    reaped = λ s pid name how over on. on;
  };
  moved = λ s now over on. on;
  left = λ s pid over on. on;
}

steps : (rules : Rules) → Steps rules Stays
steps rules = record {
  runs = (clocks rules).reaps.runs;
  taking = λ s o is on. on;
  scheduled = λ s t same on. same.saving ∙ on;
  clock = tick_by rules Stays (clocks rules);
  exits = exit_by rules Stays (clocks rules);
}

stays_from : (config : Config) (policy : PolicyLines) (s : State) (history : List Entry) → s.saving ≡ true
    → (after_from config policy s (inputs_of history)).saving ≡ true
stays_from config policy s [] on = on
stays_from config policy s (e ∷ history) on =
    stays_from config policy (step config policy s e.input).state history (step_by config policy Stays (steps (rules_of config policy)) s e.input on)

saving_from : (config : Config) (policy : PolicyLines) (s : State) (history : List Entry) → LegalFrom config policy s history → stored_in history ≡ true
    → (after_from config policy s (inputs_of history)).saving ≡ true
saving_from config policy s [] legal stored = let bad : false ≡ true = stored in cc
saving_from config policy s (e ∷ history) legal stored =
    let t = (step config policy s e.input).state in
    ⊎_elim
    (λ (now : has_stored e.outputs ≡ true).
    stays_from config policy t history (stores_while_saving config policy s e.input (ap has_stored (sym legal.0) ∙ now)))
    (λ (other : has_stored e.outputs ≡ false).
    saving_from config policy t history legal.1 (sym (ap (λ (b : Bool). b || stored_in history) other) ∙ stored))
    (cases_Bool (has_stored e.outputs))

same_order : (pairs : List Pair) → names_ascend pairs ≡ ascend pairs
same_order [] = refl
same_order (p ∷ []) = refl
same_order (p ∷ q ∷ rest) = ap (λ b. is_before p.name q.name && b) (same_order (q ∷ rest))

pub stored_are_saved : (o : Opening) (history : List Entry) (saved : List Pair) → IsWellFormed o.config → Legal o history
    → saved ≡ (after o (inputs_of history)).saved → IsTrue (stored_in history) → IsTrue (are_saved saved)
stored_are_saved o history saved well legal same stored =
    let all = (after o (inputs_of history)).saved in
    let saving = saving_from o.config o.policy (first_state o) history legal stored in
    subst (λ (pairs : List Pair). IsTrue (are_saved pairs)) (sym same)
    (and_from (list_all is_saved all) (names_ascend all) (saved_pairs_print o history well legal saving)
    (same_order all ∙ saved_pairs_ascend o history well legal))

pub stored_are_typed : (o : Opening) (history : List Entry) (policy : PolicyLines) (saved : List Pair) → IsWellFormed o.config → Legal o history
    → saved ≡ (after o (inputs_of history)).saved → policy ≡ o.policy → IsTrue (stored_in history) → IsTrue (are_typed policy saved)
stored_are_typed o history policy saved well legal same by stored =
    let saving = saving_from o.config o.policy (first_state o) history legal stored in
    subst (λ (lines : PolicyLines). IsTrue (are_typed lines saved)) (sym by)
    (subst (λ (pairs : List Pair). IsTrue (are_typed o.policy pairs)) (sym same) (saved_pairs_are_typed o history well legal saving))
