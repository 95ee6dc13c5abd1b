-- The report of a run is audited.
use Rattle.std.proofs.Common.{◌≡◌, ℕ, ◌+◌, List, [], ◌∷◌, length, map, refl, ap, arith, subst}
use Rattle.std.specs.List.{filter_map, flat_map}
use Rattle.init_machine.specs.History.{after, sets_in}
use Rattle.init_machine.specs.Orderly.{InOrder as ComeInOrder}
use Rattle.init_machine.specs.State.{Opening, State, first_state}
use Rattle.init_machine.specs.Step.{step}
use Rattle.init_machine.specs.declared.diagnostic.Diagnostic.{Diagnostic}
use Rattle.init_machine.specs.declared.input.Input.TheVariants as input
use Rattle.machine_laws.specs.Histories.{history_from, history_of}
use Rattle.machine_laws.proofs.Legal.{history_is_legal}
use Rattle.script_lang.specs.Inputs.{InOrder, act_inputs, ask_by, part_of}
use Rattle.script_lang.specs.Script.{IsScript}
use Rattle.script_lang.specs.declared.script.Act.{Act}
use Rattle.script_lang.specs.declared.script.Client.{Client}
use Rattle.script_lang.specs.declared.script.Script.{Script}
use Rattle.script_lang.proofs.Conditions.{script_meets}
use Rattle.trace_audit.specs.Audited.{Audited, EachHolds, ReadingsHold, client_of, list_of, requests_from}
use Rattle.init_driver.specs.Readings.{parts_from, readings_from}
use Rattle.init_driver.specs.Run.{AsksAreMet, report_of}
use Rattle.run_laws.proofs.Merged.{run_merges}
use Rattle.run_laws.proofs.Ordered.{in_order, seconds_rise}
use Rattle.run_laws.proofs.Reached.{step_counts}
use Rattle.run_laws.proofs.Standing.{all_answer, all_stand}

count_zero : (o : Opening) → (first_state o).props.count ≡ 0
unfolding first_state
count_zero o = refl

-- a client's list in the whole history
list_in_order : (o : Opening) (who : ℕ) (acts : List Act)
    → ComeInOrder 0 (list_of (filter_map (ask_by who) acts) (requests_from who 1 0 (history_of o (input.Boot ∷ flat_map act_inputs acts)))
    (readings_from o.config o.policy who (after o (input.Boot ∷ [])) acts))
list_in_order o who acts =
    let s = after o (input.Boot ∷ []) in
    let made = length (sets_in (step o.config o.policy (first_state o) input.Boot).lines) in
    let counts = step_counts o [] (first_state o) input.Boot refl in
    let none = count_zero o in
    let same : s.props.count ≡ 0 + made = omega arith in
    let P : ℕ → Type 0 =
    λ n. ComeInOrder 0 (list_of (filter_map (ask_by who) acts) (requests_from who 2 n (history_from o.config o.policy s (flat_map act_inputs acts)))
    (readings_from o.config o.policy who s acts)) in
    subst P same (in_order o who acts 2 0 (input.Boot ∷ []) s refl (omega arith))

readings_hold : (o : Opening) (script : Script) (who : ℕ)
    → ReadingsHold script (history_of o (InOrder script)) who (readings_from o.config o.policy who (after o (input.Boot ∷ [])) script.acts)
readings_hold o script who =
    let s = after o (input.Boot ∷ []) in
    let asks = part_of who script in
    record {
      answer = all_answer o.config o.policy who script.acts s;
      stand = all_stand o who script.acts (input.Boot ∷ []) (InOrder script) s refl refl;
      orderly = record {
        order = list_in_order o who script.acts;
        rise = seconds_rise o.config o.policy who script.acts s asks (requests_from who 1 0 (history_of o (InOrder script)));
      };
    }

each_holds : (o : Opening) (script : Script) (n : ℕ) (clients : List Client)
    → EachHolds script (history_of o (InOrder script)) n (parts_from o.config o.policy (after o (input.Boot ∷ [])) script.acts n clients)
each_holds o script n [] = tt
each_holds o script n (client ∷ rest) = (readings_hold o script n, each_holds o script (n + 1) rest)

clients_are : (o : Opening) (s : State) (acts : List Act) (n : ℕ) (clients : List Client)
    → clients ≡ map (λ part. client_of part) (parts_from o.config o.policy s acts n clients)
clients_are o s acts n [] = refl
clients_are o s acts n (client ∷ rest) = ap (λ (cs : List Client). client ∷ cs) (clients_are o s acts (n + 1) rest)

pub run_is_audited : (o : Opening) (found : List Diagnostic) (script : Script) → AsksAreMet script → Audited o found script (report_of o found script)
run_is_audited o found script asks = record {
  diagnostics = refl;
  clients = clients_are o (after o (input.Boot ∷ [])) script.acts 1 script.clients;
  merges = run_merges o script asks;
  legal = history_is_legal o (InOrder script);
  readings = each_holds o script 1 script.clients;
}

pub read_is_audited : (bytes : List ℕ) (o : Opening) (found : List Diagnostic) (script : Script) → IsScript bytes script
    → Audited o found script (report_of o found script)
read_is_audited bytes o found script is = run_is_audited o found script (script_meets bytes script is).asks
