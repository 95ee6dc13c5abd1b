-- The report of a dispatched script is that of a run in another order.
use Rattle.std.proofs.Common.{◌≡◌, ℕ, zero, suc, ◌+◌, Bool, true, false, ◌==◌, All, IsTrue, List, [], ◌∷◌, ◌++◌, map, filter, Option, Some, None, if◌then◌else◌, refl, sym, ap, ◌∙◌}
use Rattle.std.specs.List.{cons_option, filter_map, flat_map}
use Rattle.std.proofs.lemmas.Grind.{flat_map-append}
use Rattle.std.proofs.lemmas.List.{map-append}
use Rattle.std.proofs.lemmas.List.Elements.{All-append, All-cons, All-head, All-nil, All-tail, filter_map-append}
use Rattle.init_driver.specs.Readings.{parts_from, readings_from}
use Rattle.init_driver.specs.Run.{AsksAreMet, report_of}
use Rattle.init_machine.specs.History.{after, after_from, inputs_of}
use Rattle.init_machine.specs.Policy.{PolicyLines}
use Rattle.init_machine.specs.State.{Opening, State}
use Rattle.init_machine.specs.declared.config.Config.{Config}
use Rattle.init_machine.specs.declared.config.Pair.{Pair}
use Rattle.init_machine.specs.declared.diagnostic.Diagnostic.{Diagnostic}
use Rattle.init_machine.specs.declared.input.Input.{Input}
use Rattle.init_machine.specs.declared.input.Input.TheVariants as input
use Rattle.init_machine.specs.declared.report.ClientPart.{ClientPart}
use Rattle.init_machine.specs.declared.report.Entry.{Entry}
use Rattle.init_machine.specs.declared.report.Reading.{Reading}
use Rattle.init_machine.specs.declared.report.Report.{Report}
use Rattle.machine_laws.proofs.Legal.{only_history}
use Rattle.machine_laws.specs.Histories.{history_of}
use Rattle.run_laws.proofs.Merged.{part_is}
use Rattle.script_lang.specs.Inputs.{InOrder, act_inputs, ask_by, main_inputs, part_of}
use Rattle.script_lang.specs.Laws.{is_set, set_by, set_in}
use Rattle.script_lang.specs.Sets.{IsSetOrMain, is_set_ask}
use Rattle.script_lang.specs.declared.script.Act.{Act}
use Rattle.script_lang.specs.declared.script.Act.TheVariants as act
use Rattle.script_lang.specs.declared.script.Ask.{Ask}
use Rattle.script_lang.specs.declared.script.Ask.TheVariants as ask
use Rattle.script_lang.specs.declared.script.Client.{Client}
use Rattle.script_lang.specs.declared.script.Script.{Script}
use Rattle.trace_audit.specs.Audited.{client_of}
use Rattle.init_dispatch.specs.Dispatched.{HasMainFirst, IsDispatched, IsRunOfOrder, is_main_act}
use Rattle.init_dispatch.proofs.Through.{AreSets, part_sets}

-- ---- the sets as acts

-- an input as an act: of a set the request. The others aren't asked for
abbrev asked_in : Input → Act
asked_in (input.Set who name value) = act.Ask who (ask.Set (record { name = name; value = value }))
asked_in input.Boot = act.Step 0
asked_in input.Next = act.Step 0
asked_in (input.Tick ms) = act.Step 0
asked_in (input.Exit name status) = act.Step 0
asked_in (input.File path content) = act.Step 0

abbrev all_asked : List Entry → List Act
all_asked entries = map (λ (e : Entry). asked_in e.input) entries

abbrev AreSetEntries : List Entry → Type 0
AreSetEntries entries = All (λ (e : Entry). is_set e.input ≡ true) entries

one_input : (i : Input) → is_set i ≡ true → act_inputs (asked_in i) ≡ i ∷ []
one_input (input.Set who name value) set = refl
one_input input.Boot set = cc
one_input input.Next set = cc
one_input (input.Tick ms) set = cc
one_input (input.Exit name status) set = cc
one_input (input.File path content) set = cc

inputs_asked : (entries : List Entry) → AreSetEntries entries → flat_map act_inputs (all_asked entries) ≡ inputs_of entries
inputs_asked [] sets = refl
inputs_asked (e ∷ entries) sets =
    ap (λ first. first ++ flat_map act_inputs (all_asked entries)) (one_input e.input (All-head (λ (x : Entry). is_set x.input ≡ true) e entries sets))
    ∙ ap (λ rest. e.input ∷ rest) (inputs_asked entries (All-tail (λ (x : Entry). is_set x.input ≡ true) e entries sets))

one_request : (i : Input) → is_set i ≡ true → is_main_act (asked_in i) ≡ false
one_request (input.Set who name value) set = refl
one_request input.Boot set = cc
one_request input.Next set = cc
one_request (input.Tick ms) set = cc
one_request (input.Exit name status) set = cc
one_request (input.File path content) set = cc

all_requests : (entries : List Entry) → AreSetEntries entries → All (λ (a : Act). is_main_act a ≡ false) (all_asked entries)
all_requests [] sets = All-nil _
all_requests (e ∷ entries) sets =
    All-cons (λ (x : Act). is_main_act x ≡ false) (asked_in e.input) (all_asked entries) (one_request e.input (All-head (λ (x : Entry). is_set x.input ≡ true) e entries sets)) (all_requests entries (All-tail (λ (x : Entry). is_set x.input ≡ true) e entries sets))

one_only_sets : (i : Input) → is_set i ≡ true → IsSetOrMain (asked_in i)
one_only_sets (input.Set who name value) set = refl
one_only_sets input.Boot set = cc
one_only_sets input.Next set = cc
one_only_sets (input.Tick ms) set = cc
one_only_sets (input.Exit name status) set = cc
one_only_sets (input.File path content) set = cc

asked_only_set : (entries : List Entry) → AreSetEntries entries → All IsSetOrMain (all_asked entries)
asked_only_set [] sets = All-nil _
asked_only_set (e ∷ entries) sets =
    All-cons IsSetOrMain (asked_in e.input) (all_asked entries) (one_only_sets e.input (All-head (λ (x : Entry). is_set x.input ≡ true) e entries sets)) (asked_only_set entries (All-tail (λ (x : Entry). is_set x.input ≡ true) e entries sets))

-- ---- the main actor's acts

main_asked : (acts : List Act) → flat_map act_inputs (filter is_main_act acts) ≡ flat_map main_inputs acts
main_asked [] = refl
main_asked (act.Step count ∷ acts) = ap (λ rest. main_inputs (act.Step count) ++ rest) (main_asked acts)
main_asked (act.Tick ms ∷ acts) = ap (λ rest. main_inputs (act.Tick ms) ++ rest) (main_asked acts)
main_asked (act.Exit name status ∷ acts) = ap (λ rest. main_inputs (act.Exit name status) ++ rest) (main_asked acts)
main_asked (act.File path content ∷ acts) = ap (λ rest. main_inputs (act.File path content) ++ rest) (main_asked acts)
main_asked (act.Ask who one ∷ acts) = main_asked acts

main_only_sets : (acts : List Act) → All IsSetOrMain (filter is_main_act acts)
main_only_sets [] = All-nil _
main_only_sets (act.Step count ∷ acts) = All-cons IsSetOrMain (act.Step count) (filter is_main_act acts) (tt {0}) (main_only_sets acts)
main_only_sets (act.Tick ms ∷ acts) = All-cons IsSetOrMain (act.Tick ms) (filter is_main_act acts) (tt {0}) (main_only_sets acts)
main_only_sets (act.Exit name status ∷ acts) = All-cons IsSetOrMain (act.Exit name status) (filter is_main_act acts) (tt {0}) (main_only_sets acts)
main_only_sets (act.File path content ∷ acts) = All-cons IsSetOrMain (act.File path content) (filter is_main_act acts) (tt {0}) (main_only_sets acts)
main_only_sets (act.Ask who one ∷ acts) = main_only_sets acts

-- ---- each client's part

-- the request of a set is the client's exactly if the set is
one_part : (who : ℕ) (i : Input) (later : List Ask) → is_set i ≡ true
    → cons_option (ask_by who (asked_in i)) later ≡ map ask.Set (cons_option (set_by who i) []) ++ later
one_part who (input.Set other name value) later set = chosen (other.0 == who)
  where
    chosen : (mine : Bool) → cons_option (if mine then Some (ask.Set (record { name = name; value = value })) else None) later
        ≡ map ask.Set (cons_option (if mine then Some (record { name = name; value = value }) else None) []) ++ later
    chosen true = refl
    chosen false = refl
one_part who input.Boot later set = cc
one_part who input.Next later set = cc
one_part who (input.Tick ms) later set = cc
one_part who (input.Exit name status) later set = cc
one_part who (input.File path content) later set = cc

more_pairs : (found : Option Pair) (later : List Pair) → map ask.Set (cons_option found []) ++ map ask.Set later ≡ map ask.Set (cons_option found later)
more_pairs None later = refl
more_pairs (Some pair) later = refl

parts_asked : (who : ℕ) (entries : List Entry) → AreSetEntries entries
    → filter_map (ask_by who) (all_asked entries) ≡ map ask.Set (filter_map (set_by who) (inputs_of entries))
parts_asked who [] sets = refl
parts_asked who (e ∷ entries) sets =
    one_part who e.input (filter_map (ask_by who) (all_asked entries)) (All-head (λ (x : Entry). is_set x.input ≡ true) e entries sets)
    ∙ ap (λ later. map ask.Set (cons_option (set_by who e.input) []) ++ later) (parts_asked who entries (All-tail (λ (x : Entry). is_set x.input ≡ true) e entries sets))
    ∙ more_pairs (set_by who e.input) (filter_map (set_by who) (inputs_of entries))

-- requests that are sets are those of their pairs
sets_back : (asks : List Ask) → AreSets asks → map ask.Set (filter_map set_in asks) ≡ asks
sets_back [] sets = refl
sets_back (ask.Set pair ∷ asks) sets = ap (λ rest. ask.Set pair ∷ rest) (sets_back asks (All-tail (λ (x : Ask). IsTrue (is_set_ask x)) (ask.Set pair) asks sets))
sets_back (ask.Read name ∷ asks) sets = let bad : false ≡ true = All-head (λ (x : Ask). IsTrue (is_set_ask x)) (ask.Read name) asks sets in cc
sets_back (ask.Sync ∷ asks) sets = let bad : false ≡ true = All-head (λ (x : Ask). IsTrue (is_set_ask x)) ask.Sync asks sets in cc
sets_back (ask.Catch ∷ asks) sets = let bad : false ≡ true = All-head (λ (x : Ask). IsTrue (is_set_ask x)) ask.Catch asks sets in cc

-- no input of the main actor is a client's set
steps_unset : (who : ℕ) (n : ℕ) → filter_map (set_by who) (act_inputs (act.Step n)) ≡ []
steps_unset who zero = refl
steps_unset who (suc n) = steps_unset who n

one_unset : (who : ℕ) (a : Act) → filter_map (set_by who) (main_inputs a) ≡ []
one_unset who (act.Step count) = steps_unset who count
one_unset who (act.Tick ms) = refl
one_unset who (act.Exit name status) = refl
one_unset who (act.File path content) = refl
one_unset who (act.Ask other one) = refl

main_unset : (who : ℕ) (acts : List Act) → filter_map (set_by who) (flat_map main_inputs acts) ≡ []
main_unset who [] = refl
main_unset who (a ∷ acts) =
    filter_map-append (set_by who) (main_inputs a) (flat_map main_inputs acts)
    ∙ ap (λ first. first ++ filter_map (set_by who) (flat_map main_inputs acts)) (one_unset who a) ∙ main_unset who acts

tails : (i j : Input) (xs ys : List Input) → i ∷ xs ≡ j ∷ ys → xs ≡ ys
tails i j xs ys same = cc

-- ---- the whole

-- the inputs of the history
history_inputs : (script : Script) (history : List Entry) (first : HasMainFirst script history)
    → inputs_of history ≡ input.Boot ∷ flat_map main_inputs script.acts ++ inputs_of first.sets
history_inputs script history first =
    ap inputs_of first.history_is ∙ map-append (λ (e : Entry). e.input) first.main first.sets
    ∙ ap (λ done. done ++ inputs_of first.sets) first.main_is

abbrev reordered : Script → List Entry → Script
reordered script sets = record script { acts = filter is_main_act script.acts ++ all_asked sets }

in_order : (script : Script) (history : List Entry) (first : HasMainFirst script history) → inputs_of history ≡ InOrder (reordered script first.sets)
in_order script history first =
    history_inputs script history first
    ∙ ap (λ rest. input.Boot ∷ rest)
    (sym (flat_map-append act_inputs (filter is_main_act script.acts) (all_asked first.sets)
    ∙ ap (λ done. done ++ flat_map act_inputs (all_asked first.sets)) (main_asked script.acts)
    ∙ ap (λ sets. flat_map main_inputs script.acts ++ sets) (inputs_asked first.sets first.are_sets)))

parts_are : (o : Opening) (found : List Diagnostic) (script : Script) (report : Report) → AsksAreMet script → All IsSetOrMain script.acts
    → (done : IsDispatched o found script report) (who : ℕ) → filter_map (ask_by who) (all_asked done.main_first.sets) ≡ part_of who script
parts_are o found script report met only done who =
    let first = done.main_first in
    let merges = done.audited.merges in
    let rest : merges.rest ≡ flat_map main_inputs script.acts ++ inputs_of first.sets =
    tails input.Boot input.Boot _ _ (sym merges.begins ∙ history_inputs script report.history first) in
    let sets : filter_map (set_by who) (inputs_of first.sets) ≡ filter_map set_in (part_of who script) =
    sym (ap (λ front. front ++ filter_map (set_by who) (inputs_of first.sets)) (main_unset who script.acts))
    ∙ sym (filter_map-append (set_by who) (flat_map main_inputs script.acts) (inputs_of first.sets))
    ∙ ap (filter_map (set_by who)) (sym rest) ∙ merges.sets who ∙ ap (filter_map set_in) (sym (part_is script met who)) in
    parts_asked who first.sets first.are_sets ∙ ap (map ask.Set) sets ∙ sets_back (part_of who script) (part_sets who script.acts only)

-- nobody is told anything where clients only set
told_nothing : (config : Config) (policy : PolicyLines) (who : ℕ) (acts : List Act) (s : State) → All IsSetOrMain acts
    → readings_from config policy who s acts ≡ []
told_nothing config policy who [] s only = refl
told_nothing config policy who (act.Step count ∷ acts) s only =
    told_nothing config policy who acts (after_from config policy s (act_inputs (act.Step count))) (All-tail IsSetOrMain (act.Step count) acts only)
told_nothing config policy who (act.Tick ms ∷ acts) s only =
    told_nothing config policy who acts (after_from config policy s (act_inputs (act.Tick ms))) (All-tail IsSetOrMain (act.Tick ms) acts only)
told_nothing config policy who (act.Exit name status ∷ acts) s only =
    told_nothing config policy who acts (after_from config policy s (act_inputs (act.Exit name status))) (All-tail IsSetOrMain (act.Exit name status) acts only)
told_nothing config policy who (act.File path content ∷ acts) s only =
    told_nothing config policy who acts (after_from config policy s (act_inputs (act.File path content)))
    (All-tail IsSetOrMain (act.File path content) acts only)
told_nothing config policy who (act.Ask other (ask.Set pair) ∷ acts) s only =
    chosen (other.0 == who)
    (told_nothing config policy who acts (after_from config policy s (act_inputs (act.Ask other (ask.Set pair))))
    (All-tail IsSetOrMain (act.Ask other (ask.Set pair)) acts only))
  where
    chosen : {T : Type 0} {rest : List T} (mine : Bool) → rest ≡ [] → (if mine then [] else []) ++ rest ≡ []
    chosen true e = e
    chosen false e = e
told_nothing config policy who (act.Ask other (ask.Read name) ∷ acts) s only =
    let bad : false ≡ true = All-head IsSetOrMain (act.Ask other (ask.Read name)) acts only in cc
told_nothing config policy who (act.Ask other ask.Sync ∷ acts) s only = let bad : false ≡ true = All-head IsSetOrMain (act.Ask other ask.Sync) acts only in cc
told_nothing config policy who (act.Ask other ask.Catch ∷ acts) s only = let bad : false ≡ true = All-head IsSetOrMain (act.Ask other ask.Catch) acts only in cc

clients_same : (config : Config) (policy : PolicyLines) (s : State) (acts : List Act) (who : ℕ) (clients : List Client) (parts : List ClientPart)
    → All IsSetOrMain acts → clients ≡ map (λ part. client_of part) parts → All (λ (part : ClientPart). part.readings ≡ []) parts
    → parts ≡ parts_from config policy s acts who clients
clients_same config policy s acts who [] [] only same none = refl
clients_same config policy s acts who [] (part ∷ parts) only same none = cc
clients_same config policy s acts who (client ∷ clients) [] only same none = cc
clients_same config policy s acts who (client ∷ clients) (part ∷ parts) only same none =
    let this : client ≡ client_of part = cc in
    let rest : clients ≡ map (λ part. client_of part) parts = cc in
    let silent : part.readings ≡ readings_from config policy who s acts =
    All-head (λ (x : ClientPart). x.readings ≡ []) part parts none ∙ sym (told_nothing config policy who acts s only) in
    ap (λ (readings : List Reading). record { name = part.name; domain = part.domain; readings = readings } ∷ parts) silent
    ∙ ap (λ (c : Client). record { name = c.name; domain = c.domain; readings = readings_from config policy who s acts } ∷ parts) (sym this)
    ∙ ap (λ more. record { name = client.name; domain = client.domain; readings = readings_from config policy who s acts } ∷ more)
    (clients_same config policy s acts (who + 1) clients parts only rest (All-tail (λ (x : ClientPart). x.readings ≡ []) part parts none))

same_report : (r s : Report) → r.diagnostics ≡ s.diagnostics → r.history ≡ s.history → r.clients ≡ s.clients → r ≡ s
same_report r s diagnostics history clients =
    ap (λ d. record { diagnostics = d; history = r.history; clients = r.clients }) diagnostics
    ∙ ap (λ h. record { diagnostics = s.diagnostics; history = h; clients = r.clients }) history
    ∙ ap (λ c. record { diagnostics = s.diagnostics; history = s.history; clients = c }) clients

pub is_run_of_order : (o : Opening) (found : List Diagnostic) (script : Script) (report : Report) → AsksAreMet script → All IsSetOrMain script.acts
    → IsDispatched o found script report → IsRunOfOrder o found script report
is_run_of_order o found script report met only done =
    let first = done.main_first in
    let other = reordered script first.sets in
    let all : All IsSetOrMain other.acts =
    All-append IsSetOrMain (filter is_main_act script.acts) (all_asked first.sets) (main_only_sets script.acts) (asked_only_set first.sets first.are_sets) in
    record {
      other = other;
      order = record {
        clients = refl;
        asks = all_asked first.sets;
        acts = refl;
        requests = all_requests first.sets first.are_sets;
        parts = parts_are o found script report met only done;
      };
      report_is = same_report report (report_of o found other) (sym done.audited.diagnostics)
          (only_history o report.history done.audited.legal ∙ ap (history_of o) (in_order script report.history first))
          (clients_same o.config o.policy (after o (input.Boot ∷ [])) other.acts 1 script.clients report.clients all done.audited.clients done.no_readings);
    }
