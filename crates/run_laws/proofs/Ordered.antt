-- Each client's list is in order: its requests and readings have the counts of the moments at which they come.
use Rattle.std.proofs.Common.{◌≡◌, ℕ, zero, suc, ◌+◌, ◌≤◌, Bool, true, false, ◌==◌, List, [], ◌∷◌, ◌++◌, length, replicate, Option, Some, None, if◌then◌else◌, refl, sym, ap, ◌∙◌, arith, subst}
use Rattle.std.specs.List.{AllByRecursion, cons_option, filter_map, flat_map}
use mathlib.Core.Option.{some}
use lib.ListN.{get_elem?}
use Rattle.init_machine.specs.History.{after, after_from, sets_in}
use Rattle.init_machine.specs.Orderly.{InOrder, SecondsRise}
use Rattle.init_machine.specs.Policy.{PolicyLines}
use Rattle.init_machine.specs.State.{Opening, State, first_state, value_now}
use Rattle.init_machine.specs.Step.{step}
use Rattle.init_machine.specs.declared.client.ClientItem.{ClientItem}
use Rattle.init_machine.specs.declared.client.ClientItem.TheVariants.{Told, Asked}
use Rattle.init_machine.specs.declared.client.ClientRequest.{ClientRequest}
use Rattle.init_machine.specs.declared.config.Config.{Config}
use Rattle.init_machine.specs.declared.config.Pair.{Pair}
use Rattle.init_machine.specs.declared.input.Input.{Input}
use Rattle.init_machine.specs.declared.input.Input.TheVariants as input
use Rattle.init_machine.specs.declared.report.Entry.{Entry}
use Rattle.init_machine.specs.declared.report.Reading.{Reading}
use Rattle.init_machine.specs.declared.report.Reading.TheVariants as reading
use Rattle.machine_laws.specs.Histories.{history_from}
use Rattle.machine_laws.proofs.Members.{all_append}
use Rattle.script_lang.specs.Inputs.{act_inputs, ask_by}
use Rattle.script_lang.specs.declared.script.Act.{Act}
use Rattle.script_lang.specs.declared.script.Act.TheVariants as act
use Rattle.script_lang.specs.declared.script.Ask.{Ask}
use Rattle.script_lang.specs.declared.script.Ask.TheVariants as ask
use Rattle.trace_audit.specs.Audited.{list_of, request_at, request_if, requests_from}
use Rattle.init_driver.proofs.Courses.{after_more}
use Rattle.init_driver.specs.Readings.{read_as, told_now, readings_in, told_by, readings_from}
use Rattle.run_laws.proofs.Reached.{step_counts}

-- ---- no reading meets a write

abbrev IsCalm : Reading → Type 0
IsCalm (reading.Again name number first second) = ⊥
IsCalm _ = Unit {0}

abbrev IsCalmItem : ClientItem → Type 0
IsCalmItem (Told told) = IsCalm told
IsCalmItem (Asked request) = Unit {0}

read_is_calm : (name : List ℕ) (count : ℕ) (value : Option (List ℕ)) → IsCalm (read_as name count value)
read_is_calm name count None = tt
read_is_calm name count (Some value) = tt

told_is_calm : (mine : Bool) (request : Ask) (s : State) → AllByRecursion IsCalm (if mine then readings_in (told_now s request) else [])
told_is_calm false request s = tt
told_is_calm true (ask.Set pair) s = tt
told_is_calm true (ask.Read name) s = (read_is_calm name s.props.count (value_now s name), tt)
told_is_calm true ask.Sync s = (tt, tt)
told_is_calm true ask.Catch s = (tt, tt)

act_is_calm : (who : ℕ) (s : State) (one : Act) → AllByRecursion IsCalm (told_by who s one)
act_is_calm who s (act.Step count) = tt
act_is_calm who s (act.Tick ms) = tt
act_is_calm who s (act.Exit name status) = tt
act_is_calm who s (act.File path content) = tt
act_is_calm who s (act.Ask other request) = told_is_calm (other.0 == who) request s

all_calm : (config : Config) (policy : PolicyLines) (who : ℕ) (acts : List Act) (s : State) → AllByRecursion IsCalm (readings_from config policy who s acts)
all_calm config policy who [] s = tt
all_calm config policy who (one ∷ acts) s =
    let t = after_from config policy s (act_inputs one) in
    all_append IsCalm (told_by who s one) (readings_from config policy who t acts) (act_is_calm who s one) (all_calm config policy who acts t)

list_is_calm : (asks : List Ask) (requests : List ClientRequest) (readings : List Reading) → AllByRecursion IsCalm readings
    → AllByRecursion IsCalmItem (list_of asks requests readings)
list_is_calm [] requests readings calm = tt
list_is_calm (ask.Set pair ∷ asks) [] readings calm = list_is_calm asks [] readings calm
list_is_calm (ask.Set pair ∷ asks) (request ∷ requests) readings calm = (tt, list_is_calm asks requests readings calm)
list_is_calm (ask.Read name ∷ asks) requests [] calm = list_is_calm asks requests [] calm
list_is_calm (ask.Read name ∷ asks) requests (told ∷ readings) calm = (calm.0, list_is_calm asks requests readings calm.1)
list_is_calm (ask.Sync ∷ asks) requests [] calm = list_is_calm asks requests [] calm
list_is_calm (ask.Sync ∷ asks) requests (told ∷ readings) calm = (calm.0, list_is_calm asks requests readings calm.1)
list_is_calm (ask.Catch ∷ asks) requests [] calm = list_is_calm asks requests [] calm
list_is_calm (ask.Catch ∷ asks) requests (told ∷ readings) calm = (calm.0, list_is_calm asks requests readings calm.1)

no_again : (list : List ClientItem) (i number : ℕ) (name : List ℕ) (first second : ℕ) → AllByRecursion IsCalmItem list
    → get_elem? list i ≡ some (Told (reading.Again name number first second)) → ⊥
no_again [] i number name first second calm at = cc
no_again (item ∷ list) zero number name first second calm at =
    let same : item ≡ Told (reading.Again name number first second) = cc in subst IsCalmItem same calm.0
no_again (item ∷ list) (suc i) number name first second calm at = no_again list i number name first second calm.1 at

pub seconds_rise : (config : Config) (policy : PolicyLines) (who : ℕ) (acts : List Act) (s : State) (asks : List Ask) (requests : List ClientRequest)
    → SecondsRise (list_of asks requests (readings_from config policy who s acts))
seconds_rise config policy who acts s asks requests i j number number' name first first' second second' before at at' =
    let readings = readings_from config policy who s acts in
    absurd (no_again (list_of asks requests readings) i number name first second (list_is_calm asks requests readings (all_calm config policy who acts s)) at)

-- ---- no count falls

-- the client's list of acts that are taken from a state on
abbrev list_from : Config → PolicyLines → ℕ → ℕ → State → List Act → List ClientItem
list_from config policy who place s acts =
    list_of (filter_map (ask_by who) acts) (requests_from who place s.props.count (history_from config policy s (flat_map act_inputs acts)))
    (readings_from config policy who s acts)

-- the acts behind are in order, from each state that is reached
abbrev Behind : Opening → ℕ → List Act → Type 0
Behind o who acts =
    (place seen : ℕ) (done : List Input) (s : State) → s ≡ after o done → seen ≤ s.props.count
    → InOrder seen (list_from o.config o.policy who place s acts)

stepped : (o : Opening) (done : List Input) (s : State) (i : Input) → s ≡ after o done → (step o.config o.policy s i).state ≡ after o (done ++ i ∷ [])
stepped o done s i is =
    ap (λ (t : State). (step o.config o.policy t i).state) is ∙ sym (after_more o.config o.policy (first_state o) done (i ∷ []))

-- what holds by the count behind a step holds by the sets that the step made
by_count : (o : Opening) (done : List Input) (s : State) (i : Input) → s ≡ after o done → (P : ℕ → Type 0) → P (step o.config o.policy s i).state.props.count
    → P (s.props.count + length (sets_in (step o.config o.policy s i).lines))
by_count o done s i is P holds = subst P (step_counts o done s i is) holds

-- an input that is no set
one_input : (o : Opening) (who : ℕ) (acts : List Act) → Behind o who acts → (place seen : ℕ) (done : List Input) (s : State) (i : Input) → s ≡ after o done
    → seen ≤ s.props.count
    → let t = (step o.config o.policy s i).state in
    InOrder seen (list_of (filter_map (ask_by who) acts)
    (requests_from who (place + 1) (s.props.count + length (sets_in (step o.config o.policy s i).lines)) (history_from o.config o.policy t (flat_map act_inputs acts)))
    (readings_from o.config o.policy who t acts))
one_input o who acts behind place seen done s i is within =
    let t = (step o.config o.policy s i).state in
    let counts = step_counts o done s i is in
    let P : ℕ → Type 0 =
    λ n. InOrder seen (list_of (filter_map (ask_by who) acts) (requests_from who (place + 1) n (history_from o.config o.policy t (flat_map act_inputs acts)))
    (readings_from o.config o.policy who t acts)) in
    by_count o done s i is P (behind (place + 1) seen (done ++ i ∷ []) t (stepped o done s i is) (omega arith))

-- so many Nexts
nexts : (o : Opening) (who : ℕ) (acts : List Act) → Behind o who acts → (count place seen : ℕ) (done : List Input) (s : State) → s ≡ after o done
    → seen ≤ s.props.count
    → InOrder seen (list_of (filter_map (ask_by who) acts)
    (requests_from who place s.props.count (history_from o.config o.policy s (replicate count input.Next ++ flat_map act_inputs acts)))
    (readings_from o.config o.policy who (after_from o.config o.policy s (replicate count input.Next)) acts))
nexts o who acts behind zero place seen done s is within = behind place seen done s is within
nexts o who acts behind (suc count) place seen done s is within =
    let t = (step o.config o.policy s input.Next).state in
    let counts = step_counts o done s input.Next is in
    let P : ℕ → Type 0 =
    λ n. InOrder seen (list_of (filter_map (ask_by who) acts)
    (requests_from who (place + 1) n (history_from o.config o.policy t (replicate count input.Next ++ flat_map act_inputs acts)))
    (readings_from o.config o.policy who (after_from o.config o.policy t (replicate count input.Next)) acts)) in
    by_count o done s input.Next is P (nexts o who acts behind count (place + 1) seen (done ++ input.Next ∷ []) t (stepped o done s input.Next is) (omega arith))

-- a read has the count of its state
read_in_order : (name : List ℕ) (count seen : ℕ) (value : Option (List ℕ)) (list : List ClientItem) → seen ≤ count → InOrder count list
    → InOrder seen (Told (read_as name count value) ∷ list)
read_in_order name count seen None list within rest = (within, omega arith, rest)
read_in_order name count seen (Some value) list within rest = (within, omega arith, rest)

-- a client's act
asked : (o : Opening) (who : ℕ) (acts : List Act) → Behind o who acts → (place seen : ℕ) (done : List Input) (s : State) (mine : Bool) (request : Ask)
    → s ≡ after o done → seen ≤ s.props.count → (no_set : (pair : Pair) → request ≡ ask.Set pair → ⊥)
    → InOrder seen (list_of (cons_option (if mine then Some request else None) (filter_map (ask_by who) acts))
    (requests_from who place s.props.count (history_from o.config o.policy s (flat_map act_inputs acts)))
    ((if mine then readings_in (told_now s request) else []) ++ readings_from o.config o.policy who s acts))
asked o who acts behind place seen done s false request is within no_set = behind place seen done s is within
asked o who acts behind place seen done s true (ask.Set pair) is within no_set = absurd (no_set pair refl)
asked o who acts behind place seen done s true (ask.Read name) is within no_set =
    read_in_order name s.props.count seen (value_now s name) (list_from o.config o.policy who place s acts) within
    (behind place s.props.count done s is (omega arith))
asked o who acts behind place seen done s true ask.Sync is within no_set =
    (within, omega arith, behind place s.props.count done s is (omega arith))
asked o who acts behind place seen done s true ask.Catch is within no_set =
    (within, omega arith, behind place s.props.count done s is (omega arith))

-- a client's set
set : (o : Opening) (who : ℕ) (acts : List Act) → Behind o who acts → (place seen : ℕ) (done : List Input) (s : State) (mine : Bool) (pair one : Pair) (i : Input)
    → s ≡ after o done → seen ≤ s.props.count
    → let now = step o.config o.policy s i in
    let e : Entry = record { input = i; outputs = now.lines } in
    InOrder seen (list_of (cons_option (if mine then Some (ask.Set pair) else None) (filter_map (ask_by who) acts))
    (request_if (if mine then Some one else None) (request_at place s.props.count e)
    ++ requests_from who (place + 1) (s.props.count + length (sets_in now.lines)) (history_from o.config o.policy now.state (flat_map act_inputs acts)))
    ((if mine then readings_in None else []) ++ readings_from o.config o.policy who now.state acts))
set o who acts behind place seen done s false pair one i is within = one_input o who acts behind place seen done s i is within
set o who acts behind place seen done s true pair one i is within =
    let t = (step o.config o.policy s i).state in
    let counts = step_counts o done s i is in
    let P : ℕ → Type 0 =
    λ n. InOrder n (list_of (filter_map (ask_by who) acts) (requests_from who (place + 1) n (history_from o.config o.policy t (flat_map act_inputs acts)))
    (readings_from o.config o.policy who t acts)) in
    (within, omega arith, by_count o done s i is P (behind (place + 1) t.props.count (done ++ i ∷ []) t (stepped o done s i is) (omega arith)))

pub in_order : (o : Opening) (who : ℕ) (acts : List Act) → Behind o who acts
in_order o who [] place seen done s is within = tt
in_order o who (act.Step count ∷ acts) place seen done s is within = nexts o who acts (in_order o who acts) count place seen done s is within
in_order o who (act.Tick ms ∷ acts) place seen done s is within =
    one_input o who acts (in_order o who acts) place seen done s (input.Tick ms) is within
in_order o who (act.Exit name status ∷ acts) place seen done s is within =
    one_input o who acts (in_order o who acts) place seen done s (input.Exit name status) is within
in_order o who (act.File path content ∷ acts) place seen done s is within =
    one_input o who acts (in_order o who acts) place seen done s (input.File path content) is within
in_order o who (act.Ask other (ask.Set pair) ∷ acts) place seen done s is within =
    set o who acts (in_order o who acts) place seen done s (other.0 == who) pair (record { name = pair.name; value = pair.value }) (input.Set other pair.name pair.value) is within
in_order o who (act.Ask other (ask.Read name) ∷ acts) place seen done s is within =
    asked o who acts (in_order o who acts) place seen done s (other.0 == who) (ask.Read name) is within (λ pair same. cc)
in_order o who (act.Ask other ask.Sync ∷ acts) place seen done s is within =
    asked o who acts (in_order o who acts) place seen done s (other.0 == who) ask.Sync is within (λ pair same. cc)
in_order o who (act.Ask other ask.Catch ∷ acts) place seen done s is within =
    asked o who acts (in_order o who acts) place seen done s (other.0 == who) ask.Catch is within (λ pair same. cc)
