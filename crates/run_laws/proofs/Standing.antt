-- The readings of a run answer the requests, and stand.
use Rattle.std.proofs.Common.{◌≡◌, ℕ, ◌≤◌, Bool, true, false, ◌==◌, List, [], ◌∷◌, ◌++◌, length, All, Option, Some, None, if◌then◌else◌, append_assoc, refl, sym, ap, ◌∙◌, subst}
use Rattle.std.proofs.lemmas.List.Elements.{All-nil, All-cons, All-append}
use Rattle.std.specs.List.{cons_option, filter_map, flat_map}
use Rattle.init_machine.specs.Facts.{Stands}
use Rattle.init_machine.specs.History.{after, after_from, sets_of, value_at}
use Rattle.init_machine.specs.Policy.{PolicyLines}
use Rattle.init_machine.specs.Sets.{Set}
use Rattle.init_machine.specs.State.{Opening, State, first_state, value_now}
use Rattle.init_machine.specs.declared.config.Config.{Config}
use Rattle.init_machine.specs.declared.input.Input.{Input}
use Rattle.init_machine.specs.declared.report.Reading.{Reading}
use Rattle.init_machine.proofs.DistinctSums.{bytes_eq-refl}
use Rattle.machine_laws.specs.Histories.{history_of}
use Rattle.script_lang.specs.Inputs.{act_inputs, ask_by}
use Rattle.script_lang.specs.declared.script.Act.{Act}
use Rattle.script_lang.specs.declared.script.Act.TheVariants as act
use Rattle.script_lang.specs.declared.script.Ask.{Ask}
use Rattle.script_lang.specs.declared.script.Ask.TheVariants as ask
use Rattle.trace_audit.specs.Audited.{answer_all}
use Rattle.init_driver.proofs.Courses.{after_more}
use Rattle.init_driver.specs.Readings.{read_as, read_now, told_now, readings_in, told_by, readings_from}
use Rattle.run_laws.proofs.Reached.{count_within, value_within}

-- ---- they answer

read_answers : (name : List ℕ) (count : ℕ) (value : Option (List ℕ)) (asks : List Ask) (readings : List Reading) → answer_all asks readings ≡ true
    → answer_all (ask.Read name ∷ asks) (read_as name count value ∷ readings) ≡ true
read_answers name count None asks readings rest = rw (bytes_eq-refl name) rest
read_answers name count (Some value) asks readings rest = rw (bytes_eq-refl name) rest

told_answers : (mine : Bool) (request : Ask) (s : State) (asks : List Ask) (readings : List Reading) → answer_all asks readings ≡ true
    → answer_all (cons_option (if mine then Some request else None) asks) ((if mine then readings_in (told_now s request) else []) ++ readings) ≡ true
told_answers false request s asks readings rest = rest
told_answers true (ask.Set pair) s asks readings rest = rest
told_answers true (ask.Read name) s asks readings rest = read_answers name s.props.count (value_now s name) asks readings rest
told_answers true ask.Sync s asks readings rest = rest
told_answers true ask.Catch s asks readings rest = rest

pub all_answer : (config : Config) (policy : PolicyLines) (who : ℕ) (acts : List Act) (s : State)
    → answer_all (filter_map (ask_by who) acts) (readings_from config policy who s acts) ≡ true
all_answer config policy who [] s = refl
all_answer config policy who (act.Step count ∷ acts) s = all_answer config policy who acts (after_from config policy s (act_inputs (act.Step count)))
all_answer config policy who (act.Tick ms ∷ acts) s = all_answer config policy who acts (after_from config policy s (act_inputs (act.Tick ms)))
all_answer config policy who (act.Exit name status ∷ acts) s =
    all_answer config policy who acts (after_from config policy s (act_inputs (act.Exit name status)))
all_answer config policy who (act.File path content ∷ acts) s =
    all_answer config policy who acts (after_from config policy s (act_inputs (act.File path content)))
all_answer config policy who (act.Ask other request ∷ acts) s =
    let t = after_from config policy s (act_inputs (act.Ask other request)) in
    told_answers (other.0 == who) request s (filter_map (ask_by who) acts) (readings_from config policy who t acts) (all_answer config policy who acts t)

-- ---- they stand

read_stands : (sets : List Set) (name : List ℕ) (count : ℕ) (value : Option (List ℕ)) → count ≤ length sets → value_at sets count name ≡ value
    → Stands sets None (read_as name count value)
read_stands sets name count None within is = (within, is)
read_stands sets name count (Some value) within is = (within, is)

-- what a state tells stands by some sets, where its count is within them, and they leave its values
told_stands : (sets : List Set) (s : State) (mine : Bool) (request : Ask) → s.props.count ≤ length sets
    → ((name : List ℕ) → value_at sets s.props.count name ≡ value_now s name)
    → All (Stands sets None) (if mine then readings_in (told_now s request) else [])
told_stands sets s false request within values = All-nil (Stands sets None)
told_stands sets s true (ask.Set pair) within values = All-nil (Stands sets None)
told_stands sets s true (ask.Read name) within values =
    All-cons (Stands sets None) (read_now s name) [] (read_stands sets name s.props.count (value_now s name) within (values name)) (All-nil (Stands sets None))
told_stands sets s true ask.Sync within values = All-cons (Stands sets None) _ [] within (All-nil (Stands sets None))
told_stands sets s true ask.Catch within values = All-cons (Stands sets None) _ [] within (All-nil (Stands sets None))

act_stands : (sets : List Set) (who : ℕ) (s : State) (one : Act) → s.props.count ≤ length sets
    → ((name : List ℕ) → value_at sets s.props.count name ≡ value_now s name) → All (Stands sets None) (told_by who s one)
act_stands sets who s (act.Step count) within values = All-nil (Stands sets None)
act_stands sets who s (act.Tick ms) within values = All-nil (Stands sets None)
act_stands sets who s (act.Exit name status) within values = All-nil (Stands sets None)
act_stands sets who s (act.File path content) within values = All-nil (Stands sets None)
act_stands sets who s (act.Ask other request) within values = told_stands sets s (other.0 == who) request within values

pub all_stand : (o : Opening) (who : ℕ) (acts : List Act) (done all : List Input) (s : State) → s ≡ after o done
    → done ++ flat_map act_inputs acts ≡ all
    → All (Stands (sets_of (history_of o all)) None) (readings_from o.config o.policy who s acts)
all_stand o who [] done all s is whole = All-nil (Stands (sets_of (history_of o all)) None)
all_stand o who (one ∷ acts) done all s is whole =
    let sets = sets_of (history_of o all) in
    let more = flat_map act_inputs (one ∷ acts) in
    let t = after_from o.config o.policy s (act_inputs one) in
    let P : List Input → State → Type 0 = λ is t. t.props.count ≤ length (sets_of (history_of o is)) in
    let within : s.props.count ≤ length sets = subst (λ (is : List Input). P is s) whole (subst (λ (t : State). P (done ++ more) t) (sym is) (count_within o done more)) in
    let values : (name : List ℕ) → value_at sets s.props.count name ≡ value_now s name =
    λ name.
    ap (λ (is : List Input). value_at (sets_of (history_of o is)) s.props.count name) (sym whole)
    ∙ ap (λ (t : State). value_at (sets_of (history_of o (done ++ more))) t.props.count name) is
    ∙ value_within o done more name ∙ ap (λ (t : State). value_now t name) (sym is) in
    All-append (Stands sets None) (told_by who s one) (readings_from o.config o.policy who t acts)
    (act_stands sets who s one within values)
    (all_stand o who acts (done ++ act_inputs one) all t (reached o done (act_inputs one) s is)
    (append_assoc done (act_inputs one) (flat_map act_inputs acts) ∙ whole))
  where
    reached : (o : Opening) (done more : List Input) (s : State) → s ≡ after o done → after_from o.config o.policy s more ≡ after o (done ++ more)
    reached o done more s is =
        ap (λ (t : State). after_from o.config o.policy t more) is ∙ sym (after_more o.config o.policy (first_state o) done more)
