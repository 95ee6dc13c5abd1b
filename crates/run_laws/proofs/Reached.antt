-- What is known of the state that inputs lead to: how many sets were made, and which values they left.
use Rattle.std.proofs.Common.{◌≡◌, ℕ, ◌+◌, ◌≤◌, List, [], ◌∷◌, ◌++◌, length, None, sym, ap, ◌∙◌, arith, length-append}
use Rattle.std.proofs.Math.Seq.{take-length, take-append_seam}
use Rattle.std.proofs.lemmas.Grind.{flat_map-append}
use Rattle.std.proofs.lemmas.List.{append-nil}
use Rattle.init_machine.specs.History.{after, sets_in, sets_of, last_value, value_at}
use Rattle.init_machine.specs.State.{Opening, State, first_state, value_now}
use Rattle.init_machine.specs.Step.{step}
use Rattle.init_machine.specs.declared.input.Input.{Input}
use Rattle.init_machine.specs.declared.report.Entry.{Entry}
use Rattle.init_driver.proofs.Courses.{after_more, history_more}
use Rattle.machine_laws.specs.Histories.{history_from, history_of}
use Rattle.machine_laws.proofs.Counted.{sets_count, last_values}
use Rattle.machine_laws.proofs.Legal.{history_is_legal, inputs_of_history}

-- the sets behind others
sets_more : (o : Opening) (done more : List Input)
    → sets_of (history_of o (done ++ more)) ≡ sets_of (history_of o done) ++ sets_of (history_from o.config o.policy (after o done) more)
sets_more o done more =
    ap sets_of (history_more o.config o.policy (first_state o) done more)
    ∙ flat_map-append (λ (e : Entry). sets_in e.outputs) (history_of o done) (history_from o.config o.policy (after o done) more)

count_now : (o : Opening) (done : List Input) → (after o done).props.count ≡ length (sets_of (history_of o done))
count_now o done =
    ap (λ (is : List Input). (after o is).props.count) (sym (inputs_of_history o done)) ∙ sets_count o (history_of o done) (history_is_legal o done)

value_reached : (o : Opening) (done : List Input) (name : List ℕ)
    → value_now (after o done) name ≡ value_at (sets_of (history_of o done)) (length (sets_of (history_of o done))) name
value_reached o done name =
    ap (λ (is : List Input). value_now (after o is) name) (sym (inputs_of_history o done)) ∙ last_values o (history_of o done) name (history_is_legal o done)

-- the count is that of some of the sets, and a name has the value that these leave
pub count_within : (o : Opening) (done more : List Input) → (after o done).props.count ≤ length (sets_of (history_of o (done ++ more)))
count_within o done more =
    let sets = sets_of (history_of o done) in
    let later = sets_of (history_from o.config o.policy (after o done) more) in
    let all : length (sets_of (history_of o (done ++ more))) ≡ length sets + length later = ap length (sets_more o done more) ∙ length-append sets later in
    let count = count_now o done in
    omega arith

pub value_within : (o : Opening) (done more : List Input) (name : List ℕ)
    → value_at (sets_of (history_of o (done ++ more))) (after o done).props.count name ≡ value_now (after o done) name
value_within o done more name =
    let sets = sets_of (history_of o done) in
    let later = sets_of (history_from o.config o.policy (after o done) more) in
    ap (λ all. value_at all (after o done).props.count name) (sets_more o done more)
    ∙ ap (λ n. value_at (sets ++ later) n name) (count_now o done)
    ∙ ap (λ first. last_value first name None) (take-append_seam sets later ∙ sym (take-length sets))
    ∙ sym (value_reached o done name)

-- a step counts the sets that it makes
pub step_counts : (o : Opening) (done : List Input) (s : State) (i : Input) → s ≡ after o done
    → (step o.config o.policy s i).state.props.count ≡ s.props.count + length (sets_in (step o.config o.policy s i).lines)
step_counts o done s i is =
    ap (λ (t : State). (step o.config o.policy t i).state.props.count) is ∙ counts
    ∙ ap (λ (t : State). t.props.count + length (sets_in (step o.config o.policy t i).lines)) (sym is)
  where
    counts : (step o.config o.policy (after o done) i).state.props.count
        ≡ (after o done).props.count + length (sets_in (step o.config o.policy (after o done) i).lines)
    counts =
        let sets = sets_of (history_of o done) in
        let made = sets_in (step o.config o.policy (after o done) i).lines in
        let now = count_now o done in
        let then = count_now o (done ++ i ∷ []) in
        let same : (after o (done ++ i ∷ [])).props.count ≡ (step o.config o.policy (after o done) i).state.props.count =
        ap (λ (t : State). t.props.count) (after_more o.config o.policy (first_state o) done (i ∷ [])) in
        let all : length (sets_of (history_of o (done ++ i ∷ []))) ≡ length sets + length made =
        ap length (sets_more o done (i ∷ [])) ∙ length-append sets (made ++ []) ∙ ap (λ xs. length sets + length xs) (append-nil made) in
        omega arith
