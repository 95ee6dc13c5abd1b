-- How the lines of a client's set end.
use Rattle.std.proofs.Common.{◌≡◌, ℕ, zero, suc, ◌+◌, Bool, true, false, List, [], ◌∷◌, ◌++◌, take, drop, slice_get, Option, Some, None, if◌then◌else◌, refl, sym, ap, ◌∙◌, subst, add-one}
use Rattle.std.proofs.lemmas.List.{take-append-drop}
use Rattle.std.specs.List.{AllByRecursion}
use Rattle.init_base.specs.declared.units.ClientId.{ClientId}
use Rattle.init_machine.specs.Changes.{Change}
use Rattle.init_machine.specs.History.{after, after_from, Legal, inputs_of, sets_in, count_at}
use Rattle.init_machine.specs.Policy.{PolicyLines}
use Rattle.init_machine.specs.Services.{control_at, place_of, set_by}
use Rattle.init_machine.specs.Setting.{Judged, judged, set_answer, put_property, stored_lines, is_stored, released_lines, awaits, set_property, control_op, is_control}
use Rattle.init_machine.specs.State.{Opening, State, Rules, rules_of, first_state}
use Rattle.init_machine.specs.Step.{answer_line, ask, domain_of, step}
use Rattle.init_machine.specs.declared.config.Config.{Config}
use Rattle.init_machine.specs.declared.input.Input.TheVariants as input
use Rattle.init_machine.specs.declared.output.Output.{Output}
use Rattle.init_machine.specs.declared.output.Output.TheVariants as output
use Rattle.init_machine.specs.declared.output.SetRefusal.{SetRefusal}
use Rattle.init_machine.specs.declared.report.Entry.{Entry}
use Rattle.machine_laws.proofs.Counted.{sets_count}
use Rattle.machine_laws.proofs.Legal.{by_place, legal_beginning}
use Rattle.history_laws.specs.Answered.{EndsWithAnswer, IsNoAnswer, refusal_behind}
use Rattle.history_laws.specs.Settled.{IsSettled}
use Rattle.history_laws.proofs.Quiet.{behind_put, quiet_control}
use Rattle.history_laws.proofs.Settling.{reached_settled, set_step}

-- behind its put a set puts nothing
no_more : (stored ends : Bool) (name : List ℕ) → sets_in ((if stored then output.Stored name ∷ [] else []) ++ released_lines ends) ≡ []
no_more true true name = refl
no_more true false name = refl
no_more false true name = refl
no_more false false name = refl

-- the lines of a set that is done by its kind of name, and its answer
abbrev answered : Judged → Bool → List Output
answered answer control = answer.done.lines ++ answer_line answer.refused control answer.done.state.props.count ∷ []

ends_by : (control : Bool) (refused : Option SetRefusal) (name value : List ℕ) (s : State) (operation : Change) → AllByRecursion IsNoAnswer operation.lines
    → let answer = if control then judged refused s operation else judged refused s (put_property s name value) in
    EndsWithAnswer refused control name value answer.done.state.props.count (answered answer control)
unfolding put_property
ends_by true (Some why) name value s operation plain = record { did = []; ends = refl; only = tt; done = refl }
ends_by false (Some why) name value s operation plain = record { did = []; ends = refl; only = tt; done = refl }
ends_by true None name value s operation plain = record { did = operation.lines; ends = refl; only = plain; done = tt }
ends_by false None name value s operation plain =
    let rest = stored_lines s name ++ released_lines (awaits s.waits name value) in record {
      did = (put_property s name value).lines;
      ends = refl;
      only = (refl, behind_put s name value);
      done = (rest, refl, no_more (is_stored s name) (awaits s.waits name value) name);
    }

-- in any state
ask_ends : (rules : Rules) (domain name value : List ℕ) (s : State)
    → let c = ask rules domain name value s in
    EndsWithAnswer (set_answer rules s (Some domain) name value) (is_control name) name value c.state.props.count c.lines
unfolding ask set_by set_property
ask_ends rules domain name value s =
    let operation = control_at rules (control_op name) (place_of rules value) s in
    ends_by (is_control name) (set_answer rules s (Some domain) name value) name value s operation
    (quiet_control rules (control_op name) (place_of rules value) s).plain

-- a step at a set, where nothing was left to be settled
pub step_ends : (config : Config) (policy : PolicyLines) (s : State) (who : ClientId) (name value : List ℕ) → IsSettled s
    → let now = step config policy s (input.Set who name value) in
    EndsWithAnswer (set_answer (rules_of config policy) s (Some (domain_of config.domains who)) name value) (is_control name) name value now.state.props.count now.lines
step_ends config policy s who name value before =
    let rules = rules_of config policy in
    let domain = domain_of config.domains who in
    let P : Change → Type 0 =
    λ c. EndsWithAnswer (set_answer rules s (Some domain) name value) (is_control name) name value c.state.props.count c.lines in
    subst P (sym (set_step config policy s who name value before)) (ask_ends rules domain name value s)

-- the state behind an entry
behind_entry : (config : Config) (policy : PolicyLines) (s : State) (history : List Entry) (i : ℕ) (e : Entry) → slice_get history i ≡ Some e
    → after_from config policy s (inputs_of (take (suc i) history)) ≡ (step config policy (after_from config policy s (inputs_of (take i history))) e.input).state
behind_entry config policy s [] i e is = cc
behind_entry config policy s (x ∷ history) zero e is =
    let same : x ≡ e = cc in ap (λ (y : Entry). (step config policy s y.input).state) same
behind_entry config policy s (x ∷ history) (suc i) e is = behind_entry config policy (step config policy s x.input).state history i e is

-- the count behind an entry
count_behind : (o : Opening) (history : List Entry) (i : ℕ) (e : Entry) → Legal o history → slice_get history i ≡ Some e
    → (step o.config o.policy (after o (inputs_of (take i history))) e.input).state.props.count ≡ count_at history (suc i)
count_behind o history i e legal is =
    let begun : Legal o (take (suc i) history) =
    legal_beginning o (take (suc i) history) (drop (suc i) history) (rw take-append-drop legal) in
    ap (λ (t : State). t.props.count) (sym (behind_entry o.config o.policy (first_state o) history i e is))
    ∙ sets_count o (take (suc i) history) begun

-- in a legal history
pub history_ends : (o : Opening) (history : List Entry) (i : ℕ) (e : Entry) (who : ClientId) (name value : List ℕ)
    → Legal o history → slice_get history i ≡ Some e → e.input ≡ input.Set who name value
    → EndsWithAnswer (refusal_behind o (take i history) who name value) (is_control name) name value (count_at history (i + 1)) e.outputs
history_ends o history i e who name value legal is set =
    let s = after o (inputs_of (take i history)) in
    let at : step o.config o.policy s e.input ≡ step o.config o.policy s (input.Set who name value) = ap (step o.config o.policy s) set in
    let lines : (step o.config o.policy s (input.Set who name value)).lines ≡ e.outputs =
    sym ((by_place o history).0 legal i e is ∙ ap (λ (c : Change). c.lines) at) in
    let count : (step o.config o.policy s (input.Set who name value)).state.props.count ≡ count_at history (i + 1) =
    ap (λ (c : Change). c.state.props.count) (sym at) ∙ count_behind o history i e legal is ∙ ap (count_at history) (sym (add-one i)) in
    let refused = refusal_behind o (take i history) who name value in
    let P : ℕ → Type 0 = λ n. EndsWithAnswer refused (is_control name) name value n (step o.config o.policy s (input.Set who name value)).lines in
    let Q : List Output → Type 0 = λ outputs. EndsWithAnswer refused (is_control name) name value (count_at history (i + 1)) outputs in
    subst Q lines (subst P count (step_ends o.config o.policy s who name value (reached_settled o (inputs_of (take i history)))))
