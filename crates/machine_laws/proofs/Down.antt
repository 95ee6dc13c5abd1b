-- A machine that is over refuses each input.
use Rattle.std.proofs.Common.{◌≡◌, ℕ, Bool, true, false, not, ◌&&◌, List, [], ◌∷◌, ◌++◌, Option, Some, None, is_some, IsTrue, if◌then◌else◌, refl, sym, ap, ◌∙◌, subst}
use Rattle.std.specs.List.{list_all, list_any}
use Rattle.init_base.specs.Name.{is_legal_name}
use Rattle.init_machine.specs.Changes.{Change, change, nothing, unless_over}
use Rattle.init_machine.specs.Choices.{first_of, only_if}
use Rattle.init_machine.specs.History.{after_from, after, LegalFrom, Legal, inputs_of}
use Rattle.init_machine.specs.Pairs.{last_pairs}
use Rattle.init_machine.specs.Policy.{PolicyLines}
use Rattle.init_machine.specs.Services.{control_at, place_of, set_by}
use Rattle.init_machine.specs.Setting.{Judged, judged, set_answer, set_property, put_property, is_control, control_op, told_refusal, down, control_refusals, property_refusals}
use Rattle.init_machine.specs.State.{Opening, State, Rules, rules_of, first_state}
use Rattle.init_machine.specs.Step.{unless_down, set_pair, set_pairs, first_boot, boot, next, tick, exit, file, domain_of, answer_line, ask, settle, respond, step}
use Rattle.init_machine.specs.declared.config.Config.{Config}
use Rattle.init_machine.specs.declared.config.Pair.{Pair}
use Rattle.init_machine.specs.declared.input.Input.{Input}
use Rattle.init_machine.specs.declared.input.Input.TheVariants as input
use Rattle.init_machine.specs.declared.output.Output.{Output}
use Rattle.init_machine.specs.declared.output.Output.TheVariants as output
use Rattle.init_machine.specs.declared.output.SetRefusal.{SetRefusal}
use Rattle.init_machine.specs.declared.output.SetRefusal.TheVariants as refusal
use Rattle.init_machine.specs.declared.report.Entry.{Entry}
use Rattle.machine_laws.specs.Rebooting.{outputs_of, is_reboot, is_refusal}
use Rattle.machine_laws.proofs.Legal.{legal_beginning}
use Rattle.machine_laws.proofs.Options.{none_is_no_value}
use Rattle.machine_laws.proofs.Over.{over_by_reboot}

all_refuse : (first second : List Output) → list_all is_refusal first ≡ true → list_all is_refusal second ≡ true → list_all is_refusal (first ++ second) ≡ true
all_refuse [] second one other = other
all_refuse (x ∷ first) second one other =
    elim (is_refusal x) as (λ b. (b && list_all is_refusal first) ≡ true → (b && list_all is_refusal (first ++ second)) ≡ true) [
      | true ↦ λ rest. all_refuse first second rest other
      | false ↦ λ never. absurd (cc)
    ] one

-- a change of a machine that stays over
record Refuses (s : State) (c : Change) : Type 0 where
  over : c.state.over ≡ s.over
  lines : list_all is_refusal c.lines ≡ true

-- the answer to a set
is_down : (rules : Rules) (s : State) (by : Option (List ℕ)) (name value target : List ℕ) → s.over ≡ Some target
    → set_answer rules s by name value ≡ Some (refusal.Down target)
unfolding set_answer
is_down rules s by name value target is =
    ap (λ over. first_of (down over ∷ only_if (not (is_legal_name name)) refusal.InvalidName
    ∷ (if is_control name then control_refusals rules by name value else property_refusals rules.policy s.props by name value))) is

same_choice : (b : Bool) (one other : Judged) → one ≡ other → (if b then one else other) ≡ other
same_choice true one other same = same
same_choice false one other same = refl

refused : (rules : Rules) (s : State) (by : Option (List ℕ)) (name value target : List ℕ) → s.over ≡ Some target
    → set_by rules by name value s ≡ judged (Some (refusal.Down target)) s (nothing s)
unfolding set_by set_property
refused rules s by name value target is =
    let answer = is_down rules s by name value target is in
    let controlled : judged (set_answer rules s by name value) s (control_at rules (control_op name) (place_of rules value) s) ≡ judged (Some (refusal.Down target)) s (nothing s) =
    ap (λ (a : Option SetRefusal). judged a s (control_at rules (control_op name) (place_of rules value) s)) answer in
    let put : judged (set_answer rules s by name value) s (put_property s name value) ≡ judged (Some (refusal.Down target)) s (nothing s) =
    ap (λ (a : Option SetRefusal). judged a s (put_property s name value)) answer in
    same_choice (is_control name) (judged (set_answer rules s by name value) s (control_at rules (control_op name) (place_of rules value) s))
    (judged (set_answer rules s by name value) s (put_property s name value)) (controlled ∙ sym put) ∙ put

pair_refuses : (rules : Rules) (p : Pair) (s : State) (target : List ℕ) → s.over ≡ Some target → Refuses s (set_pair rules p s)
pair_refuses rules p s target is =
    subst (λ (answer : Judged). Refuses s (told_refusal p.name answer)) (sym (refused rules s None p.name p.value target is))
    (record { over = refl; lines = refl })

pairs_refuse : (rules : Rules) (pairs : List Pair) (s : State) (target : List ℕ) → s.over ≡ Some target → Refuses s (set_pairs rules pairs s)
pairs_refuse rules [] s target is = record { over = refl; lines = refl }
pairs_refuse rules (p ∷ rest) s target is =
    let first = set_pair rules p s in
    let one = pair_refuses rules p s target is in
    let others = pairs_refuse rules rest first.state target (one.over ∙ is) in
    record { over = others.over ∙ one.over; lines = all_refuse first.lines (set_pairs rules rest first.state).lines one.lines others.lines }

refuses_choice : (s : State) (b : Bool) (one other : Change) → Refuses s one → Refuses s other → Refuses s (if b then one else other)
refuses_choice s true one other first second = first
refuses_choice s false one other first second = second

boot_refuses : (pairs : List Pair) (rules : Rules) (s : State) (target : List ℕ) → s.over ≡ Some target → Refuses s (boot pairs rules s)
unfolding boot
boot_refuses pairs rules s target is =
    let all = pairs_refuse rules (last_pairs pairs) s target is in
    refuses_choice s s.had_boot (change s (output.Idle ∷ [])) (first_boot pairs rules s) (record { over = refl; lines = refl }) (record { over = all.over; lines = all.lines })

ask_refuses : (rules : Rules) (domain name value : List ℕ) (s : State) (target : List ℕ) → s.over ≡ Some target → Refuses s (ask rules domain name value s)
unfolding ask
ask_refuses rules domain name value s target is =
    subst (λ (answer : Judged). Refuses s (change answer.done.state (answer.done.lines ++ answer_line answer.refused (is_control name) answer.done.state.props.count ∷ [])))
    (sym (refused rules s (Some domain) name value target is)) (record { over = refl; lines = refl })

down_refuses : (s : State) (over : Option (List ℕ)) (rule : State → Change) (target : List ℕ) → s.over ≡ over → s.over ≡ Some target → Refuses s (unless_down over s rule)
down_refuses s None rule target same is = absurd (none_is_no_value target (sym same ∙ is))
down_refuses s (Some other) rule target same is = record { over = refl; lines = refl }

settled_refuses : (s : State) (c : Change) (over : Option (List ℕ)) (target : List ℕ) → c.state.over ≡ over → s.over ≡ Some target → Refuses s c → Refuses s (unless_over over c settle)
settled_refuses s c None target same is did = absurd (none_is_no_value target (sym same ∙ did.over ∙ is))
settled_refuses s c (Some other) target same is did = did

respond_refuses : (config : Config) (rules : Rules) (i : Input) (s : State) (target : List ℕ) → s.over ≡ Some target → Refuses s (respond config rules i s)
unfolding respond
respond_refuses config rules input.Boot s target is = boot_refuses config.pairs rules s target is
respond_refuses config rules input.Next s target is = down_refuses s s.over (next config.actions rules) target refl is
respond_refuses config rules (input.Tick ms) s target is = down_refuses s s.over (tick rules ms) target refl is
respond_refuses config rules (input.Exit name status) s target is = down_refuses s s.over (exit rules name status) target refl is
respond_refuses config rules (input.File path content) s target is = down_refuses s s.over (file path content) target refl is
respond_refuses config rules (input.Set who name value) s target is = ask_refuses rules (domain_of config.domains who) name value s target is

step_refuses : (config : Config) (policy : PolicyLines) (s : State) (i : Input) (target : List ℕ) → s.over ≡ Some target → Refuses s (step config policy s i)
unfolding step
step_refuses config policy s i target is =
    let c = respond config (rules_of config policy) i s in
    settled_refuses s c c.state.over target refl is (respond_refuses config (rules_of config policy) i s target is)

refuse_from : (config : Config) (policy : PolicyLines) (s : State) (history : List Entry) (target : List ℕ) → s.over ≡ Some target → LegalFrom config policy s history
    → list_all is_refusal (outputs_of history) ≡ true
refuse_from config policy s [] target is legal = refl
refuse_from config policy s (e ∷ history) target is legal =
    let did = step_refuses config policy s e.input target is in
    all_refuse e.outputs (outputs_of history) (ap (list_all is_refusal) legal.0 ∙ did.lines)
    (refuse_from config policy (step config policy s e.input).state history target (did.over ∙ is) legal.1)

legal_rest : (config : Config) (policy : PolicyLines) (s : State) (earlier later : List Entry) → LegalFrom config policy s (earlier ++ later)
    → LegalFrom config policy (after_from config policy s (inputs_of earlier)) later
legal_rest config policy s [] later legal = legal
legal_rest config policy s (e ∷ earlier) later legal = legal_rest config policy (step config policy s e.input).state earlier later legal.1

by_target : (config : Config) (policy : PolicyLines) (s : State) (over : Option (List ℕ)) (history : List Entry) → s.over ≡ over → is_some over ≡ true
    → LegalFrom config policy s history → list_all is_refusal (outputs_of history) ≡ true
by_target config policy s None history same is legal = absurd (cc)
by_target config policy s (Some target) history same is legal = refuse_from config policy s history target same legal

pub later_refuse : (o : Opening) (earlier later : List Entry) → Legal o (earlier ++ later) → IsTrue (list_any is_reboot (outputs_of earlier))
    → IsTrue (list_all is_refusal (outputs_of later))
later_refuse o earlier later legal rebooted =
    let s = after o (inputs_of earlier) in
    by_target o.config o.policy s s.over later refl (over_by_reboot o earlier (legal_beginning o earlier later legal) ∙ rebooted)
    (legal_rest o.config o.policy (first_state o) earlier later legal)
