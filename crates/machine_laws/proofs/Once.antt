-- A property that is read only is set once.
use Rattle.std.proofs.Common.{◌≡◌, ℕ, ◌+◌, ◌≤◌, true, false, List, [], ◌∷◌, ◌++◌, Option, Some, None, IsTrue, if◌then◌else◌, refl, sym, ap, ◌∙◌, arith, subst}
use Rattle.std.proofs.lemmas.Grind.{flat_map-append}
use Rattle.std.proofs.lemmas.Slice.Eq.{bytes_eq-Decides}
use Rattle.std.specs.Str.{bytes_eq}
use Rattle.init_machine.specs.History.{after, Legal, inputs_of, set_in, sets_in, sets_of}
use Rattle.init_machine.specs.Props.{lookup_in, value_of}
use Rattle.init_machine.specs.Sets.{count_on}
use Rattle.init_machine.specs.Setting.{set_answer, put_line, put_property, is_read_only}
use Rattle.init_machine.specs.State.{Opening, State, Rules, rules_of, first_state, value_now}
use Rattle.init_machine.specs.declared.output.Output.{Output}
use Rattle.init_machine.specs.declared.output.Output.TheVariants as output
use Rattle.init_machine.specs.declared.report.Entry.{Entry}
use Rattle.machine_laws.specs.Rebooting.{outputs_of}
use Rattle.init_machine.proofs.ValuePut.{value_put}
use Rattle.machine_laws.proofs.Counted.{read_all}
use Rattle.machine_laws.proofs.Failures.{accepted}
use Rattle.machine_laws.proofs.Names.{read_only_is_no_control}
use Rattle.machine_laws.proofs.PropsAlone.{IsNoPut, OfProps, sets_of as sets_by, steps_of}
use Rattle.machine_laws.proofs.Stepping.{step_by, history_by}

abbrev held_once : Option (List ℕ) → ℕ
held_once None = 0
held_once (Some value) = 1

count-append : (name : List ℕ) (a b : List (List ℕ × List ℕ)) → count_on name (a ++ b) ≡ count_on name a + count_on name b
count-append name [] b = omega arith
count-append name (s ∷ a) b =
    let rest = count-append name a b in
    let one = (if bytes_eq s.0 name then 1 else 0) in
    let all : one + count_on name (a ++ b) ≡ (one + count_on name a) + count_on name b = omega (arith, rest) in
    all

at_most_one : (value : Option (List ℕ)) → held_once value ≤ 1
at_most_one None = omega arith
at_most_one (Some value) = omega arith

module _ (name : List ℕ) (once : is_read_only name ≡ true) where
  -- the sets of the name are counted by whether it is held
  abbrev HeldBy : State → List Output → State → Type 0
  HeldBy s lines t = held_once (value_now t name) ≡ held_once (value_now s name) + count_on name (sets_in lines)

  same_held : (s t : State) → t.props ≡ s.props → HeldBy s [] t
  same_held s t same =
      let e : held_once (value_now t name) ≡ held_once (value_now s name) = ap (λ p. held_once (value_of (lookup_in p.held name))) same in omega (arith, e)

  held_joined : (s t u : State) (first second : List Output) → HeldBy s first t → HeldBy t second u → HeldBy s (first ++ second) u
  held_joined s t u first second one other =
      let e : count_on name (sets_in (first ++ second)) ≡ count_on name (sets_in first) + count_on name (sets_in second) =
      ap (count_on name) (flat_map-append set_in first second) ∙ count-append name (sets_in first) (sets_in second) in
      omega (arith, e, one, other)

  put_held : (rules : Rules) (s : State) (by : Option (List ℕ)) (other value : List ℕ) → set_answer rules s by other value ≡ None
      → HeldBy s (put_line s other value ∷ []) (put_property s other value).state
  unfolding put_property
  put_held rules s by other value none =
      ap held_once (value_put s.props.held (record { name = other; value = value; number = s.props.count + 1 }) name)
      ∙ elim (bytes_eq other name) as
      (λ b. bytes_eq other name ≡ b → held_once (if b then Some value else value_now s name) ≡ held_once (value_now s name) + ((if b then 1 else 0) + 0)) [
        | true ↦ λ same.
            let e : other ≡ name = (bytes_eq-Decides other name).0 same in
            let fresh : lookup_in s.props.held other ≡ None =
            (accepted rules s by other value none).fresh (read_only_is_no_control other (subst (λ n. is_read_only n ≡ true) (sym e) once)) (subst (λ n. is_read_only n ≡ true) (sym e) once) in
            let absent : held_once (value_now s name) ≡ 0 = ap (λ n. held_once (value_of (lookup_in s.props.held n))) (sym e) ∙ ap (λ p. held_once (value_of p)) fresh in
            omega (arith, absent)
        | false ↦ λ differ. omega arith
      ] refl

  line_held : (s t : State) (o : Output) → IsNoPut o → t.props ≡ s.props → HeldBy s (o ∷ []) t
  line_held s t (output.Put number other value) never same = absurd never
  line_held s t _ never same = same_held s t same

  of_props : (rules : Rules) → OfProps rules HeldBy
  of_props rules = record { none = same_held; joined = held_joined; line = line_held; put = put_held rules }

pub put_once : (o : Opening) (history : List Entry) (name : List ℕ) → Legal o history → IsTrue (is_read_only name) → count_on name (sets_of history) ≤ 1
unfolding first_state
put_once o history name legal once =
    let rules = rules_of o.config o.policy in
    let R = HeldBy name once in
    let held : R (first_state o) (outputs_of history) (after o (inputs_of history)) =
    history_by o.config o.policy R (sets_by rules R (of_props name once rules)) (step_by o.config o.policy R (steps_of rules R (of_props name once rules)))
    (first_state o) history legal in
    let e : count_on name (sets_in (outputs_of history)) ≡ count_on name (sets_of history) = ap (count_on name) (read_all set_in history) in
    omega (arith, held, e, at_most_one (value_now (after o (inputs_of history)) name))
