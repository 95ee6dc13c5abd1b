-- A core in its first state.
use Rattle.std.proofs.Common.{◌≡◌, Bool, true, false, IsTrue, ◌&&◌, nat_lt, List, [], ◌∷◌, length, Result, Ok, IfOk, refl, ap, ◌∙◌, subst}
use Rattle.std.specs.List.{list_all}
use Rattle.init_machine.specs.Policy.{PolicyLines}
use Rattle.init_machine.specs.Props.{Props}
use Rattle.init_machine.specs.State.{first_state, no_props}
use Rattle.init_machine.specs.WellFormed.{is_well_formed_action}
use Rattle.init_machine.specs.declared.action.Action.{Action}
use Rattle.init_machine.specs.declared.config.Config.{Config}
use Rattle.action_queue.specs.Queue.{is_well_formed, has_commands}
use Rattle.machine_parts.specs.declared.parts.Parts.{Parts}
use Rattle.init_core.specs.Core.{CoreView, opened as core_opened, opening_of, without_saved}
use Rattle.init_core.specs.Opened.{first_parts, opened_by}
use Rattle.init_core.proofs.Steps.{shown}

both : (a b c : Bool) → IsTrue (a && b && c) → IsTrue a × IsTrue c
both true true true is = (refl, refl)
both true true false is = absurd (cc)
both true false c is = absurd (cc)
both false b c is = absurd (cc)

has_some : (commands : List _) → IsTrue (nat_lt 0 (length commands)) → IsTrue (has_commands commands)
has_some [] is = is
has_some (c ∷ commands) is = refl

both_hold : (a b : Bool) → IsTrue a → IsTrue b → IsTrue (a && b)
both_hold a b first second = rw (first, second) refl

well_formed_one : (a : Action) → IsTrue (is_well_formed_action a) → IsTrue (is_well_formed a)
well_formed_one a is =
    let split = both (nat_lt 0 (length a.commands)) _ _ is in
    both_hold _ _ (has_some a.commands split.0) split.1

first_true : (a b : Bool) → IsTrue (a && b) → IsTrue a × IsTrue b
first_true true b is = (refl, is)
first_true false b is = absurd (cc)

-- the actions of a configuration make a queue
pub well_formed : (actions : List Action) → IsTrue (list_all is_well_formed_action actions) → IsTrue (list_all is_well_formed actions)
well_formed [] is = refl
well_formed (a ∷ actions) is =
    let split = first_true _ _ is in
    both_hold _ _ (well_formed_one a split.0) (well_formed actions split.1)

-- what is said of a success holds of its value
pub of_ok : {T E : Type 0} (P : T → Type 0) (r : Result T E) (value : T) → r ≡ Ok value → IfOk r P → P value
of_ok {T} {E} P r value is holds = subst (λ (answer : Result T E). IfOk answer P) is holds

pub opens : {S O : Type 0} (meaning : S → Props) (config : Config) (policy : PolicyLines) (store : S) (outputs : O) (parts : Parts S O) → (meaning store).held ≡ [] → (meaning store).count ≡ 0
    → parts ≡ first_parts (opened_by config.actions config.services config.plans) store policy config.saved outputs
    → shown meaning config.pairs config.domains false parts ≡ core_opened config policy (meaning store).capacity store
unfolding first_state
opens {S} meaning config policy store outputs parts held count is =
    let props : meaning store ≡ no_props (meaning store).capacity = λ i. record { held = held i; count = count i; capacity = (meaning store).capacity } in
    ap (shown meaning config.pairs config.domains false) is
    ∙ ap (λ (now : Props). let view : CoreView S = record {
      config = without_saved config;
      policy = policy;
      state = record (first_state (opening_of config policy (meaning store).capacity)) { props = now };
      store = store;
      spent = false;
    } in view) props
