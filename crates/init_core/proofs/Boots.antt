-- A set of a property takes no boot: whether a boot was taken stays as it was.
use Rattle.std.proofs.Common.{◌≡◌, ℕ, true, false, cond, List, [], ◌∷◌, Option, Some, None, refl, ◌∙◌}
use Rattle.init_machine.specs.Changes.{Change}
use Rattle.init_machine.specs.Kernel.{has_pid}
use Rattle.init_machine.specs.Marks.{service_step}
use Rattle.init_machine.specs.Services.{operated, spawned, not_spawned, spawn, kill_process, follow, operate_on, operate, service_at, control_at, set_by, place_of, marks_at, with_marks, state_name, tell}
use Rattle.init_machine.specs.Setting.{judged, put_property, set_answer, set_property, is_control, control_op}
use Rattle.init_machine.specs.State.{State, Rules}
use Rattle.init_machine.specs.Step.{set_pair, set_pairs}
use Rattle.init_machine.specs.declared.config.Pair.{Pair}
use Rattle.init_machine.specs.declared.output.SetRefusal.{SetRefusal}
use Rattle.init_machine.specs.declared.service.Move.{Move}
use Rattle.init_machine.specs.declared.service.Move.TheVariants as move
use Rattle.init_machine.specs.declared.service.Op.{Op}
use Rattle.init_machine.specs.declared.service.ServiceDef.{ServiceDef}

judged_boot : (answer : Option SetRefusal) (s : State) (accepted : Change) → accepted.state.had_boot ≡ s.had_boot
    → (judged answer s accepted).done.state.had_boot ≡ s.had_boot
judged_boot None s accepted same = same
judged_boot (Some why) s accepted same = refl

put_boot : (s : State) (name value : List ℕ) → (put_property s name value).state.had_boot ≡ s.had_boot
unfolding put_property
put_boot s name value = refl

property_boot : (rules : Rules) (s : State) (by : Option (List ℕ)) (name value : List ℕ)
    → (set_property rules s by name value).done.state.had_boot ≡ s.had_boot
unfolding set_property
property_boot rules s by name value = judged_boot (set_answer rules s by name value) s (put_property s name value) (put_boot s name value)

tell_boot : (rules : Rules) (name word : List ℕ) (s : State) → (tell rules name word s).state.had_boot ≡ s.had_boot
unfolding tell
tell_boot rules name word s = property_boot rules s None (state_name name) word

spawn_boot : (rules : Rules) (name path : List ℕ) (at : ℕ) (s : State) → (spawn rules name path at s).done.state.had_boot ≡ s.had_boot
unfolding spawn
spawn_boot rules name path at s =
    elim (has_pid s.kernel) as (λ b. (cond b (operated true (spawned rules name path at s)) (operated false (not_spawned rules name at s))).done.state.had_boot ≡ s.had_boot) [
      | true ↦ tell_boot rules name _ _
      | false ↦ tell_boot rules name _ _
    ]

kill_boot : (rules : Rules) (name : List ℕ) (pid : _) (s : State) → (kill_process rules name pid s).state.had_boot ≡ s.had_boot
unfolding kill_process
kill_boot rules name pid s = tell_boot rules name _ _

follow_boot : (rules : Rules) (name path : List ℕ) (at : ℕ) (todo : Move) (s : State) → (follow rules name path at todo s).done.state.had_boot ≡ s.had_boot
unfolding follow
follow_boot rules name path at move.Nothing s = refl
follow_boot rules name path at move.Spawn s = spawn_boot rules name path at s
follow_boot rules name path at (move.Kill pid) s = kill_boot rules name pid s
follow_boot rules name path at move.Stopped s = tell_boot rules name _ s
follow_boot rules name path at move.Exited s = refl

operate_on_boot : (rules : Rules) (service : Option ServiceDef) (at : ℕ) (what : Op) (s : State) → (operate_on rules service at what s).done.state.had_boot ≡ s.had_boot
operate_on_boot rules None at what s = refl
operate_on_boot rules (Some service) at what s =
    follow_boot rules service.name service.path at (service_step what (marks_at s at)).todo (with_marks s at (service_step what (marks_at s at)).marks)

operate_boot : (rules : Rules) (at : ℕ) (what : Op) (s : State) → (operate rules at what s).done.state.had_boot ≡ s.had_boot
unfolding operate
operate_boot rules at what s = operate_on_boot rules (service_at rules at) at what s

control_boot : (rules : Rules) (what : Option Op) (place : Option ℕ) (s : State) → (control_at rules what place s).state.had_boot ≡ s.had_boot
control_boot rules None place s = refl
control_boot rules (Some what) None s = refl
control_boot rules (Some what) (Some at) s = operate_boot rules at what s

set_boot : (rules : Rules) (by : Option (List ℕ)) (name value : List ℕ) (s : State) → (set_by rules by name value s).done.state.had_boot ≡ s.had_boot
unfolding set_by
set_boot rules by name value s =
    elim (is_control name) as (λ b. (cond b (judged (set_answer rules s by name value) s (control_at rules (control_op name) (place_of rules value) s)) (set_property rules s by name value)).done.state.had_boot ≡ s.had_boot) [
      | true ↦ judged_boot (set_answer rules s by name value) s (control_at rules (control_op name) (place_of rules value) s) (control_boot rules (control_op name) (place_of rules value) s)
      | false ↦ property_boot rules s by name value
    ]

-- nor do the sets of the build files
pub pairs_boot : (rules : Rules) (pairs : List Pair) (s : State) → (set_pairs rules pairs s).state.had_boot ≡ s.had_boot
pairs_boot rules [] s = refl
pairs_boot rules (p ∷ pairs) s = pairs_boot rules pairs (set_pair rules p s).state ∙ set_boot rules None p.name p.value s
