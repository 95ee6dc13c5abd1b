-- Operations on services, and sets of any name, keep a relation that their smallest changes keep.
use Rattle.std.proofs.Common.{◌≡◌, ℕ, Bool, true, false, List, [], ◌∷◌, Option, Some, None, if◌then◌else◌, refl, sym, subst, codes}
use Rattle.init_base.specs.declared.units.Pid.{Pid}
use Rattle.init_machine.specs.Effect.{load_saved}
use Rattle.init_machine.specs.Kernel.{has_pid, with_process, with_kill}
use Rattle.init_machine.specs.Marks.{service_step}
use Rattle.init_machine.specs.Services.{Operated, operated, marks_at, with_marks, with_spawned, spawned, not_spawned, spawn, spawn_line, kill_process, follow, operate_on, operate, operate_each, service_at, place_of, control_at, set_by, tell}
use Rattle.init_machine.specs.Setting.{judged, set_answer, set_property, is_control, control_op}
use Rattle.init_machine.specs.State.{State, Rules}
use Rattle.init_machine.specs.declared.output.Output.{Output}
use Rattle.init_machine.specs.declared.output.Output.TheVariants as output
use Rattle.init_machine.specs.declared.service.Marks.{Marks}
use Rattle.init_machine.specs.declared.service.Move.{Move}
use Rattle.init_machine.specs.declared.service.Move.TheVariants as move
use Rattle.init_machine.specs.declared.service.Op.{Op}
use Rattle.init_machine.specs.declared.service.Op.TheVariants as op
use Rattle.init_machine.specs.declared.service.ServiceDef.{ServiceDef}
use Rattle.machine_laws.proofs.Asked.{control_allowed}
use Rattle.machine_laws.proofs.Failures.{IfAny, answer_has_text, accepted}
use Rattle.machine_laws.proofs.Operations.{IsAsked, MoveFits, step_fits, process_stays}
use Rattle.machine_laws.proofs.Relation.{By, Sets, behind_by, each_by}
use Rattle.machine_laws.proofs.Setting.{ByJudged, judged_choice, judged_by, set_property_by, tell_by}

-- what a relation needs for services and processes, and for the saved properties
pub record Acts (rules : Rules) (R : State → List Output → State → Type 0) : Type 0 where
  pub sets : Sets rules R
  pub mark : (s : State) (at : ℕ) (m : Marks) → m.pid ≡ (marks_at s at).pid → R s [] (with_marks s at m)
  pub spawned : (s : State) (at : ℕ) (service : ServiceDef) → s.over ≡ None → service_at rules at ≡ Some service → has_pid s.kernel ≡ true
      → (marks_at s at).pid ≡ None
      → R s (spawn_line s.kernel service.name service.path ∷ []) (with_spawned rules service.name service.path at s)
  pub program : (s : State) (path : List ℕ) → s.over ≡ None → has_pid s.kernel ≡ true
      → R s (spawn_line s.kernel (codes "*exec") path ∷ []) (record s { kernel = with_process rules.plans s.kernel (codes "*exec") path })
  pub killed : (s : State) (at : ℕ) (service : ServiceDef) (pid : Pid) → s.over ≡ None → service_at rules at ≡ Some service
      → (marks_at s at).pid ≡ Some pid
      → R s (output.Kill pid service.name ∷ []) (record s { kernel = with_kill s.kernel pid.0 })
  pub loaded : (s : State) → s.over ≡ None → By R s (load_saved rules s)

operated_choice : (R : State → List Output → State → Type 0) (s : State) (b : Bool) (one other : Operated)
    → (b ≡ true → By R s one.done) → (b ≡ false → By R s other.done) → By R s (if b then one else other).done
operated_choice R s true one other left right = left refl
operated_choice R s false one other left right = right refl

module _ (rules : Rules) (R : State → List Output → State → Type 0) (acts : Acts rules R) where
  spawned_by : (service : ServiceDef) (at : ℕ) (s : State) → s.over ≡ None → service_at rules at ≡ Some service → (marks_at s at).pid ≡ None
      → has_pid s.kernel ≡ true → By R s (spawned rules service.name service.path at s)
  spawned_by service at s on here alone pid =
      behind_by rules R acts.sets s (with_spawned rules service.name service.path at s) (spawn_line s.kernel service.name service.path ∷ [])
      (tell rules service.name (codes "running") (with_spawned rules service.name service.path at s))
      (acts.spawned s at service on here pid alone)
      (tell_by rules R acts.sets service.name (codes "running") (with_spawned rules service.name service.path at s))

  not_spawned_by : (name : List ℕ) (at : ℕ) (s : State) → By R s (not_spawned rules name at s)
  not_spawned_by name at s =
      let m = (service_step op.NoPid (marks_at s at)).marks in
      let told = tell rules name (codes "stopped") (with_marks s at m) in
      acts.sets.joined s (with_marks s at m) told.state [] (output.NoPid name ∷ told.lines)
      (acts.mark s at m (step_fits op.NoPid (marks_at s at) tt).process)
      (behind_by rules R acts.sets (with_marks s at m) (with_marks s at m) (output.NoPid name ∷ []) told
      (acts.sets.line (with_marks s at m) (output.NoPid name) tt) (tell_by rules R acts.sets name (codes "stopped") (with_marks s at m)))

  follow_by : (service : ServiceDef) (at : ℕ) (todo : Move) (s : State) → s.over ≡ None → service_at rules at ≡ Some service
      → MoveFits (marks_at s at).pid todo → By R s (follow rules service.name service.path at todo s).done
  unfolding follow spawn kill_process
  follow_by service at move.Nothing s on here fits = acts.sets.none s
  follow_by service at move.Spawn s on here fits =
      operated_choice R s (has_pid s.kernel) (operated true (spawned rules service.name service.path at s)) (operated false (not_spawned rules service.name at s))
      (spawned_by service at s on here fits) (λ none. not_spawned_by service.name at s)
  follow_by service at (move.Kill pid) s on here fits =
      let after : State = record s { kernel = with_kill s.kernel pid.0 } in
      behind_by rules R acts.sets s after (output.Kill pid service.name ∷ []) (tell rules service.name (codes "stopping") after)
      (acts.killed s at service pid on here fits) (tell_by rules R acts.sets service.name (codes "stopping") after)
  follow_by service at move.Stopped s on here fits = tell_by rules R acts.sets service.name (codes "stopped") s
  follow_by service at move.Exited s on here fits = acts.sets.none s

  operate_on_by : (service : Option ServiceDef) (at : ℕ) (what : Op) (s : State) → service_at rules at ≡ service → IsAsked what → s.over ≡ None
      → By R s (operate_on rules service at what s).done
  operate_on_by None at what s here asked on = acts.sets.none s
  operate_on_by (Some service) at what s here asked on =
      let answer = service_step what (marks_at s at) in
      let fits = step_fits what (marks_at s at) asked in
      let t = with_marks s at answer.marks in
      let did = (follow rules service.name service.path at answer.todo t).done in
      acts.sets.joined s t did.state [] did.lines (acts.mark s at answer.marks fits.process)
      (follow_by service at answer.todo t on here
      (subst (λ process. MoveFits process answer.todo) (sym (process_stays s at answer.marks fits.process)) fits.move))

  -- an operation on the service at a place
  pub operate_by : (at : ℕ) (what : Op) (s : State) → IsAsked what → s.over ≡ None → By R s (operate rules at what s).done
  unfolding operate
  operate_by at what s asked on = operate_on_by (service_at rules at) at what s refl asked on

  pub operate_each_by : (what : Op) (places : List ℕ) (s : State) → IsAsked what → s.over ≡ None → By R s (operate_each rules what places s)
  unfolding operate_each
  operate_each_by what places s asked on =
      each_by rules R acts.sets (λ at now. (operate rules at what now).done) (λ at t still. operate_by at what t asked still) places s on

  control_by : (what : Option Op) (at : Option ℕ) (s : State) → IfAny IsAsked what → s.over ≡ None → By R s (control_at rules what at s)
  control_by None at s asked on = acts.sets.none s
  control_by (Some what) None s asked on = acts.sets.none s
  control_by (Some what) (Some at) s asked on = operate_by at what s asked on

  -- a set of any name
  pub set_by_by : (by : Option (List ℕ)) (name value : List ℕ) (s : State) → ByJudged R s (set_by rules by name value s)
  unfolding set_by
  set_by_by by name value s =
      judged_choice R s (is_control name)
      (judged (set_answer rules s by name value) s (control_at rules (control_op name) (place_of rules value) s)) (set_property rules s by name value)
      (λ control. judged_by rules R acts.sets s (set_answer rules s by name value) (control_at rules (control_op name) (place_of rules value) s)
      (answer_has_text rules s by name value)
      (λ none. control_by (control_op name) (place_of rules value) s (control_allowed name) (accepted rules s by name value none).on))
      (λ plain. set_property_by rules R acts.sets by name value s)
