-- What follows from the end of a process keeps a relation that its smallest changes keep.
use Rattle.std.proofs.Common.{◌≡◌, ℕ, Bool, true, false, nat_lt, List, [], ◌∷◌, Option, Some, None, refl, codes}
use Rattle.init_machine.specs.Changes.{behind, each}
use Rattle.init_machine.specs.Effect.{command_line, end_command, ran_by, args_shown, expand_all, effect}
use Rattle.init_machine.specs.Reaping.{is_boot_completed, counted, exits_at, with_exits, restarting, reboot, by_count, exited_by, exited, follow_end, end_service, end_named, awaits_child, release_child, reap}
use Rattle.init_machine.specs.Marks.{service_step}
use Rattle.init_machine.specs.Services.{marks_at, with_marks, service_at, place_of, pid_of, tell}
use Rattle.init_machine.specs.Setting.{released_lines, still_waits}
use Rattle.init_machine.specs.State.{State, Rules, Exits, value_now}
use Rattle.init_machine.specs.declared.action.Command.{Command}
use Rattle.init_machine.specs.declared.output.How.{How}
use Rattle.init_machine.specs.declared.output.Output.{Output}
use Rattle.init_machine.specs.declared.output.Output.TheVariants as output
use Rattle.init_machine.specs.declared.service.Critical.{Critical}
use Rattle.init_machine.specs.declared.service.Move.{Move}
use Rattle.init_machine.specs.declared.service.Move.TheVariants as move
use Rattle.init_machine.specs.declared.service.Op.TheVariants as op
use Rattle.init_machine.specs.declared.service.ServiceDef.{ServiceDef}
use Rattle.machine_laws.proofs.Performing.{command_ends_by}
use Rattle.machine_laws.proofs.Relation.{By, Sets, either, behind_by, and_then_by, each_by}
use Rattle.machine_laws.proofs.Serving.{Acts}
use Rattle.machine_laws.proofs.Setting.{tell_by}

-- what a relation needs for commands, and for what follows from the end of a process
pub record Runs (rules : Rules) (R : State → List Output → State → Type 0) : Type 0 where
  pub acts : Acts rules R
  pub command : (s : State) (c : Command) (args : List (List ℕ)) → R s (command_line c args ∷ []) s
  pub rebooted : (s : State) (target : List ℕ) → s.over ≡ None → By R s (reboot target s)

pub released_by : (rules : Rules) (R : State → List Output → State → Type 0) (sets : Sets rules R) (s : State) (ends : Bool)
    → R s (released_lines ends) (record s { waits = still_waits ends s.waits })
released_by rules R sets s true =
    let t : State = record s { waits = None } in
    sets.joined s t t [] (output.Released ∷ [])
    (sets.aside s t (record { props = refl; saved = refl; saving = refl; marks = refl; kernel = refl; running = refl; over = refl })) (sets.line t output.Released tt)
released_by rules R sets s false = sets.none s

module _ (rules : Rules) (R : State → List Output → State → Type 0) (runs : Runs rules R) where
  -- a command: its line, what it does, and how it ended
  pub effect_by : (c : Command) (s : State) → s.over ≡ None → By R s (effect rules c s)
  unfolding effect
  effect_by c s on =
      let args = expand_all (value_now s) c.args in
      behind_by rules R runs.acts.sets s s (command_line c (args_shown c args) ∷ []) (end_command (ran_by rules c args s))
      (runs.command s c (args_shown c args)) (command_ends_by rules R runs.acts c s on)

  restarting_by : (service : ServiceDef) (s : State) → By R s (restarting rules service s)
  restarting_by service s =
      and_then_by rules R runs.acts.sets s (tell rules service.name (codes "restarting") s) (each (effect rules) service.onrestart)
      (tell_by rules R runs.acts.sets service.name (codes "restarting") s)
      (λ t on. each_by rules R runs.acts.sets (effect rules) effect_by service.onrestart t on)

  count_by : (service : ServiceDef) (target : List ℕ) (exits : Exits) (s : State) → s.over ≡ None → By R s (by_count rules service target exits s)
  count_by service target exits s on =
      either R s (nat_lt 4 exits.count) (reboot target s) (restarting rules service s) (λ many. runs.rebooted s target on) (λ few. restarting_by service s)

  exited_by_by : (service : ServiceDef) (at : ℕ) (critical : Option Critical) (s : State) → s.over ≡ None → By R s (exited_by rules service at critical s)
  exited_by_by service at None s on = restarting_by service s
  exited_by_by service at (Some critical) s on =
      let exits = counted (is_boot_completed s) s.kernel.clock critical.window.0 (exits_at s at) in
      let t = with_exits s at exits in
      let did = by_count rules service critical.target exits t in
      runs.acts.sets.joined s t did.state [] did.lines
      (runs.acts.sets.aside s t (record { props = refl; saved = refl; saving = refl; marks = refl; kernel = refl; running = refl; over = refl }))
      (count_by service critical.target exits t on)

  -- what follows from the end of a service's process
  pub follow_end_by : (service : ServiceDef) (at : ℕ) (todo : Move) (s : State) → s.over ≡ None → By R s (follow_end rules service at todo s)
  unfolding exited
  follow_end_by service at move.Nothing s on = runs.acts.sets.none s
  follow_end_by service at move.Spawn s on = runs.acts.sets.none s
  follow_end_by service at (move.Kill pid) s on = runs.acts.sets.none s
  follow_end_by service at move.Stopped s on = tell_by rules R runs.acts.sets service.name (codes "stopped") s
  follow_end_by service at move.Exited s on = exited_by_by service at service.critical s on

  -- a wait for the child ends
  pub release_by : (pid : ℕ) (s : State) → By R s (release_child pid s)
  release_by pid s = released_by rules R runs.acts.sets s (awaits_child s.waits pid)

-- what a relation needs further for reaping
pub record Reaps (rules : Rules) (R : State → List Output → State → Type 0) : Type 0 where
  pub runs : Runs rules R
  pub unmarked : (s : State) (at : ℕ) → R s [] (with_marks s at (service_step op.Reaped (marks_at s at)).marks)
  pub reaped : (s : State) (pid : ℕ) (name : List ℕ) (how : How) → s.over ≡ None → R s (output.Reap (pid_of pid) name how ∷ []) s

module _ (rules : Rules) (R : State → List Output → State → Type 0) (reaps : Reaps rules R) where
  end_service_by : (at : ℕ) (service : Option ServiceDef) (s : State) → s.over ≡ None → By R s (end_service rules at service s)
  end_service_by at None s on = reaps.runs.acts.sets.none s
  end_service_by at (Some service) s on =
      let answer = service_step op.Reaped (marks_at s at) in
      let t = with_marks s at answer.marks in
      let did = follow_end rules service at answer.todo t in
      reaps.runs.acts.sets.joined s t did.state [] did.lines (reaps.unmarked s at) (follow_end_by rules R reaps.runs service at answer.todo t on)

  end_named_by : (place : Option ℕ) (s : State) → s.over ≡ None → By R s (end_named rules place s)
  end_named_by None s on = reaps.runs.acts.sets.none s
  end_named_by (Some at) s on = end_service_by at (service_at rules at) s on

  -- a process that has left the kernel is reaped
  pub reap_by : (pid : ℕ) (name : List ℕ) (how : How) (s : State) → s.over ≡ None → By R s (reap rules pid name how s)
  unfolding reap
  reap_by pid name how s on =
      and_then_by rules R reaps.runs.acts.sets s (behind (output.Reap (pid_of pid) name how ∷ []) (end_named rules (place_of rules name) s)) (release_child pid)
      (behind_by rules R reaps.runs.acts.sets s s (output.Reap (pid_of pid) name how ∷ []) (end_named rules (place_of rules name) s)
      (reaps.reaped s pid name how on) (end_named_by (place_of rules name) s on))
      (λ t still. release_by rules R reaps.runs pid t)
