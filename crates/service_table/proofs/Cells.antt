-- The laws of the table of marks, case by case.
use Rattle.std.proofs.Common.{◌≡◌, ◌≢◌, Bool, true, false, not, ◌&&◌, ◌||◌, Option, Some, None, refl, sym, subst, if◌then◌else◌}
use Rattle.init_base.specs.declared.units.Pid.{Pid}
use Rattle.init_machine.specs.Marks.{Answer, does, kill, start, stop, reset, restart, exec_start, timeout, with_reset, reaped, ended, service_step}
use Rattle.init_machine.specs.declared.service.Marks.{Marks}
use Rattle.init_machine.specs.declared.service.Move.{Move}
use Rattle.init_machine.specs.declared.service.Move.TheVariants as move
use Rattle.init_machine.specs.declared.service.Op.TheVariants as op
use Rattle.service_table.specs.Laws.{running, asked, IsOff, IsRestarting, IsOnlyWanted, StoppedStaysOff, ResetStartsWithItsClass, DisabledStaysOff, OneshotRunsOnce, OthersRestart, RestartRestarts, StartUndoesStop, OneProcess, KilledOnce}

-- whether or not it was killed before, a process that is killed is marked so
marks_of_kill : (pid : Pid) (m : Marks) → (kill pid m).marks ≡ record m { killed = true }
marks_of_kill pid m = by m.killed refl
  where
    by : (b : Bool) → m.killed ≡ b → (if b then does m move.Nothing else does (record m { killed = true }) (move.Kill pid)).marks ≡ record m { killed = true }
    by true e = λ i. record m { killed = e i }
    by false e = refl

pub stopped_stays_off : StoppedStaysOff
unfolding service_step
stopped_stays_off m pid =
    let P : Marks → Type 0 = λ left. IsOff (reaped left) × IsOnlyWanted (reaped left).marks in
    subst P (sym (marks_of_kill pid (record (running pid m) { restarting = false; wanted = false; again = false; disabled = true }))) ((refl, refl, refl), (refl, refl))

pub start_undoes_stop : StartUndoesStop
unfolding service_step
start_undoes_stop m pid =
    let P : Marks → Type 0 = λ left. IsRestarting (reaped (start left.pid left).marks) in
    subst P (sym (marks_of_kill pid (record (running pid m) { restarting = false; wanted = false; again = false; disabled = true }))) (by m.oneshot)
  where
    by : (o : Bool) → IsRestarting (reaped (record (running pid m) { killed = true; restarting = false; wanted = false; again = o && true; disabled = false; reset = false; oneshot = o }))
    by true = (refl, refl, refl)
    by false = (refl, refl, refl)

pub restart_restarts : RestartRestarts
unfolding service_step
restart_restarts m pid only_running =
    let P : Marks → Type 0 = λ left. IsRestarting (reaped left) in
    subst P (sym (marks_of_kill pid (record (running pid m) { disabled = false; reset = false; wanted = false; again = true }))) (by m.oneshot)
  where
    by : (o : Bool) → IsRestarting (reaped (record (running pid m) { killed = true; disabled = false; reset = false; wanted = false; again = true; oneshot = o }))
    by true = (refl, refl, refl)
    by false = (refl, refl, refl)

pub reset_starts_with_its_class : ResetStartsWithItsClass
unfolding service_step
reset_starts_with_its_class m pid enabled declared =
    let off : Marks = record (running pid m) { restarting = false; wanted = false; again = false } in
    let P : Marks → Type 0 = λ left. IsOff (reaped left) × (asked op.ClassStart (reaped left).marks ≡ move.Spawn) in
    subst P (sym (marks_of_kill pid (if m.declared then record off { disabled = true } else record off { reset = true })))
    (subst (λ d. P (record (if d then record off { disabled = true } else record off { reset = true }) { killed = true })) (sym declared)
    (subst (λ d. P (record off { reset = true; killed = true; disabled = d })) (sym enabled) (by m.oneshot)))
  where
    by : (o : Bool) → let answer = reaped (record (running pid m) { restarting = false; wanted = false; again = false; reset = true; killed = true; disabled = false; oneshot = o }) in
        IsOff answer × (asked op.ClassStart answer.marks ≡ move.Spawn)
    by true = ((refl, refl, refl), refl)
    by false = ((refl, refl, refl), refl)

pub disabled_stays_off : DisabledStaysOff
unfolding service_step
disabled_stays_off m pid declared =
    let off : Marks = record (running pid m) { restarting = false; wanted = false; again = false } in
    let P : Marks → Type 0 = λ left. IsOff (reaped left) × IsOnlyWanted (reaped left).marks in
    subst P (sym (marks_of_kill pid (if m.declared then record off { disabled = true } else record off { reset = true })))
    (subst (λ d. P (record (if d then record off { disabled = true } else record off { reset = true }) { killed = true })) (sym declared)
    ((refl, refl, refl), (refl, refl)))

pub oneshot_runs_once : OneshotRunsOnce
unfolding service_step
oneshot_runs_once m pid oneshot again reset restarting =
    let P : Marks → Type 0 = λ left. IsOff (reaped left) × IsOnlyWanted (reaped left).marks in
    let same : record (running pid m) { oneshot = true; again = false; reset = false; restarting = false } ≡ running pid m =
    λ i. record (running pid m) { oneshot = sym oneshot i; again = sym again i; reset = sym reset i; restarting = sym restarting i } in
    subst P same (by m.disabled)
  where
    by : (d : Bool) → let answer = reaped (record (running pid m) { oneshot = true; again = false; reset = false; restarting = false; disabled = d }) in
        IsOff answer × IsOnlyWanted answer.marks
    by true = ((refl, refl, refl), (refl, refl))
    by false = ((refl, refl, refl), (refl, refl))

pub others_restart : OthersRestart
unfolding service_step
others_restart m pid enabled often set =
    let same : record (running pid m) { disabled = false; oneshot = false; reset = false } ≡ running pid m =
    λ i. record (running pid m) { disabled = sym enabled i; oneshot = sym often i; reset = sym set i } in
    subst (λ left. IsRestarting (reaped left)) same (refl, refl, refl)

-- a choice asks for nothing that neither side asks for
neither : (b : Bool) (x y : Answer) (todo : Move) → x.todo ≢ todo → y.todo ≢ todo → (if b then x else y).todo ≢ todo
neither true x y todo not_x not_y = not_x
neither false x y todo not_x not_y = not_y

kill_spawns_none : (pid : Pid) (m : Marks) → (kill pid m).todo ≢ move.Spawn
kill_spawns_none pid m = neither m.killed (does m move.Nothing) (does (record m { killed = true }) (move.Kill pid)) move.Spawn (λ e. cc) (λ e. cc)

end_spawns_none : (m : Marks) → (ended m).todo ≢ move.Spawn
end_spawns_none m =
    neither (m.disabled || m.reset) (does (record m { again = false }) move.Stopped) (does (record m { again = false; restarting = true }) move.Exited) move.Spawn (λ e. cc) (λ e. cc)

reaped_spawns_none : (m : Marks) → (reaped m).todo ≢ move.Spawn
reaped_spawns_none m =
    end_spawns_none (record m { pid = None; killed = false; disabled = m.disabled || (m.oneshot && not m.again && not m.reset) })

pub one_process : OneProcess
unfolding service_step
one_process op.Start m pid = λ e. cc
one_process op.ClassStart m pid = neither m.disabled _ _ move.Spawn (λ e. cc) (λ e. cc)
one_process op.Stop m pid = kill_spawns_none pid _
one_process op.Reset m pid = kill_spawns_none pid _
one_process (op.Restart only_running) m pid = kill_spawns_none pid _
one_process (op.ClassRestart only_enabled) m pid = neither (only_enabled && m.disabled) _ _ move.Spawn (λ e. cc) (kill_spawns_none pid _)
one_process op.Enable m pid = neither m.wanted _ _ move.Spawn (λ e. cc) (λ e. cc)
one_process op.ExecStart m pid = λ e. cc
one_process op.Timeout m pid = kill_spawns_none pid _
one_process (op.Spawned number now) m pid = λ e. cc
one_process op.NoPid m pid = λ e. cc
one_process op.Reaped m pid = reaped_spawns_none (running pid m)

module _ (at : Pid) where
  killed_not_again : (pid : Pid) (m : Marks) → m.killed ≡ true → (kill pid m).todo ≢ move.Kill at
  killed_not_again pid m killed = subst (λ b. (if b then does m move.Nothing else does (record m { killed = true }) (move.Kill pid)).todo ≢ move.Kill at) (sym killed) (λ e. cc)

  start_kills_none : (process : Option Pid) (m : Marks) → (start process m).todo ≢ move.Kill at
  start_kills_none (Some pid) m = λ e. cc
  start_kills_none None m = λ e. cc

  stop_once : (process : Option Pid) (m : Marks) → m.killed ≡ true → (stop process m).todo ≢ move.Kill at
  stop_once (Some pid) m killed = killed_not_again pid _ killed
  stop_once None m killed = λ e. cc

  reset_keeps_killed : (m : Marks) → m.killed ≡ true → (with_reset m).killed ≡ true
  reset_keeps_killed m killed = by m.declared
    where
      by : (b : Bool) → (if b then record m { restarting = false; wanted = false; again = false; disabled = true } else record m { restarting = false; wanted = false; again = false; reset = true }).killed ≡ true
      by true = killed
      by false = killed

  reset_once : (process : Option Pid) (m : Marks) → m.killed ≡ true → (reset process m).todo ≢ move.Kill at
  reset_once (Some pid) m killed = killed_not_again pid _ (reset_keeps_killed m killed)
  reset_once None m killed = λ e. cc

  restart_once : (only_running : Bool) (process : Option Pid) (m : Marks) → m.killed ≡ true → (restart only_running process m).todo ≢ move.Kill at
  restart_once only_running (Some pid) m killed = killed_not_again pid _ killed
  restart_once only_running None m killed = neither (m.restarting || only_running) _ _ (move.Kill at) (λ e. cc) (λ e. cc)

  exec_kills_none : (process : Option Pid) (m : Marks) → (exec_start process m).todo ≢ move.Kill at
  exec_kills_none (Some pid) m = λ e. cc
  exec_kills_none None m = λ e. cc

  timeout_once : (process : Option Pid) (m : Marks) → m.killed ≡ true → (timeout process m).todo ≢ move.Kill at
  timeout_once (Some pid) m killed = killed_not_again pid _ killed
  timeout_once None m killed = λ e. cc

  end_kills_none : (m : Marks) → (ended m).todo ≢ move.Kill at
  end_kills_none m =
      neither (m.disabled || m.reset) (does (record m { again = false }) move.Stopped) (does (record m { again = false; restarting = true }) move.Exited) (move.Kill at) (λ e. cc) (λ e. cc)

  reaped_kills_none : (m : Marks) → (reaped m).todo ≢ move.Kill at
  reaped_kills_none m =
      end_kills_none (record m { pid = None; killed = false; disabled = m.disabled || (m.oneshot && not m.again && not m.reset) })

pub killed_once : KilledOnce
unfolding service_step
killed_once op.Start m at killed = start_kills_none at m.pid _
killed_once op.ClassStart m at killed = neither m.disabled _ _ (move.Kill at) (λ e. cc) (start_kills_none at m.pid _)
killed_once op.Stop m at killed = stop_once at m.pid m killed
killed_once op.Reset m at killed = reset_once at m.pid m killed
killed_once (op.Restart only_running) m at killed = restart_once at only_running m.pid m killed
killed_once (op.ClassRestart only_enabled) m at killed = neither (only_enabled && m.disabled) _ _ (move.Kill at) (λ e. cc) (restart_once at false m.pid m killed)
killed_once op.Enable m at killed = neither m.wanted _ _ (move.Kill at) (start_kills_none at m.pid _) (λ e. cc)
killed_once op.ExecStart m at killed = exec_kills_none at m.pid m
killed_once op.Timeout m at killed = timeout_once at m.pid m killed
killed_once (op.Spawned number now) m at killed = λ e. cc
killed_once op.NoPid m at killed = λ e. cc
killed_once op.Reaped m at killed = reaped_kills_none at m
