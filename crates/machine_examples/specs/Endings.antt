-- What the end of a process brings about.
use Rattle.std.specs.Prelude.{◌≡◌, ℕ, ◌+◌, true, false, List, [], ◌∷◌, ◌++◌, Some, codes}
use Rattle.init_machine.specs.Kernel.{first_kernel, has_pid, with_process}
use Rattle.init_machine.specs.State.{Opening}
use Rattle.init_machine.specs.declared.action.Command.{Command}
use Rattle.init_machine.specs.declared.config.Plan.{Plan}
use Rattle.init_machine.specs.declared.input.Input.TheVariants as input
use Rattle.init_machine.specs.declared.output.Cause.TheVariants as cause
use Rattle.init_machine.specs.declared.output.Output.{Output}
use Rattle.init_machine.specs.declared.output.Output.TheVariants as output
use Rattle.init_machine.specs.declared.service.ServiceDef.{ServiceDef}
use Rattle.init_machine.specs.declared.word.Word.TheVariants as word
use Rattle.machine_examples.specs.Run.{opening_of, outputs_of, service, plan}
use Rattle.machine_examples.specs.Trace.{on, command, runs, begins, put, state, spawn, kill, reap, reap_killed, ok, next}

-- a service that runs from `early-init` on
abbrev started : ℕ → ServiceDef → List Command → List Plan → Opening
started line defined more plans =
    opening_of (on line (codes "early-init") (command (line + 1) word.Start (defined.name ∷ []) ∷ more) ∷ []) (defined ∷ []) plans

abbrev starts : ℕ → List ℕ → List ℕ → List Output
starts line name path = begins line ++ runs (line + 1) word.Start (name ∷ []) ∷ spawn 100 name path ∷ state 1 name (codes "running") ∷ ok ∷ []

abbrev s : List ℕ
s = codes "s"

-- a oneshot service ends; a second exit finds no process
abbrev pub OneshotExitsAndNoProcess : Type 0
OneshotExitsAndNoProcess =
    outputs_of (started 3 (record (service 1 s (codes "/bin/s")) { oneshot = true }) (command 5 word.Stop (codes "nope" ∷ []) ∷ []) [])
    (input.Boot ∷ next ∷ input.Exit s 3 ∷ next ∷ input.Exit s 0 ∷ [])
    ≡ []
    ∷ starts 3 s (codes "/bin/s")
    ∷ (reap 100 s 3 ∷ state 2 s (codes "stopped") ∷ [])
    ∷ (runs 5 word.Stop (codes "nope" ∷ []) ∷ output.Failed (cause.NoSuchService (codes "nope")) ∷ [])
    ∷ (output.NoProcess ∷ [])
    ∷ []

abbrev t : List ℕ
t = codes "t"

-- a service that has run for two seconds is killed, and reaped at the next tick
abbrev pub TimeoutKills : Type 0
TimeoutKills =
    outputs_of (started 4 (record (service 1 t (codes "/bin/t")) { oneshot = true; timeout = Some (record { 0 = 2000 }) }) [] [])
    (input.Boot ∷ next ∷ input.Tick 1999 ∷ input.Tick 1 ∷ input.Tick 0 ∷ [])
    ≡ []
    ∷ starts 4 t (codes "/bin/t")
    ∷ []
    ∷ (kill 100 t ∷ state 2 t (codes "stopping") ∷ [])
    ∷ (reap_killed 100 t ∷ state 3 t (codes "stopped") ∷ [])
    ∷ []

abbrev a : List ℕ
a = codes "a"

abbrev b : List ℕ
b = codes "b"

-- the commands of `onrestart` run when the service is to be restarted
abbrev pub OnrestartSets : Type 0
OnrestartSets =
    outputs_of (started 3 (record (service 1 a (codes "/bin/a")) { onrestart = command 2 word.Setprop (codes "r" ∷ codes "1" ∷ []) ∷ [] }) [] [])
    (input.Boot ∷ next ∷ input.Exit a 0 ∷ [])
    ≡ []
    ∷ starts 3 a (codes "/bin/a")
    ∷ (reap 100 a 0 ∷ state 2 a (codes "restarting") ∷ runs 2 word.Setprop (codes "r" ∷ codes "1" ∷ []) ∷ put 3 (codes "r") (codes "1") ∷ ok ∷ [])
    ∷ []

-- `onrestart` restarts a service whose process has ended too, and isn't reaped yet: its end stays
abbrev pub OnrestartRestartsDueService : Type 0
OnrestartRestartsDueService =
    outputs_of
    (opening_of (on 4 (codes "early-init") (command 5 word.Start (a ∷ []) ∷ command 6 word.Start (b ∷ []) ∷ []) ∷ [])
    (record (service 1 a (codes "/bin/a")) { onrestart = command 2 word.Restart (b ∷ []) ∷ [] } ∷ service 3 b (codes "/bin/b") ∷ [])
    (plan (codes "/bin/a") 10 0 ∷ plan (codes "/bin/b") 10 0 ∷ []))
    (input.Boot ∷ next ∷ next ∷ input.Tick 10 ∷ [])
    ≡ []
    ∷ starts 4 a (codes "/bin/a")
    ∷ (runs 6 word.Start (b ∷ []) ∷ spawn 101 b (codes "/bin/b") ∷ state 2 b (codes "running") ∷ ok ∷ [])
    ∷ (reap 100 a 0 ∷ state 3 a (codes "restarting") ∷ runs 2 word.Restart (b ∷ []) ∷ kill 101 b ∷ state 4 b (codes "stopping") ∷ ok
    ∷ reap 101 b 0 ∷ state 5 b (codes "restarting") ∷ [])
    ∷ []

-- the last pid is given once, and the clock stops at 2 ^ 53
abbrev pub KernelEnds : Type 0
KernelEnds =
    (has_pid (first_kernel 4194304) ≡ true)
    × (has_pid (with_process [] (first_kernel 4194304) a (codes "/bin/a")) ≡ false)
    × (outputs_of (opening_of [] [] []) (input.Tick 9007199254740992 ∷ input.Tick 1 ∷ []) ≡ [] ∷ (output.TooFar ∷ []) ∷ [])
