-- Services that start, stop, and are restarted.
use Rattle.std.specs.Prelude.{◌≡◌, ℕ, true, List, [], ◌∷◌, ◌++◌, codes}
use Rattle.init_machine.specs.State.{Opening}
use Rattle.init_machine.specs.declared.action.Command.{Command}
use Rattle.init_machine.specs.declared.input.Input.TheVariants as input
use Rattle.init_machine.specs.declared.service.ServiceDef.{ServiceDef}
use Rattle.init_machine.specs.declared.word.Word.TheVariants as word
use Rattle.machine_examples.specs.Run.{opening_of, outputs_of, service, plan}
use Rattle.machine_examples.specs.Trace.{on, command, runs, begins, state, spawn, kill, reap, reap_killed, ok, next}

-- a process that ended by its plan at 1,200 ms, and had begun at 1,000 ms, is restarted at 6,000 ms
abbrev pub RestartCountsFromStart : Type 0
RestartCountsFromStart =
    outputs_of
    (opening_of (on 2 (codes "early-init") (command 3 word.Start (codes "d" ∷ []) ∷ []) ∷ []) (service 1 (codes "d") (codes "/bin/d") ∷ [])
    (plan (codes "/bin/d") 200 0 ∷ []))
    (input.Boot ∷ input.Tick 1000 ∷ next ∷ input.Tick 200 ∷ input.Tick 4799 ∷ input.Tick 1 ∷ [])
    ≡ []
    ∷ []
    ∷ (begins 2 ++ runs 3 word.Start (codes "d" ∷ []) ∷ spawn 100 (codes "d") (codes "/bin/d") ∷ state 1 (codes "d") (codes "running") ∷ ok ∷ [])
    ∷ (reap 100 (codes "d") 0 ∷ state 2 (codes "d") (codes "restarting") ∷ [])
    ∷ []
    ∷ (spawn 101 (codes "d") (codes "/bin/d") ∷ state 3 (codes "d") (codes "running") ∷ [])
    ∷ []

-- a service `w` without options, and one action with these commands from line 3 on
abbrev with_commands : ServiceDef → List Command → Opening
with_commands defined commands = opening_of (on 2 (codes "early-init") commands ∷ []) (defined ∷ []) []

abbrev w : List ℕ
w = codes "w"

abbrev plain : ServiceDef
plain = service 1 w (codes "/bin/w")

-- a service that was reset is started by its class again
abbrev pub ResetStartsAgain : Type 0
ResetStartsAgain =
    outputs_of
    (with_commands plain (command 3 word.ClassStart (codes "default" ∷ []) ∷ command 4 word.ClassReset (codes "default" ∷ []) ∷ command 5 word.ClassStart (codes "default" ∷ []) ∷ []))
    (input.Boot ∷ next ∷ next ∷ input.Tick 1 ∷ next ∷ [])
    ≡ []
    ∷ (begins 2 ++ runs 3 word.ClassStart (codes "default" ∷ []) ∷ spawn 100 w (codes "/bin/w") ∷ state 1 w (codes "running") ∷ ok ∷ [])
    ∷ (runs 4 word.ClassReset (codes "default" ∷ []) ∷ kill 100 w ∷ state 2 w (codes "stopping") ∷ ok ∷ [])
    ∷ (reap_killed 100 w ∷ state 3 w (codes "stopped") ∷ [])
    ∷ (runs 5 word.ClassStart (codes "default" ∷ []) ∷ spawn 101 w (codes "/bin/w") ∷ state 4 w (codes "running") ∷ ok ∷ [])
    ∷ []

-- one that was stopped is not, until it is enabled
abbrev pub StoppedIsWanted : Type 0
StoppedIsWanted =
    outputs_of
    (with_commands plain (command 3 word.ClassStart (codes "default" ∷ []) ∷ command 4 word.ClassStop (codes "default" ∷ []) ∷ command 5 word.ClassStart (codes "default" ∷ []) ∷ command 6 word.Enable (w ∷ []) ∷ []))
    (input.Boot ∷ next ∷ next ∷ input.Tick 1 ∷ next ∷ next ∷ [])
    ≡ []
    ∷ (begins 2 ++ runs 3 word.ClassStart (codes "default" ∷ []) ∷ spawn 100 w (codes "/bin/w") ∷ state 1 w (codes "running") ∷ ok ∷ [])
    ∷ (runs 4 word.ClassStop (codes "default" ∷ []) ∷ kill 100 w ∷ state 2 w (codes "stopping") ∷ ok ∷ [])
    ∷ (reap_killed 100 w ∷ state 3 w (codes "stopped") ∷ [])
    ∷ (runs 5 word.ClassStart (codes "default" ∷ []) ∷ ok ∷ [])
    ∷ (runs 6 word.Enable (w ∷ []) ∷ spawn 101 w (codes "/bin/w") ∷ state 4 w (codes "running") ∷ ok ∷ [])
    ∷ []

-- a oneshot service that is started while it stops runs again when its process has ended
abbrev pub OneshotStartsAgain : Type 0
OneshotStartsAgain =
    outputs_of
    (with_commands (record plain { oneshot = true }) (command 3 word.Start (w ∷ []) ∷ command 4 word.Stop (w ∷ []) ∷ command 5 word.Start (w ∷ []) ∷ []))
    (input.Boot ∷ next ∷ next ∷ next ∷ input.Tick 1 ∷ [])
    ≡ []
    ∷ (begins 2 ++ runs 3 word.Start (w ∷ []) ∷ spawn 100 w (codes "/bin/w") ∷ state 1 w (codes "running") ∷ ok ∷ [])
    ∷ (runs 4 word.Stop (w ∷ []) ∷ kill 100 w ∷ state 2 w (codes "stopping") ∷ ok ∷ [])
    ∷ (runs 5 word.Start (w ∷ []) ∷ ok ∷ [])
    ∷ (reap_killed 100 w ∷ state 3 w (codes "restarting") ∷ [])
    ∷ []

abbrev pub ResetStopAndOneshot : Type 0
ResetStopAndOneshot = ResetStartsAgain × StoppedIsWanted × OneshotStartsAgain
