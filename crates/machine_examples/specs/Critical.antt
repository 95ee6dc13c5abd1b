-- Critical services and the end by a reboot.
use Rattle.std.specs.Prelude.{◌≡◌, ℕ, ◌+◌, List, [], ◌∷◌, ◌++◌, Option, Some, None, codes}
use Rattle.init_machine.specs.State.{Opening}
use Rattle.init_machine.specs.declared.input.Input.TheVariants as input
use Rattle.init_machine.specs.declared.output.Output.{Output}
use Rattle.init_machine.specs.declared.output.Output.TheVariants as output
use Rattle.init_machine.specs.declared.output.SetRefusal.TheVariants as refusal
use Rattle.init_machine.specs.declared.service.Critical.{Critical}
use Rattle.init_machine.specs.declared.word.Word.TheVariants as word
use Rattle.machine_examples.specs.Run.{opening_of, outputs_of, service, plan}
use Rattle.machine_examples.specs.Trace.{on, command, runs, begins, state, spawn, reap, ok, next, sets}

abbrev c : List ℕ
c = codes "c"

abbrev with_critical : Option Critical → Opening
with_critical critical =
    opening_of (on 3 (codes "early-init") (command 4 word.Start (c ∷ []) ∷ []) ∷ []) (record (service 1 c (codes "/bin/c")) { critical = critical } ∷ [])
    (plan (codes "/bin/c") 0 1 ∷ [])

abbrev starts : List Output
starts = begins 3 ++ runs 4 word.Start (c ∷ []) ∷ spawn 100 c (codes "/bin/c") ∷ state 1 c (codes "running") ∷ ok ∷ []

-- an exit at which the service restarts at once, its period being over
abbrev restarts : ℕ → ℕ → List Output
restarts pid number = reap pid c 1 ∷ state number c (codes "restarting") ∷ spawn (pid + 1) c (codes "/bin/c") ∷ state (number + 1) c (codes "running") ∷ []

-- the fifth exit in the window reboots; a set is refused then, and a step does nothing
abbrev pub FifthExitReboots : Type 0
FifthExitReboots =
    outputs_of (with_critical (Some (record { window = record { 0 = 240000 }; target = codes "bootloader" })))
    (input.Boot ∷ next ∷ input.Tick 5000 ∷ input.Tick 5000 ∷ input.Tick 5000 ∷ input.Tick 5000 ∷ input.Tick 5000 ∷ sets 1 (codes "x") (codes "1") ∷ next ∷ [])
    ≡ []
    ∷ starts
    ∷ restarts 100 2
    ∷ restarts 101 4
    ∷ restarts 102 6
    ∷ restarts 103 8
    ∷ (reap 104 c 1 ∷ output.Reboot (codes "bootloader") ∷ [])
    ∷ (output.Refused (refusal.Down (codes "bootloader")) ∷ [])
    ∷ (output.Down ∷ [])
    ∷ []

-- with the window `off` the service isn't critical
abbrev pub NotCritical : Type 0
NotCritical =
    outputs_of (with_critical None) (input.Boot ∷ next ∷ input.Tick 5000 ∷ input.Tick 5000 ∷ input.Tick 5000 ∷ input.Tick 5000 ∷ input.Tick 5000 ∷ [])
    ≡ []
    ∷ starts
    ∷ restarts 100 2
    ∷ restarts 101 4
    ∷ restarts 102 6
    ∷ restarts 103 8
    ∷ restarts 104 10
    ∷ []

abbrev pub CriticalReboots : Type 0
CriticalReboots = FifthExitReboots × NotCritical
