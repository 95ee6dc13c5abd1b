-- Commands that wait.
use Rattle.std.specs.Prelude.{◌≡◌, ℕ, true, List, [], ◌∷◌, ◌++◌, codes}
use Rattle.init_machine.specs.State.{Opening}
use Rattle.init_machine.specs.declared.action.Command.{Command}
use Rattle.init_machine.specs.declared.input.Input.TheVariants as input
use Rattle.init_machine.specs.declared.output.Cause.TheVariants as cause
use Rattle.init_machine.specs.declared.output.Output.TheVariants as output
use Rattle.init_machine.specs.declared.word.Word.TheVariants as word
use Rattle.machine_examples.specs.Run.{opening_of, outputs_of, service, plan}
use Rattle.machine_examples.specs.Trace.{on, command, runs, begins, put, state, spawn, reap, ok, next, sets}

abbrev e : List ℕ
e = codes "e"

-- `exec_start` waits for the service's process
abbrev pub ExecStartWaits : Type 0
ExecStartWaits =
    outputs_of
    (opening_of (on 3 (codes "early-init") (command 4 word.ExecStart (e ∷ []) ∷ command 5 word.Setprop (codes "z" ∷ codes "1" ∷ []) ∷ []) ∷ [])
    (record (service 1 e (codes "/bin/e")) { oneshot = true } ∷ []) (plan (codes "/bin/e") 10 0 ∷ []))
    (input.Boot ∷ next ∷ next ∷ next ∷ input.Tick 10 ∷ next ∷ [])
    ≡ []
    ∷ (begins 3 ++ runs 4 word.ExecStart (e ∷ []) ∷ spawn 100 e (codes "/bin/e") ∷ state 1 e (codes "running") ∷ output.WaitChild (record { 0 = 100 }) ∷ [])
    ∷ (output.Blocked ∷ [])
    ∷ (output.Blocked ∷ [])
    ∷ (reap 100 e 0 ∷ state 2 e (codes "stopped") ∷ output.Released ∷ [])
    ∷ (runs 5 word.Setprop (codes "z" ∷ codes "1" ∷ []) ∷ put 3 (codes "z") (codes "1") ∷ ok ∷ [])
    ∷ []

abbrev only : Command → Opening
only c = opening_of (on 1 (codes "early-init") (c ∷ []) ∷ []) [] []

abbrev dev : List ℕ
dev = codes "/dev/x"

-- a wait for a file ends where the file appears, and else where its time has come
abbrev pub WaitForFile : Type 0
WaitForFile =
    (outputs_of (only (command 2 word.Wait (dev ∷ codes "2" ∷ []))) (input.Boot ∷ next ∷ input.File dev [] ∷ [])
    ≡ []
    ∷ (begins 1 ++ runs 2 word.Wait (dev ∷ codes "2" ∷ []) ∷ output.WaitFile dev (record { 0 = 2000 }) ∷ [])
    ∷ (output.Tree dev ∷ output.Released ∷ [])
    ∷ [])
    × (outputs_of (only (command 2 word.Wait (dev ∷ codes "2" ∷ []))) (input.Boot ∷ next ∷ input.Tick 2000 ∷ [])
    ≡ []
    ∷ (begins 1 ++ runs 2 word.Wait (dev ∷ codes "2" ∷ []) ∷ output.WaitFile dev (record { 0 = 2000 }) ∷ [])
    ∷ (output.Timeout ∷ [])
    ∷ [])
    × (outputs_of (only (command 2 word.Wait (dev ∷ codes "0.2509" ∷ []))) (input.Boot ∷ next ∷ [])
    ≡ []
    ∷ (begins 1 ++ runs 2 word.Wait (dev ∷ codes "0.2509" ∷ []) ∷ output.WaitFile dev (record { 0 = 250 }) ∷ [])
    ∷ [])
    × (outputs_of (only (command 2 word.Wait (dev ∷ codes "1e1" ∷ []))) (input.Boot ∷ next ∷ [])
    ≡ []
    ∷ (begins 1 ++ runs 2 word.Wait (dev ∷ codes "1e1" ∷ []) ∷ output.Failed (cause.BadArgument 2) ∷ [])
    ∷ [])

-- `exec` waits for its child, and `wait_for_prop` for a client's set
abbrev pub ExecAndWaitForProp : Type 0
ExecAndWaitForProp =
    (outputs_of (only (command 2 word.Exec (codes "u:r" ∷ codes "--" ∷ codes "/bin/x" ∷ []))) (input.Boot ∷ next ∷ [])
    ≡ []
    ∷ (begins 1 ++ runs 2 word.Exec (codes "u:r" ∷ codes "--" ∷ codes "/bin/x" ∷ []) ∷ spawn 100 (codes "*exec") (codes "/bin/x") ∷ output.WaitChild (record { 0 = 100 }) ∷ [])
    ∷ [])
    × (outputs_of (only (command 2 word.WaitForProp (codes "a" ∷ codes "1" ∷ []))) (input.Boot ∷ next ∷ sets 1 (codes "a") (codes "1") ∷ [])
    ≡ []
    ∷ (begins 1 ++ runs 2 word.WaitForProp (codes "a" ∷ codes "1" ∷ []) ∷ output.WaitProp (codes "a") (codes "1") ∷ [])
    ∷ (put 1 (codes "a") (codes "1") ∷ output.Released ∷ output.Accepted 1 ∷ [])
    ∷ [])
