-- Commands on the file tree.
use Rattle.std.specs.Prelude.{◌≡◌, ℕ, List, [], ◌∷◌, ◌++◌, codes}
use Rattle.init_machine.specs.declared.action.Command.{Command}
use Rattle.init_machine.specs.declared.input.Input.{Input}
use Rattle.init_machine.specs.declared.input.Input.TheVariants as input
use Rattle.init_machine.specs.declared.output.Cause.TheVariants as cause
use Rattle.init_machine.specs.declared.output.FsRefusal.{FsRefusal}
use Rattle.init_machine.specs.declared.output.FsRefusal.TheVariants.{BadPath, IsDir, NotDir, Exists, Insecure}
use Rattle.init_machine.specs.declared.output.Output.{Output}
use Rattle.init_machine.specs.declared.output.Output.TheVariants as output
use Rattle.init_machine.specs.declared.word.Word.{Word}
use Rattle.init_machine.specs.declared.word.Word.TheVariants as word
use Rattle.machine_examples.specs.Run.{opening_of, outputs_of}
use Rattle.machine_examples.specs.Trace.{on, command, runs, begins, ok, next}

-- the outputs of commands, one a Next
abbrev outputs_by : List Command → List Input → List (List Output)
outputs_by commands steps = outputs_of (opening_of (on 1 (codes "early-init") commands ∷ []) [] []) (input.Boot ∷ steps)

abbrev done : ℕ → Word → List (List ℕ) → List ℕ → List Output
done line what args path = runs line what args ∷ output.Tree path ∷ ok ∷ []

abbrev fails : ℕ → Word → List (List ℕ) → FsRefusal → List Output
fails line what args why = runs line what args ∷ output.Failed (cause.Tree why) ∷ []

abbrev pub TreeCommands : Type 0
TreeCommands =
    outputs_by
    (command 2 word.Write (codes "/d/a" ∷ codes "xy" ∷ [])
    ∷ command 3 word.Copy (codes "/d/a" ∷ codes "/b" ∷ [])
    ∷ command 4 word.Mkdir (codes "/m" ∷ codes "01771" ∷ [])
    ∷ command 5 word.Chmod (codes "600" ∷ codes "/b" ∷ [])
    ∷ command 6 word.Symlink (codes "/b" ∷ codes "/l" ∷ [])
    ∷ command 7 word.Copy (codes "/l" ∷ codes "/c" ∷ [])
    ∷ command 8 word.Rm (codes "/d" ∷ [])
    ∷ command 9 word.Rm (codes "/d/a" ∷ [])
    ∷ command 10 word.Rmdir (codes "/d" ∷ [])
    ∷ command 11 word.Mkdir (codes "/b" ∷ [])
    ∷ command 12 word.Write (codes "/b/c" ∷ codes "x" ∷ [])
    ∷ command 13 word.Write (codes "b" ∷ codes "x" ∷ [])
    ∷ command 14 word.Chmod (codes "0620" ∷ codes "/b" ∷ [])
    ∷ command 15 word.Copy (codes "/b" ∷ codes "/c" ∷ [])
    ∷ [])
    (next ∷ next ∷ next ∷ next ∷ next ∷ next ∷ next ∷ next ∷ next ∷ next ∷ next ∷ next ∷ next ∷ next ∷ [])
    ≡ []
    ∷ (begins 1 ++ done 2 word.Write (codes "/d/a" ∷ codes "xy" ∷ []) (codes "/d/a"))
    ∷ done 3 word.Copy (codes "/d/a" ∷ codes "/b" ∷ []) (codes "/b")
    ∷ done 4 word.Mkdir (codes "/m" ∷ codes "01771" ∷ []) (codes "/m")
    ∷ done 5 word.Chmod (codes "600" ∷ codes "/b" ∷ []) (codes "/b")
    ∷ done 6 word.Symlink (codes "/b" ∷ codes "/l" ∷ []) (codes "/l")
    ∷ fails 7 word.Copy (codes "/l" ∷ codes "/c" ∷ []) Insecure
    ∷ fails 8 word.Rm (codes "/d" ∷ []) IsDir
    ∷ done 9 word.Rm (codes "/d/a" ∷ []) (codes "/d/a")
    ∷ done 10 word.Rmdir (codes "/d" ∷ []) (codes "/d")
    ∷ fails 11 word.Mkdir (codes "/b" ∷ []) Exists
    ∷ fails 12 word.Write (codes "/b/c" ∷ codes "x" ∷ []) NotDir
    ∷ fails 13 word.Write (codes "b" ∷ codes "x" ∷ []) BadPath
    ∷ done 14 word.Chmod (codes "0620" ∷ codes "/b" ∷ []) (codes "/b")
    ∷ fails 15 word.Copy (codes "/b" ∷ codes "/c" ∷ []) Insecure
    ∷ []
