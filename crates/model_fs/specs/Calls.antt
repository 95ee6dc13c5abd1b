-- What a call does, and what it answers where it is refused.
use Rattle.std.specs.Prelude.{◌≡◌, List, Some, None, Result, Ok, Err}
use Rattle.init_base.specs.declared.memory.NoMemory.{NoMemory}
use Rattle.init_machine.specs.FileTree.{Place, tree_refusal, tree_after}
use Rattle.init_machine.specs.declared.output.FsRefusal.{FsRefusal}
use Rattle.init_machine.specs.declared.output.FsRefusal.TheVariants as refusal
use Rattle.init_machine.specs.declared.task.TreeCall.{TreeCall}

-- the call isn't refused, and the tree is that when it was done
abbrev pub IsDone : List Place → TreeCall → List Place → Type 0
IsDone tree call new = (tree_refusal tree call ≡ None) × (new ≡ tree_after tree call)

-- The answer is the refusal of the call, and the tree stays as it was. (Want of memory alone is free.)
abbrev pub IsRefused : List Place → TreeCall → List Place → FsRefusal → Type 0
IsRefused tree call new refusal.NoMemory = Unit {0}
IsRefused tree call new why = (tree_refusal tree call ≡ Some why) × (new ≡ tree)

-- want of memory is a refusal
abbrev pub as_refusal : {T : Type 0} → Result T NoMemory → Result T FsRefusal
as_refusal (Ok done) = Ok done
as_refusal (Err none) = Err refusal.NoMemory
