-- The words that stand in a trace for diagnostics and refusals of the tree.
use Rattle.std.specs.Prelude.{ℕ, List, codes}
use Rattle.init_machine.specs.declared.diagnostic.DiagKind.{DiagKind}
use Rattle.init_machine.specs.declared.diagnostic.DiagKind.TheVariants as kind
use Rattle.init_machine.specs.declared.output.FsRefusal.{FsRefusal}
use Rattle.init_machine.specs.declared.output.FsRefusal.TheVariants as tree

-- a diagnostic, by the name of its kind
unfoldable pub kind_text : DiagKind → List ℕ
kind_text kind.Cut = codes "Cut"
kind_text kind.Orphan = codes "Orphan"
kind_text kind.NoTrigger = codes "NoTrigger"
kind_text kind.BadTrigger = codes "BadTrigger"
kind_text kind.TwiceProp = codes "TwiceProp"
kind_text kind.BadWord = codes "BadWord"
kind_text kind.BadArity = codes "BadArity"
kind_text kind.BadOption = codes "BadOption"
kind_text kind.BadService = codes "BadService"
kind_text kind.ServiceAgain = codes "ServiceAgain"
kind_text kind.BadImport = codes "BadImport"
kind_text kind.NoFile = codes "NoFile"
kind_text kind.Loop = codes "Loop"
kind_text kind.TooDeep = codes "TooDeep"
kind_text kind.BadExpand = codes "BadExpand"
kind_text kind.BadProp = codes "BadProp"

-- a refusal of the tree, by its name
unfoldable pub tree_text : FsRefusal → List ℕ
tree_text tree.BadPath = codes "BadPath"
tree_text tree.Absent = codes "Absent"
tree_text tree.IsDir = codes "IsDir"
tree_text tree.NotDir = codes "NotDir"
tree_text tree.Exists = codes "Exists"
tree_text tree.NotEmpty = codes "NotEmpty"
tree_text tree.Insecure = codes "Insecure"
tree_text tree.NoMemory = codes "NoMemory"
