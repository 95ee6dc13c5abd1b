-- The words of a trace, read as the command, the kind or the refusal that they name.
use Rattle.std.proofs.Common.{◌≡◌, ℕ, true, cond, List, [], ◌∷◌, refl}
use Rattle.std.specs.Prelude.{codes}
use Rattle.std.specs.Str.{bytes_eq}
use Rattle.init_machine.specs.declared.word.Word.{Word}
use Rattle.init_machine.specs.declared.word.Word.TheVariants as word
use Rattle.init_machine.specs.declared.word.InertWord.TheVariants as inert
use Rattle.init_machine.specs.declared.diagnostic.DiagKind.{DiagKind}
use Rattle.init_machine.specs.declared.diagnostic.DiagKind.TheVariants as kind
use Rattle.init_machine.specs.declared.output.FsRefusal.{FsRefusal}
use Rattle.init_machine.specs.declared.output.FsRefusal.TheVariants as tree
use Rattle.init_machine.specs.WordTexts.{inert_text, word_text}
use Rattle.init_trace.specs.Words.{kind_text, tree_text}
use Rattle.init_trace.proofs.Splitting.{is_field}

-- what stands in a table beside a word
abbrev pub choose : {X : Type 0} → List (List ℕ × X) → X → List ℕ → X
choose [] other name = other
choose (row ∷ rows) other name = cond (bytes_eq row.0 name) row.1 (choose rows other name)

abbrev word_of_table : List (List ℕ × Word)
word_of_table =
    (codes "class_start", word.ClassStart)
    ∷ (codes "class_stop", word.ClassStop)
    ∷ (codes "class_reset", word.ClassReset)
    ∷ (codes "class_restart", word.ClassRestart)
    ∷ (codes "start", word.Start)
    ∷ (codes "stop", word.Stop)
    ∷ (codes "enable", word.Enable)
    ∷ (codes "restart", word.Restart)
    ∷ (codes "exec_start", word.ExecStart)
    ∷ (codes "exec", word.Exec)
    ∷ (codes "setprop", word.Setprop)
    ∷ (codes "trigger", word.Trigger)
    ∷ (codes "wait_for_prop", word.WaitForProp)
    ∷ (codes "wait", word.Wait)
    ∷ (codes "load_persist_props", word.LoadPersistProps)
    ∷ (codes "export", word.Export)
    ∷ (codes "write", word.Write)
    ∷ (codes "copy", word.Copy)
    ∷ (codes "rm", word.Rm)
    ∷ (codes "rmdir", word.Rmdir)
    ∷ (codes "symlink", word.Symlink)
    ∷ (codes "chmod", word.Chmod)
    ∷ (codes "mkdir", word.Mkdir)
    ∷ (codes "mount", word.Inert inert.Mount)
    ∷ (codes "umount", word.Inert inert.Umount)
    ∷ (codes "restorecon", word.Inert inert.Restorecon)
    ∷ (codes "restorecon_recursive", word.Inert inert.RestoreconRecursive)
    ∷ (codes "chown", word.Inert inert.Chown)
    ∷ (codes "insmod", word.Inert inert.Insmod)
    ∷ (codes "ifup", word.Inert inert.Ifup)
    ∷ (codes "sysclktz", word.Inert inert.Sysclktz)
    ∷ (codes "setrlimit", word.Inert inert.Setrlimit)
    ∷ (codes "swapon_all", word.Inert inert.SwaponAll)
    ∷ (codes "verity_update_state", word.Inert inert.VerityUpdateState)
    ∷ (codes "installkey", word.Inert inert.Installkey)
    ∷ (codes "init_user0", word.Inert inert.InitUser0)
    ∷ (codes "mark_post_data", word.Inert inert.MarkPostData)
    ∷ (codes "exec_background", word.Inert inert.ExecBackground)
    ∷ (codes "loglevel", word.Inert inert.Loglevel)
    ∷ (codes "hostname", word.Inert inert.Hostname)
    ∷ (codes "domainname", word.Inert inert.Domainname)
    ∷ (codes "bootchart", word.Inert inert.Bootchart)
    ∷ []

-- the command with this name
pub word_of : List ℕ → Word
word_of name = choose word_of_table word.Start name

pub word_of-word_text : (w : Word) → word_of (word_text w) ≡ w
unfolding word_of word_text inert_text
word_of-word_text word.ClassStart = refl
word_of-word_text word.ClassStop = refl
word_of-word_text word.ClassReset = refl
word_of-word_text word.ClassRestart = refl
word_of-word_text word.Start = refl
word_of-word_text word.Stop = refl
word_of-word_text word.Enable = refl
word_of-word_text word.Restart = refl
word_of-word_text word.ExecStart = refl
word_of-word_text word.Exec = refl
word_of-word_text word.Setprop = refl
word_of-word_text word.Trigger = refl
word_of-word_text word.WaitForProp = refl
word_of-word_text word.Wait = refl
word_of-word_text word.LoadPersistProps = refl
word_of-word_text word.Export = refl
word_of-word_text word.Write = refl
word_of-word_text word.Copy = refl
word_of-word_text word.Rm = refl
word_of-word_text word.Rmdir = refl
word_of-word_text word.Symlink = refl
word_of-word_text word.Chmod = refl
word_of-word_text word.Mkdir = refl
word_of-word_text (word.Inert inert.Mount) = refl
word_of-word_text (word.Inert inert.Umount) = refl
word_of-word_text (word.Inert inert.Restorecon) = refl
word_of-word_text (word.Inert inert.RestoreconRecursive) = refl
word_of-word_text (word.Inert inert.Chown) = refl
word_of-word_text (word.Inert inert.Insmod) = refl
word_of-word_text (word.Inert inert.Ifup) = refl
word_of-word_text (word.Inert inert.Sysclktz) = refl
word_of-word_text (word.Inert inert.Setrlimit) = refl
word_of-word_text (word.Inert inert.SwaponAll) = refl
word_of-word_text (word.Inert inert.VerityUpdateState) = refl
word_of-word_text (word.Inert inert.Installkey) = refl
word_of-word_text (word.Inert inert.InitUser0) = refl
word_of-word_text (word.Inert inert.MarkPostData) = refl
word_of-word_text (word.Inert inert.ExecBackground) = refl
word_of-word_text (word.Inert inert.Loglevel) = refl
word_of-word_text (word.Inert inert.Hostname) = refl
word_of-word_text (word.Inert inert.Domainname) = refl
word_of-word_text (word.Inert inert.Bootchart) = refl

pub is_field-word_text : (w : Word) → is_field (word_text w) ≡ true
unfolding word_text inert_text
is_field-word_text word.ClassStart = refl
is_field-word_text word.ClassStop = refl
is_field-word_text word.ClassReset = refl
is_field-word_text word.ClassRestart = refl
is_field-word_text word.Start = refl
is_field-word_text word.Stop = refl
is_field-word_text word.Enable = refl
is_field-word_text word.Restart = refl
is_field-word_text word.ExecStart = refl
is_field-word_text word.Exec = refl
is_field-word_text word.Setprop = refl
is_field-word_text word.Trigger = refl
is_field-word_text word.WaitForProp = refl
is_field-word_text word.Wait = refl
is_field-word_text word.LoadPersistProps = refl
is_field-word_text word.Export = refl
is_field-word_text word.Write = refl
is_field-word_text word.Copy = refl
is_field-word_text word.Rm = refl
is_field-word_text word.Rmdir = refl
is_field-word_text word.Symlink = refl
is_field-word_text word.Chmod = refl
is_field-word_text word.Mkdir = refl
is_field-word_text (word.Inert inert.Mount) = refl
is_field-word_text (word.Inert inert.Umount) = refl
is_field-word_text (word.Inert inert.Restorecon) = refl
is_field-word_text (word.Inert inert.RestoreconRecursive) = refl
is_field-word_text (word.Inert inert.Chown) = refl
is_field-word_text (word.Inert inert.Insmod) = refl
is_field-word_text (word.Inert inert.Ifup) = refl
is_field-word_text (word.Inert inert.Sysclktz) = refl
is_field-word_text (word.Inert inert.Setrlimit) = refl
is_field-word_text (word.Inert inert.SwaponAll) = refl
is_field-word_text (word.Inert inert.VerityUpdateState) = refl
is_field-word_text (word.Inert inert.Installkey) = refl
is_field-word_text (word.Inert inert.InitUser0) = refl
is_field-word_text (word.Inert inert.MarkPostData) = refl
is_field-word_text (word.Inert inert.ExecBackground) = refl
is_field-word_text (word.Inert inert.Loglevel) = refl
is_field-word_text (word.Inert inert.Hostname) = refl
is_field-word_text (word.Inert inert.Domainname) = refl
is_field-word_text (word.Inert inert.Bootchart) = refl

abbrev kind_of_table : List (List ℕ × DiagKind)
kind_of_table =
    (codes "Cut", kind.Cut)
    ∷ (codes "Orphan", kind.Orphan)
    ∷ (codes "NoTrigger", kind.NoTrigger)
    ∷ (codes "BadTrigger", kind.BadTrigger)
    ∷ (codes "TwiceProp", kind.TwiceProp)
    ∷ (codes "BadWord", kind.BadWord)
    ∷ (codes "BadArity", kind.BadArity)
    ∷ (codes "BadOption", kind.BadOption)
    ∷ (codes "BadService", kind.BadService)
    ∷ (codes "ServiceAgain", kind.ServiceAgain)
    ∷ (codes "BadImport", kind.BadImport)
    ∷ (codes "NoFile", kind.NoFile)
    ∷ (codes "Loop", kind.Loop)
    ∷ (codes "TooDeep", kind.TooDeep)
    ∷ (codes "BadExpand", kind.BadExpand)
    ∷ (codes "BadProp", kind.BadProp)
    ∷ []

-- the kind with this name
pub kind_of : List ℕ → DiagKind
kind_of name = choose kind_of_table kind.Cut name

pub kind_of-kind_text : (w : DiagKind) → kind_of (kind_text w) ≡ w
unfolding kind_of kind_text
kind_of-kind_text kind.Cut = refl
kind_of-kind_text kind.Orphan = refl
kind_of-kind_text kind.NoTrigger = refl
kind_of-kind_text kind.BadTrigger = refl
kind_of-kind_text kind.TwiceProp = refl
kind_of-kind_text kind.BadWord = refl
kind_of-kind_text kind.BadArity = refl
kind_of-kind_text kind.BadOption = refl
kind_of-kind_text kind.BadService = refl
kind_of-kind_text kind.ServiceAgain = refl
kind_of-kind_text kind.BadImport = refl
kind_of-kind_text kind.NoFile = refl
kind_of-kind_text kind.Loop = refl
kind_of-kind_text kind.TooDeep = refl
kind_of-kind_text kind.BadExpand = refl
kind_of-kind_text kind.BadProp = refl

pub is_field-kind_text : (w : DiagKind) → is_field (kind_text w) ≡ true
unfolding kind_text
is_field-kind_text kind.Cut = refl
is_field-kind_text kind.Orphan = refl
is_field-kind_text kind.NoTrigger = refl
is_field-kind_text kind.BadTrigger = refl
is_field-kind_text kind.TwiceProp = refl
is_field-kind_text kind.BadWord = refl
is_field-kind_text kind.BadArity = refl
is_field-kind_text kind.BadOption = refl
is_field-kind_text kind.BadService = refl
is_field-kind_text kind.ServiceAgain = refl
is_field-kind_text kind.BadImport = refl
is_field-kind_text kind.NoFile = refl
is_field-kind_text kind.Loop = refl
is_field-kind_text kind.TooDeep = refl
is_field-kind_text kind.BadExpand = refl
is_field-kind_text kind.BadProp = refl

abbrev tree_of_table : List (List ℕ × FsRefusal)
tree_of_table =
    (codes "BadPath", tree.BadPath)
    ∷ (codes "Absent", tree.Absent)
    ∷ (codes "IsDir", tree.IsDir)
    ∷ (codes "NotDir", tree.NotDir)
    ∷ (codes "Exists", tree.Exists)
    ∷ (codes "NotEmpty", tree.NotEmpty)
    ∷ (codes "Insecure", tree.Insecure)
    ∷ (codes "NoMemory", tree.NoMemory)
    ∷ []

-- the refusal with this name
pub tree_of : List ℕ → FsRefusal
tree_of name = choose tree_of_table tree.BadPath name

pub tree_of-tree_text : (w : FsRefusal) → tree_of (tree_text w) ≡ w
unfolding tree_of tree_text
tree_of-tree_text tree.BadPath = refl
tree_of-tree_text tree.Absent = refl
tree_of-tree_text tree.IsDir = refl
tree_of-tree_text tree.NotDir = refl
tree_of-tree_text tree.Exists = refl
tree_of-tree_text tree.NotEmpty = refl
tree_of-tree_text tree.Insecure = refl
tree_of-tree_text tree.NoMemory = refl

pub is_field-tree_text : (w : FsRefusal) → is_field (tree_text w) ≡ true
unfolding tree_text
is_field-tree_text tree.BadPath = refl
is_field-tree_text tree.Absent = refl
is_field-tree_text tree.IsDir = refl
is_field-tree_text tree.NotDir = refl
is_field-tree_text tree.Exists = refl
is_field-tree_text tree.NotEmpty = refl
is_field-tree_text tree.Insecure = refl
is_field-tree_text tree.NoMemory = refl
