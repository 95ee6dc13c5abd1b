-- The words of commands, as they are written in an rc file (AOSP, init's README, "Commands").
use Rattle.std.specs.Prelude.{ℕ, List, codes}
use Rattle.init_machine.specs.declared.word.Word.{Word}
use Rattle.init_machine.specs.declared.word.Word.TheVariants as word
use Rattle.init_machine.specs.declared.word.InertWord.{InertWord}
use Rattle.init_machine.specs.declared.word.InertWord.TheVariants as inert

-- a command that has no effect here (this project's profile)
unfoldable pub inert_text : InertWord → List ℕ
inert_text inert.Mount = codes "mount"
inert_text inert.Umount = codes "umount"
inert_text inert.Restorecon = codes "restorecon"
inert_text inert.RestoreconRecursive = codes "restorecon_recursive"
inert_text inert.Chown = codes "chown"
inert_text inert.Insmod = codes "insmod"
inert_text inert.Ifup = codes "ifup"
inert_text inert.Sysclktz = codes "sysclktz"
inert_text inert.Setrlimit = codes "setrlimit"
inert_text inert.SwaponAll = codes "swapon_all"
inert_text inert.VerityUpdateState = codes "verity_update_state"
inert_text inert.Installkey = codes "installkey"
inert_text inert.InitUser0 = codes "init_user0"
inert_text inert.MarkPostData = codes "mark_post_data"
inert_text inert.ExecBackground = codes "exec_background"
inert_text inert.Loglevel = codes "loglevel"
inert_text inert.Hostname = codes "hostname"
inert_text inert.Domainname = codes "domainname"
inert_text inert.Bootchart = codes "bootchart"

-- a command
unfoldable pub word_text : Word → List ℕ
word_text word.ClassStart = codes "class_start"
word_text word.ClassStop = codes "class_stop"
word_text word.ClassReset = codes "class_reset"
word_text word.ClassRestart = codes "class_restart"
word_text word.Start = codes "start"
word_text word.Stop = codes "stop"
word_text word.Enable = codes "enable"
word_text word.Restart = codes "restart"
word_text word.ExecStart = codes "exec_start"
word_text word.Exec = codes "exec"
word_text word.Setprop = codes "setprop"
word_text word.Trigger = codes "trigger"
word_text word.WaitForProp = codes "wait_for_prop"
word_text word.Wait = codes "wait"
word_text word.LoadPersistProps = codes "load_persist_props"
word_text word.Export = codes "export"
word_text word.Write = codes "write"
word_text word.Copy = codes "copy"
word_text word.Rm = codes "rm"
word_text word.Rmdir = codes "rmdir"
word_text word.Symlink = codes "symlink"
word_text word.Chmod = codes "chmod"
word_text word.Mkdir = codes "mkdir"
word_text (word.Inert noted) = inert_text noted
