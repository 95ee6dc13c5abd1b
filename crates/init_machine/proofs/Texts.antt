-- The text of each command names it.
use Rattle.std.proofs.Common.{◌≡◌, Some, refl}
use Rattle.init_machine.specs.Commands.{word_of}
use Rattle.init_machine.specs.WordTexts.{inert_text, word_text}
use Rattle.init_machine.specs.declared.word.InertWord.{InertWord}
use Rattle.init_machine.specs.declared.word.InertWord.TheVariants as inert
use Rattle.init_machine.specs.declared.word.Word.{Word}
use Rattle.init_machine.specs.declared.word.Word.TheVariants as word

each_inert : (noted : InertWord) → word_of (word_text (word.Inert noted)) ≡ Some (word.Inert noted)
unfolding word_text inert_text
each_inert inert.Mount = refl
each_inert inert.Umount = refl
each_inert inert.Restorecon = refl
each_inert inert.RestoreconRecursive = refl
each_inert inert.Chown = refl
each_inert inert.Insmod = refl
each_inert inert.Ifup = refl
each_inert inert.Sysclktz = refl
each_inert inert.Setrlimit = refl
each_inert inert.SwaponAll = refl
each_inert inert.VerityUpdateState = refl
each_inert inert.Installkey = refl
each_inert inert.InitUser0 = refl
each_inert inert.MarkPostData = refl
each_inert inert.ExecBackground = refl
each_inert inert.Loglevel = refl
each_inert inert.Hostname = refl
each_inert inert.Domainname = refl
each_inert inert.Bootchart = refl

pub each_word : (w : Word) → word_of (word_text w) ≡ Some w
unfolding word_text inert_text
each_word word.ClassStart = refl
each_word word.ClassStop = refl
each_word word.ClassReset = refl
each_word word.ClassRestart = refl
each_word word.Start = refl
each_word word.Stop = refl
each_word word.Enable = refl
each_word word.Restart = refl
each_word word.ExecStart = refl
each_word word.Exec = refl
each_word word.Setprop = refl
each_word word.Trigger = refl
each_word word.WaitForProp = refl
each_word word.Wait = refl
each_word word.LoadPersistProps = refl
each_word word.Export = refl
each_word word.Write = refl
each_word word.Copy = refl
each_word word.Rm = refl
each_word word.Rmdir = refl
each_word word.Symlink = refl
each_word word.Chmod = refl
each_word word.Mkdir = refl
each_word (word.Inert noted) = each_inert noted
