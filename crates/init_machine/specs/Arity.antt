-- How many arguments a command takes (AOSP, init's README, "Commands"; the inert ones are this project's profile).
use Rattle.std.specs.Prelude.{ℕ, Bool, ◌&&◌, ◌==◌, nat_le}
use Rattle.init_machine.specs.declared.arity.Arity.{Arity}
use Rattle.init_machine.specs.declared.arity.Arity.TheVariants.{Exactly, Between, AtLeast}
use Rattle.init_machine.specs.declared.word.Word.{Word}
use Rattle.init_machine.specs.declared.word.Word.TheVariants as word

-- whether a number of arguments is one of these
abbrev pub is_within : Arity → ℕ → Bool
is_within (Exactly number) count = count == number
is_within (Between least most) count = nat_le least count && nat_le count most
is_within (AtLeast least) count = nat_le least count

-- how many arguments a command takes
unfoldable pub arity_of : Word → Arity
arity_of word.ClassStart = Exactly 1
arity_of word.ClassStop = Exactly 1
arity_of word.ClassReset = Exactly 1
arity_of word.ClassRestart = Between 1 2
arity_of word.Start = Exactly 1
arity_of word.Stop = Exactly 1
arity_of word.Enable = Exactly 1
arity_of word.Restart = Between 1 2
arity_of word.ExecStart = Exactly 1
arity_of word.Exec = AtLeast 1
arity_of word.Setprop = Exactly 2
arity_of word.Trigger = Exactly 1
arity_of word.WaitForProp = Exactly 2
arity_of word.Wait = Between 1 2
arity_of word.LoadPersistProps = Exactly 0
arity_of word.Export = Exactly 2
arity_of word.Write = Exactly 2
arity_of word.Copy = Exactly 2
arity_of word.Rm = Exactly 1
arity_of word.Rmdir = Exactly 1
arity_of word.Symlink = Exactly 2
arity_of word.Chmod = Exactly 2
arity_of word.Mkdir = Between 1 6
arity_of (word.Inert noted) = AtLeast 0

-- whether a command takes so many arguments
abbrev pub permits : Word → ℕ → Bool
permits word count = is_within (arity_of word) count
