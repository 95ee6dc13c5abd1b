-- The exit status of the process, and the counts of faults over a call.
use Rattle.std.specs.Prelude.{◌≡◌, ℕ}
use Rattle.init_base.specs.Faults.{Rose}
use Rattle.rc_import.specs.declared.loaded.LoadRefusal.TheVariants as why
use Rattle.rc_lint.specs.declared.status.Status.{Status}
use Rattle.rc_lint.specs.declared.status.Status.TheVariants as status

abbrev pub code_of : Status → ℕ
code_of status.Clean = 0
code_of status.Faulty = 1
code_of status.WriteFault = 2
code_of (status.Refused refusal) = 2

-- the counts of the files and of the sink
pub record Counts : Type 0 where
  pub files : ℕ
  pub out : ℕ

-- a fault comes only where the count of its object rose, and the other is as before
abbrev pub AreCounted : Status → Counts → Counts → Type 0
AreCounted status.Clean before now = now ≡ before
AreCounted status.Faulty before now = now ≡ before
AreCounted status.WriteFault before now = Rose before.out now.out × (now.files ≡ before.files)
AreCounted (status.Refused why.ReadFault) before now = Rose before.files now.files × (now.out ≡ before.out)
AreCounted (status.Refused why.NoInit) before now = now ≡ before
AreCounted (status.Refused (why.TooLarge path limit number)) before now = now ≡ before
AreCounted (status.Refused (why.TooMany path number)) before now = now ≡ before
AreCounted (status.Refused why.NoMemory) before now = now ≡ before
