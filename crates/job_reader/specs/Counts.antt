-- The counts of faults of all that a call uses.
use Rattle.std.specs.Prelude.{◌≡◌, ℕ, ◌⊎◌}
use Rattle.init_base.specs.Faults.{Rose}
use Rattle.job_reader.specs.declared.status.Status.{Status}
use Rattle.job_reader.specs.declared.status.Status.TheVariants as status

pub record Counts : Type 0 where
  pub files : ℕ
  pub script : ℕ
  pub trace : ℕ
  pub keeper : ℕ
  pub out : ℕ

abbrev pub counts_of : ℕ → ℕ → ℕ → ℕ → ℕ → Counts
counts_of files script trace keeper out = record { files = files; script = script; trace = trace; keeper = keeper; out = out }

-- the count of something that is read, or of the keeper, rose
abbrev pub SomeReadRose : Counts → Counts → Type 0
SomeReadRose before now =
    Rose before.files now.files ⊎ (Rose before.script now.script ⊎ (Rose before.trace now.trace ⊎ Rose before.keeper now.keeper))

-- The counts over a call that ends with a status: a fault comes only where a count of its objects rose, and the others are
-- as before.
abbrev pub AreCounted : Status → Counts → Counts → Type 0
AreCounted status.Done before now = now ≡ before
AreCounted status.Usage before now = now ≡ before
AreCounted status.ReadFault before now = SomeReadRose before now × (now.out ≡ before.out)
AreCounted status.WriteFault before now = Rose before.out now.out × (now ≡ record before { out = now.out })
AreCounted status.NoMemory before now = now ≡ before
AreCounted (status.BadScript line) before now = now ≡ before
AreCounted status.NoInit before now = now ≡ before
AreCounted (status.TooLarge limit number) before now = now ≡ before
AreCounted (status.BadPolicy allow line) before now = now ≡ before
AreCounted (status.BadStore line why) before now = now ≡ before
AreCounted (status.BadWire at) before now = now ≡ before
AreCounted status.BadTrace before now = now ≡ before

-- Done or want of memory, unless a count rose
abbrev pub IsDoneUnlessRisen : Status → Counts → Counts → Type 0
IsDoneUnlessRisen status.Done before now = Unit {0}
IsDoneUnlessRisen status.Usage before now = ⊥
IsDoneUnlessRisen status.ReadFault before now = SomeReadRose before now
IsDoneUnlessRisen status.WriteFault before now = Rose before.out now.out
IsDoneUnlessRisen status.NoMemory before now = Unit {0}
IsDoneUnlessRisen (status.BadScript line) before now = ⊥
IsDoneUnlessRisen status.NoInit before now = ⊥
IsDoneUnlessRisen (status.TooLarge limit number) before now = ⊥
IsDoneUnlessRisen (status.BadPolicy allow line) before now = ⊥
IsDoneUnlessRisen (status.BadStore line why) before now = ⊥
IsDoneUnlessRisen (status.BadWire at) before now = ⊥
IsDoneUnlessRisen status.BadTrace before now = ⊥
