-- What processes by their pids mean, and what stands beside them.
use Rattle.std.specs.Prelude.{◌≡◌, ℕ, ◌<◌, ◌==◌, Bool, true, false, not, List, [], ◌∷◌, map, filter, find, Option, Some, None, IfSome}
use Rattle.std.specs.BTreeMap.{is_at}
use Rattle.std.specs.List.{filter_map}
use Rattle.std.specs.List.Sorted.{IsStrictlySortedBy}
use Rattle.std.specs.Map.{keys_of, lookup}
use Rattle.std.specs.Option.{option_map}
use Rattle.std.specs.Ordering.{nat_cmp}
use Rattle.collections.specs.Moments.{is_held}
use Rattle.init_machine.specs.Kernel.{Process, has_ended}
use Rattle.model_kernel.specs.Parts.{end_of}
use Rattle.model_kernel.specs.declared.process.Process.{Process as ProcessInMemory}

-- the process at its pid
abbrev pub process_at : ℕ × ProcessInMemory → Process
process_at entry = record { pid = entry.0; name = entry.1.name; end = option_map end_of entry.1.end; killed = entry.1.killed }

abbrev pub living : List (ℕ × ProcessInMemory) → List Process
living entries = map process_at entries

-- each process has the pid of its key
abbrev pub AreNumbered : List (ℕ × ProcessInMemory) → Type 0
AreNumbered [] = Unit {0}
AreNumbered (entry ∷ entries) = (entry.1.pid ≡ entry.0) × AreNumbered entries

-- a process stands at its planned end, and at 0 where it was killed, unless all have to be asked
pub record IsListed (asks_all : Bool) (ends : List (ℕ × ℕ)) (pid : ℕ) (p : ProcessInMemory) : Type 0 where
  pub planned : IfSome p.end (λ end. is_held end.time pid ends ≡ true)
  pub killed : asks_all ≡ false → p.killed ≡ true → is_held 0 pid ends ≡ true

pub record AreListed (asks_all : Bool) (ends : List (ℕ × ℕ)) (entries : List (ℕ × ProcessInMemory)) : Type 0 where
  pub ordered : IsStrictlySortedBy nat_cmp (keys_of entries)
  pub numbered : AreNumbered entries
  pub listed : (pid : ℕ) → IfSome (lookup (is_at (nat_cmp pid)) entries) (IsListed asks_all ends pid)

abbrev pub slain : ProcessInMemory → ProcessInMemory
slain p = record p { killed = true }

abbrev pub pids : List Process → List ℕ
pids processes = map (λ p. p.pid) processes

-- each pid is below this one
abbrev pub AreBelow : ℕ → List Process → Type 0
AreBelow pid [] = Unit {0}
AreBelow pid (p ∷ processes) = (p.pid < pid) × AreBelow pid processes

-- the process with a pid
abbrev pub with_pid : List Process → ℕ → Option Process
with_pid processes pid = find (λ p. p.pid == pid) processes

abbrev pub is_over : ℕ → Option Process → Bool
is_over now None = false
is_over now (Some p) = has_ended now p

-- the processes of these pids
abbrev pub found : List Process → List ℕ → List Process
found processes numbers = filter_map (with_pid processes) numbers

-- without the process of a pid
abbrev pub without_pid : List Process → ℕ → List Process
without_pid processes pid = filter (λ p. not (p.pid == pid)) processes
