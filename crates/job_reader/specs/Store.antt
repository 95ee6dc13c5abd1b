-- What a status says of the persistent store that a keeper tells.
use Rattle.std.specs.Prelude.{◌≡◌, ℕ, ◌<◌, ◌≤◌, ⊤, List, length}
use Rattle.init_machine.specs.declared.config.Pair.{Pair}
use Rattle.init_machine.specs.declared.limit.Limit.{Limit}
use Rattle.init_machine.specs.declared.limit.Limit.TheVariants as limits
use Rattle.persist_file.specs.Causes.{IsUnfitAt}
use Rattle.persist_file.specs.Store.{IsStore}
use Rattle.job_reader.specs.declared.status.Status.{Status}
use Rattle.job_reader.specs.declared.status.Status.TheVariants as status

-- the text that is held is within the limit, and is that of these pairs
pub record IsStoreOf (held : List ℕ) (saved : List Pair) : Type 0 where
  pub short : length held ≤ 33554432
  pub pairs : IsStore held saved

-- the text that is held is a store
abbrev pub HasStore : List ℕ → Type 0
HasStore held = (saved : List Pair) × IsStoreOf held saved

-- The limit of the store is passed. Where that of a trace is, the store was read before; where another one is, it wasn't read yet.
abbrev pub StoreLimitSays : List ℕ → Limit → ℕ → Type 0
StoreLimitSays held limits.StoreBytes number = (33554432 < length held) × (number ≡ 33554433)
StoreLimitSays held limits.ScriptBytes number = ⊤
StoreLimitSays held limits.ScriptLines number = ⊤
StoreLimitSays held limits.Steps number = ⊤
StoreLimitSays held limits.FileBytes number = ⊤
StoreLimitSays held limits.Files number = ⊤
StoreLimitSays held limits.Names number = ⊤
StoreLimitSays held limits.RcBytes number = ⊤
StoreLimitSays held limits.TraceBytes number = HasStore held

-- What a status says of the text that is held as the call begins. It is read after script and tree, so their refusals say
-- nothing of it, and what comes later says that it is a store.
abbrev pub StoreSays : List ℕ → Status → Type 0
StoreSays held status.Usage = ⊤
StoreSays held status.ReadFault = ⊤
StoreSays held status.NoMemory = ⊤
StoreSays held (status.BadScript line) = ⊤
StoreSays held (status.BadPolicy allow line) = ⊤
StoreSays held status.NoInit = ⊤
StoreSays held (status.TooLarge limit number) = StoreLimitSays held limit number
StoreSays held (status.BadStore line why) = (length held ≤ 33554432) × IsUnfitAt held line why
StoreSays held (status.BadWire at) = HasStore held
StoreSays held status.BadTrace = HasStore held
StoreSays held status.WriteFault = HasStore held
StoreSays held status.Done = HasStore held
