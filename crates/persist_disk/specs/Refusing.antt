-- Refusals of the layers below, as opening and reopening answer them.
use Rattle.init_base.specs.declared.outside.refusal.IoRefusal.{IoRefusal}
use Rattle.init_base.specs.declared.outside.refusal.IoRefusal.TheVariants as io
use Rattle.init_base.specs.declared.outside.refusal.ReadRefusal.{ReadRefusal}
use Rattle.init_base.specs.declared.outside.refusal.ReadRefusal.TheVariants as reading
use Rattle.persist_disk.specs.declared.refusal.OpenRefusal.{OpenRefusal}
use Rattle.persist_disk.specs.declared.refusal.OpenRefusal.TheVariants.{Failed, TooLarge, BadSlot, NoMemory}
use Rattle.persist_disk.specs.declared.refusal.ReopenRefusal.{ReopenRefusal}
use Rattle.persist_disk.specs.declared.refusal.ReopenRefusal.TheVariants as reopening
use Rattle.persist_file.specs.declared.refusal.StoreRefusal.{StoreRefusal}
use Rattle.persist_file.specs.declared.refusal.StoreRefusal.TheVariants as store

abbrev pub of_write : IoRefusal → OpenRefusal
of_write io.Failed = Failed
of_write io.NoMemory = NoMemory

abbrev pub of_read : ReadRefusal → OpenRefusal
of_read reading.Failed = Failed
of_read reading.TooLarge = TooLarge
of_read reading.NoMemory = NoMemory

abbrev pub of_open : OpenRefusal → ReopenRefusal
of_open Failed = reopening.Failed
of_open TooLarge = reopening.Failed
of_open (BadSlot number len) = reopening.BadSlot number len
of_open NoMemory = reopening.NoMemory

abbrev pub of_load : ReadRefusal → ReopenRefusal
of_load reading.Failed = reopening.Failed
of_load reading.TooLarge = reopening.Failed
of_load reading.NoMemory = reopening.NoMemory

abbrev pub of_store : StoreRefusal → ReopenRefusal
of_store (store.BadLine line why) = reopening.BadLine line why
of_store store.NoMemory = reopening.NoMemory
