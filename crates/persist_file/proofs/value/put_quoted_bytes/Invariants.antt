use Rattle.std.proofs.Common.{◌≡◌, ◌++◌, drop}
use Rattle.std.specs.List.{flat_map}
use Rattle.init_base.specs.Quoted.{quoted_byte}
use Rattle.persist_file.proofs.value.put_quoted_bytes.Given as goal

-- what is left decides
abbrev pub invariant-loop-byte : goal.invariant-loop-byte
invariant-loop-byte l = l.page.items ++ flat_map quoted_byte (drop l.byte-index l.bytes) ≡ l.initial.page.items ++ flat_map quoted_byte l.bytes
