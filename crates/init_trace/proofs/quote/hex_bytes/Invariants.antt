use Rattle.std.proofs.Common.{◌≡◌, ◌++◌, drop, false}
use Rattle.std.specs.List.{flat_map}
use Rattle.init_trace.specs.Quoted.{hex_byte}
use Rattle.init_trace.proofs.quote.hex_bytes.Given as goal

-- what is left decides
abbrev pub invariant-loop-byte : goal.invariant-loop-byte
invariant-loop-byte l =
    l.page.items ++ flat_map (hex_byte false) (drop l.byte-index l.bytes)
    ≡ l.initial.page.items ++ flat_map (hex_byte false) l.bytes
