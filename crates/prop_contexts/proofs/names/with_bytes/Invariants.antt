-- The digest of the bytes so far.
use Rattle.std.proofs.Common.{◌≡◌, fold, take}
use Rattle.prop_contexts.specs.Digests.{with_byte}
use Rattle.prop_contexts.proofs.names.with_bytes.Given as goal

abbrev pub invariant-loop-byte : goal.invariant-loop-byte
invariant-loop-byte l = l.digest ≡ fold with_byte l.known (take l.byte-index l.bytes)
