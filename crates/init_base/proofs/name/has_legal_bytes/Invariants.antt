use Rattle.std.proofs.Common.{◌≡◌, ◌≤◌, ◌&&◌, nat_lt, false, drop}
use Rattle.std.specs.List.{list_all}
use Rattle.init_base.specs.Name.{has_only_lone_dots, is_name_byte}
use Rattle.init_base.proofs.NameBytes.{dots_behind}
use Rattle.init_base.proofs.name.has_legal_bytes.Given as goal

abbrev pub invariant-loop-byte : goal.invariant-loop-byte
invariant-loop-byte l = record {
  left : (nat_lt l.seen 2 && (list_all is_name_byte (drop l.byte-index l.bytes) && dots_behind l.before (drop l.byte-index l.bytes)))
      ≡ (list_all is_name_byte l.bytes && has_only_lone_dots l.bytes);
  small : l.before ≤ 2;
  past : nat_lt l.before 2 ≡ false → nat_lt l.seen 2 ≡ false;
}
