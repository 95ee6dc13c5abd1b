use Rattle.std.proofs.Common.{◌≡◌, ◌&&◌, drop}
use Rattle.std.specs.List.{list_all}
use Rattle.script_lang.specs.Lines.{is_permitted}
use Rattle.script_lang.proofs.reading.has_only_permitted.Given as goal

-- what is left decides
abbrev pub invariant-loop-byte : goal.invariant-loop-byte
invariant-loop-byte l = (l.permitted && list_all is_permitted (drop l.byte-index l.line)) ≡ list_all is_permitted l.line
