-- What the arguments of `critical` gave so far. The proof leads from it to `Values`.
use Rattle.std.specs.Prelude.{codes, Option, Some, None, Result, Ok, Err}
use Rattle.std.specs.Option.{option_to_list}
use Rattle.init_machine.specs.declared.diagnostic.DiagKind.{DiagKind}
use Rattle.init_machine.specs.declared.diagnostic.DiagKind.TheVariants.{BadOption}
use Rattle.init_machine.specs.declared.service.Critical.{Critical}
use Rattle.rc_parse.specs.Values.{last_value, critical_for}
use Rattle.rc_parse.specs.declared.critical.CriticalPart.{CriticalPart}
use Rattle.rc_parse.specs.declared.critical.CriticalPart.TheVariants.{Window, Target}
use Rattle.rc_parse.specs.declared.critical.Parts.{Parts}
use Rattle.rc_parse.specs.declared.critical.WindowLength.TheVariants as minute

-- a value that is the first one of its key
abbrev pub with_first : {A : Type 0} → Option A → Parts → Result Parts DiagKind
with_first None parts = Ok parts
with_first (Some earlier) parts = Err BadOption

-- the parts with one more
abbrev pub with_part : Parts → CriticalPart → Result Parts DiagKind
with_part parts (Window window) = with_first parts.window (record parts { window = Some window })
with_part parts (Target target) = with_first parts.target (record parts { target = Some target })

-- the mark that the parts make
abbrev pub mark_of : Parts → Option Critical
mark_of parts =
    critical_for (last_value (minute.Minutes 4) (option_to_list parts.window)) (last_value (codes "bootloader") (option_to_list parts.target))
