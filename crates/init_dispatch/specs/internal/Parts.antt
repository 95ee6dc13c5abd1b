-- The parts of clients that were shown nothing.
use Rattle.std.specs.Prelude.{[]}
use Rattle.init_machine.specs.declared.report.ClientPart.{ClientPart}
use Rattle.script_lang.specs.declared.script.Client.{Client}

-- a client's part without readings
abbrev pub silent : Client → ClientPart
silent client = record { name = client.name; domain = client.domain; readings = [] }
