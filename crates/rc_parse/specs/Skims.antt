-- What is told of a file whose actions and services aren't kept: what it is read as, with each service by its mark alone.
use Rattle.std.specs.Prelude.{map}
use Rattle.init_machine.specs.declared.service.ServiceDef.{ServiceDef}
use Rattle.rc_parse.specs.declared.parsed.Parsed.{Parsed}
use Rattle.rc_parse.specs.declared.skimmed.ServiceMark.{ServiceMark}
use Rattle.rc_parse.specs.declared.skimmed.Skimmed.{Skimmed}

abbrev pub mark_of : ServiceDef → ServiceMark
mark_of service = record { name = service.name; file = service.file; line = service.line; overrides = service.overrides }

abbrev pub skim_of : Parsed → Skimmed
skim_of parsed = record {
  services = map mark_of parsed.services;
  imports = parsed.imports;
  diagnostics = parsed.diagnostics;
}
