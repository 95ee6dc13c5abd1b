-- What the code adds, section by section. The proof leads from it to `Sections`.
use Rattle.std.specs.Prelude.{ℕ, List, ◌++◌, drop}
use Rattle.std.specs.List.{flat_map, position_or_len}
use Rattle.init_machine.specs.declared.diagnostic.Diagnostic.{Diagnostic}
use Rattle.rc_tokens.specs.Lines.{Line}
use Rattle.rc_parse.specs.Lines.{Section, is_header}
use Rattle.rc_parse.specs.Readings.{diagnosed}
use Rattle.rc_parse.specs.Sections.{command_at, setting_at, commands_of, if_has_commands, actions_of, services_of, imports_of, diagnostics_of}
use Rattle.rc_parse.specs.declared.parsed.Parsed.{Parsed}
use Rattle.rc_parse.specs.declared.trigger.Triggers.{Triggers}

abbrev pub section_of : Line → List Line → Section
section_of header body = record { header = header; body = body }

-- the lines from the first header on
abbrev pub from_header : List Line → List Line
from_header lines = drop (position_or_len is_header lines) lines

-- what is wrong in lines of commands
abbrev pub command_diagnostics : List ℕ → List Line → List Diagnostic
command_diagnostics file lines = flat_map (λ line. diagnosed file line.number (command_at file line)) lines

-- what is wrong in lines of options
abbrev pub setting_diagnostics : List ℕ → List Line → List Diagnostic
setting_diagnostics file lines = flat_map (λ line. diagnosed file line.number (setting_at file line)) lines

abbrev pub with_diagnostics : Parsed → List Diagnostic → Parsed
with_diagnostics parsed more = record parsed { diagnostics = parsed.diagnostics ++ more }

-- with these sections
abbrev pub with_sections : List ℕ → Parsed → List Section → Parsed
with_sections file parsed more = record {
  actions = parsed.actions ++ flat_map (actions_of file) more;
  services = parsed.services ++ flat_map (services_of file) more;
  imports = parsed.imports ++ flat_map imports_of more;
  diagnostics = parsed.diagnostics ++ flat_map (diagnostics_of file) more;
}

-- with one section
abbrev pub with_section : List ℕ → Parsed → Section → Parsed
with_section file parsed section = record {
  actions = parsed.actions ++ actions_of file section;
  services = parsed.services ++ services_of file section;
  imports = parsed.imports ++ imports_of section;
  diagnostics = parsed.diagnostics ++ diagnostics_of file section;
}

-- with the action that has these triggers and lines, if it has a command
abbrev pub with_action : List ℕ → Parsed → ℕ → Triggers → List Line → Parsed
with_action file parsed number triggers lines = record parsed {
  actions = parsed.actions ++ if_has_commands (record { file = file; line = number; event = triggers.event; props = triggers.props; commands = commands_of file lines });
  diagnostics = parsed.diagnostics ++ command_diagnostics file lines;
}
