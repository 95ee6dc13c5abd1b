-- What the lines of a file mean (AOSP, init's README, "Android Init Language"). A line belongs to the last header before
-- it. Each section and each line is kept, or gives the first diagnostic that fits.
use Rattle.std.specs.Prelude.{◌≡◌, ℕ, Bool, ◌==◌, ◌&&◌, nat_lt, if◌then◌else◌, List, [], ◌∷◌, ◌++◌, length, map, Option, Some, None, Result, Ok, Err}
use Rattle.std.specs.List.{flat_map}
use Rattle.init_machine.specs.declared.action.Action.{Action}
use Rattle.init_machine.specs.declared.action.Command.{Command}
use Rattle.init_machine.specs.declared.diagnostic.DiagKind.{DiagKind}
use Rattle.init_machine.specs.declared.diagnostic.DiagKind.TheVariants.{Cut, Orphan, BadService, BadImport}
use Rattle.init_machine.specs.declared.diagnostic.Diagnostic.{Diagnostic}
use Rattle.init_machine.specs.declared.service.ServiceDef.{ServiceDef}
use Rattle.rc_tokens.specs.Lines.{Line, Tokens}
use Rattle.rc_parse.specs.Lines.{Section, arguments, is_on, is_service, sections, lines_before_header}
use Rattle.rc_parse.specs.Readings.{diagnostic, values, diagnosed}
use Rattle.rc_parse.specs.Commands.{command_of}
use Rattle.rc_parse.specs.Options.{setting_of}
use Rattle.rc_parse.specs.Services.{is_service_header, service_with}
use Rattle.rc_parse.specs.Triggers.{triggers_of}
use Rattle.rc_parse.specs.declared.parsed.Import.{Import}
use Rattle.rc_parse.specs.declared.parsed.Parsed.{Parsed}
use Rattle.rc_parse.specs.declared.setting.Setting.{Setting}
use Rattle.rc_parse.specs.declared.trigger.Triggers.{Triggers}

-- the words behind the first one of a section's header
abbrev pub header_args : Section → List (List ℕ)
header_args section = arguments section.header.words

-- actions

abbrev pub command_at : List ℕ → Line → Result Command DiagKind
command_at file line = command_of file line.number line.words

abbrev pub commands_of : List ℕ → List Line → List Command
commands_of file lines = flat_map (λ line. values (command_at file line)) lines

abbrev pub has_command : Action → Bool
has_command action = nat_lt 0 (length action.commands)

-- an action without commands isn't kept
abbrev pub if_has_commands : Action → List Action
if_has_commands action = if has_command action then action ∷ [] else []

abbrev pub action_under : List ℕ → Section → Result Triggers DiagKind → List Action
action_under file section (Ok triggers) =
    if_has_commands (record { file = file; line = section.header.number; event = triggers.event; props = triggers.props; commands = commands_of file section.body })
action_under file section (Err kind) = []

abbrev pub actions_of : List ℕ → Section → List Action
actions_of file section =
    if is_on section.header then action_under file section (triggers_of (header_args section)) else []

-- the lines of a skipped action are silent
abbrev pub action_diagnostics : List ℕ → Section → Result Triggers DiagKind → List Diagnostic
action_diagnostics file section (Ok triggers) =
    flat_map (λ line. diagnosed file line.number (command_at file line)) section.body
action_diagnostics file section (Err kind) = diagnostic file section.header.number kind ∷ []

-- services

abbrev pub setting_at : List ℕ → Line → Result Setting DiagKind
setting_at file line = setting_of file line.number line.words

abbrev pub settings_of : List ℕ → List Line → List Setting
settings_of file lines = flat_map (λ line. values (setting_at file line)) lines

abbrev pub services_of : List ℕ → Section → List ServiceDef
services_of file section =
    if is_service section.header && is_service_header (header_args section)
    then service_with file section.header.number (header_args section) (settings_of file section.body) ∷ [] else []

-- the lines of a skipped service are silent
abbrev pub service_diagnostics : List ℕ → Section → List Diagnostic
service_diagnostics file section =
    if is_service_header (header_args section)
    then flat_map (λ line. diagnosed file line.number (setting_at file line)) section.body
    else diagnostic file section.header.number BadService ∷ []

-- imports

-- an import has one argument
abbrev pub import_with : ℕ → List (List ℕ) → List Import
import_with line (path ∷ []) = record { path = path; line = line } ∷ []
import_with line _ = []

abbrev pub imports_of : Section → List Import
imports_of section =
    if is_on section.header then [] else if is_service section.header then []
    else import_with section.header.number (header_args section)

abbrev pub orphan : List ℕ → ℕ → Diagnostic
orphan file line = diagnostic file line Orphan

-- a diagnostic for each line that belongs to no section
abbrev pub orphan_diagnostics : List ℕ → List Line → List Diagnostic
orphan_diagnostics file lines = map (λ line. orphan file line.number) lines

abbrev pub import_fault : List ℕ → Section → List Diagnostic
import_fault file section =
    if length (header_args section) == 1 then [] else diagnostic file section.header.number BadImport ∷ []

-- the lines behind an import belong to no section
abbrev pub import_diagnostics : List ℕ → Section → List Diagnostic
import_diagnostics file section = import_fault file section ++ orphan_diagnostics file section.body

-- files

abbrev pub diagnostics_of : List ℕ → Section → List Diagnostic
diagnostics_of file section =
    if is_on section.header then action_diagnostics file section (triggers_of (header_args section))
    else if is_service section.header then service_diagnostics file section
    else import_diagnostics file section

-- the line that was left out, where the file ends inside a token
abbrev pub cut : List ℕ → Option ℕ → List Diagnostic
cut file None = []
cut file (Some line) = diagnostic file line Cut ∷ []

-- what a file was read as; its diagnostics stand in the order of their lines
pub record Sections (file : List ℕ) (tokens : Tokens) (parsed : Parsed) : Type 0 where
  pub actions_are : parsed.actions ≡ flat_map (actions_of file) (sections tokens.lines)
  pub services_are : parsed.services ≡ flat_map (services_of file) (sections tokens.lines)
  pub imports_are : parsed.imports ≡ flat_map imports_of (sections tokens.lines)
  pub diagnostics_are : parsed.diagnostics
      ≡ orphan_diagnostics file (lines_before_header tokens.lines)
      ++ flat_map (diagnostics_of file) (sections tokens.lines)
      ++ cut file tokens.dropped
