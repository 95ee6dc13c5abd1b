-- What the code adds, section by section, where actions and services aren't kept.
use Rattle.std.specs.Prelude.{ℕ, Bool, if◌then◌else◌, List, ◌++◌, map, Result, Ok, Err}
use Rattle.std.specs.List.{flat_map}
use Rattle.init_machine.specs.declared.diagnostic.DiagKind.{DiagKind}
use Rattle.init_machine.specs.declared.diagnostic.DiagKind.TheVariants.{BadOption}
use Rattle.init_machine.specs.declared.diagnostic.Diagnostic.{Diagnostic}
use Rattle.init_machine.specs.declared.word.Word.{Word}
use Rattle.rc_parse.specs.Commands.{command_word}
use Rattle.rc_parse.specs.Lines.{Section}
use Rattle.rc_parse.specs.Options.{is_waiting_word}
use Rattle.rc_parse.specs.Sections.{services_of, imports_of, diagnostics_of}
use Rattle.rc_parse.specs.Services.{is_override}
use Rattle.rc_parse.specs.Skims.{mark_of}
use Rattle.rc_parse.specs.declared.setting.Setting.{Setting}
use Rattle.rc_parse.specs.declared.skimmed.Skimmed.{Skimmed}

-- whether what is read is `override`
abbrev pub overriding : Result Setting DiagKind → Result Bool DiagKind
overriding (Ok setting) = Ok (is_override setting)
overriding (Err kind) = Err kind

-- whether there is a value
abbrev pub settled : {A : Type 0} → Result A DiagKind → Result (Unit {0}) DiagKind
settled (Ok value) = Ok tt
settled (Err kind) = Err kind

-- the word of the command behind `onrestart`, with so many arguments
abbrev pub onrestart_word : List ℕ → ℕ → Result Word DiagKind
onrestart_word text count = if is_waiting_word text then Err BadOption else command_word text count

abbrev pub with_found : Skimmed → List Diagnostic → Skimmed
with_found skimmed more = record skimmed { diagnostics = skimmed.diagnostics ++ more }

-- with one section
abbrev pub with_skim : List ℕ → Skimmed → Section → Skimmed
with_skim file skimmed section = record {
  services = skimmed.services ++ map mark_of (services_of file section);
  imports = skimmed.imports ++ imports_of section;
  diagnostics = skimmed.diagnostics ++ diagnostics_of file section;
}

-- with these sections
abbrev pub with_skims : List ℕ → Skimmed → List Section → Skimmed
with_skims file skimmed more = record {
  services = skimmed.services ++ map mark_of (flat_map (services_of file) more);
  imports = skimmed.imports ++ flat_map imports_of more;
  diagnostics = skimmed.diagnostics ++ flat_map (diagnostics_of file) more;
}
