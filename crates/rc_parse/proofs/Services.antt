-- The settings of a service, one after another.
use Rattle.std.proofs.Common.{◌≡◌, ℕ, true, false, ◌||◌, List, [], ◌∷◌, ◌++◌, refl, ap, sym, ◌∙◌}
use Rattle.std.specs.List.{flat_map, list_any}
use Rattle.std.proofs.Math.Bool.{or-true, or-false}
use Rattle.std.proofs.lemmas.Bool.{and_from, cond-true, cond-false}
use Rattle.std.proofs.lemmas.List.{append-nil, append_assoc}
use Rattle.init_machine.specs.declared.action.Action.{Action}
use Rattle.init_machine.specs.declared.diagnostic.Diagnostic.{Diagnostic}
use Rattle.init_machine.specs.declared.service.ServiceDef.{ServiceDef}
use Rattle.rc_tokens.specs.Lines.{Line}
use Rattle.rc_parse.specs.internal.Adding.{section_of, setting_diagnostics, with_section}
use Rattle.rc_parse.specs.Lines.{arguments, is_on, is_service}
use Rattle.rc_parse.specs.Sections.{actions_of, services_of, imports_of, diagnostics_of, settings_of}
use Rattle.rc_parse.specs.Services.{is_service_header, service_with, is_disabled, is_oneshot, is_override, classes_in, criticals_in, periods_in, timeouts_in, commands_in, kept_in}
use Rattle.rc_parse.specs.internal.Settings.{with_setting, with_settings}
use Rattle.rc_parse.specs.Values.{last_value}
use Rattle.rc_parse.specs.declared.parsed.Import.{Import}
use Rattle.rc_parse.specs.declared.parsed.Parsed.{Parsed}
use Rattle.rc_parse.specs.declared.setting.Setting.{Setting}
use Rattle.rc_parse.specs.declared.setting.Setting.TheVariants as setting

-- a service with all of these settings at once
abbrev with_all : ServiceDef → List Setting → ServiceDef
with_all service settings = record service {
  classes = last_value service.classes (flat_map classes_in settings);
  disabled = service.disabled || list_any is_disabled settings;
  oneshot = service.oneshot || list_any is_oneshot settings;
  overrides = service.overrides || list_any is_override settings;
  critical = last_value service.critical (flat_map criticals_in settings);
  period = last_value service.period (flat_map periods_in settings);
  timeout = last_value service.timeout (flat_map timeouts_in settings);
  onrestart = service.onrestart ++ flat_map commands_in settings;
  kept = service.kept ++ flat_map kept_in settings;
}

with_no_more : (service : ServiceDef) → service ≡ with_all service []
with_no_more service = sym (simp (or-false, append-nil))

with_one_more : (service : ServiceDef) (one : Setting) (settings : List Setting)
    → with_all (with_setting service one) settings ≡ with_all service (one ∷ settings)
with_one_more service (setting.Classes classes) settings = refl
with_one_more service setting.Disabled settings = simp or-true
with_one_more service setting.Oneshot settings = simp or-true
with_one_more service setting.Override settings = simp or-true
with_one_more service (setting.Critical critical) settings = refl
with_one_more service (setting.Onrestart command) settings = simp append_assoc
with_one_more service (setting.Period period) settings = refl
with_one_more service (setting.Timeout timeout) settings = refl
with_one_more service (setting.Kept words) settings = simp append_assoc

all_settings : (service : ServiceDef) (settings : List Setting) → with_settings service settings ≡ with_all service settings
all_settings service [] = with_no_more service
all_settings service (one ∷ settings) = all_settings (with_setting service one) settings ∙ with_one_more service one settings

-- one setting after another gives the service with all of them
pub settings_make : (file : List ℕ) (line : ℕ) (args : List (List ℕ)) (settings : List Setting)
    → with_settings (service_with file line args []) settings ≡ service_with file line args settings
settings_make file line args settings = all_settings (service_with file line args []) settings

-- a section that gives a service
pub service_added : (file : List ℕ) (old : Parsed) (header : Line) (body : List Line) (fresh made : ServiceDef)
    (services : List ServiceDef) (diagnostics : List Diagnostic)
    → is_on header ≡ false → is_service header ≡ true → is_service_header (arguments header.words) ≡ true
    → fresh ≡ service_with file header.number (arguments header.words) []
    → made ≡ with_settings fresh (settings_of file body) → services ≡ old.services ++ made ∷ []
    → diagnostics ≡ old.diagnostics ++ setting_diagnostics file body
    → record { actions = old.actions; services = services; imports = old.imports; diagnostics = diagnostics }
    ≡ with_section file old (section_of header body)
service_added file old header body fresh made services diagnostics other one good fresh_is made_is services_are diagnostics_are =
    let section = section_of header body in
    let settings : List Setting = settings_of file body in
    let no_actions : actions_of file section ≡ [] = cond-false _ _ _ other in
    let no_imports : imports_of section ≡ [] = cond-false _ _ _ other ∙ cond-true _ _ _ one in
    let the_service : services_of file section ≡ service_with file header.number (arguments header.words) settings ∷ [] =
    cond-true _ _ _ (and_from (is_service header) (is_service_header (arguments header.words)) one good) in
    let the_diagnostics : diagnostics_of file section ≡ setting_diagnostics file body =
    cond-false _ _ _ other ∙ cond-true _ _ _ one ∙ cond-true _ _ _ good in
    let whole : made ≡ service_with file header.number (arguments header.words) settings =
    made_is ∙ ap (λ (service : ServiceDef). with_settings service settings) fresh_is
    ∙ settings_make file header.number (arguments header.words) settings in
    let actions_are : old.actions ++ actions_of file section ≡ old.actions =
    ap (λ (more : List Action). old.actions ++ more) no_actions ∙ append-nil old.actions in
    let imports_are : old.imports ++ imports_of section ≡ old.imports =
    ap (λ (more : List Import). old.imports ++ more) no_imports ∙ append-nil old.imports in
    let all_services : services ≡ old.services ++ services_of file section =
    services_are ∙ ap (λ (service : ServiceDef). old.services ++ service ∷ []) whole
    ∙ sym (ap (λ (more : List ServiceDef). old.services ++ more) the_service) in
    let all_diagnostics : diagnostics ≡ old.diagnostics ++ diagnostics_of file section =
    diagnostics_are ∙ sym (ap (λ (more : List Diagnostic). old.diagnostics ++ more) the_diagnostics) in
    λ i. record {
      actions = sym actions_are i;
      services = all_services i;
      imports = sym imports_are i;
      diagnostics = all_diagnostics i;
    }
