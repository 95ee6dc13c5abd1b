-- Services (AOSP, init's README, "Services").
use Rattle.std.specs.Prelude.{ℕ, Bool, true, false, not, ◌&&◌, ◌==◌, nat_le, List, [], ◌∷◌, length, codes, Option, Some, None}
use Rattle.std.specs.List.{flat_map, list_any}
use Rattle.init_base.specs.Name.{is_legal_name}
use Rattle.init_base.specs.declared.units.Millis.{Millis}
use Rattle.init_machine.specs.declared.action.Command.{Command}
use Rattle.init_machine.specs.declared.service.Critical.{Critical}
use Rattle.init_machine.specs.declared.service.ServiceDef.{ServiceDef}
use Rattle.rc_parse.specs.Lines.{first_word, arguments}
use Rattle.rc_parse.specs.Values.{millis, last_value}
use Rattle.rc_parse.specs.declared.setting.Setting.{Setting}
use Rattle.rc_parse.specs.declared.setting.Setting.TheVariants as setting

-- a legal property name of at most 246 bytes, so that `init.svc.NAME` is one too
abbrev pub is_service_name : List ℕ → Bool
is_service_name name = is_legal_name name && nat_le (length name) 246

-- `service NAME PATH [ARG ...]`, by the words behind `service`
abbrev pub is_service_header : List (List ℕ) → Bool
is_service_header args =
    nat_le 2 (length args) && is_service_name (first_word args) && not (length (first_word (arguments args)) == 0)

abbrev pub is_disabled : Setting → Bool
is_disabled setting.Disabled = true
is_disabled _ = false

abbrev pub is_oneshot : Setting → Bool
is_oneshot setting.Oneshot = true
is_oneshot _ = false

abbrev pub is_override : Setting → Bool
is_override setting.Override = true
is_override _ = false

abbrev pub classes_in : Setting → List (List (List ℕ))
classes_in (setting.Classes classes) = classes ∷ []
classes_in _ = []

abbrev pub criticals_in : Setting → List (Option Critical)
criticals_in (setting.Critical critical) = critical ∷ []
criticals_in _ = []

abbrev pub periods_in : Setting → List Millis
periods_in (setting.Period period) = period ∷ []
periods_in _ = []

abbrev pub timeouts_in : Setting → List (Option Millis)
timeouts_in (setting.Timeout timeout) = Some timeout ∷ []
timeouts_in _ = []

abbrev pub commands_in : Setting → List Command
commands_in (setting.Onrestart command) = command ∷ []
commands_in _ = []

abbrev pub kept_in : Setting → List (List (List ℕ))
kept_in (setting.Kept words) = words ∷ []
kept_in _ = []

-- The service with the words behind `service`, and its settings in order. Of the settings of one word the last one
-- holds, but those of `onrestart` and of the options without effect are all kept.
abbrev pub service_with : List ℕ → ℕ → List (List ℕ) → List Setting → ServiceDef
service_with file line args settings = record {
  name = first_word args;
  path = first_word (arguments args);
  args = arguments (arguments args);
  file = file;
  line = line;
  classes = last_value (codes "default" ∷ []) (flat_map classes_in settings);
  disabled = list_any is_disabled settings;
  oneshot = list_any is_oneshot settings;
  overrides = list_any is_override settings;
  critical = last_value None (flat_map criticals_in settings);
  period = last_value (millis 5000) (flat_map periods_in settings);
  timeout = last_value None (flat_map timeouts_in settings);
  onrestart = flat_map commands_in settings;
  kept = flat_map kept_in settings;
}
