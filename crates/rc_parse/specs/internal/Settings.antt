-- Settings, one after another. The proof leads from it to `Services`.
use Rattle.std.specs.Prelude.{true, List, [], ◌∷◌, ◌++◌, Some}
use Rattle.std.specs.List.{fold}
use Rattle.init_machine.specs.declared.service.ServiceDef.{ServiceDef}
use Rattle.rc_parse.specs.declared.setting.Setting.{Setting}
use Rattle.rc_parse.specs.declared.setting.Setting.TheVariants as setting

-- a service with one more setting
abbrev pub with_setting : ServiceDef → Setting → ServiceDef
with_setting service (setting.Classes classes) = record service { classes = classes }
with_setting service setting.Disabled = record service { disabled = true }
with_setting service setting.Oneshot = record service { oneshot = true }
with_setting service setting.Override = record service { overrides = true }
with_setting service (setting.Critical critical) = record service { critical = critical }
with_setting service (setting.Onrestart command) = record service { onrestart = service.onrestart ++ command ∷ [] }
with_setting service (setting.Period period) = record service { period = period }
with_setting service (setting.Timeout timeout) = record service { timeout = Some timeout }
with_setting service (setting.Kept words) = record service { kept = service.kept ++ words ∷ [] }

-- a service with more settings, in order
abbrev pub with_settings : ServiceDef → List Setting → ServiceDef
with_settings service settings = fold with_setting service settings
