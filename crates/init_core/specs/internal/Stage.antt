-- The last stage of a boot, by the properties (`last_stage` of init_machine's `Step`).
use Rattle.std.specs.Prelude.{ℕ, List, codes, if◌then◌else◌}
use Rattle.std.specs.Str.{bytes_eq}
use Rattle.init_machine.specs.Matches.{or_empty}
use Rattle.init_machine.specs.Props.{Props, value_in}

abbrev pub stage_in : Props → List ℕ
stage_in props =
    if bytes_eq (or_empty (value_in props (codes "ro.bootmode"))) (codes "charger") then codes "charger" else codes "late-init"
