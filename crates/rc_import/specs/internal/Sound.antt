-- Actions and services that are well-formed, whether or not they stay.
use Rattle.std.specs.Prelude.{◌≡◌, true, List}
use Rattle.std.specs.List.{list_all}
use Rattle.init_machine.specs.WellFormed.{is_well_formed_action, is_well_formed_service}
use Rattle.init_machine.specs.declared.action.Action.{Action}
use Rattle.init_machine.specs.declared.service.ServiceDef.{ServiceDef}
use Rattle.rc_parse.specs.Kept.{kept}
use Rattle.rc_parse.specs.declared.merging.Merger.{Merger}

pub record AreSound (actions : List Action) (services : List ServiceDef) : Type 0 where
  pub each_action : list_all is_well_formed_action actions ≡ true
  pub each_service : list_all is_well_formed_service services ≡ true

-- what stays of well-formed actions and services
pub record IsGathered (merger : Merger) : Type 0 where
  pub read : List ServiceDef
  pub kept_are : merger.services ≡ kept read
  pub sound : AreSound merger.actions read
