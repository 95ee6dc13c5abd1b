-- The actions of a queue: they are well formed, and have their index.
use Rattle.std.specs.Prelude.{IsTrue}
use Rattle.std.specs.List.{list_all}
use Rattle.action_queue.specs.Index.{IsIndexOf}
use Rattle.action_queue.specs.Queue.{is_well_formed}
use Rattle.action_queue.specs.declared.triggers.Triggers.TheInside.{Inside}

pub record IsIndexed (t : Inside) : Type 0 where
  pub well_formed : IsTrue (list_all is_well_formed t.actions)
  pub index : IsIndexOf t.actions t.index
