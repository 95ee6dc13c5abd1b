-- The text is that of a path, and its place the path's.
use Rattle.std.proofs.Common.{nat_eq, sym, ap, ◌∙◌}
use Rattle.std.specs.Map.{lookup}
use Rattle.indexmap.specs.IndexMap.{get}
use Rattle.init_machine.specs.FileTree.{is_path, parts_of}
use Rattle.model_fs.specs.internal.Steps.{paths_of, place_of}
use Rattle.model_fs.proofs.Slots.{indexed_noted, indexed_unchanged}
use Rattle.model_fs.proofs.places.Places.note.Goals as goal

pub invariant_of-self : goal.invariant_of-self
invariant_of-self c =
    indexed_noted c.self.inside.names c.self.inside.steps.keys (get nat_eq c.self.inside.noted) (get nat_eq c.insert.new.self) c.slot_of-slot.result
    (record { text = c.in-Ok.text; place = c.args.place }) c.self.invariant (
      ap is_path c.in-Ok.ensures.items ∙ sym c.is_path.ensures ∙ c.if-not-is_path.false,
      ap (λ text. place_of (paths_of c.self.inside.names c.self.inside.steps.keys) (parts_of text)) c.in-Ok.ensures.items
          ∙ ap (λ paths. place_of paths (parts_of c.args.text.now)) c.self.view_is ∙ c.requires,
    )
    c.in-Ok-insert.ensures.updates.0

pub invariant_of-self-2 : goal.invariant_of-self-2
invariant_of-self-2 c =
    indexed_unchanged c.self.inside.names c.self.inside.steps.keys (get nat_eq c.self.inside.noted) (get nat_eq c.insert.new.self) c.self.invariant
    (λ slot. ap (λ entries. lookup (nat_eq slot) entries) c.in-Err.ensures.err)
