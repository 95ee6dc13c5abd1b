-- The path's place is the same among the paths and in the tree.
use Rattle.std.proofs.Common.{sym, ap, ◌∙◌}
use Rattle.init_machine.specs.FileTree.{parts_of}
use Rattle.model_fs.specs.internal.Entries.{place_in}
use Rattle.model_fs.proofs.Shown.{place_shown}
use Rattle.model_fs.proofs.entries.Entries.note.Goals as goal

pub note-requires : goal.note-requires
note-requires c =
    let path = parts_of c.args.path.now in
    sym (place_shown c.self.inside.places c.self.inside.entries.items path c.self.invariant.long) ∙ ap (λ t. place_in t path) c.self.view_is ∙ c.requires
