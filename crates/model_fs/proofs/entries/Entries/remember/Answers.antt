use Rattle.std.proofs.Common.{sym, ◌∙◌}
use Rattle.init_machine.specs.FileTree.{parts_of}
use Rattle.model_fs.proofs.entries.Entries.remember.Goals as goal

pub note-requires : goal.note-requires
note-requires c = sym (c.requires.parent (parts_of c.in-Some.front.now) c.in-Some.field-0-1.now c.in-Some.ensures.0) ∙ c.in-Some-parent.is
