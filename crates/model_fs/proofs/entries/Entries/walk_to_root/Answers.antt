-- The root has the first place, and nothing above it.
use Rattle.std.proofs.Common.{[], sym, ap, ◌∙◌}
use Rattle.init_machine.specs.FileTree.{is_root, is_under_other}
use Rattle.model_fs.specs.internal.Entries.{place_in}
use Rattle.model_fs.specs.internal.Rows.{tree_of}
use Rattle.model_fs.proofs.Shown.{place_shown}
use Rattle.model_fs.proofs.Steps.{some_last}
use Rattle.model_fs.proofs.entries.Entries.walk_to_root.Goals as goal

pub returns : goal.returns
returns c = (
  sym c.is_path.ensures ∙ c.if-not-is_path.false,
  record {
    at =
        sym c.self.invariant.root
        ∙ sym (place_shown c.self.inside.places c.self.inside.entries.items [] c.self.invariant.long)
        ∙ ap (λ tree. place_in tree []) c.self.view_is
        ∙ ap (place_in c.args.self.now) (sym c.requires);
    parent = λ front last is. absurd (some_last front last (sym c.requires ∙ is));
    behind = λ root none. absurd (let e = ap is_root c.requires in cc);
    under = sym (ap (is_under_other (tree_of c.args.self.now)) c.requires);
  },
)
