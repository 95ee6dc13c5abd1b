-- A directory stands in the root's place as before.
use Rattle.std.proofs.Common.{[], Some, set, sym, ap, ◌∙◌, subst}
use Rattle.init_machine.specs.FileTree.{is_directory}
use Rattle.model_fs.specs.internal.Entries.{entry_at, shown, IsKept}
use Rattle.model_fs.specs.internal.Rows.{node_at, put_node}
use Rattle.model_fs.specs.declared.entries.Entry.{Entry}
use Rattle.model_fs.proofs.Kept.{directory_there, kept_same, root_is_directory, read_entry, shown_with_node}
use Rattle.model_fs.proofs.Shown.{place_shown}
use Rattle.model_fs.proofs.Trees.{put_found}
use Rattle.model_fs.proofs.entries.Entries.put_root.Goals as goal

pub invariant_of-self : goal.invariant_of-self
invariant_of-self c =
    let paths = c.self.inside.places in
    let entries = c.self.inside.entries.items in
    let was = root_is_directory paths entries c.self.invariant in
    let directory = c.requires (ap (λ t. is_directory (node_at t [])) (sym c.self.view_is) ∙ c.self.invariant.rooted) in
    subst (λ (e : Entry). IsKept paths (set entries 0 (record { node = Some c.args.node; children = e.children })))
    (sym (read_entry paths entries [] 0 c.index_mut.result.now c.self.invariant c.self.invariant.root c.index_mut.ensures.value))
    (kept_same paths entries [] 0 (Some c.args.node) c.self.invariant c.self.invariant.root
    (directory_there (Some c.args.node) directory ∙ sym (directory_there (entry_at entries 0).node was))
    (directory ∙ sym was))

pub returns : goal.returns
returns c =
    let paths = c.self.inside.places in
    let entries = c.self.inside.entries.items in
    ap (λ (e : Entry). shown paths (set entries 0 (record { node = Some c.args.node; children = e.children })))
    (read_entry paths entries [] 0 c.index_mut.result.now c.self.invariant c.self.invariant.root c.index_mut.ensures.value)
    ∙ shown_with_node paths entries [] 0 (Some c.args.node) c.self.invariant.long c.self.invariant.root
    ∙ sym (put_found (shown paths entries) [] 0 c.args.node (place_shown paths entries [] c.self.invariant.long ∙ c.self.invariant.root))
    ∙ ap (λ tree. put_node tree [] c.args.node) c.self.view_is
