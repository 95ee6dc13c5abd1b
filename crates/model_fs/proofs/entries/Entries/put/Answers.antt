-- The parents are made, and the node stands right below the last of them.
use Rattle.std.proofs.Common.{◌≡◌, ◌++◌, ◌∷◌, [], Some, sym, ap, ◌∙◌}
use Rattle.init_machine.specs.FileTree.{is_directory, parts_of}
use Rattle.model_fs.specs.internal.Entries.{node_in, place_in}
use Rattle.model_fs.specs.internal.Rows.{tree_of, node_at, put_node, with_parents}
use Rattle.model_fs.proofs.Above.{none_above, parents_by_last, parents_keep}
use Rattle.model_fs.proofs.Rows.{node_is, put_below_is, under_is}
use Rattle.model_fs.proofs.Trees.{node_found, same_front}
use Rattle.model_fs.proofs.entries.Entries.put.Goals as goal

pub make_front-requires-clause-known : goal.make_front-requires-clause-known
make_front-requires-clause-known c = c.requires.walk.parent (parts_of c.in-Some.front.now) c.in-Some.part.now c.in-Some.ensures.0

pub make_front-requires-clause-under : goal.make_front-requires-clause-under
make_front-requires-clause-under c =
    (none_above c.args.self.now (parts_of c.args.path.now) (parts_of c.in-Some.front.now) c.in-Some.part.now c.in-Some.ensures.0 (sym (under_is c.args.self.now (parts_of c.args.path.now)) ∙ c.requires.under)).0

pub make_front-requires-clause-other : goal.make_front-requires-clause-other
make_front-requires-clause-other c =
    (none_above c.args.self.now (parts_of c.args.path.now) (parts_of c.in-Some.front.now) c.in-Some.part.now c.in-Some.ensures.0 (sym (under_is c.args.self.now (parts_of c.args.path.now)) ∙ c.requires.under)).1

pub put_child-requires-clause-directory : goal.put_child-requires-clause-directory
put_child-requires-clause-directory c =
    ap (λ t. is_directory (node_in t c.in_ok-parent.parent)) c.note.ensures
    ∙ ap is_directory (sym (node_found c.make_front.new.self (parts_of c.in-Some.front.now) c.in_ok-parent.parent c.in_ok-parent.ensures.place))
    ∙ c.in_ok-parent.ensures.directory

pub put_child-requires-clause-kept : goal.put_child-requires-clause-kept
put_child-requires-clause-kept c front above directory =
    let mid = c.make_front.new.self in
    let path = parts_of c.args.path.now in
    let above' : place_in mid front ≡ Some c.in_ok-parent.parent = ap (λ t. place_in t front) (sym c.note.ensures) ∙ above in
    let same : front ≡ parts_of c.in-Some.front.now = same_front mid front (parts_of c.in-Some.front.now) c.in_ok-parent.parent above' c.in_ok-parent.ensures.place in
    let made : mid ≡ with_parents c.args.self.now path =
    c.in_ok-parent.ensures.tree ∙ sym (parents_by_last c.args.self.now path (parts_of c.in-Some.front.now) c.in-Some.part.now c.in-Some.ensures.0) in
    c.requires.kept
    (ap is_directory (node_is c.args.self.now path)
    ∙ sym (ap (λ p. is_directory (node_at mid (p ++ c.in-Some.part.now ∷ []))) same
    ∙ ap (λ p. is_directory (node_at mid p)) (sym c.in-Some.ensures.0)
    ∙ ap (λ t. is_directory (node_at t path)) made
    ∙ ap is_directory (parents_keep c.args.self.now path))
    ∙ ap (λ t. is_directory (node_at t (front ++ c.in-Some.part.now ∷ []))) (sym c.note.ensures) ∙ directory)

pub returns : goal.returns
returns c =
    let path = parts_of c.args.path.now in
    let front = parts_of c.in-Some.front.now in
    ap tree_of (c.in_ok-put_child.ensures.tree front (ap (λ t. place_in t front) c.note.ensures ∙ c.in_ok-parent.ensures.place)
    ∙ ap (λ p. put_node c.note.new.self p c.args.node) (sym c.in-Some.ensures.0)
    ∙ ap (λ t. put_node t path c.args.node) (c.note.ensures ∙ c.in_ok-parent.ensures.tree ∙ sym (parents_by_last c.args.self.now path front c.in-Some.part.now c.in-Some.ensures.0)))
    ∙ put_below_is c.args.self.now path c.args.node

pub put_root-requires : goal.put_root-requires
put_root-requires c directory =
    let path = parts_of c.args.path.now in
    c.requires.kept (ap is_directory (node_is c.args.self.now path) ∙ ap (λ p. is_directory (node_at c.args.self.now p)) c.in_default.ensures ∙ directory)

pub returns-in_default : goal.returns-in_default
returns-in_default c =
    let path = parts_of c.args.path.now in
    ap tree_of (c.put_root.ensures ∙ ap (λ p. put_node (with_parents c.args.self.now p) p c.args.node) (sym c.in_default.ensures))
    ∙ put_below_is c.args.self.now path c.args.node
