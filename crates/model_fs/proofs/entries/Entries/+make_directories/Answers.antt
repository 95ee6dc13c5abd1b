-- The directories above are made first, and the path's own is right below the last of them.
use Rattle.std.proofs.Common.{◌≡◌, ◌++◌, ◌∷◌, [], false, sym, ap, ◌∙◌, rules}
use Rattle.std.proofs.lemmas.Result.{on_ok_weaker}
use Rattle.init_machine.specs.FileTree.{is_directory, is_other, parts_of}
use Rattle.model_fs.specs.internal.Rows.{node_at, with_parent, with_parents}
use Rattle.model_fs.proofs.Above.{none_above, parent_is_directory, parents_by_last, parents_keep}
use Rattle.model_fs.proofs.Trees.{node_found, same_front}
use Rattle.model_fs.proofs.entries.Entries.+make_directories.Goals as goal

pub make_directories-requires : goal.make_directories-requires
make_directories-requires t c =
    let none = none_above c.args.self.now (parts_of c.args.path.now) (parts_of c.in-Some.front.now) c.in-Some.part.now c.in-Some.ensures.0 c.requires.under in
    (search rules, (none.0, none.1))

pub make_directory-requires-clause-directory : goal.make_directory-requires-clause-directory
make_directory-requires-clause-directory t c =
    ap is_directory (sym (node_found c.make_directories.new.self (parts_of c.in-Some.front.now) c.in_ok-parent.parent c.in_ok-parent.ensures.place))
    ∙ c.in_ok-parent.ensures.directory

pub make_directory-requires-clause-other : goal.make_directory-requires-clause-other
make_directory-requires-clause-other t c front above =
    let mid = c.make_directories.new.self in
    let path = parts_of c.args.path.now in
    let same : front ≡ parts_of c.in-Some.front.now = same_front mid front (parts_of c.in-Some.front.now) c.in_ok-parent.parent above c.in_ok-parent.ensures.place in
    let made : mid ≡ with_parents c.args.self.now path =
    c.in_ok-parent.ensures.tree ∙ sym (parents_by_last c.args.self.now path (parts_of c.in-Some.front.now) c.in-Some.part.now c.in-Some.ensures.0) in
    ap (λ p. is_other (node_at mid (p ++ c.in-Some.part.now ∷ []))) same
    ∙ ap (λ p. is_other (node_at mid p)) (sym c.in-Some.ensures.0)
    ∙ ap (λ t. is_other (node_at t path)) made
    ∙ ap is_other (parents_keep c.args.self.now path)
    ∙ c.requires.other

pub returns-clause-tree : goal.returns-clause-tree
returns-clause-tree t c =
    let path = parts_of c.args.path.now in
    let front = parts_of c.in-Some.front.now in
    on_ok_weaker c.make_directory.result (λ made.
    made front c.in_ok-parent.ensures.place
    ∙ ap (with_parent c.make_directories.new.self) (sym c.in-Some.ensures.0)
    ∙ ap (λ tree. with_parent tree path) (c.in_ok-parent.ensures.tree ∙ sym (parents_by_last c.args.self.now path front c.in-Some.part.now c.in-Some.ensures.0)))
    c.make_directory.ensures.tree

pub returns-clause-directory : goal.returns-clause-directory
returns-clause-directory t c =
    let mid = c.make_directories.new.self in
    let path = parts_of c.args.path.now in
    let front = parts_of c.in-Some.front.now in
    let made : mid ≡ with_parents c.args.self.now path =
    c.in_ok-parent.ensures.tree ∙ sym (parents_by_last c.args.self.now path front c.in-Some.part.now c.in-Some.ensures.0) in
    let no_other : is_other (node_at mid path) ≡ false = ap (λ tree. is_other (node_at tree path)) made ∙ ap is_other (parents_keep c.args.self.now path) ∙ c.requires.other in
    on_ok_weaker c.make_directory.result (λ new.
    ap (λ tree. is_directory (node_at tree path)) (new front c.in_ok-parent.ensures.place)
    ∙ ap (λ p. is_directory (node_at (with_parent mid p) path)) (sym c.in-Some.ensures.0)
    ∙ parent_is_directory mid path no_other)
    c.make_directory.ensures.tree
