-- What stands at the path's place is taken away; where it has none, nothing stands there.
use Rattle.std.proofs.Common.{◌≡◌, true, ◌&&◌, [], sym, ap, ◌∙◌, subst, arith}
use Rattle.init_machine.specs.FileTree.{is_directory, parts_of}
use Rattle.model_fs.specs.internal.Entries.{shown, IsKept}
use Rattle.model_fs.specs.internal.Rows.{tree_of, node_at, without_path, is_full}
use Rattle.model_fs.proofs.Children.{no_parts}
use Rattle.model_fs.proofs.Kept.{counts_child}
use Rattle.model_fs.proofs.Rows.{not_full, without_is}
use Rattle.model_fs.proofs.Steps.{is_place}
use Rattle.model_fs.proofs.Trees.{without_not_found}
use Rattle.model_fs.proofs.Views.{child_found, child_taken, viewed}
use Rattle.model_fs.proofs.entries.Entries.remove.Goals as goal

pub returns-then-is_root : goal.returns-then-is_root
returns-then-is_root c =
    let path = parts_of c.args.path.now in
    let root : path ≡ [] = no_parts path (sym c.is_root.ensures ∙ c.if-is_root.true) in
    let directory : is_directory (node_at c.args.self.now []) ≡ true = ap (λ t. is_directory (node_at t [])) (sym c.self.view_is) ∙ c.self.invariant.rooted in
    let full : (is_directory (node_at c.args.self.now path) && is_full c.args.self.now path) ≡ true =
    ap (λ p. is_directory (node_at c.args.self.now p) && is_full c.args.self.now p) root ∙ ap (λ b. b && is_full c.args.self.now []) directory in
    absurd (let e = not_full c.self.invariant c.self.view_is path c.requires.empty in cc)

pub returns-in_default : goal.returns-in_default
returns-in_default c =
    let path = parts_of c.args.path.now in
    ap tree_of (sym (without_not_found c.args.self.now path (sym c.requires.walk.at ∙ c.in_default.is))) ∙ without_is c.args.self.now path

pub returns-in_default-parent : goal.returns-in_default-parent
returns-in_default-parent c = absurd (let e = c.requires.walk.behind (sym c.is_root.ensures ∙ c.if-is_root.false) c.in_default-parent.is in cc)

pub take_entry-requires-clause-at : goal.take_entry-requires-clause-at
take_entry-requires-clause-at c =
    let here = viewed c.self.invariant c.self.view_is (parts_of c.args.path.now) ∙ sym c.requires.walk.at ∙ c.in-Some.is in
    omega (arith, c.self.invariant.long, is_place c.self.inside.places (parts_of c.args.path.now) c.in-Some.at here)

pub take_entry-requires-clause-parent : goal.take_entry-requires-clause-parent
take_entry-requires-clause-parent c =
    let child = child_found c.self.invariant c.self.view_is c.requires.walk (sym c.is_root.ensures ∙ c.if-is_root.false) c.in-Some-parent.is c.in-Some.is in
    let place = is_place c.self.inside.places child.front c.in-Some-parent.parent child.above in
    omega (arith, c.self.invariant.long)

pub take_entry-requires-clause-counted : goal.take_entry-requires-clause-counted
take_entry-requires-clause-counted c =
    let child = child_found c.self.invariant c.self.view_is c.requires.walk (sym c.is_root.ensures ∙ c.if-is_root.false) c.in-Some-parent.is c.in-Some.is in
    counts_child c.self.inside.places c.self.inside.entries.items child.front child.part c.in-Some-parent.parent c.in-Some.at
    c.self.invariant child.above child.below

pub invariant_of-self : goal.invariant_of-self
invariant_of-self c =
    let child = child_found c.self.invariant c.self.view_is c.requires.walk (sym c.is_root.ensures ∙ c.if-is_root.false) c.in-Some-parent.is c.in-Some.is in
    let taken = child_taken c.self.invariant c.self.view_is child (not_full c.self.invariant c.self.view_is (parts_of c.args.path.now) c.requires.empty) in
    subst (IsKept c.self.inside.places) (sym c.take_entry.ensures) taken.kept

pub returns : goal.returns
returns c =
    let child = child_found c.self.invariant c.self.view_is c.requires.walk (sym c.is_root.ensures ∙ c.if-is_root.false) c.in-Some-parent.is c.in-Some.is in
    let taken = child_taken c.self.invariant c.self.view_is child (not_full c.self.invariant c.self.view_is (parts_of c.args.path.now) c.requires.empty) in
    ap tree_of (ap (shown c.self.inside.places) c.take_entry.ensures ∙ taken.shows ∙ ap (λ t. without_path t (parts_of c.args.path.now)) c.self.view_is)
    ∙ without_is c.args.self.now (parts_of c.args.path.now)
