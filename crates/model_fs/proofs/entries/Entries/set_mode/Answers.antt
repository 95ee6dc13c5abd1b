-- The mode changes where the path has a place.
use Rattle.std.proofs.Common.{◌≡◌, Some, sym, ap, ◌∙◌, subst}
use Rattle.init_machine.specs.FileTree.{parts_of}
use Rattle.model_fs.specs.internal.Entries.{place_in, shown, IsKept}
use Rattle.model_fs.specs.internal.Rows.{tree_of, change_mode, node_at}
use Rattle.model_fs.specs.internal.Steps.{place_of}
use Rattle.model_fs.proofs.Kept.{kept_mode, shown_mode}
use Rattle.model_fs.proofs.Rows.{mode_is}
use Rattle.model_fs.proofs.Shown.{place_shown, place_within}
use Rattle.model_fs.proofs.Trees.{node_not_found}
use Rattle.model_fs.proofs.entries.Entries.set_mode.Goals as goal

pub set_entry_mode-requires : goal.set_entry_mode-requires
set_entry_mode-requires c =
    let path = parts_of c.args.path.now in
    place_within c.self.inside.places c.self.inside.entries.items path c.in-Some.at c.self.invariant.long
    (ap (λ t. place_in t path) c.self.view_is ∙ sym c.requires.at ∙ c.in-Some.is)

pub invariant_of-self : goal.invariant_of-self
invariant_of-self c =
    let paths = c.self.inside.places in
    let entries = c.self.inside.entries.items in
    let path = parts_of c.args.path.now in
    let is : place_of paths path ≡ Some c.in-Some.at =
    sym (place_shown paths entries path c.self.invariant.long) ∙ ap (λ t. place_in t path) c.self.view_is ∙ sym c.requires.at ∙ c.in-Some.is in
    subst (IsKept paths) (sym c.set_entry_mode.ensures) (kept_mode paths entries path c.in-Some.at c.args.mode c.self.invariant is)

pub returns-in-Some : goal.returns-in-Some
returns-in-Some c =
    let paths = c.self.inside.places in
    let entries = c.self.inside.entries.items in
    let path = parts_of c.args.path.now in
    let is : place_of paths path ≡ Some c.in-Some.at =
    sym (place_shown paths entries path c.self.invariant.long) ∙ ap (λ t. place_in t path) c.self.view_is ∙ sym c.requires.at ∙ c.in-Some.is in
    ap tree_of (ap (shown paths) c.set_entry_mode.ensures ∙ shown_mode paths entries path c.in-Some.at c.args.mode c.self.invariant is
    ∙ ap (λ t. change_mode t path c.args.mode (node_at t path)) c.self.view_is)
    ∙ mode_is c.args.self.now path c.args.mode

pub returns-in_default : goal.returns-in_default
returns-in_default c =
    let path = parts_of c.args.path.now in
    ap tree_of (sym (ap (change_mode c.args.self.now path c.args.mode) (node_not_found c.args.self.now path (sym c.requires.at ∙ c.in_default.is))))
    ∙ mode_is c.args.self.now path c.args.mode
