-- The count at the path's place tells whether something stands below.
use Rattle.std.proofs.Common.{◌≡◌, ◌<◌, length, get_or, nat_lt, Some, sym, ap, ◌∙◌, arith}
use Rattle.std.proofs.lemmas.Grind.{common_steps}
use Rattle.std.specs.List.{list_any}
use Rattle.init_machine.specs.FileTree.{is_below}
use Rattle.model_fs.specs.internal.Entries.{place_in, shown}
use Rattle.model_fs.specs.internal.Rows.{tree_of}
use Rattle.model_fs.proofs.Below.{counted_below, none_below}
use Rattle.model_fs.proofs.Kept.{read_entry}
use Rattle.model_fs.proofs.Rows.{below_is}
use Rattle.model_fs.proofs.Shown.{place_shown, place_within}
use Rattle.model_fs.proofs.entries.Entries.has_children.Goals as goal

pub returns-in_default : goal.returns-in_default
returns-in_default c path at =
    none_below (shown c.self.inside.places c.self.inside.entries.items) path c.self.invariant.reached (ap (λ t. place_in t path) c.self.view_is ∙ at ∙ c.in_default.is)
    ∙ below_is c.self.inside.places c.self.inside.entries.items path c.self.invariant
    ∙ ap (λ rows. list_any (λ place. is_below path place.path) (tree_of rows)) c.self.view_is

pub returns-in-Some-get : goal.returns-in-Some-get
returns-in-Some-get c path at =
    let paths = c.self.inside.places in
    let entries = c.self.inside.entries.items in
    let is : place_in (shown paths entries) path ≡ Some c.in-Some.at = ap (λ t. place_in t path) c.self.view_is ∙ at ∙ c.in-Some.is in
    ap (λ e. nat_lt 0 e.children)
    (read_entry paths entries path c.in-Some.at c.in-Some-get.entry.now c.self.invariant (sym (place_shown paths entries path c.self.invariant.long) ∙ is)
    (c.in-Some-get.ensures.lookup.1 ∙ ap (λ es. get_or es c.in-Some.at c.in-Some-get.entry.now) c.deref.ensures.value))
    ∙ counted_below paths entries path c.in-Some.at c.self.invariant is
    ∙ below_is c.self.inside.places c.self.inside.entries.items path c.self.invariant
    ∙ ap (λ rows. list_any (λ place. is_below path place.path) (tree_of rows)) c.self.view_is

pub returns-in-None : goal.returns-in-None
returns-in-None c path at =
    let paths = c.self.inside.places in
    let entries = c.self.inside.entries.items in
    let is : place_in (shown paths entries) path ≡ Some c.in-Some.at = ap (λ t. place_in t path) c.self.view_is ∙ at ∙ c.in-Some.is in
    let within : c.in-Some.at < length entries = place_within paths entries path c.in-Some.at c.self.invariant.long is in
    let same = c.deref.ensures.value in
    let not = c.in-None.ensures.lookup.0 in
    absurd (grind (arith, common_steps, ap length same))
