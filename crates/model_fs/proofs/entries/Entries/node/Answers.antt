-- What stands at a place is its entry's node.
use Rattle.std.proofs.Common.{◌≡◌, ◌<◌, length, get_or, Some, sym, ap, ◌∙◌, arith}
use Rattle.std.proofs.lemmas.Grind.{common_steps}
use Rattle.std.specs.Option.{option_copied}
use Rattle.model_fs.specs.internal.Entries.{place_in, shown}
use Rattle.model_fs.specs.internal.Rows.{node_at}
use Rattle.model_fs.proofs.Shown.{node_shown, place_within}
use Rattle.model_fs.proofs.Trees.{node_not_found}
use Rattle.model_fs.proofs.entries.Entries.node.Goals as goal

pub returns-in_err-at : goal.returns-in_err-at
returns-in_err-at c path at =
    ap option_copied c.from_residual.ensures ∙ sym (node_not_found c.args.self.now path (at ∙ c.in_err-at.was))

pub returns-in_err-get : goal.returns-in_err-get
returns-in_err-get c path at =
    let tree = shown c.self.inside.places c.self.inside.entries.items in
    let is : place_in tree path ≡ Some c.in_ok-at.field-0 = ap (λ t. place_in t path) c.self.view_is ∙ at ∙ c.in_ok-at.was in
    let within : c.in_ok-at.field-0 < length c.self.inside.entries.items = place_within c.self.inside.places c.self.inside.entries.items path c.in_ok-at.field-0 c.self.invariant.long is in
    let same = c.deref.ensures.value in
    let not = c.in_err-get.ensures.lookup.0 in
    absurd (grind (arith, common_steps, ap length same))

pub returns : goal.returns
returns c path at =
    let tree = shown c.self.inside.places c.self.inside.entries.items in
    let is : place_in tree path ≡ Some c.in_ok-at.field-0 = ap (λ t. place_in t path) c.self.view_is ∙ at ∙ c.in_ok-at.was in
    let within : c.in_ok-at.field-0 < length c.self.inside.entries.items = place_within c.self.inside.places c.self.inside.entries.items path c.in_ok-at.field-0 c.self.invariant.long is in
    c.as_ref.ensures.value
    ∙ ap (λ e. e.node) (c.in_ok-get.ensures.lookup.1 ∙ ap (λ es. get_or es c.in_ok-at.field-0 c.in_ok-get.field-0.now) c.deref.ensures.value)
    ∙ sym (node_shown c.self.inside.places c.self.inside.entries.items path c.in_ok-at.field-0 c.in_ok-get.field-0.now c.self.invariant.long within is)
    ∙ ap (λ t. node_at t path) c.self.view_is
