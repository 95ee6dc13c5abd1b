-- The path is found from its parent on.
use Rattle.std.proofs.Common.{◌≡◌, ◌++◌, ◌∷◌, [], None, sym, ap, ◌∙◌}
use Rattle.model_fs.specs.internal.Steps.{paths_of, place_of}
use Rattle.model_fs.proofs.Steps.{no_parent, no_name, none_behind, child_is}
use Rattle.model_fs.proofs.places.Places.child.Goals as goal

pub returns-in_err-parent-clause-place : goal.returns-in_err-parent-clause-place
returns-in_err-parent-clause-place c front above =
    c.from_residual.ensures
    ∙ no_parent c.self.inside.names c.self.inside.steps.keys c.self.invariant.numbered front c.args.part.now
    (ap (λ paths. place_of paths front) c.self.view_is ∙ above ∙ c.in_err-parent.was)
    ∙ ap (λ paths. place_of paths (front ++ c.args.part.now ∷ [])) c.self.view_is

pub returns-in_err-name-clause-place : goal.returns-in_err-name-clause-place
returns-in_err-name-clause-place c front above =
    c.from_residual-in_err-name.ensures
    ∙ no_name c.self.inside.names c.self.inside.steps.keys c.self.invariant.numbered front c.args.part.now (sym c.place.ensures ∙ c.in_err-name.was)
    ∙ ap (λ paths. place_of paths (front ++ c.args.part.now ∷ [])) c.self.view_is

pub returns-clause-place : goal.returns-clause-place
returns-clause-place c front above =
    c.get_index_of.ensures.index
    ∙ child_is c.self.inside.names c.self.inside.steps.keys c.self.invariant.numbered front c.args.part.now c.in_ok-parent.field-0 c.in_ok-name.name
    (ap (λ paths. place_of paths front) c.self.view_is ∙ above ∙ c.in_ok-parent.was) (sym c.place.ensures ∙ c.in_ok-name.was)
    ∙ ap (λ paths. place_of paths (front ++ c.args.part.now ∷ [])) c.self.view_is

pub returns-in_err-parent-clause-behind : goal.returns-in_err-parent-clause-behind
returns-in_err-parent-clause-behind c none front more above =
    let inside : place_of (paths_of c.self.inside.names c.self.inside.steps.keys) front ≡ None = ap (λ paths. place_of paths front) c.self.view_is ∙ above ∙ c.in_err-parent.was in
    ap (λ paths. place_of paths (front ++ c.args.part.now ∷ more)) (sym c.self.view_is)
    ∙ none_behind c.self.inside.names c.self.inside.steps.keys c.self.invariant.numbered front c.args.part.now more
    (sym (no_parent c.self.inside.names c.self.inside.steps.keys c.self.invariant.numbered front c.args.part.now inside))

pub returns-in_err-name-clause-behind : goal.returns-in_err-name-clause-behind
returns-in_err-name-clause-behind c none front more above =
    ap (λ paths. place_of paths (front ++ c.args.part.now ∷ more)) (sym c.self.view_is)
    ∙ none_behind c.self.inside.names c.self.inside.steps.keys c.self.invariant.numbered front c.args.part.now more
    (sym (no_name c.self.inside.names c.self.inside.steps.keys c.self.invariant.numbered front c.args.part.now (sym c.place.ensures ∙ c.in_err-name.was)))

pub returns-clause-behind : goal.returns-clause-behind
returns-clause-behind c none front more above =
    ap (λ paths. place_of paths (front ++ c.args.part.now ∷ more)) (sym c.self.view_is)
    ∙ none_behind c.self.inside.names c.self.inside.steps.keys c.self.invariant.numbered front c.args.part.now more
    (sym (child_is c.self.inside.names c.self.inside.steps.keys c.self.invariant.numbered front c.args.part.now c.in_ok-parent.field-0 c.in_ok-name.name
    (ap (λ paths. place_of paths front) c.self.view_is ∙ above ∙ c.in_ok-parent.was) (sym c.place.ensures ∙ c.in_ok-name.was))
    ∙ sym c.get_index_of.ensures.index ∙ none)
