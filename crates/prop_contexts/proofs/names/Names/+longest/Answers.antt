-- The front that may have a line, and else those that are shorter.
use Rattle.std.proofs.Common.{ℕ, Bor, List, filter, take, sym, ap, ◌∙◌}
use Rattle.std.specs.Option.{option_map}
use Rattle.init_machine.specs.Policy.{is_prefix_for, longest}
use Rattle.prop_contexts.proofs.Fronts.{found_here, left_is, none_left, nothing_known, one_less, walked_first}
use Rattle.prop_contexts.proofs.names.Names.+longest.Goals as goal

pub returns-in_err-place : goal.returns-in_err-place
returns-in_err-place t c =
    rw c.from_residual.ensures
    (nothing_known c.args.walked.now.name.now c.args.walked.now.digest c.args.walked.now.rest.now c.args.walked.now.front c.args.self.now c.requires c.in_err-place.was)

pub returns-in-Some : goal.returns-in-Some
returns-in-Some t c =
    let name = c.args.walked.now.name.now in
    found_here name (take c.args.walked.now.front.len name) c.args.self.now c.in-Some.context.now
    (walked_first name c.args.walked.now.digest c.args.walked.now.rest.now c.args.walked.now.front c.args.self.now c.requires) c.in-Some.ensures

pub returns-in_err-shorter : goal.returns-in_err-shorter
returns-in_err-shorter t c =
    let name = c.args.walked.now.name.now in
    rw c.from_residual-in_err-shorter.ensures
    (none_left name (take c.args.walked.now.front.len name) c.args.self.now
    (walked_first name c.args.walked.now.digest c.args.walked.now.rest.now c.args.walked.now.front c.args.self.now c.requires) (sym c.in_default.ensures) c.in_err-shorter.ensures.cases)

pub returns : goal.returns
returns t c =
    let name = c.args.walked.now.name.now in
    let shorter = c.in_ok-shorter.shorter.now in
    c.longest.ensures
    ∙ ap (λ (bytes : Bor (List ℕ)). option_map (λ line. line.context) (longest (filter (is_prefix_for bytes.now) c.args.self.now))) c.walk.ensures.name
    ∙ ap (option_map (λ line. line.context)) (left_is name shorter c.args.self.now
    (one_less name (take c.args.walked.now.front.len name) shorter c.in_ok-shorter.field-0-0.now c.args.self.now
    (walked_first name c.args.walked.now.digest c.args.walked.now.rest.now c.args.walked.now.front c.args.self.now c.requires) (sym c.in_default.ensures) c.in_ok-shorter.ensures.cases.0))
