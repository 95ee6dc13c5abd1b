-- The lines of what is taken have no sets.
use Rattle.std.proofs.Common.{◌≡◌, ◌+◌, Bool, List, [], ◌∷◌, ◌++◌, take, map, refl, ap, ◌∙◌}
use Rattle.std.proofs.lemmas.Grind.{flat_map-append}
use Rattle.std.specs.List.{flat_map, slice_get, position_or_len}
use Rattle.init_machine.specs.History.{sets_in}
use Rattle.init_machine.specs.Taking.{taken_now, events_to_take, event_line, action_line, begun_by, is_matched}
use Rattle.init_machine.specs.declared.action.Action.{Action}
use Rattle.init_machine.specs.declared.action.Command.{Command}
use Rattle.init_machine.specs.declared.event.Event.{Event}
use Rattle.init_machine.specs.declared.event.Event.TheVariants.{Named, Change, AllProperties, Mark}

none_of_events : (events : List Event) → sets_in (flat_map event_line events) ≡ []
none_of_events [] = refl
none_of_events (Named name ∷ events) = none_of_events events
none_of_events (Change pair ∷ events) = none_of_events events
none_of_events (AllProperties ∷ events) = none_of_events events
none_of_events (Mark ∷ events) = none_of_events events

none_of_actions : (actions : List Action) → sets_in (map action_line actions) ≡ []
none_of_actions [] = refl
none_of_actions (action ∷ actions) = none_of_actions actions

pub none_of_taken : (triggers : Event → Action → Bool) (actions : List Action) (running : List (List Command)) (events : List Event)
    → sets_in (taken_now triggers actions running events).lines ≡ []
unfolding taken_now
none_of_taken triggers actions [] events =
    let all = events_to_take triggers actions events in
    let place = position_or_len (is_matched triggers actions) all in
    flat_map-append _ (flat_map event_line (take (place + 1) all)) (map action_line (begun_by triggers actions (slice_get all place)))
    ∙ ap (λ xs. xs ++ sets_in (map action_line (begun_by triggers actions (slice_get all place)))) (none_of_events (take (place + 1) all))
    ∙ none_of_actions (begun_by triggers actions (slice_get all place))
none_of_taken triggers actions (commands ∷ rest) events = refl
