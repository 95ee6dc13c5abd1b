-- What is kept of a queue's part that changes, when an event was taken.
use Rattle.std.proofs.Common.{◌≡◌, ℕ, ◌+◌, ◌≤◌, Bool, true, false, IsTrue, if◌then◌else◌, List, [], ◌∷◌, ◌++◌, take, map, filter, refl, ap, ◌∙◌, arith, subst}
use Rattle.std.specs.List.{list_any}
use Rattle.init_machine.specs.Taking.{action_line, is_mark}
use Rattle.init_machine.specs.declared.action.Action.{Action}
use Rattle.init_machine.specs.declared.event.Event.{Event}
use Rattle.init_machine.specs.declared.event.Event.TheVariants.{Named, Change, AllProperties, Mark}
use Rattle.init_machine.specs.declared.output.Output.{Output}
use Rattle.outputs.specs.Joins.{Joins}
use Rattle.action_queue.specs.Pending.{IsKept, left_in, are_places, places_from, lines_at, mark_count}
use Rattle.action_queue.specs.declared.pending.Pending.{Pending}
use Rattle.action_queue.proofs.Moves.{has_more, left_in-whole}
use Rattle.action_queue.proofs.Places.{commands-places, lines-places, stands_whole}

-- with begun actions
pub kept_begun : (actions : List Action) (p : Pending) (begun : List ℕ) (changes : Bool) → IsKept actions p → are_places actions begun ≡ true
    → IsKept actions (record { events = p.events; begun = begun; first = 0; command = 0; changes = changes })
kept_begun actions p begun changes kept places =
    record { well_formed = kept.well_formed; places = places; more = has_more actions begun kept.well_formed places; lone = kept.lone }

-- with other events, of which one mark waits at most
pub kept_events : (actions : List Action) (p : Pending) (events : List Event) → IsKept actions p → mark_count events ≤ 1
    → IsKept actions (record { events = events; begun = p.begun; first = p.first; command = p.command; changes = p.changes })
kept_events actions p events kept lone = record { well_formed = kept.well_formed; places = kept.places; more = kept.more; lone = lone }

-- the begun actions run
pub begun_runs : (test : Action → Bool) (actions : List Action) (before begun : List ℕ) → begun ≡ take 0 before ++ places_from 0 test actions
    → left_in actions 0 begun ≡ map (λ action. action.commands) (filter test actions)
begun_runs test actions before begun is =
    ap (left_in actions 0) is ∙ left_in-whole actions (places_from 0 test actions) ∙ commands-places test actions 0 actions (stands_whole actions)

-- the line of the event, and those of the actions
pub begun_lines : {O : Type 0} {adds : O → O → List Output → Type 0} (joins : Joins adds) (test : Action → Bool) (actions : List Action) (before begun : List ℕ) (line : List Output) (outs0 outs1 outs2 : O) → begun ≡ take 0 before ++ places_from 0 test actions
    → adds outs0 outs1 line → adds outs1 outs2 (lines_at actions begun) → adds outs0 outs2 (line ++ map action_line (filter test actions))
begun_lines {O} {adds} joins test actions before begun line outs0 outs1 outs2 is first second =
    joins.both outs0 outs1 outs2 line (map action_line (filter test actions)) first
    (subst (adds outs1 outs2) (ap (lines_at actions) is ∙ lines-places test actions 0 actions (stands_whole actions)) second)

-- an event more
mark_count-push : (events : List Event) (e : Event) → mark_count (events ++ e ∷ []) ≡ mark_count events + (if is_mark e then 1 else 0)
mark_count-push [] e = omega arith
mark_count-push (x ∷ events) e = let more = mark_count-push events e in omega arith

no_mark : (events : List Event) → list_any is_mark events ≡ false → mark_count events ≡ 0
no_mark [] none = refl
no_mark (Named name ∷ events) none = let more = no_mark events none in omega arith
no_mark (Change pair ∷ events) none = let more = no_mark events none in omega arith
no_mark (AllProperties ∷ events) none = let more = no_mark events none in omega arith
no_mark (Mark ∷ events) none = absurd (cc)

pub one_mark : (before events : List Event) (e : Event) → events ≡ before ++ e ∷ [] → mark_count before ≤ 1 → (IsTrue (is_mark e) → list_any is_mark before ≡ false)
    → mark_count events ≤ 1
one_mark before events (Named name) is lone may = rw is (let e = mark_count-push before (Named name) in omega arith)
one_mark before events (Change pair) is lone may = rw is (let e = mark_count-push before (Change pair) in omega arith)
one_mark before events AllProperties is lone may = rw is (let e = mark_count-push before AllProperties in omega arith)
one_mark before events Mark is lone may =
    rw is (let e = mark_count-push before Mark in let none = no_mark before (may refl) in omega arith)

pub still_one : (before events : List Event) → events ≡ before ++ AllProperties ∷ [] → mark_count before ≤ 1 → mark_count events ≤ 1
still_one before events is lone = one_mark before events AllProperties is lone (λ no. absurd (cc))
