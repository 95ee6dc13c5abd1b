-- The events of a boot, one after another.
use Rattle.std.proofs.Common.{◌≡◌, ◌++◌, ℕ, Bool, true, List, [], ◌∷◌, append_assoc, ap, ◌∙◌, codes}
use Rattle.action_queue.specs.Queue.{QueueView}
use Rattle.init_machine.specs.declared.event.Event.TheVariants.{Named, Mark}
use Rattle.machine_parts.specs.Schedule.{ScheduleView, booted, with_event}

four_more : {T : Type 0} (xs : List T) (a b c d : T) → (((xs ++ a ∷ []) ++ b ∷ []) ++ c ∷ []) ++ d ∷ [] ≡ xs ++ a ∷ b ∷ c ∷ d ∷ []
four_more xs a b c d = simp append_assoc

abbrev shown : QueueView → Bool → ScheduleView
shown queue had_boot = record { actions = queue.actions; events = queue.events; running = queue.running; changes = queue.changes; had_boot = had_boot }

abbrev marked : ScheduleView → ScheduleView
marked s = record s { events = s.events ++ Mark ∷ []; had_boot = true }

pub boots : (s one two three : ScheduleView) (queue new : QueueView) (had_boot : Bool) (first second last : List ℕ)
    → one ≡ with_event s (Named first) → first ≡ codes "early-init" → two ≡ with_event one (Named second) → second ≡ codes "init" → three ≡ with_event two (Named last)
    → record { actions = queue.actions; events = queue.events; running = queue.running; changes = queue.changes; had_boot = had_boot } ≡ three
    → new ≡ record queue { events = queue.events ++ Mark ∷ [] }
    → record { actions = new.actions; events = new.events; running = new.running; changes = new.changes; had_boot = true } ≡ booted s last
boots s one two three queue new had_boot first second last one_is first_is two_is second_is three_is queued is =
    let all : three ≡ with_event (with_event (with_event s (Named (codes "early-init"))) (Named (codes "init"))) (Named last) =
    three_is ∙ (λ i. with_event (two_is i) (Named last)) ∙ (λ i. with_event (with_event (one_is i) (Named (second_is i))) (Named last))
    ∙ (λ i. with_event (with_event (with_event s (Named (first_is i))) (Named (codes "init"))) (Named last)) in
    ap (λ (q : QueueView). shown q true) is ∙ ap marked (queued ∙ all)
    ∙ ap (λ events. record s { events = events; had_boot = true }) (four_more s.events (Named (codes "early-init")) (Named (codes "init")) (Named last) Mark)
