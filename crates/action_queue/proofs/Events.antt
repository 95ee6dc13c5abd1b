-- One event that is taken, against the events that are taken in all.
use Rattle.std.proofs.Common.{◌≡◌, ℕ, suc, ◌+◌, ◌<◌, ◌≤◌, Bool, true, false, ◌||◌, cond, List, [], ◌∷◌, ◌++◌, length, take, drop, map, filter, refl, sym, ap, ◌∙◌, arith, append_assoc, length-append, subst}
use Rattle.std.proofs.lemmas.List.{append-nil}
use Rattle.std.specs.List.{list_any, flat_map, position_or_len, slice_get}
use Rattle.init_machine.specs.Taking.{Taken, taken_now, taken_from, events_to_take, event_line, action_line, begun_by, is_matched, is_mark, is_all_properties}
use Rattle.init_machine.specs.declared.action.Action.{Action}
use Rattle.init_machine.specs.declared.action.Command.{Command}
use Rattle.init_machine.specs.declared.event.Event.{Event}
use Rattle.init_machine.specs.declared.event.Event.TheVariants.{Named, Change, AllProperties, Mark}
use Rattle.init_machine.specs.declared.output.Output.{Output}
use Rattle.outputs.specs.Joins.{Joins}
use Rattle.action_queue.specs.Pending.{one_begun, one_taken, mark_count}
use Rattle.action_queue.specs.Queue.{QueueView, with_taken}

-- a test of actions, by events
abbrev Triggers : Type 0
Triggers = Event → Action → Bool

-- the commands of the actions that an event begins
abbrev begun : Triggers → List Action → Event → List (List Command)
begun t actions e = map (λ action. action.commands) (filter (t e) actions)

-- no mark waits
unmarked : (es : List Event) → mark_count es ≡ 0 → position_or_len is_mark es ≡ length es
unmarked [] none = refl
unmarked (Named n ∷ es) none = let more = unmarked es (omega arith) in omega arith
unmarked (Change p ∷ es) none = let more = unmarked es (omega arith) in omega arith
unmarked (AllProperties ∷ es) none = let more = unmarked es (omega arith) in omega arith
unmarked (Mark ∷ es) none = absurd (omega arith)

still_unmarked : (es : List Event) → mark_count es ≡ 0 → mark_count (es ++ AllProperties ∷ []) ≡ 0
still_unmarked [] none = refl
still_unmarked (e ∷ es) none = let more = still_unmarked es (omega arith) in omega arith

to_take_unmarked : (t : Triggers) (actions : List Action) (es : List Event) → mark_count es ≡ 0 → events_to_take t actions es ≡ es
to_take_unmarked t actions es none = rw (unmarked es none) (grind arith)

-- the mark in front gives way
mark_in_front : (t : Triggers) (actions : List Action) (rest : List Event) → events_to_take t actions (Mark ∷ rest) ≡ rest ++ AllProperties ∷ []
mark_in_front t actions rest = grind arith

to_take_mark : (t : Triggers) (actions : List Action) (rest : List Event) → mark_count rest ≡ 0
    → events_to_take t actions (Mark ∷ rest) ≡ events_to_take t actions (rest ++ AllProperties ∷ [])
to_take_mark t actions rest none =
    mark_in_front t actions rest ∙ sym (to_take_unmarked t actions (rest ++ AllProperties ∷ []) (still_unmarked rest none))

-- an event in front of which no mark gives way
to_take_matched : (t : Triggers) (actions : List Action) (e : Event) (rest : List Event) → is_mark e ≡ false → is_matched t actions e ≡ true
    → events_to_take t actions (e ∷ rest) ≡ e ∷ rest
to_take_matched t actions e rest other matched = rw (other, matched) (grind arith)

to_take_unmatched : (t : Triggers) (actions : List Action) (e : Event) (rest : List Event) → is_mark e ≡ false → is_matched t actions e ≡ false
    → events_to_take t actions (e ∷ rest) ≡ e ∷ events_to_take t actions rest
to_take_unmatched t actions e rest other unmatched = rw (other, unmatched) (grind arith)

-- what an event begins that triggers no action
none_pass : (p : Action → Bool) (actions : List Action) → list_any p actions ≡ false → filter p actions ≡ []
none_pass p [] unmatched = refl
none_pass p (a ∷ actions) unmatched = grind (arith, none_pass p actions)

-- what an event begins that triggers some action
some_pass : (p : Action → Bool) (actions : List Action) → list_any p actions ≡ true → (x : Action) × (xs : List Action) × (filter p actions ≡ x ∷ xs)
some_pass p [] matched = absurd (cc)
some_pass p (a ∷ actions) matched =
    elim (p a) as (λ b. (b || list_any p actions ≡ true) → (x : Action) × (xs : List Action) × ((cond b (a ∷ filter p actions) (filter p actions)) ≡ x ∷ xs))
    [ true ↦ λ _. (a, filter p actions, refl) | false ↦ λ h. some_pass p actions h ] matched

begun_unmatched : (t : Triggers) (actions : List Action) (e : Event) → is_matched t actions e ≡ false → begun t actions e ≡ []
begun_unmatched t actions e unmatched = ap (map (λ action. action.commands)) (none_pass (t e) actions unmatched)

lines_unmatched : (t : Triggers) (actions : List Action) (e : Event) → is_matched t actions e ≡ false → map action_line (filter (t e) actions) ≡ []
lines_unmatched t actions e unmatched = ap (map action_line) (none_pass (t e) actions unmatched)

begun_matched : (t : Triggers) (actions : List Action) (e : Event) → is_matched t actions e ≡ true
    → (c : List Command) × (cs : List (List Command)) × (begun t actions e ≡ c ∷ cs)
begun_matched t actions e matched =
    let some = some_pass (t e) actions matched in
    (some.0.commands, map (λ action. action.commands) some.1, ap (map (λ action. action.commands)) some.2)

-- what is taken up to a place
abbrev taken_at : Triggers → List Action → List Event → ℕ → Taken
taken_at t actions events place = record {
  lines = flat_map event_line (take (place + 1) events) ++ map action_line (begun_by t actions (slice_get events place));
  events = drop (place + 1) events;
  running = map (λ action. action.commands) (begun_by t actions (slice_get events place));
  changes = list_any is_all_properties (take (place + 1) events);
}

-- one taken first, and then what is taken behind it
abbrev then_taken : Taken → Taken → Taken
then_taken one more = record {
  lines = one.lines ++ more.lines;
  events = more.events;
  running = more.running;
  changes = one.changes || more.changes;
}

pub or_assoc : (a b c : Bool) → ((a || b) || c) ≡ (a || (b || c))
or_assoc true b c = refl
or_assoc false b c = refl

pub or_false : (b : Bool) → (b || false) ≡ b
or_false true = refl
or_false false = refl

-- nothing is taken behind it
at_end : (one : Taken) → then_taken one (record { lines = []; events = one.events; running = one.running; changes = false }) ≡ one
at_end one =
    ap (λ (ls : List Output). let t : Taken = record { lines = ls; events = one.events; running = one.running; changes = one.changes || false } in t) (append-nil one.lines)
    ∙ ap (λ (b : Bool). let t : Taken = record { lines = one.lines; events = one.events; running = one.running; changes = b } in t) (or_false one.changes)

place_matched : (t : Triggers) (actions : List Action) (e : Event) (rest : List Event) → is_matched t actions e ≡ true → position_or_len (is_matched t actions) (e ∷ rest) ≡ 0
place_matched t actions e rest matched = rw matched refl

place_unmatched : (t : Triggers) (actions : List Action) (e : Event) (rest : List Event) → is_matched t actions e ≡ false
    → position_or_len (is_matched t actions) (e ∷ rest) ≡ suc (position_or_len (is_matched t actions) rest)
place_unmatched t actions e rest unmatched = rw unmatched (omega arith)

taken_matched : (t : Triggers) (actions : List Action) (e : Event) (rest : List Event) → is_matched t actions e ≡ true
    → taken_from t actions (e ∷ rest) ≡ one_begun t actions e rest
taken_matched t actions e rest matched =
    let lines = map action_line (filter (t e) actions) in
    ap (taken_at t actions (e ∷ rest)) (place_matched t actions e rest matched)
    ∙ ap (λ (front : List Output). let taken : Taken = record { lines = front ++ lines; events = rest; running = begun t actions e; changes = is_all_properties e || false } in taken) (append-nil (event_line e))
    ∙ ap (λ (b : Bool). let taken : Taken = record { lines = event_line e ++ lines; events = rest; running = begun t actions e; changes = b } in taken) (or_false (is_all_properties e))

taken_suc : (t : Triggers) (actions : List Action) (e : Event) (rest : List Event) (place : ℕ)
    → taken_at t actions (e ∷ rest) (suc place) ≡ then_taken (record { lines = event_line e; events = rest; running = []; changes = is_all_properties e }) (taken_at t actions rest place)
taken_suc t actions e rest place =
    let more : suc place + 1 ≡ suc (place + 1) = omega arith in
    let lines = map action_line (begun_by t actions (slice_get rest place)) in
    let runs = map (λ (action : Action). action.commands) (begun_by t actions (slice_get rest place)) in
    ap (λ (n : ℕ). let taken : Taken = record { lines = flat_map event_line (take n (e ∷ rest)) ++ lines; events = drop n (e ∷ rest); running = runs; changes = list_any is_all_properties (take n (e ∷ rest)) } in taken) more
    ∙ ap (λ (ls : List Output). let taken : Taken = record { lines = ls; events = drop (place + 1) rest; running = runs; changes = is_all_properties e || list_any is_all_properties (take (place + 1) rest) } in taken)
    (append_assoc (event_line e) (flat_map event_line (take (place + 1) rest)) lines)

taken_unmatched : (t : Triggers) (actions : List Action) (e : Event) (rest : List Event) → is_matched t actions e ≡ false
    → taken_from t actions (e ∷ rest) ≡ then_taken (record { lines = event_line e; events = rest; running = []; changes = is_all_properties e }) (taken_from t actions rest)
taken_unmatched t actions e rest unmatched =
    ap (taken_at t actions (e ∷ rest)) (place_unmatched t actions e rest unmatched)
    ∙ taken_suc t actions e rest (position_or_len (is_matched t actions) rest)

now_running : (t : Triggers) (actions : List Action) (running : List (List Command)) (c : List Command) (cs : List (List Command)) (events : List Event) → running ≡ c ∷ cs
    → taken_now t actions running events ≡ record { lines = []; events = events; running = running; changes = false }
unfolding taken_now
now_running t actions running c cs events is = rw is refl

now_idle : (t : Triggers) (actions : List Action) (events : List Event) → taken_now t actions [] events ≡ taken_from t actions (events_to_take t actions events)
unfolding taken_now
now_idle t actions events = refl

-- an event that is no mark, and that triggers some action
matched_step : (t : Triggers) (actions : List Action) (e : Event) (rest : List Event) → is_mark e ≡ false → is_matched t actions e ≡ true
    → taken_now t actions [] (e ∷ rest) ≡ then_taken (one_begun t actions e rest) (taken_now t actions (begun t actions e) rest)
matched_step t actions e rest other matched =
    let first = begun_matched t actions e matched in
    now_idle t actions (e ∷ rest)
    ∙ ap (taken_from t actions) (to_take_matched t actions e rest other matched)
    ∙ taken_matched t actions e rest matched
    ∙ sym (ap (then_taken (one_begun t actions e rest)) (now_running t actions (begun t actions e) first.0 first.1 rest first.2) ∙ at_end (one_begun t actions e rest))

-- an event that is no mark, and that triggers none
unmatched_step : (t : Triggers) (actions : List Action) (e : Event) (rest : List Event) → is_mark e ≡ false → is_matched t actions e ≡ false
    → taken_now t actions [] (e ∷ rest) ≡ then_taken (one_begun t actions e rest) (taken_now t actions (begun t actions e) rest)
unmatched_step t actions e rest other unmatched =
    let lines : event_line e ++ map action_line (filter (t e) actions) ≡ event_line e =
    ap (λ ls. event_line e ++ ls) (lines_unmatched t actions e unmatched) ∙ append-nil (event_line e) in
    now_idle t actions (e ∷ rest)
    ∙ ap (taken_from t actions) (to_take_unmatched t actions e rest other unmatched)
    ∙ taken_unmatched t actions e (events_to_take t actions rest) unmatched
    ∙ ap (λ (more : Taken). then_taken (record { lines = event_line e; events = rest; running = []; changes = is_all_properties e }) more) (sym (now_idle t actions rest))
    ∙ ap (λ (ls : List Output). then_taken (record { lines = ls; events = rest; running = []; changes = is_all_properties e }) (taken_now t actions [] rest)) (sym lines)
    ∙ ap (λ (cs : List (List Command)). then_taken (one_begun t actions e rest) (taken_now t actions cs rest)) (sym (begun_unmatched t actions e unmatched))

other_step : (t : Triggers) (actions : List Action) (e : Event) (rest : List Event) → is_mark e ≡ false
    → taken_now t actions [] (e ∷ rest) ≡ then_taken (one_begun t actions e rest) (taken_now t actions (begun t actions e) rest)
other_step t actions e rest other =
    elim (is_matched t actions e) as (λ b. is_matched t actions e ≡ b → taken_now t actions [] (e ∷ rest) ≡ then_taken (one_begun t actions e rest) (taken_now t actions (begun t actions e) rest))
    [ true ↦ λ matched. matched_step t actions e rest other matched | false ↦ λ unmatched. unmatched_step t actions e rest other unmatched ] refl

-- one event is taken, and then the others
one_step : (t : Triggers) (actions : List Action) (e : Event) (rest : List Event) → mark_count (e ∷ rest) ≤ 1
    → taken_now t actions [] (e ∷ rest) ≡ then_taken (one_taken t actions e rest) (taken_now t actions (one_taken t actions e rest).running (one_taken t actions e rest).events)
one_step t actions (Named name) rest lone = other_step t actions (Named name) rest refl
one_step t actions (Change pair) rest lone = other_step t actions (Change pair) rest refl
one_step t actions AllProperties rest lone = other_step t actions AllProperties rest refl
one_step t actions Mark rest lone =
    now_idle t actions (Mark ∷ rest) ∙ ap (taken_from t actions) (to_take_mark t actions rest (omega arith)) ∙ sym (now_idle t actions (rest ++ AllProperties ∷ []))

-- less is left when one was taken
pub is_less : (t : Triggers) (actions : List Action) (e : Event) (rest : List Event) → mark_count (e ∷ rest) ≤ 1
    → length (one_taken t actions e rest).events + mark_count (one_taken t actions e rest).events < length (e ∷ rest) + mark_count (e ∷ rest)
is_less t actions (Named name) rest lone = omega arith
is_less t actions (Change pair) rest lone = omega arith
is_less t actions AllProperties rest lone = omega arith
is_less t actions Mark rest lone =
    let none : mark_count rest ≡ 0 = omega arith in
    let still = still_unmarked rest none in
    omega (arith, length-append rest (AllProperties ∷ []))

-- what is taken in all
abbrev all_taken : Triggers → QueueView → Taken
all_taken t q = taken_now t q.actions q.running q.events

-- what is left to take decides
pub keeps : {O : Type 0} {adds : O → O → List Output → Type 0} (joins : Joins adds) (t t1 : Triggers) (q q1 q2 : QueueView) (e : Event) (rest : List Event) (outs0 outs1 outs2 : O)
    → t1 ≡ t → q1.running ≡ [] → q1.events ≡ e ∷ rest → mark_count (e ∷ rest) ≤ 1
    → q2 ≡ with_taken q1 (one_taken t1 q1.actions e rest)
    → adds outs1 outs2 (one_taken t1 q1.actions e rest).lines
    → with_taken q1 (all_taken t q1) ≡ with_taken q (all_taken t q)
    → ((o : O) → adds outs1 o (all_taken t q1).lines → adds outs0 o (all_taken t q).lines)
    → (with_taken q2 (all_taken t q2) ≡ with_taken q (all_taken t q))
    × ((o : O) → adds outs2 o (all_taken t q2).lines → adds outs0 o (all_taken t q).lines)
keeps {O} {adds} joins t t1 q q1 q2 e rest outs0 outs1 outs2 same none first lone after lines all all_lines =
    let one = one_taken t q1.actions e rest in
    let more = taken_now t q1.actions one.running one.events in
    let both : all_taken t q1 ≡ then_taken one more =
    ap (λ rs. taken_now t q1.actions rs q1.events) none ∙ ap (taken_now t q1.actions []) first ∙ one_step t q1.actions e rest lone in
    let after' : q2 ≡ with_taken q1 one = after ∙ ap (λ (u : Triggers). with_taken q1 (one_taken u q1.actions e rest)) same in
    let lines' : adds outs1 outs2 one.lines = subst (λ (u : Triggers). adds outs1 outs2 (one_taken u q1.actions e rest).lines) same lines in (
      ap (λ (p : QueueView). with_taken p (all_taken t p)) after'
          ∙ ap (λ (b : Bool). let p : QueueView = record { actions = q1.actions; events = more.events; running = more.running; changes = b } in p) (or_assoc q1.changes one.changes more.changes)
          ∙ ap (with_taken q1) (sym both) ∙ all,
      λ o told. all_lines o (subst (λ (u : Taken). adds outs1 o u.lines) (sym both)
          (joins.both outs1 outs2 o one.lines more.lines lines' (subst (λ (p : QueueView). adds outs2 o (all_taken t p).lines) after' told))),
    )

-- where an action runs, nothing is taken
pub stands : (t : Triggers) (q : QueueView) (c : List Command) (cs : List (List Command)) → q.running ≡ c ∷ cs → (with_taken q (all_taken t q) ≡ q) × ((all_taken t q).lines ≡ [])
stands t q c cs runs =
    let now = now_running t q.actions q.running c cs q.events runs in (
      ap (with_taken q) now ∙ ap (λ (b : Bool). let p : QueueView = record { actions = q.actions; events = q.events; running = q.running; changes = b } in p) (or_false q.changes),
      ap (λ (u : Taken). u.lines) now,
    )

-- where no event waits, nothing is taken
pub ends : (t : Triggers) (q : QueueView) → q.running ≡ [] → q.events ≡ [] → (with_taken q (all_taken t q) ≡ q) × ((all_taken t q).lines ≡ [])
ends t q none no_events =
    let now : all_taken t q ≡ record { lines = []; events = q.events; running = q.running; changes = false } =
    ap (λ rs. taken_now t q.actions rs q.events) none ∙ ap (taken_now t q.actions []) no_events ∙ now_idle t q.actions []
    ∙ ap (λ (es : List Event). let u : Taken = record { lines = []; events = es; running = []; changes = false } in u) (sym no_events)
    ∙ ap (λ (rs : List (List Command)). let u : Taken = record { lines = []; events = q.events; running = rs; changes = false } in u) (sym none) in (
      ap (with_taken q) now ∙ ap (λ (b : Bool). let p : QueueView = record { actions = q.actions; events = q.events; running = q.running; changes = b } in p) (or_false q.changes),
      ap (λ (u : Taken). u.lines) now,
    )
