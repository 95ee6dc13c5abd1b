-- The running actions, and the move from a command to the next.
use Rattle.std.proofs.Common.{◌≡◌, ℕ, zero, suc, ◌+◌, ◌<◌, ◌≤◌, true, IsTrue, nat_lt, List, [], ◌∷◌, length, get_or, drop, map, Some, refl, sym, ap, ◌∙◌, subst, arith}
use Rattle.std.specs.List.{list_all, slice_get}
use Rattle.init_machine.specs.Step.{left_of}
use Rattle.init_machine.specs.declared.action.Action.{Action}
use Rattle.init_machine.specs.declared.action.Command.{Command}
use Rattle.action_queue.specs.Pending.{left_in, are_places, HasMore}
use Rattle.action_queue.specs.Queue.{commands_at, is_well_formed, has_commands, IsNext, without_first}
use Rattle.action_queue.proofs.Fronts.{both_true}

has_some : (commands : List Command) → IsTrue (has_commands commands) → 0 < length commands
has_some [] is = absurd (cc)
has_some (c ∷ commands) is = omega arith

-- the action at a place has a command
pub has_commands_at : (actions : List Action) (at : ℕ) → IsTrue (list_all is_well_formed actions) → at < length actions → 0 < length (commands_at actions at)
has_commands_at [] at well within = absurd (omega arith)
has_commands_at (a ∷ actions) zero well within = has_some a.commands (both_true (has_commands a.commands) _ (both_true (is_well_formed a) _ well).0).0
has_commands_at (a ∷ actions) (suc at) well within = has_commands_at actions at (both_true (is_well_formed a) _ well).1 (omega arith)

pub has_more : (actions : List Action) (places : List ℕ) → IsTrue (list_all is_well_formed actions) → are_places actions places ≡ true → HasMore actions 0 places
has_more actions [] well are = refl
has_more actions (at ∷ places) well are = has_commands_at actions at well (grind arith)

-- what is left behind the front
pub are_places-drop : (actions : List Action) (n : ℕ) (places : List ℕ) → are_places actions places ≡ true → are_places actions (drop n places) ≡ true
are_places-drop actions zero places are = are
are_places-drop actions (suc n) [] are = refl
are_places-drop actions (suc n) (at ∷ places) are = are_places-drop actions n places (both_true (nat_lt at (length actions)) _ are).1

pub left_in-whole : (actions : List Action) (places : List ℕ) → left_in actions 0 places ≡ map (commands_at actions) places
left_in-whole actions [] = refl
left_in-whole actions (at ∷ places) = refl

-- a front that was taken
pub drop_at : {T : Type 0} (xs : List T) (n : ℕ) (d : T) → n < length xs → drop n xs ≡ get_or xs n d ∷ drop (n + 1) xs
drop_at [] n d within = absurd (omega arith)
drop_at (x ∷ xs) zero d within = refl
drop_at (x ∷ xs) (suc n) d within =
    let e : suc n + 1 ≡ suc (n + 1) = omega arith in
    drop_at xs n d (omega arith) ∙ ap (λ m. get_or xs n d ∷ drop m (x ∷ xs)) (sym e)

slice_get_at : {T : Type 0} (xs : List T) (n : ℕ) (d : T) → n < length xs → slice_get xs n ≡ Some (get_or xs n d)
slice_get_at [] n d within = absurd (omega arith)
slice_get_at (x ∷ xs) zero d within = refl
slice_get_at (x ∷ xs) (suc n) d within = slice_get_at xs n d (omega arith)

pub none_behind : {T : Type 0} (xs : List T) (n : ℕ) → length xs ≤ n → drop n xs ≡ []
none_behind [] zero within = refl
none_behind [] (suc n) within = refl
none_behind (x ∷ xs) zero within = absurd (omega arith)
none_behind (x ∷ xs) (suc n) within = none_behind xs n (omega arith)

-- the first command that is left, of commands of which fewer were taken
next_in : (commands : List Command) (taken : ℕ) → taken < length commands
    → (c : Command) × (cs : List Command) × (drop taken commands ≡ c ∷ cs) × (slice_get commands taken ≡ Some c)
next_in [] taken within = absurd (omega arith)
next_in (c ∷ commands) zero within = (c, commands, refl, refl)
next_in (c ∷ commands) (suc taken) within = next_in commands taken (omega arith)

-- the front of the begun actions that run
pub front_at : {T : Type 0} (xs : List T) (n : ℕ) (x : T) → slice_get xs n ≡ Some x → drop n xs ≡ x ∷ drop (n + 1) xs
front_at [] n x is = absurd (cc)
front_at (y ∷ xs) zero x is = let e : y ≡ x = cc in ap (λ z. z ∷ xs) e
front_at (y ∷ xs) (suc n) x is =
    let e : suc n + 1 ≡ suc (n + 1) = omega arith in
    front_at xs n x is ∙ ap (λ m. x ∷ drop m (y ∷ xs)) (sym e)

pub is_place : (actions : List Action) (places : List ℕ) (n at : ℕ) → are_places actions places ≡ true → slice_get places n ≡ Some at → at < length actions
is_place actions [] n at are is = absurd (cc)
is_place actions (p ∷ places) zero at are is = let e : p ≡ at = cc in rw (← e) (grind arith)
is_place actions (p ∷ places) (suc n) at are is = is_place actions places n at (both_true (nat_lt p (length actions)) _ are).1 is

-- the first that runs has a command left
pub more_at : (actions : List Action) (begun : List ℕ) (first taken at : ℕ) → slice_get begun first ≡ Some at → HasMore actions taken (drop first begun)
    → taken < length (commands_at actions at)
more_at actions begun first taken at is more = subst (HasMore actions taken) (front_at begun first at is) more

-- a command is taken
without_front : (commands : List Command) (rest : List (List Command)) (taken : ℕ) → taken < length commands
    → without_first (drop taken commands ∷ rest) ≡ left_of (drop (taken + 1) commands) rest
without_front [] rest taken within = absurd (omega arith)
without_front (c ∷ commands) rest zero within = refl
without_front (c ∷ commands) rest (suc taken) within =
    let e : suc taken + 1 ≡ suc (taken + 1) = omega arith in
    without_front commands rest taken (omega arith) ∙ ap (λ m. left_of (drop m (c ∷ commands)) rest) (sym e)

left_of-some : (commands : List Command) (rest : List (List Command)) (n : ℕ) → n < length commands → left_of (drop n commands) rest ≡ drop n commands ∷ rest
left_of-some [] rest n within = absurd (omega arith)
left_of-some (c ∷ commands) rest zero within = refl
left_of-some (c ∷ commands) rest (suc n) within = left_of-some commands rest n (omega arith)

pub stays : (actions : List Action) (begun : List ℕ) (first taken at : ℕ) → slice_get begun first ≡ Some at → taken + 1 < length (commands_at actions at)
    → left_in actions (taken + 1) (drop first begun) ≡ without_first (left_in actions taken (drop first begun))
stays actions begun first taken at is within =
    let rest = map (commands_at actions) (drop (first + 1) begun) in
    let commands = commands_at actions at in
    subst (λ runs. left_in actions (taken + 1) runs ≡ without_first (left_in actions taken runs)) (sym (front_at begun first at is))
    (sym (without_front commands rest taken (omega arith) ∙ left_of-some commands rest (taken + 1) within))

pub leaves : (actions : List Action) (begun : List ℕ) (first taken at : ℕ) → slice_get begun first ≡ Some at → taken < length (commands_at actions at)
    → length (commands_at actions at) ≤ taken + 1
    → left_in actions 0 (drop (first + 1) begun) ≡ without_first (left_in actions taken (drop first begun))
leaves actions begun first taken at is within last =
    let rest = map (commands_at actions) (drop (first + 1) begun) in
    let commands = commands_at actions at in
    subst (λ runs. left_in actions 0 (drop (first + 1) begun) ≡ without_first (left_in actions taken runs)) (sym (front_at begun first at is))
    (left_in-whole actions (drop (first + 1) begun) ∙ sym (without_front commands rest taken within ∙ ap (λ left. left_of left rest) (none_behind commands (taken + 1) last)))

pub still_more : (actions : List Action) (begun : List ℕ) (first taken at : ℕ) → slice_get begun first ≡ Some at → taken + 1 < length (commands_at actions at)
    → HasMore actions (taken + 1) (drop first begun)
still_more actions begun first taken at is within = subst (HasMore actions (taken + 1)) (sym (front_at begun first at is)) within

-- the place of the first command that is left
pub is_next : (actions : List Action) (begun : List ℕ) (first taken at : ℕ) → slice_get begun first ≡ Some at → taken < length (commands_at actions at)
    → IsNext actions (left_in actions taken (drop first begun)) (record { action = at; command = taken })
is_next actions begun first taken at is within =
    let here = next_in (commands_at actions at) taken within in
    record {
      command = here.0;
      commands = here.1;
      others = map (commands_at actions) (drop (first + 1) begun);
      runs = ap (left_in actions taken) (front_at begun first at is) ∙ ap (λ left. left ∷ map (commands_at actions) (drop (first + 1) begun)) here.2;
      placed = here.3;
    }

-- nothing runs
pub none_runs : (actions : List Action) (begun : List ℕ) (first taken : ℕ) → length begun ≤ first → left_in actions taken (drop first begun) ≡ []
none_runs actions begun first taken past = ap (left_in actions taken) (none_behind begun first past)

pub slice_get-front : (ys xs : List ℕ) (n : ℕ) → ys ≡ xs → n < length xs → slice_get xs n ≡ Some (get_or ys n 0)
slice_get-front ys xs n same within = slice_get_at xs n 0 within ∙ ap (λ zs. Some (get_or zs n 0)) (sym same)

-- some action runs
pub some_runs : (actions : List Action) (begun : List ℕ) (first taken : ℕ) → first < length begun
    → left_in actions taken (drop first begun) ≡ drop taken (commands_at actions (get_or begun first 0)) ∷ map (commands_at actions) (drop (first + 1) begun)
some_runs actions begun first taken within = ap (left_in actions taken) (drop_at begun first 0 within)
