-- The times of services by their marks: at first, when the marks at one place change, and those that have come.
use Rattle.std.proofs.Common.{◌≡◌, ◌≢◌, ℕ, zero, suc, ◌+◌, ◌<◌, Bool, true, false, ◌&&◌, nat_le, List, [], ◌∷◌, map, set, get_or, length, replicate, slice_get, Option, Some, None, Result, Ok, IfOk, is_some, refl, sym, ap, ◌∙◌, subst, arith, if◌then◌else◌}
use Rattle.std.proofs.lemmas.List.{get_or-set_other, get_or-set_same, length-map}
use Rattle.std.proofs.lemmas.Grind.{common_steps}
use Rattle.std.proofs.lemmas.List.FromFn.{length-enumerate_from}
use Rattle.std.specs.List.{cons_option, enumerate_from, filter_map}
use Rattle.std.specs.Option.{option_map}
use Rattle.init_base.specs.declared.units.Millis.{Millis}
use Rattle.init_machine.specs.Marks.{first_marks}
use Rattle.init_machine.specs.Step.{due_time, has_timed_out, is_due, is_timed_out}
use Rattle.init_machine.specs.declared.service.Marks.{Marks}
use Rattle.init_machine.specs.declared.service.ServiceDef.{ServiceDef}
use Rattle.restart_policy.specs.Times.{has_come, place_if_come, places_due}
use Rattle.services.specs.Services.{ServicesView, places_now, places_due as places_due_of, places_timed_out}
use Rattle.services.specs.Times.{kept_restart, kept_timeout, restart_time, time_at, times_of, timeout_time, within_reach}

-- what a result that is Ok is made of
pub made : {A E : Type 0} (r : Result A E) (x v : A) → r ≡ Ok x → IfOk r (λ y. y ≡ v) → x ≡ v
made r x v is h = subst (λ q. IfOk q (λ y. y ≡ v)) is h

-- as many values as there are others
pub same_each : {A B : Type 0} (x : B) (others : List A) → replicate (length others) x ≡ map (λ other. x) others
same_each x [] = refl
same_each x (other ∷ others) = ap (λ rest. x ∷ rest) (same_each x others)

-- as many times as services
pub many_times : (time : ServiceDef → Marks → Option ℕ) (defs : List ServiceDef) (marks : List Marks) → length (times_of time defs marks) ≡ length defs
many_times time defs marks = length-map (enumerate_from 0 defs) (time_at time marks) ∙ length-enumerate_from 0 defs

-- a declared service has a time, be it none
pub has_time : (time : ServiceDef → Marks → Option ℕ) (defs : List ServiceDef) (marks : List Marks) (times : List (Option ℕ)) (at : ℕ)
    → times ≡ times_of time defs marks → at < length defs → at < length times
has_time time defs marks times at kept within = subst (λ n. at < n) (sym (ap length kept ∙ many_times time defs marks)) within

within_from_slice_get : {X : Type 0} (xs : List X) (i : ℕ) (x : X) → slice_get xs i ≡ Some x → i < length xs
within_from_slice_get [] i x there = cc
within_from_slice_get (y ∷ xs) zero x there = omega arith
within_from_slice_get (y ∷ xs) (suc i) x there = let rest = within_from_slice_get xs i x there in omega arith

-- what a place outside the declared ones is marked by
abbrev unmarked : Marks
unmarked = first_marks false false

-- the times from a place on, where a function tells the marks
abbrev times_from : (ServiceDef → Marks → Option ℕ) → (ℕ → Marks) → ℕ → List ServiceDef → List (Option ℕ)
times_from time look i defs = map (λ placed. time placed.1 (look placed.0)) (enumerate_from i defs)

module _ (time : ServiceDef → Marks → Option ℕ) where
  same_times : (look after : ℕ → Marks) (i : ℕ) (defs : List ServiceDef) → ((n : ℕ) → i < n + 1 → after n ≡ look n) → times_from time after i defs ≡ times_from time look i defs
  same_times look after i [] same = refl
  same_times look after i (service ∷ defs) same =
      let head : time service (after i) ≡ time service (look i) = ap (time service) (same i (omega arith)) in
      let tail = same_times look after (i + 1) defs (λ n late. same n (omega arith)) in
      λ j. head j ∷ tail j

  set_from : (look after : ℕ → Marks) (i k : ℕ) (defs : List ServiceDef) (service : ServiceDef) → slice_get defs k ≡ Some service
      → ((n : ℕ) → n ≢ k + i → after n ≡ look n) → times_from time after i defs ≡ set (times_from time look i defs) k (time service (after (k + i)))
  set_from look after i k [] service there same = cc
  set_from look after i zero (first ∷ defs) service there same =
      let is_it : first ≡ service = cc in
      let here : i ≡ 0 + i = omega arith in
      let tail = same_times look after (i + 1) defs (λ n late. same n (omega arith)) in
      λ j. time (is_it j) (after (here j)) ∷ tail j
  set_from look after i (suc k) (first ∷ defs) service there same =
      let head : time first (after i) ≡ time first (look i) = ap (time first) (same i (omega arith)) in
      let further : k + (i + 1) ≡ suc k + i = omega arith in
      let tail = set_from look after (i + 1) k defs service there (λ n differs. same n (λ e. differs (e ∙ sym further))) in
      λ j. head j ∷ (tail ∙ ap (λ n. set (times_from time look (i + 1) defs) k (time service (after n))) further) j

  -- where the marks at one place change, the time at that place alone does
  pub kept_behind : (defs : List ServiceDef) (marks : List Marks) (at : ℕ) (old m : Marks) (service : ServiceDef) (times after : List (Option ℕ)) (kept : Option ℕ)
      → slice_get defs at ≡ Some service → slice_get marks at ≡ Some old → times ≡ times_of time defs marks → kept ≡ time service m → after ≡ set times at kept
      → after ≡ times_of time defs (set marks at m)
  kept_behind defs marks at old m service times after kept there marked was is_kept is_set =
      let end : at + 0 ≡ at = omega arith in
      let look : ℕ → Marks = λ n. get_or marks n unmarked in
      let later : ℕ → Marks = λ n. get_or (set marks at m) n unmarked in
      let same : (n : ℕ) → n ≢ at + 0 → later n ≡ look n = λ n differs. get_or-set_other marks at n m unmarked (λ e. differs (e ∙ sym end)) in
      let its : later (at + 0) ≡ m = ap later end ∙ get_or-set_same marks at m unmarked (within_from_slice_get marks at old marked) in
      is_set ∙ (λ j. set (was j) at (is_kept j))
      ∙ sym (set_from look later 0 at defs service there same ∙ ap (λ x. set (times_of time defs marks) at (time service x)) its)

-- the marks of declared services
abbrev marks_first : List ServiceDef → List Marks
marks_first defs = map (λ service. first_marks service.disabled service.oneshot) defs

module _ (time : ServiceDef → Marks → Option ℕ) (none : (service : ServiceDef) (disabled oneshot : Bool) → time service (first_marks disabled oneshot) ≡ None) where
  none_first : (service : ServiceDef) (declared : List ServiceDef) (n : ℕ) → time service (get_or (marks_first declared) n unmarked) ≡ None
  none_first service [] n = none service false false
  none_first service (d ∷ declared) zero = none service d.disabled d.oneshot
  none_first service (d ∷ declared) (suc n) = none_first service declared n

  none_from : (look : ℕ → Marks) (i : ℕ) (defs : List ServiceDef) → ((service : ServiceDef) (n : ℕ) → time service (look n) ≡ None)
      → replicate (length defs) None ≡ times_from time look i defs
  none_from look i [] all = refl
  none_from look i (service ∷ defs) all = λ j. sym (all service i) j ∷ none_from look (i + 1) defs all j

  none_kept : (defs : List ServiceDef) → replicate (length defs) None ≡ times_of time defs (marks_first defs)
  none_kept defs = none_from (λ n. get_or (marks_first defs) n unmarked) 0 defs (λ service n. none_first service defs n)

-- no service that was just declared restarts or is timed out
pub no_restarts : (defs : List ServiceDef) → replicate (length defs) None ≡ times_of kept_restart defs (marks_first defs)
no_restarts = none_kept kept_restart (λ service disabled oneshot. refl)

pub no_timeouts : (defs : List ServiceDef) → replicate (length defs) None ≡ times_of kept_timeout defs (marks_first defs)
no_timeouts = none_kept kept_timeout (λ service disabled oneshot. refl)

-- the places whose times have come are those of the services that pass
module _ (now : ℕ) (time : ServiceDef → Marks → Option ℕ) (passes : ServiceDef → Marks → Bool) (same : (service : ServiceDef) (m : Marks) → has_come now (time service m) ≡ passes service m) where
  come_from : (look : ℕ → Marks) (i : ℕ) (defs : List ServiceDef)
      → filter_map (place_if_come now) (enumerate_from i (times_from time look i defs))
      ≡ filter_map (λ placed. if passes placed.1 (look placed.0) then Some placed.0 else None) (enumerate_from i defs)
  come_from look i [] = refl
  come_from look i (service ∷ defs) = λ j. cons_option (if same service (look i) j then Some i else None) (come_from look (i + 1) defs j)

  places_come : (s : ServicesView) → places_due now (times_of time s.defs s.marks) ≡ places_now passes s
  places_come s = come_from (λ n. get_or s.marks n unmarked) 0 s.defs

too_late : (time now : ℕ) → nat_le time 18446744073709551615 ≡ false → now < 18446744073709551616 → nat_le time now ≡ false
too_late time now late reached = grind (arith, common_steps)

-- a time that no clock reaches has not come
come_if_reached : (now : ℕ) (time : Option ℕ) → now < 18446744073709551616 → has_come now (within_reach time) ≡ has_come now time
come_if_reached now None reached = refl
come_if_reached now (Some time) reached = by (nat_le time 18446744073709551615) refl
  where
    by : (b : Bool) → nat_le time 18446744073709551615 ≡ b → has_come now (if b then Some time else None) ≡ nat_le time now
    by true is = refl
    by false is = sym (too_late time now is reached)

due_when_come : (now : ℕ) (service : ServiceDef) (m : Marks) → has_come now (restart_time service m) ≡ is_due now service m
due_when_come now service m = by m.restarting
  where
    by : (b : Bool) → has_come now (if b then Some (due_time service m) else None) ≡ (b && nat_le (due_time service m) now)
    by true = refl
    by false = refl

timed_out_when_come : (now : ℕ) (service : ServiceDef) (m : Marks) → has_come now (timeout_time service m) ≡ has_timed_out now service m
timed_out_when_come now service m = by (is_some m.pid) service.timeout
  where
    by : (b : Bool) (timeout : Option Millis) → has_come now (if b then option_map (λ timeout. m.started.0 + timeout.0) timeout else None) ≡ (b && is_timed_out now timeout m.started.0)
    by true None = refl
    by true (Some timeout) = refl
    by false timeout = refl

pub due_places : (now : ℕ) (s : ServicesView) → now < 18446744073709551616 → places_due now (times_of kept_restart s.defs s.marks) ≡ places_due_of s now
due_places now s reached =
    places_come now kept_restart (is_due now) (λ service m. come_if_reached now (restart_time service m) reached ∙ due_when_come now service m) s

pub timed_out_places : (now : ℕ) (s : ServicesView) → now < 18446744073709551616 → places_due now (times_of kept_timeout s.defs s.marks) ≡ places_timed_out s now
timed_out_places now s reached =
    places_come now kept_timeout (has_timed_out now) (λ service m. come_if_reached now (timeout_time service m) reached ∙ timed_out_when_come now service m) s
