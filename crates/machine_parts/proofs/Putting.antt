-- A property that is put, from what its parts do.
use Rattle.std.proofs.Common.{◌≡◌, ◌+◌, ◌++◌, ℕ, Bool, true, false, ◌&&◌, List, [], ◌∷◌, Option, refl, sym, ap, ◌∙◌, subst, if◌then◌else◌}
use Rattle.init_machine.specs.History.{sets_in}
use Rattle.init_machine.specs.Pairs.{with_saved}
use Rattle.init_machine.specs.Props.{Props, more_sets, with_set}
use Rattle.init_machine.specs.Setting.{awaits, change_event, is_persistent, put_line, put_property, released_lines, still_waits}
use Rattle.init_machine.specs.declared.config.Pair.{Pair}
use Rattle.init_machine.specs.declared.output.Output.{Output}
use Rattle.init_machine.specs.declared.output.Output.TheVariants as output
use Rattle.init_machine.specs.declared.waiting.Waiting.{Waiting}
use Rattle.outputs.specs.Joins.{Joins}
use Rattle.machine_parts.specs.Parts.{Does, state_of}
use Rattle.machine_parts.specs.Schedule.{ScheduleView}
use Rattle.machine_parts.specs.declared.parts.Parts.{Parts}

-- what is saved, and its line
abbrev saved_now : Bool → List Pair → List ℕ → List ℕ → List Pair
saved_now stored saved name value = if stored then with_saved saved name value else saved

abbrev saved_lines : Bool → List ℕ → List Output
saved_lines stored name = if stored then output.Stored name ∷ [] else []

no_sets_behind : (stored ends : Bool) (name : List ℕ) → sets_in (saved_lines stored name ++ released_lines ends) ≡ []
no_sets_behind true true name = refl
no_sets_behind true false name = refl
no_sets_behind false true name = refl
no_sets_behind false false name = refl

module _ {S : Type 0} (meaning : S → Props) (told : S → Option (List (List ℕ × List ℕ))) where
  -- a property is in the store, which was the same until then
  pub in_store : (old mid new : S) (name value given with : List ℕ) → meaning mid ≡ meaning old → meaning new ≡ with_set (meaning mid) given with → given ≡ name → with ≡ value
      → meaning new ≡ with_set (meaning old) name value
  in_store old mid new name value given with same set named valued = set ∙ (λ i. with_set (same i) (named i) (valued i))

  pub in_told : (old mid new : S) (name value given with : List ℕ) → told mid ≡ told old → told new ≡ more_sets (told mid) ((given, with) ∷ []) → given ≡ name → with ≡ value
      → told new ≡ more_sets (told old) ((name, value) ∷ [])
  in_told old mid new name value given with same set named valued = set ∙ (λ i. more_sets (same i) ((named i, valued i) ∷ []))

module _ {S O : Type 0} (meaning : S → Props) (told : S → Option (List (List ℕ × List ℕ))) {adds : O → O → List Output → Type 0} (joins : Joins adds) where
  -- a property was put, its change was queued, it was saved, and a wait for it has ended
  pub puts : (a : Parts S O) (store : S) (queue : ScheduleView) (saved : List Pair) (waits : Option Waiting) (put stored all : O) (ends : Bool) (number : ℕ) (name value : List ℕ)
      → meaning store ≡ with_set (meaning a.store) name value
      → told store ≡ more_sets (told a.store) ((name, value) ∷ [])
      → queue ≡ record a.queue { events = a.queue.events ++ change_event a.queue.changes name value }
      → adds a.outputs put (put_line (state_of meaning a) name value ∷ [])
      → saved ≡ saved_now (is_persistent name && a.saving) a.saved name value
      → adds put stored (saved_lines (is_persistent name && a.saving) name)
      → ends ≡ awaits a.waits name value
      → waits ≡ still_waits ends a.waits
      → adds stored all (released_lines ends)
      → Does meaning told adds a (record a { store = store; queue = queue; saved = saved; waits = waits; outputs = all }) (put_property (state_of meaning a) name value)
  unfolding put_property
  puts a store queue saved waits put stored all ends number name value set sets queued put_is saved_is stored_is ends_is waits_is all_is =
      let stores = is_persistent name && a.saving in
      let ended = awaits a.waits name value in
      let waiting : waits ≡ still_waits ended a.waits = waits_is ∙ ap (λ b. still_waits b a.waits) ends_is in
      record {
        state = λ i. record (state_of meaning a) {
          props = set i;
          events = (queued i).events;
          running = (queued i).running;
          changes = (queued i).changes;
          had_boot = (queued i).had_boot;
          saved = saved_is i;
          waits = waiting i;
        };
        lines = joins.both a.outputs stored all (put_line (state_of meaning a) name value ∷ saved_lines stores name) (released_lines ended)
            (joins.both a.outputs put stored (put_line (state_of meaning a) name value ∷ []) (saved_lines stores name) put_is stored_is)
            (subst (λ (b : Bool). adds stored all (released_lines b)) ends_is all_is);
        sets = sets ∙ ap (λ more. more_sets (told a.store) ((name, value) ∷ more)) (sym (no_sets_behind stores ended name));
        rules = refl;
        actions = ap (λ (q : ScheduleView). q.actions) queued;
      }
