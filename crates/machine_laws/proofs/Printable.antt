-- Where saving is on, the saved pairs can be printed, and each value passes the type of its name's context.
use Rattle.std.proofs.Common.{◌≡◌, ◌⊎◌, inl, inr, ℕ, Bool, true, false, not, ◌&&◌, List, [], ◌∷◌, Option, Some, None, if◌then◌else◌, refl, sym, ap, ◌∙◌, subst, IsTrue}
use Rattle.std.proofs.lemmas.Bool.{false≢true}
use Rattle.std.proofs.lemmas.Slice.Eq.{bytes_eq-Decides}
use Rattle.std.specs.List.{AllByRecursion, list_all}
use Rattle.std.specs.Str.{bytes_eq}
use Rattle.init_base.specs.Name.{is_legal_name}
use Rattle.init_base.specs.Value.{is_short_value}
use Rattle.init_machine.specs.Changes.{Change, nothing, unless_over, and_then, each}
use Rattle.init_machine.specs.Effect.{keep_saved, set_saved, save_from_now, load_saved}
use Rattle.init_machine.specs.History.{after, Legal, inputs_of}
use Rattle.init_machine.specs.Pairs.{pair, with_saved}
use Rattle.init_machine.specs.Policy.{PolicyLines}
use Rattle.init_machine.specs.Setting.{judged, set_answer, put_line, put_property, set_property, is_persistent, is_stored}
use Rattle.init_machine.specs.State.{Opening, State, Rules, rules_of, first_state}
use Rattle.init_machine.specs.WellFormed.{IsWellFormed, ascend}
use Rattle.init_machine.specs.declared.config.Pair.{Pair}
use Rattle.init_machine.specs.declared.output.Output.{Output}
use Rattle.init_machine.specs.declared.output.SetRefusal.{SetRefusal}
use Rattle.init_machine.specs.declared.report.Entry.{Entry}
use Rattle.machine_laws.specs.Saved.{can_be_printed, is_typed_under}
use Rattle.machine_laws.proofs.Ascending.{Ascends, from_ascend, to_ascend, all_with_saved, ascends_with, ascends_without}
use Rattle.machine_laws.proofs.Failures.{Accepted, accepted}
use Rattle.machine_laws.proofs.Members.{all_map, all_filter, all_tests, test_all}
use Rattle.machine_laws.proofs.Options.{value_is_none}
use Rattle.machine_laws.proofs.Names.{persistent_is_no_control, persistent_is_not_read_only, value_is_short}
use Rattle.machine_laws.proofs.Relation.{By, Sets}
use Rattle.machine_laws.proofs.Stepping.{Clocks, Steps, tick_by, exit_by, step_by, history_by}
use Rattle.machine_laws.proofs.Tests.{left_holds, right_holds, both_hold, fails_not}

module _ (rules : Rules) where
  abbrev IsPrintable : Pair → Type 0
  IsPrintable p = (can_be_printed p && is_typed_under rules.policy p) ≡ true

  abbrev IsNamed : Pair → Type 0
  IsNamed p = is_persistent p.name ≡ true

  -- the saved pairs ascend and are persistent, and where saving is on they can be printed
  record Saves (s : State) : Type 0 where
    order : Ascends s.saved
    named : AllByRecursion IsNamed s.saved
    printable : s.saving ≡ true → AllByRecursion IsPrintable s.saved

  abbrev Keeps : State → List Output → State → Type 0
  Keeps s lines t = Saves s → Saves t

  same_saves : (s t : State) → t.saved ≡ s.saved → t.saving ≡ s.saving → Saves s → Saves t
  same_saves s t saved saving was = record {
    order = subst Ascends (sym saved) was.order;
    named = subst (AllByRecursion IsNamed) (sym saved) was.named;
    printable = λ on. subst (AllByRecursion IsPrintable) (sym saved) (was.printable (sym saving ∙ on));
  }

  -- an accepted set of a persistent property can be printed
  accepted_prints : (s : State) (name value : List ℕ) → Accepted rules s name value → is_persistent name ≡ true → IsPrintable (pair name value)
  accepted_prints s name value accepted named =
      both_hold (can_be_printed (pair name value)) (is_typed_under rules.policy (pair name value))
      (both_hold (is_legal_name name && is_persistent name) (is_short_value value) (both_hold (is_legal_name name) (is_persistent name) accepted.legal named)
      (value_is_short name value (persistent_is_not_read_only name named) (accepted.sound (persistent_is_no_control name named))))
      (accepted.typed (persistent_is_no_control name named))

  -- a set
  put_saves : (s : State) (by : Option (List ℕ)) (name value : List ℕ) → set_answer rules s by name value ≡ None
      → Keeps s (put_line s name value ∷ []) (put_property s name value).state
  unfolding put_property
  put_saves s by name value none was =
      let stored = λ (b : Bool). if b then with_saved s.saved name value else s.saved in
      let both : (b : Bool) → is_stored s name ≡ b → Ascends (stored b) × AllByRecursion IsNamed (stored b) × (s.saving ≡ true → AllByRecursion IsPrintable (stored b)) =
      elim [
        | true ↦ λ yes.
            let named = left_holds (is_persistent name) s.saving yes in (
              ascends_with s.saved name value was.order,
              all_with_saved IsNamed s.saved name value was.named named,
              λ on. all_with_saved IsPrintable s.saved name value (was.printable on)
                  (accepted_prints s name value (accepted rules s by name value none) named),
            )
        | false ↦ λ no. (was.order, was.named, was.printable)
      ] in
      let now = both (is_stored s name) refl in
      record { order = now.0; named = now.1; printable = now.2 }

  -- The loading of the saved pairs: those that are accepted stay, and then saving is on.

  abbrev IsAmong : List Pair → Pair → Type 0
  IsAmong [] p = ⊥
  IsAmong (q ∷ rest) p = (p ≡ q) ⊎ IsAmong rest p

  -- a pair can be printed, or its turn comes yet
  abbrev IsLeft : List Pair → Pair → Type 0
  IsLeft rest p = IsNamed p × (IsPrintable p ⊎ IsAmong rest p)

  record Loading (rest : List Pair) (s : State) : Type 0 where
    off : s.saving ≡ false
    order : Ascends s.saved
    left : AllByRecursion (IsLeft rest) s.saved

  not_stored : (b saving : Bool) (xs ys : List Pair) → saving ≡ false → (if b && saving then xs else ys) ≡ ys
  not_stored true true xs ys off = absurd (cc)
  not_stored true false xs ys off = refl
  not_stored false saving xs ys off = refl

  left_accepted : (s : State) (q : Pair) (rest : List Pair) → Accepted rules s q.name q.value → (p : Pair) → IsLeft (q ∷ rest) p → IsLeft rest p
  left_accepted s q rest accepted p left =
      (left.0, turn left.1)
    where
      turn : IsPrintable p ⊎ IsAmong (q ∷ rest) p → IsPrintable p ⊎ IsAmong rest p
      turn (inl prints) = inl prints
      turn (inr (inl same)) = inl (subst IsPrintable (sym same) (accepted_prints s q.name q.value accepted (subst IsNamed same left.0)))
      turn (inr (inr later)) = inr later

  left_refused : (q : Pair) (rest : List Pair) (p : Pair) → IsLeft (q ∷ rest) p → not (bytes_eq p.name q.name) ≡ true → IsLeft rest p
  left_refused q rest p left differs =
      (left.0, turn left.1)
    where
      turn : IsPrintable p ⊎ IsAmong (q ∷ rest) p → IsPrintable p ⊎ IsAmong rest p
      turn (inl prints) = inl prints
      turn (inr (inl same)) =
          absurd (false≢true (sym (fails_not (bytes_eq p.name q.name) differs) ∙ (bytes_eq-Decides p.name q.name).1 (ap (λ (r : Pair). r.name) same)))
      turn (inr (inr later)) = inr later

  -- the state behind the turn of a pair, by the answer to its set
  abbrev turned : Option SetRefusal → State → Pair → State
  turned answer s q =
      let told = judged answer s (put_property s q.name q.value) in
      let now = told.done.state in
      record now { saved = keep_saved told.refused q.name now.saved }

  turn_loads : (s : State) (q : Pair) (rest : List Pair) (answer : Option SetRefusal) → set_answer rules s None q.name q.value ≡ answer
      → Loading (q ∷ rest) s → Loading rest (turned answer s q)
  unfolding put_property
  turn_loads s q rest None is loading =
      let same = not_stored (is_persistent q.name) s.saving (with_saved s.saved q.name q.value) s.saved loading.off in
      record {
        off = loading.off;
        order = subst Ascends (sym same) loading.order;
        left = subst (AllByRecursion (IsLeft rest)) (sym same)
            (all_map (IsLeft (q ∷ rest)) (IsLeft rest) (left_accepted s q rest (accepted rules s None q.name q.value is)) s.saved loading.left);
      }
  turn_loads s q rest (Some why) is loading = record {
    off = loading.off;
    order = ascends_without s.saved q.name loading.order;
    left = all_filter (IsLeft (q ∷ rest)) (IsLeft rest) (λ (p : Pair). not (bytes_eq p.name q.name)) (left_refused q rest) s.saved loading.left;
  }

  set_saved_loads : (s : State) (q : Pair) (rest : List Pair) → Loading (q ∷ rest) s → Loading rest (set_saved rules q s).state
  unfolding set_property
  set_saved_loads s q rest loading = turn_loads s q rest (set_answer rules s None q.name q.value) refl loading

  -- each pair had its turn, unless the machine is over
  record Loaded (s : State) : Type 0 where
    off : s.saving ≡ false
    order : Ascends s.saved
    named : AllByRecursion IsNamed s.saved
    printable : s.over ≡ None → AllByRecursion IsPrintable s.saved

  prints : (p : Pair) → IsLeft [] p → IsPrintable p
  prints p left = go left.1
    where
      go : IsPrintable p ⊎ IsAmong [] p → IsPrintable p
      go (inl is) = is
      go (inr never) = absurd never

  is_named : (rest : List Pair) (p : Pair) → IsLeft rest p → IsNamed p
  is_named rest p left = left.0

  loaded_over : (rest : List Pair) (over : Option (List ℕ)) (c : Change) → c.state.over ≡ over → Loading rest c.state
      → ((t : State) → Loading rest t → Loaded (each (set_saved rules) rest t).state) → Loaded (unless_over over c (each (set_saved rules) rest)).state
  loaded_over rest None c is loading later = later c.state loading
  loaded_over rest (Some target) c is loading later = record {
    off = loading.off;
    order = loading.order;
    named = all_map (IsLeft rest) IsNamed (is_named rest) c.state.saved loading.left;
    printable = λ none. absurd (value_is_none target (sym is ∙ none));
  }

  each_loads : (rest : List Pair) (s : State) → Loading rest s → Loaded (each (set_saved rules) rest s).state
  each_loads [] s loading = record {
    off = loading.off;
    order = loading.order;
    named = all_map (IsLeft []) IsNamed (is_named []) s.saved loading.left;
    printable = λ on. all_map (IsLeft []) IsPrintable prints s.saved loading.left;
  }
  each_loads (q ∷ rest) s loading =
      loaded_over rest (set_saved rules q s).state.over (set_saved rules q s) refl (set_saved_loads s q rest loading) (each_loads rest)

  turned_on : (over : Option (List ℕ)) (c : Change) → c.state.over ≡ over → Loaded c.state → Saves (unless_over over c save_from_now).state
  turned_on None c is loaded = record { order = loaded.order; named = loaded.named; printable = λ on. loaded.printable is }
  turned_on (Some target) c is loaded =
      record { order = loaded.order; named = loaded.named; printable = λ on. absurd (false≢true (sym loaded.off ∙ on)) }

  -- each pair is among all of them
  among_all : (pairs all : List Pair) → AllByRecursion IsNamed pairs → ((p : Pair) → IsAmong pairs p → IsAmong all p)
      → AllByRecursion (IsLeft all) pairs
  among_all [] all named more = tt
  among_all (p ∷ rest) all named more =
      ((named.0, inr (more p (inl refl))), among_all rest all named.1 (λ q among. more q (inr among)))

  load_saves : (s : State) → s.over ≡ None → By Keeps s (load_saved rules s)
  load_saves s on was =
      elim s.saving as (λ b. s.saving ≡ b → Saves (if b then nothing s else and_then (each (set_saved rules) s.saved s) save_from_now).state) [
        | true ↦ λ is. was
        | false ↦ λ off.
            turned_on (each (set_saved rules) s.saved s).state.over (each (set_saved rules) s.saved s) refl
            (each_loads s.saved s (record { off = off; order = was.order; left = among_all s.saved s.saved was.named (λ p among. among) }))
      ] refl

  sets : Sets rules Keeps
  sets = record {
    none = λ s was. was;
    joined = λ s t u first second one other was. other (one was);
    line = λ s o plain was. was;
    stored = λ s name on was. was;
    aside = λ s t same. same_saves s t same.saved same.saving;
    put = put_saves;
  }

  clocks : Clocks rules Keeps
  clocks = record {
    reaps = record {
      runs = record {
        acts = record {
          sets = sets;
          mark = λ s at m same. same_saves s _ refl refl;
          spawned = λ s at service on here pid alone. same_saves s _ refl refl;
          program = λ s path on pid. same_saves s _ refl refl;
          killed = λ s at service pid on here is. same_saves s _ refl refl;
          loaded = load_saves;
        };
        command = λ s c args was. was;
        rebooted = λ s target on. same_saves s _ refl refl;
      };
      unmarked = λ s at. same_saves s _ refl refl;
      reaped = λ s pid name how on was. was;
    };
    moved = λ s now on. same_saves s _ refl refl;
    left = λ s pid on. same_saves s _ refl refl;
  }

  steps : Steps rules Keeps
  steps = record {
    runs = (clocks).reaps.runs;
    taking = λ s o is was. was;
    scheduled = λ s t same. same_saves s t same.saved same.saving;
    clock = tick_by rules Keeps (clocks);
    exits = exit_by rules Keeps (clocks);
  }

legal_saves : (o : Opening) (history : List Entry) → IsWellFormed o.config → Legal o history → Saves (rules_of o.config o.policy) (after o (inputs_of history))
unfolding first_state
legal_saves o history well legal =
    history_by o.config o.policy (Keeps (rules_of o.config o.policy)) (sets (rules_of o.config o.policy)) (step_by o.config o.policy (Keeps (rules_of o.config o.policy)) (steps (rules_of o.config o.policy))) (first_state o) history legal
    (record {
      order = from_ascend o.config.saved well.order;
      named = all_tests (λ (p : Pair). is_persistent p.name) o.config.saved well.saved;
      printable = λ on. absurd (false≢true on);
    })

abbrev Prints : PolicyLines → Pair → Type 0
Prints policy p = (can_be_printed p && is_typed_under policy p) ≡ true

pub saved_pairs_print : (o : Opening) (history : List Entry) → IsWellFormed o.config → Legal o history → IsTrue (after o (inputs_of history)).saving
    → IsTrue (list_all can_be_printed (after o (inputs_of history)).saved)
saved_pairs_print o history well legal on =
    let saved = (after o (inputs_of history)).saved in
    test_all can_be_printed saved
    (all_map (Prints o.policy) (λ p. can_be_printed p ≡ true) (λ p both. left_holds (can_be_printed p) (is_typed_under o.policy p) both) saved ((legal_saves o history well legal).printable on))

pub saved_pairs_are_typed : (o : Opening) (history : List Entry) → IsWellFormed o.config → Legal o history → IsTrue (after o (inputs_of history)).saving
    → IsTrue (list_all (is_typed_under o.policy) (after o (inputs_of history)).saved)
saved_pairs_are_typed o history well legal on =
    let saved = (after o (inputs_of history)).saved in
    test_all (is_typed_under o.policy) saved
    (all_map (Prints o.policy) (λ p. is_typed_under o.policy p ≡ true) (λ p both. right_holds (can_be_printed p) (is_typed_under o.policy p) both) saved ((legal_saves o history well legal).printable on))

pub saved_pairs_ascend : (o : Opening) (history : List Entry) → IsWellFormed o.config → Legal o history → IsTrue (ascend (after o (inputs_of history)).saved)
saved_pairs_ascend o history well legal = to_ascend (after o (inputs_of history)).saved (legal_saves o history well legal).order
