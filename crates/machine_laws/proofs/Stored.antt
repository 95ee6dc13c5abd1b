-- A property is stored only while saving is on, and saving stays on.
use Rattle.std.proofs.Common.{◌≡◌, ℕ, Bool, true, false, ◌||◌, IsTrue, List, [], ◌∷◌, ◌++◌, refl, sym, ◌∙◌}
use Rattle.std.proofs.lemmas.Bool.{false≢true}
use Rattle.init_machine.specs.Policy.{PolicyLines}
use Rattle.init_machine.specs.Setting.{put_line, put_property}
use Rattle.init_machine.specs.State.{State, Rules, rules_of}
use Rattle.init_machine.specs.Step.{step}
use Rattle.init_machine.specs.declared.config.Config.{Config}
use Rattle.init_machine.specs.declared.input.Input.{Input}
use Rattle.init_machine.specs.declared.output.Output.{Output}
use Rattle.init_machine.specs.declared.output.Output.TheVariants as output
use Rattle.machine_laws.specs.Saved.{has_stored, is_stored}
use Rattle.machine_laws.proofs.Relation.{IsPlain, Sets}
use Rattle.machine_laws.proofs.Saving.{loaded_by}
use Rattle.machine_laws.proofs.Stepping.{Clocks, Steps, tick_by, exit_by, step_by}
use Rattle.machine_laws.proofs.Taking.{IsTaking, event, change, all, action}

record Stores (s : State) (lines : List Output) (t : State) : Type 0 where
  on : s.saving ≡ true → t.saving ≡ true
  stored : has_stored lines ≡ true → t.saving ≡ true

-- a change that stores nothing and leaves saving as it was
stores_none : (s t : State) (lines : List Output) → t.saving ≡ s.saving → has_stored lines ≡ false → Stores s lines t
stores_none s t lines same none = record {
  on = λ on. same ∙ on;
  stored = λ stored. absurd (false≢true (sym none ∙ stored));
}

either_stored : (first second : List Output) → has_stored (first ++ second) ≡ has_stored first || has_stored second
either_stored [] second = refl
either_stored (o ∷ first) second = either_of (is_stored o) (has_stored first) (has_stored second) (has_stored (first ++ second)) (either_stored first second)
  where
    either_of : (a b c d : Bool) → d ≡ (b || c) → (a || d) ≡ ((a || b) || c)
    either_of true b c d is = refl
    either_of false b c d is = is

one_of : (P : Type 0) (a b : Bool) → (a ≡ true → P) → (b ≡ true → P) → (a || b) ≡ true → P
one_of P true b left right holds = left refl
one_of P false b left right holds = right holds

joined : (s t u : State) (first second : List Output) → Stores s first t → Stores t second u → Stores s (first ++ second) u
joined s t u first second one other = record {
  on = λ on. other.on (one.on on);
  stored = λ stored. one_of (u.saving ≡ true) (has_stored first) (has_stored second) (λ is. other.on (one.stored is)) other.stored (sym (either_stored first second) ∙ stored);
}

plain_stores_none : (s : State) (o : Output) → IsPlain o → Stores s (o ∷ []) s
plain_stores_none s (output.Stored name) plain = absurd plain
plain_stores_none s o plain = stores_none s s (o ∷ []) refl refl

taking_stores_none : (s : State) (o : Output) → IsTaking o → Stores s (o ∷ []) s
taking_stores_none s o (event name) = stores_none s s _ refl refl
taking_stores_none s o (change name value) = stores_none s s _ refl refl
taking_stores_none s o all = stores_none s s _ refl refl
taking_stores_none s o (action file line) = stores_none s s _ refl refl

put_stores_none : (s : State) (name value : List ℕ) → Stores s (put_line s name value ∷ []) (put_property s name value).state
unfolding put_property
put_stores_none s name value = stores_none s _ (put_line s name value ∷ []) refl refl

sets : (rules : Rules) → Sets rules Stores
sets rules = record {
  none = λ s. stores_none s s [] refl refl;
  joined = joined;
  line = plain_stores_none;
  stored = λ s name saving. record { on = λ on. on; stored = λ stored. saving };
  aside = λ s t same. stores_none s t [] same.saving refl;
  put = λ s by name value accepted. put_stores_none s name value;
}

clocks : (rules : Rules) → Clocks rules Stores
clocks rules = record {
  reaps = record {
    runs = record {
      acts = record {
        sets = sets rules;
        mark = λ s at m same. stores_none s _ [] refl refl;
        spawned = λ s at service on here pid alone. stores_none s _ _ refl refl;
        program = λ s path on pid. stores_none s _ _ refl refl;
        killed = λ s at service pid on here is. stores_none s _ _ refl refl;
        loaded = loaded_by rules Stores (sets rules) (record {
          forgotten = λ s name. stores_none s _ [] refl refl;
          turned_on = λ s. record { on = λ on. refl; stored = λ stored. refl };
        });
      };
      command = λ s c args. stores_none s s _ refl refl;
      rebooted = λ s target on. stores_none s _ _ refl refl;
    };
    unmarked = λ s at. stores_none s _ [] refl refl;
    reaped = λ s pid name how on. stores_none s s _ refl refl;
  };
  moved = λ s now on. stores_none s _ [] refl refl;
  left = λ s pid on. stores_none s _ [] refl refl;
}

steps : (rules : Rules) → Steps rules Stores
steps rules = record {
  runs = (clocks rules).reaps.runs;
  taking = taking_stores_none;
  scheduled = λ s t same. stores_none s t [] same.saving refl;
  clock = tick_by rules Stores (clocks rules);
  exits = exit_by rules Stores (clocks rules);
}

-- an input that stores a property leaves saving on
pub stores_while_saving : (config : Config) (policy : PolicyLines) (s : State) (i : Input)
    → IsTrue (has_stored (step config policy s i).lines) → IsTrue (step config policy s i).state.saving
stores_while_saving config policy s i stored = (step_by config policy Stores (steps (rules_of config policy)) s i).stored stored
