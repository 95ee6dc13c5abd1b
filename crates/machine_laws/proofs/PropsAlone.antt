-- A relation that reads nothing of the states but their properties, and nothing of the lines but the sets.
use Rattle.std.proofs.Common.{◌≡◌, ℕ, List, [], ◌∷◌, ◌++◌, Option, None, refl}
use Rattle.init_machine.specs.Setting.{set_answer, put_line, put_property}
use Rattle.init_machine.specs.State.{State, Rules}
use Rattle.init_machine.specs.declared.output.Output.{Output}
use Rattle.init_machine.specs.declared.output.Output.TheVariants as output
use Rattle.machine_laws.proofs.Relation.{IsPlain, Sets}
use Rattle.machine_laws.proofs.Saving.{loaded_by}
use Rattle.machine_laws.proofs.Stepping.{Clocks, Steps, tick_by, exit_by}
use Rattle.machine_laws.proofs.Taking.{IsTaking, event, change, all, action}

-- a line that tells of no set
abbrev pub IsNoPut : Output → Type 0
IsNoPut (output.Put number name value) = ⊥
IsNoPut _ = Unit {0}

-- what such a relation needs
pub record OfProps (rules : Rules) (R : State → List Output → State → Type 0) : Type 0 where
  pub none : (s t : State) → t.props ≡ s.props → R s [] t
  pub joined : (s t u : State) (first second : List Output) → R s first t → R t second u → R s (first ++ second) u
  pub line : (s t : State) (o : Output) → IsNoPut o → t.props ≡ s.props → R s (o ∷ []) t
  pub put : (s : State) (by : Option (List ℕ)) (name value : List ℕ) → set_answer rules s by name value ≡ None
      → R s (put_line s name value ∷ []) (put_property s name value).state

plain_sets_nothing : (o : Output) → IsPlain o → IsNoPut o
plain_sets_nothing (output.Put number name value) plain = plain
plain_sets_nothing _ plain = tt

taking_sets_nothing : (o : Output) → IsTaking o → IsNoPut o
taking_sets_nothing o (event name) = tt
taking_sets_nothing o (change name value) = tt
taking_sets_nothing o all = tt
taking_sets_nothing o (action file line) = tt

module _ (rules : Rules) (R : State → List Output → State → Type 0) (of : OfProps rules R) where
  pub sets_of : Sets rules R
  sets_of = record {
    none = λ s. of.none s s refl;
    joined = of.joined;
    line = λ s o plain. of.line s s o (plain_sets_nothing o plain) refl;
    stored = λ s name on. of.line s s (output.Stored name) tt refl;
    aside = λ s t same. of.none s t same.props;
    put = of.put;
  }

  clocks_of : Clocks rules R
  clocks_of = record {
    reaps = record {
      runs = record {
        acts = record {
          sets = sets_of;
          mark = λ s at m same. of.none s _ refl;
          spawned = λ s at service on here pid alone. of.line s _ _ tt refl;
          program = λ s path on pid. of.line s _ _ tt refl;
          killed = λ s at service pid on here is. of.line s _ _ tt refl;
          loaded = loaded_by rules R sets_of (record { forgotten = λ s name. of.none s _ refl; turned_on = λ s. of.none s _ refl });
        };
        command = λ s c args. of.line s s _ tt refl;
        rebooted = λ s target on. of.line s _ _ tt refl;
      };
      unmarked = λ s at. of.none s _ refl;
      reaped = λ s pid name how on. of.line s s _ tt refl;
    };
    moved = λ s now on. of.none s _ refl;
    left = λ s pid on. of.none s _ refl;
  }

  pub steps_of : Steps rules R
  steps_of = record {
    runs = clocks_of.reaps.runs;
    taking = λ s o is. of.line s s o (taking_sets_nothing o is) refl;
    scheduled = λ s t same. of.none s t same.props;
    clock = tick_by rules R clocks_of;
    exits = exit_by rules R clocks_of;
  }
