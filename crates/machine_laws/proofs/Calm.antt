-- What commands do begins no action, runs no other command and reaps no process.
use Rattle.std.proofs.Common.{◌≡◌, ℕ, Bool, List, [], ◌∷◌, ◌++◌, refl, ◌∙◌}
use Rattle.std.specs.List.{AllByRecursion, flat_map}
use Rattle.init_machine.specs.Setting.{put_line, put_property}
use Rattle.init_machine.specs.State.{State, Rules}
use Rattle.init_machine.specs.declared.action.Command.{Command}
use Rattle.init_machine.specs.declared.output.Output.{Output}
use Rattle.init_machine.specs.declared.output.Output.TheVariants as output
use Rattle.machine_laws.specs.InOrder.{command_in, action_in, IsDone, FollowsReaping}
use Rattle.machine_laws.proofs.Members.{all_append}
use Rattle.machine_laws.proofs.Relation.{IsPlain, Sets}
use Rattle.machine_laws.proofs.Saving.{loaded_by}
use Rattle.machine_laws.proofs.Serving.{Acts}

abbrev pub IsCalm : Output → Type 0
IsCalm (output.Action file line) = ⊥
IsCalm (output.Command file line word args) = ⊥
IsCalm (output.Reap pid name how) = ⊥
IsCalm _ = Unit {0}

pub record Calm (s : State) (lines : List Output) (t : State) : Type 0 where
  pub running : t.running ≡ s.running
  pub over : t.over ≡ s.over
  pub calm : AllByRecursion IsCalm lines

calm_none : (s t : State) → t.running ≡ s.running → t.over ≡ s.over → Calm s [] t
calm_none s t same over = record { running = same; over = over; calm = tt }

pub calm_line : (s t : State) (o : Output) → IsCalm o → t.running ≡ s.running → t.over ≡ s.over → Calm s (o ∷ []) t
calm_line s t o calm same over = record { running = same; over = over; calm = (calm, tt) }

calm_joined : (s t u : State) (first second : List Output) → Calm s first t → Calm t second u → Calm s (first ++ second) u
calm_joined s t u first second one other = record { running = other.running ∙ one.running; over = other.over ∙ one.over; calm = all_append IsCalm first second one.calm other.calm }

plain_is_calm : (o : Output) → IsPlain o → IsCalm o
plain_is_calm (output.Action file line) plain = plain
plain_is_calm (output.Command file line word args) plain = plain
plain_is_calm (output.Reap pid name how) plain = plain
plain_is_calm _ plain = tt

put_over : (s : State) (name value : List ℕ) → (put_property s name value).state.over ≡ s.over
unfolding put_property
put_over s name value = refl

put_running : (s : State) (name value : List ℕ) → (put_property s name value).state.running ≡ s.running
unfolding put_property
put_running s name value = refl

pub calm_sets : (rules : Rules) → Sets rules Calm
calm_sets rules = record {
  none = λ s. calm_none s s refl refl;
  joined = calm_joined;
  line = λ s o plain. calm_line s s o (plain_is_calm o plain) refl refl;
  stored = λ s name on. calm_line s s (output.Stored name) tt refl refl;
  aside = λ s t same. calm_none s t same.running same.over;
  put = λ s by name value accepted. calm_line s _ (put_line s name value) tt (put_running s name value) (put_over s name value);
}

pub calm_acts : (rules : Rules) → Acts rules Calm
calm_acts rules = record {
  sets = calm_sets rules;
  mark = λ s at m same. calm_none s _ refl refl;
  spawned = λ s at service on here pid alone. calm_line s _ _ tt refl refl;
  program = λ s path on pid. calm_line s _ _ tt refl refl;
  killed = λ s at service pid on here is. calm_line s _ _ tt refl refl;
  loaded = loaded_by rules Calm (calm_sets rules) (record { forgotten = λ s name. calm_none s _ refl refl; turned_on = λ s. calm_none s _ refl refl });
}

-- What is read of calm lines.

pub no_actions : (lines : List Output) → AllByRecursion IsCalm lines → flat_map action_in lines ≡ []
no_actions [] calm = refl
no_actions (output.Action file line ∷ lines) calm = absurd calm.0
no_actions (_ ∷ lines) calm = no_actions lines calm.1

pub no_commands : (lines : List Output) → AllByRecursion IsCalm lines → flat_map command_in lines ≡ []
no_commands [] calm = refl
no_commands (output.Command file line word args ∷ lines) calm = absurd calm.0
no_commands (_ ∷ lines) calm = no_commands lines calm.1

-- calm lines before others
pub calm_then_follows : (rules : Rules) (some : Bool) (left : List Command) (lines rest : List Output) → AllByRecursion IsCalm lines → FollowsReaping rules some left rest
    → FollowsReaping rules some left (lines ++ rest)
calm_then_follows rules some left [] rest calm follows = follows
calm_then_follows rules some left (output.Command file line word args ∷ lines) rest calm follows = absurd calm.0
calm_then_follows rules some left (output.Reap pid name how ∷ lines) rest calm follows = absurd calm.0
calm_then_follows rules some left (_ ∷ lines) rest calm follows = calm_then_follows rules some left lines rest calm.1 follows

pub calm_follows : (rules : Rules) (some : Bool) (left : List Command) (lines : List Output) → AllByRecursion IsCalm lines → IsDone some left
    → FollowsReaping rules some left lines
calm_follows rules some left [] calm done = done
calm_follows rules some left (output.Command file line word args ∷ lines) calm done = absurd calm.0
calm_follows rules some left (output.Reap pid name how ∷ lines) calm done = absurd calm.0
calm_follows rules some left (_ ∷ lines) calm done = calm_follows rules some left lines calm.1 done
