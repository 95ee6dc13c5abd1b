-- Behind a reboot nothing is set and no process is spawned, killed or reaped.
use Rattle.std.proofs.Common.{◌≡◌, ℕ, Bool, true, false, not, ◌||◌, List, [], ◌∷◌, ◌++◌, Option, None, is_some, IsTrue, refl, sym, ap, ◌∙◌, subst}
use Rattle.std.proofs.lemmas.Bool.{false≢true}
use Rattle.std.specs.List.{list_all, list_any}
use Rattle.init_machine.specs.History.{after, Legal, inputs_of}
use Rattle.init_machine.specs.Setting.{set_answer, put_line, put_property}
use Rattle.init_machine.specs.State.{Opening, State, Rules, rules_of, first_state}
use Rattle.init_machine.specs.declared.output.Output.{Output}
use Rattle.init_machine.specs.declared.output.Output.TheVariants as output
use Rattle.init_machine.specs.declared.report.Entry.{Entry}
use Rattle.machine_laws.specs.Rebooting.{outputs_of, is_deed, is_reboot}
use Rattle.machine_laws.proofs.Failures.{accepted}
use Rattle.machine_laws.proofs.Relation.{IsPlain, Sets}
use Rattle.machine_laws.proofs.Saving.{loaded_by}
use Rattle.machine_laws.proofs.Stepping.{Clocks, Steps, tick_by, exit_by, step_by, history_by}
use Rattle.machine_laws.proofs.Taking.{IsTaking, event, change, all, action}
use Rattle.machine_laws.proofs.Tests.{both_hold}

-- whether the machine is over behind these lines
abbrev ends : Bool → List Output → Bool
ends over [] = over
ends over (o ∷ rest) = ends (over || is_reboot o) rest

-- no line is a deed where the machine is over
abbrev Rests : Bool → List Output → Type 0
Rests over [] = Unit {0}
Rests over (o ∷ rest) = (over ≡ true → is_deed o ≡ false) × Rests (over || is_reboot o) rest

ends-append : (over : Bool) (first second : List Output) → ends over (first ++ second) ≡ ends (ends over first) second
ends-append over [] second = refl
ends-append over (o ∷ first) second = ends-append (over || is_reboot o) first second

rests-append : (over : Bool) (first second : List Output) → Rests over first → Rests (ends over first) second → Rests over (first ++ second)
rests-append over [] second one other = other
rests-append over (o ∷ first) second one other = (one.0, rests-append (over || is_reboot o) first second one.1 other)

rests_behind : (over : Bool) (first second : List Output) → Rests over (first ++ second) → Rests (ends over first) second
rests_behind over [] second rests = rests
rests_behind over (o ∷ first) second rests = rests_behind (over || is_reboot o) first second rests.1

record Follows (s : State) (lines : List Output) (t : State) : Type 0 where
  rests : Rests (is_some s.over) lines
  over : is_some t.over ≡ ends (is_some s.over) lines

stays : (b : Bool) → b ≡ (b || false)
stays true = refl
stays false = refl

comes : (b : Bool) → true ≡ (b || true)
comes true = refl
comes false = refl

same_over : (s t : State) → t.over ≡ s.over → Follows s [] t
same_over s t same = record { rests = tt; over = ap (λ over. is_some over) same }

joined : (s t u : State) (first second : List Output) → Follows s first t → Follows t second u → Follows s (first ++ second) u
joined s t u first second one other = record {
  rests = rests-append (is_some s.over) first second one.rests (subst (λ over. Rests over second) one.over other.rests);
  over = other.over ∙ ap (λ over. ends over second) one.over ∙ sym (ends-append (is_some s.over) first second);
}

-- a line that is no deed
idle : (s t : State) (o : Output) → is_deed o ≡ false → is_reboot o ≡ false → t.over ≡ s.over → Follows s (o ∷ []) t
idle s t o no_deed no_reboot same = record {
  rests = (λ over. no_deed, tt);
  over = ap (λ over. is_some over) same ∙ stays (is_some s.over) ∙ ap (λ b. is_some s.over || b) (sym no_reboot);
}

on_is_not_over : (s : State) → s.over ≡ None → is_some s.over ≡ true → ⊥
on_is_not_over s on over = false≢true (sym (ap (λ o. is_some o) on) ∙ over)

-- a deed of a machine that isn't over
deed : (s t : State) (o : Output) → s.over ≡ None → is_reboot o ≡ false → t.over ≡ s.over → Follows s (o ∷ []) t
deed s t o on no_reboot same = record {
  rests = (λ over. absurd (on_is_not_over s on over), tt);
  over = ap (λ over. is_some over) same ∙ stays (is_some s.over) ∙ ap (λ b. is_some s.over || b) (sym no_reboot);
}

plain_follows : (s : State) (o : Output) → IsPlain o → Follows s (o ∷ []) s
plain_follows s (output.Put number name value) plain = absurd plain
plain_follows s (output.Spawn pid name path) plain = absurd plain
plain_follows s (output.Kill pid name) plain = absurd plain
plain_follows s (output.Reap pid name how) plain = absurd plain
plain_follows s (output.Reboot target) plain = absurd plain
plain_follows s o plain = idle s s o refl refl refl

taking_follows : (s : State) (o : Output) → IsTaking o → Follows s (o ∷ []) s
taking_follows s o (event name) = idle s s _ refl refl refl
taking_follows s o (change name value) = idle s s _ refl refl refl
taking_follows s o all = idle s s _ refl refl refl
taking_follows s o (action file line) = idle s s _ refl refl refl

put_follows : (rules : Rules) (s : State) (by : Option (List ℕ)) (name value : List ℕ) → set_answer rules s by name value ≡ None
    → Follows s (put_line s name value ∷ []) (put_property s name value).state
unfolding put_property
put_follows rules s by name value none = deed s _ (put_line s name value) (accepted rules s by name value none).on refl refl

sets : (rules : Rules) → Sets rules Follows
sets rules = record {
  none = λ s. same_over s s refl;
  joined = joined;
  line = plain_follows;
  stored = λ s name on. idle s s (output.Stored name) refl refl refl;
  aside = λ s t same. same_over s t same.over;
  put = put_follows rules;
}

clocks : (rules : Rules) → Clocks rules Follows
clocks rules = record {
  reaps = record {
    runs = record {
      acts = record {
        sets = sets rules;
        mark = λ s at m same. same_over s _ refl;
        spawned = λ s at service on here pid alone. deed s _ _ on refl refl;
        program = λ s path on pid. deed s _ _ on refl refl;
        killed = λ s at service pid on here is. deed s _ _ on refl refl;
        loaded = loaded_by rules Follows (sets rules) (record { forgotten = λ s name. same_over s _ refl; turned_on = λ s. same_over s _ refl });
      };
      command = λ s c args. idle s s _ refl refl refl;
      rebooted = λ s target on. record { rests = (λ over. absurd (on_is_not_over s on over), tt); over = comes (is_some s.over) };
    };
    unmarked = λ s at. same_over s _ refl;
    reaped = λ s pid name how on. deed s s _ on refl refl;
  };
  moved = λ s now on. same_over s _ refl;
  left = λ s pid on. same_over s _ refl;
}

steps : (rules : Rules) → Steps rules Follows
steps rules = record {
  runs = (clocks rules).reaps.runs;
  taking = taking_follows;
  scheduled = λ s t same. same_over s t same.over;
  clock = tick_by rules Follows (clocks rules);
  exits = exit_by rules Follows (clocks rules);
}

legal_follows : (o : Opening) (history : List Entry) → Legal o history → Follows (first_state o) (outputs_of history) (after o (inputs_of history))
legal_follows o history legal =
    history_by o.config o.policy Follows (sets (rules_of o.config o.policy)) (step_by o.config o.policy Follows (steps (rules_of o.config o.policy))) (first_state o) history legal

no_deeds : (lines : List Output) → Rests true lines → list_all (λ o. not (is_deed o)) lines ≡ true
no_deeds [] rests = refl
no_deeds (o ∷ rest) rests = both_hold (not (is_deed o)) (list_all (λ o. not (is_deed o)) rest) (ap not (rests.0 refl)) (no_deeds rest rests.1)

pub no_deeds_behind : (o : Opening) (history : List Entry) (earlier later : List Output) (target : List ℕ) → Legal o history
    → outputs_of history ≡ earlier ++ output.Reboot target ∷ later → IsTrue (list_all (λ line. not (is_deed line)) later)
no_deeds_behind o history earlier later target legal is =
    let all = subst (Rests (is_some (first_state o).over)) is (legal_follows o history legal).rests in
    let behind = rests_behind (is_some (first_state o).over) earlier (output.Reboot target ∷ later) all in
    no_deeds later (subst (λ over. Rests over later) (sym (comes (ends (is_some (first_state o).over) earlier))) behind.1)

any_reboot : (lines : List Output) → ends true lines ≡ true
any_reboot [] = refl
any_reboot (o ∷ rest) = any_reboot rest

ends_by_reboot : (lines : List Output) → ends false lines ≡ list_any is_reboot lines
ends_by_reboot [] = refl
ends_by_reboot (o ∷ rest) =
    elim (is_reboot o) as (λ b. ends b rest ≡ (b || list_any is_reboot rest)) [ true ↦ any_reboot rest | false ↦ ends_by_reboot rest ]

pub over_by_reboot : (o : Opening) (history : List Entry) → Legal o history → is_some (after o (inputs_of history)).over ≡ list_any is_reboot (outputs_of history)
unfolding first_state
over_by_reboot o history legal = (legal_follows o history legal).over ∙ ends_by_reboot (outputs_of history)
