-- Each line of a step has a text.
use Rattle.std.proofs.Common.{List, [], ◌∷◌, ◌++◌, subst, sym}
use Rattle.std.specs.List.{AllByRecursion}
use Rattle.init_machine.specs.HasText.{OutputHasText, EntryHasText}
use Rattle.init_machine.specs.History.{LegalFrom, Legal}
use Rattle.init_machine.specs.Policy.{PolicyLines}
use Rattle.init_machine.specs.State.{Opening, State, Rules, rules_of, first_state}
use Rattle.init_machine.specs.Step.{step}
use Rattle.init_machine.specs.declared.config.Config.{Config}
use Rattle.init_machine.specs.declared.input.Input.{Input}
use Rattle.init_machine.specs.declared.output.Output.{Output}
use Rattle.init_machine.specs.declared.output.Output.TheVariants as output
use Rattle.init_machine.specs.declared.report.Entry.{Entry}
use Rattle.machine_laws.proofs.Relation.{IsPlain, Sets}
use Rattle.machine_laws.proofs.Saving.{loaded_by}
use Rattle.machine_laws.proofs.Serving.{Acts}
use Rattle.machine_laws.proofs.Stepping.{Clocks, Steps, tick_by, exit_by, step_by}
use Rattle.machine_laws.proofs.Taking.{IsTaking, event, change, all, action}

abbrev HasTexts : State → List Output → State → Type 0
HasTexts s lines t = AllByRecursion OutputHasText lines

both : (first second : List Output) → AllByRecursion OutputHasText first → AllByRecursion OutputHasText second → AllByRecursion OutputHasText (first ++ second)
both [] second one other = other
both (x ∷ first) second one other = (one.0, both first second one.1 other)

plain_has_text : (o : Output) → IsPlain o → OutputHasText o
plain_has_text (output.Unset name refusal) plain = plain
plain_has_text (output.Failed cause) plain = plain
plain_has_text (output.Refused refusal) plain = plain
plain_has_text _ plain = tt

taking_has_text : (o : Output) → IsTaking o → OutputHasText o
taking_has_text o (event name) = tt
taking_has_text o (change name value) = tt
taking_has_text o all = tt
taking_has_text o (action file line) = tt

sets : (rules : Rules) → Sets rules HasTexts
sets rules = record {
  none = λ s. tt;
  joined = λ s t u first second one other. both first second one other;
  line = λ s o plain. (plain_has_text o plain, tt);
  stored = λ s name on. (tt, tt);
  aside = λ s t same. tt;
  put = λ s by name value accepted. (tt, tt);
}

acts : (rules : Rules) → Acts rules HasTexts
acts rules = record {
  sets = sets rules;
  mark = λ s at m same. tt;
  spawned = λ s at service on here pid alone. (tt, tt);
  program = λ s path on pid. (tt, tt);
  killed = λ s at service pid on here is. (tt, tt);
  loaded = loaded_by rules HasTexts (sets rules) (record { forgotten = λ s name. tt; turned_on = λ s. tt });
}

clocks : (rules : Rules) → Clocks rules HasTexts
clocks rules = record {
  reaps = record {
    runs = record {
      acts = acts rules;
      command = λ s c args. (tt, tt);
      rebooted = λ s target on. (tt, tt);
    };
    unmarked = λ s at. tt;
    reaped = λ s pid name how on. (tt, tt);
  };
  moved = λ s now on. tt;
  left = λ s pid on. tt;
}

steps : (rules : Rules) → Steps rules HasTexts
steps rules = record {
  runs = (clocks rules).reaps.runs;
  taking = λ s o is. (taking_has_text o is, tt);
  scheduled = λ s t same. tt;
  clock = tick_by rules HasTexts (clocks rules);
  exits = exit_by rules HasTexts (clocks rules);
}

-- each line of a step
pub step_has_text : (config : Config) (policy : PolicyLines) (s : State) (i : Input) → AllByRecursion OutputHasText (step config policy s i).lines
step_has_text config policy s i = step_by config policy HasTexts (steps (rules_of config policy)) s i

entries_have_text : (config : Config) (policy : PolicyLines) (s : State) (history : List Entry) → LegalFrom config policy s history → AllByRecursion EntryHasText history
entries_have_text config policy s [] legal = tt
entries_have_text config policy s (e ∷ history) legal = (
  subst (AllByRecursion OutputHasText) (sym legal.0) (step_has_text config policy s e.input),
  entries_have_text config policy (step config policy s e.input).state history legal.1,
)

-- and each line of a legal history
pub history_has_text : (o : Opening) (history : List Entry) → Legal o history → AllByRecursion EntryHasText history
history_has_text o history legal = entries_have_text o.config o.policy (first_state o) history legal
