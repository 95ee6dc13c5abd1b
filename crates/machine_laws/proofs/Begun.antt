-- The commands of the actions that began run in their order.
use Rattle.std.proofs.Common.{◌≡◌, ℕ, suc, ◌+◌, ◌≤◌, Bool, false, List, [], ◌∷◌, ◌++◌, length, take, map, slice_get, Option, Some, None, Contains, if◌then◌else◌, refl, sym, ap, ◌∙◌, arith, subst, append_assoc}
use Rattle.std.proofs.lemmas.Grind.{flat_map-append}
use Rattle.std.proofs.lemmas.List.{append-nil, map-append}
use Rattle.std.proofs.lemmas.List.Folds.{flat_map-map}
use Rattle.std.specs.List.{AllByRecursion, flat_map, position_or_len}
use Rattle.init_machine.specs.Changes.{Change, change, unless_over, and_then}
use Rattle.init_machine.specs.Effect.{effect}
use Rattle.init_machine.specs.History.{after_from, LegalFrom, Legal, inputs_of}
use Rattle.init_machine.specs.Matches.{matches}
use Rattle.init_machine.specs.Policy.{PolicyLines}
use Rattle.init_machine.specs.State.{Opening, State, Rules, rules_of, first_state, value_now}
use Rattle.init_machine.specs.Step.{unless_down, left_of, run_first, with_taken, take_and_run, unless_waiting, next, tick, exit, file, boot, ask, domain_of, settle, respond, step}
use Rattle.init_machine.specs.Taking.{Taken, taken_now, events_to_take, event_line, action_line, begun_by, is_matched}
use Rattle.init_machine.specs.declared.action.Action.{Action}
use Rattle.init_machine.specs.declared.action.Command.{Command}
use Rattle.init_machine.specs.declared.config.Config.{Config}
use Rattle.init_machine.specs.declared.event.Event.{Event}
use Rattle.init_machine.specs.declared.event.Event.TheVariants.{Named, Change as Changed, AllProperties, Mark}
use Rattle.init_machine.specs.declared.input.Input.{Input}
use Rattle.init_machine.specs.declared.input.Input.TheVariants as input
use Rattle.init_machine.specs.declared.output.Output.{Output}
use Rattle.init_machine.specs.declared.output.Output.TheVariants as output
use Rattle.init_machine.specs.declared.report.Entry.{Entry}
use Rattle.init_machine.specs.declared.waiting.Waiting.{Waiting}
use Rattle.machine_laws.specs.InOrder.{CommandAt, command_at, command_in, action_at, action_in, is_next, run_by, RunsInOrder, AreInPlace, CommandsFollow}
use Rattle.machine_laws.specs.Rebooting.{outputs_of}
use Rattle.machine_laws.proofs.Calm.{Calm, calm_acts, calm_line, no_actions, no_commands}
use Rattle.machine_laws.proofs.Members.{all_filter, all_append}
use Rattle.machine_laws.proofs.Relation.{By, and_then_by}
use Rattle.machine_laws.proofs.Restarts.{Restarts, restarts_sets, of_calm, command_end, command_is_calm, tick_restarts, exit_restarts}
use Rattle.machine_laws.proofs.Stepping.{boot_by, file_rule_by, ask_by, settle_by_by}

abbrev commands_in : List Action → List Command
commands_in actions = flat_map (λ a. a.commands) actions

abbrev all_left : List (List Command) → List Command
all_left running = flat_map (λ left. left) running

-- Each element of a list is in it.

each_contained : {T : Type 0} (P : T → Type 0) (xs : List T) → ((x : T) → Contains xs x → P x) → AllByRecursion P xs
each_contained P [] has = tt
each_contained P (x ∷ xs) has =
    (has x (0, omega arith, refl), each_contained P xs (λ y at. has y (suc at.0, (let less = at.1 in omega (arith, less)), at.2)))

begun_contained : (triggers : Event → Action → Bool) (actions : List Action) (event : Option Event) → AllByRecursion (Contains actions) (begun_by triggers actions event)
begun_contained triggers actions None = tt
begun_contained triggers actions (Some event) =
    all_filter (Contains actions) (Contains actions) (triggers event) (λ a is passes. is) actions (each_contained (Contains actions) actions (λ a is. is))

-- Taking.

events_begin_none : (events : List Event) → flat_map action_in (flat_map event_line events) ≡ []
events_begin_none [] = refl
events_begin_none (Named name ∷ events) = events_begin_none events
events_begin_none (Changed p ∷ events) = events_begin_none events
events_begin_none (AllProperties ∷ events) = events_begin_none events
events_begin_none (Mark ∷ events) = events_begin_none events

events_run_none : (events : List Event) → flat_map command_in (flat_map event_line events) ≡ []
events_run_none [] = refl
events_run_none (Named name ∷ events) = events_run_none events
events_run_none (Changed p ∷ events) = events_run_none events
events_run_none (AllProperties ∷ events) = events_run_none events
events_run_none (Mark ∷ events) = events_run_none events

actions_begin : (actions : List Action) → flat_map action_in (map action_line actions) ≡ map action_at actions
actions_begin [] = refl
actions_begin (a ∷ actions) = ap (λ rest. action_at a ∷ rest) (actions_begin actions)

actions_run_none : (actions : List Action) → flat_map command_in (map action_line actions) ≡ []
actions_run_none [] = refl
actions_run_none (a ∷ actions) = actions_run_none actions

-- what is taken
record Takes (actions : List Action) (running : List (List Command)) (t : Taken) : Type 0 where
  begun : List Action
  of_config : AllByRecursion (Contains actions) begun
  lines : flat_map action_in t.lines ≡ map action_at begun
  none : flat_map command_in t.lines ≡ []
  now : all_left t.running ≡ all_left running ++ commands_in begun

takes : (triggers : Event → Action → Bool) (actions : List Action) (running : List (List Command)) (events : List Event)
    → Takes actions running (taken_now triggers actions running events)
unfolding taken_now
takes triggers actions [] events =
    let all = events_to_take triggers actions events in
    let place = position_or_len (is_matched triggers actions) all in
    let begun = begun_by triggers actions (slice_get all place) in
    let front = flat_map event_line (take (place + 1) all) in
    record {
      begun = begun;
      of_config = begun_contained triggers actions (slice_get all place);
      lines = flat_map-append action_in front (map action_line begun)
          ∙ ap (λ xs. xs ++ flat_map action_in (map action_line begun)) (events_begin_none (take (place + 1) all)) ∙ actions_begin begun;
      none = flat_map-append command_in front (map action_line begun)
          ∙ ap (λ xs. xs ++ flat_map command_in (map action_line begun)) (events_run_none (take (place + 1) all)) ∙ actions_run_none begun;
      now = flat_map-map (λ (left : List Command). left) (λ (a : Action). a.commands) begun;
    }
takes triggers actions (commands ∷ rest) events = record {
  begun = [];
  of_config = tt;
  lines = refl;
  none = refl;
  now = sym (append-nil (all_left (commands ∷ rest)));
}

-- Running.

-- the next command of some that are left
record Runs (running : List (List Command)) (c : Change) : Type 0 where
  commands : map command_at (all_left running) ≡ flat_map command_in c.lines ++ map command_at (all_left c.state.running)
  actions : flat_map action_in c.lines ≡ []
  few : length (flat_map command_in c.lines) ≤ 1

left_all : (commands : List Command) (rest : List (List Command)) → all_left (left_of commands rest) ≡ commands ++ all_left rest
left_all [] rest = refl
left_all (c ∷ commands) rest = refl

run_one : (rules : Rules) (running : List (List Command)) (s : State) → s.over ≡ None → s.running ≡ running → Runs running (run_first rules running s)
unfolding effect
run_one rules [] s on is = record { commands = ap (λ left. map command_at (all_left left)) (sym is); actions = refl; few = omega arith }
run_one rules ([] ∷ rest) s on is = record { commands = refl; actions = refl; few = omega arith }
run_one rules ((c ∷ commands) ∷ rest) s on is =
    let t : State = record s { running = left_of commands rest } in
    let did = command_end rules c t in
    let calm = command_is_calm rules c t on in
    let none : flat_map command_in did.lines ≡ [] = no_commands did.lines calm.calm in
    record {
      commands = ap (λ left. command_at c ∷ map command_at left) (sym (left_all commands rest))
          ∙ ap (λ left. command_at c ∷ map command_at (all_left left)) (sym calm.running)
          ∙ ap (λ more. (command_at c ∷ more) ++ map command_at (all_left did.state.running)) (sym none);
      actions = no_actions did.lines calm.calm;
      few = (let e : length (command_at c ∷ flat_map command_in did.lines) ≡ 1 = ap (λ more. length (command_at c ∷ more)) none in omega (arith, e));
    }

-- what a Next does
record Nexts (actions : List Action) (s : State) (c : Change) : Type 0 where
  begun : List Action
  of_config : AllByRecursion (Contains actions) begun
  lines : flat_map action_in c.lines ≡ map action_at begun
  commands : map command_at (all_left s.running ++ commands_in begun) ≡ flat_map command_in c.lines ++ map command_at (all_left c.state.running)
  few : length (flat_map command_in c.lines) ≤ 1

-- nothing begins or runs
rests : (actions : List Action) (s : State) (c : Change) → By Calm s c → Nexts actions s c
rests actions s c calm =
    let none : flat_map command_in c.lines ≡ [] = no_commands c.lines calm.calm in
    record {
      begun = [];
      of_config = tt;
      lines = no_actions c.lines calm.calm;
      commands = ap (map command_at) (append-nil (all_left s.running)) ∙ ap (λ left. map command_at (all_left left)) (sym calm.running)
          ∙ ap (λ more. more ++ map command_at (all_left c.state.running)) (sym none);
      few = (let e : length (flat_map command_in c.lines) ≡ 0 = ap length none in omega (arith, e));
    }

take_nexts : (actions : List Action) (rules : Rules) (s : State) → s.over ≡ None → Nexts actions s (take_and_run actions rules s)
take_nexts actions rules s on =
    let taken = taken_now (matches (value_now s)) actions s.running s.events in
    let took = takes (matches (value_now s)) actions s.running s.events in
    let t = with_taken s taken in
    let did = run_first rules taken.running t in
    let one = run_one rules taken.running t on refl in
    let read : flat_map command_in (taken.lines ++ did.lines) ≡ flat_map command_in did.lines =
    flat_map-append command_in taken.lines did.lines ∙ ap (λ xs. xs ++ flat_map command_in did.lines) took.none in
    record {
      begun = took.begun;
      of_config = took.of_config;
      lines = flat_map-append action_in taken.lines did.lines ∙ ap (λ xs. flat_map action_in taken.lines ++ xs) one.actions
          ∙ append-nil (flat_map action_in taken.lines) ∙ took.lines;
      commands = ap (map command_at) (sym took.now) ∙ one.commands ∙ ap (λ more. more ++ map command_at (all_left did.state.running)) (sym read);
      few = (let e : length (flat_map command_in (taken.lines ++ did.lines)) ≡ length (flat_map command_in did.lines) = ap length read in let less = one.few in omega (arith, e, less));
    }

waiting_nexts : (actions : List Action) (rules : Rules) (waits : Option Waiting) (s : State) → s.over ≡ None → Nexts actions s (unless_waiting waits s (take_and_run actions rules))
waiting_nexts actions rules None s on = take_nexts actions rules s on
waiting_nexts actions rules (Some what) s on = rests actions s (change s (output.Blocked ∷ [])) (calm_line s s output.Blocked tt refl refl)

next_nexts : (actions : List Action) (rules : Rules) (s : State) → s.over ≡ None → Nexts actions s (next actions rules s)
unfolding next
next_nexts actions rules s on = waiting_nexts actions rules s.waits s on

down_nexts : (actions : List Action) (rules : Rules) (over : Option (List ℕ)) (s : State) → s.over ≡ over → Nexts actions s (unless_down over s (next actions rules))
down_nexts actions rules None s is = next_nexts actions rules s is
down_nexts actions rules (Some target) s is = rests actions s (change s (output.Down ∷ [])) (calm_line s s output.Down tt refl refl)

settled_nexts : (actions : List Action) (s : State) (over : Option (List ℕ)) (c : Change) → By Calm c.state (settle c.state) → Nexts actions s c → Nexts actions s (unless_over over c settle)
settled_nexts actions s None c calm did =
    let more = settle c.state in
    let none : flat_map command_in more.lines ≡ [] = no_commands more.lines calm.calm in
    let read : flat_map command_in (c.lines ++ more.lines) ≡ flat_map command_in c.lines =
    flat_map-append command_in c.lines more.lines ∙ ap (λ xs. flat_map command_in c.lines ++ xs) none ∙ append-nil (flat_map command_in c.lines) in
    record {
      begun = did.begun;
      of_config = did.of_config;
      lines = flat_map-append action_in c.lines more.lines ∙ ap (λ xs. flat_map action_in c.lines ++ xs) (no_actions more.lines calm.calm)
          ∙ append-nil (flat_map action_in c.lines) ∙ did.lines;
      commands = did.commands ∙ ap (λ xs. xs ++ map command_at (all_left c.state.running)) (sym read)
          ∙ ap (λ left. flat_map command_in (c.lines ++ more.lines) ++ map command_at (all_left left)) (sym calm.running);
      few = (let e : length (flat_map command_in (c.lines ++ more.lines)) ≡ length (flat_map command_in c.lines) = ap length read in let less = did.few in omega (arith, e, less));
    }
settled_nexts actions s (Some target) c calm did = did

settle_is_calm : (rules : Rules) (s : State) → By Calm s (settle s)
settle_is_calm rules s = settle_by_by rules Calm (calm_acts rules) s

-- Steps.

-- what a step begins and runs
record Steps (config : Config) (policy : PolicyLines) (s : State) (i : Input) : Type 0 where
  begun : List Action
  of_config : AllByRecursion (Contains config.actions) begun
  lines : flat_map action_in (step config policy s i).lines ≡ map action_at begun
  commands : map command_at (all_left s.running ++ commands_in begun)
      ≡ run_by (record { input = i; outputs = (step config policy s i).lines }) ++ map command_at (all_left (step config policy s i).state.running)
  in_place : AreInPlace (rules_of config policy) (is_next i) (step config policy s i).lines

-- a step that isn't a Next
other_steps : (config : Config) (policy : PolicyLines) (s : State) (i : Input) → is_next i ≡ false → By (Restarts (rules_of config policy)) s (step config policy s i)
    → Steps config policy s i
other_steps config policy s i other did = record {
  begun = [];
  of_config = tt;
  lines = did.actions;
  commands = ap (map command_at) (append-nil (all_left s.running)) ∙ ap (λ left. map command_at (all_left left)) (sym did.running)
      ∙ ap (λ (b : Bool). (if b then flat_map command_in (step config policy s i).lines else []) ++ map command_at (all_left (step config policy s i).state.running)) (sym other);
  in_place = subst (λ b. AreInPlace (rules_of config policy) b (step config policy s i).lines) (sym other) (did.follows false [] tt);
}

settled : (rules : Rules) (s : State) (c : Change) → By (Restarts rules) s c → By (Restarts rules) s (and_then c settle)
settled rules s c did = and_then_by rules (Restarts rules) (restarts_sets rules) s c settle did (λ t on. of_calm rules t _ _ (settle_is_calm rules t))

unless_down_restarts : (rules : Rules) (over : Option (List ℕ)) (s : State) (rule : State → Change) → s.over ≡ over → (s.over ≡ None → By (Restarts rules) s (rule s))
    → By (Restarts rules) s (unless_down over s rule)
unless_down_restarts rules None s rule is did = did is
unless_down_restarts rules (Some target) s rule is did = of_calm rules s (output.Down ∷ []) s (calm_line s s output.Down tt refl refl)

steps : (config : Config) (policy : PolicyLines) (s : State) (i : Input) → Steps config policy s i
unfolding step respond
steps config policy s input.Boot =
    let rules = rules_of config policy in
    other_steps config policy s input.Boot refl (settled rules s (boot config.pairs rules s) (of_calm rules s _ _ (boot_by rules Calm (calm_acts rules) config.pairs s)))
steps config policy s input.Next =
    let rules = rules_of config policy in
    let c = unless_down s.over s (next config.actions rules) in
    let did = settled_nexts config.actions s c.state.over c (settle_is_calm rules c.state) (down_nexts config.actions rules s.over s refl) in
    record { begun = did.begun; of_config = did.of_config; lines = did.lines; commands = did.commands; in_place = did.few }
steps config policy s (input.Tick ms) =
    let rules = rules_of config policy in
    other_steps config policy s (input.Tick ms) refl
    (settled rules s (unless_down s.over s (tick rules ms)) (unless_down_restarts rules s.over s (tick rules ms) refl (tick_restarts rules ms s)))
steps config policy s (input.Exit name status) =
    let rules = rules_of config policy in
    other_steps config policy s (input.Exit name status) refl
    (settled rules s (unless_down s.over s (exit rules name status)) (unless_down_restarts rules s.over s (exit rules name status) refl (λ on. exit_restarts rules name status s)))
steps config policy s (input.File path content) =
    let rules = rules_of config policy in
    other_steps config policy s (input.File path content) refl
    (settled rules s (unless_down s.over s (file path content))
    (unless_down_restarts rules s.over s (file path content) refl (λ on. of_calm rules s _ _ (file_rule_by rules Calm (calm_acts rules) path content s))))
steps config policy s (input.Set who name value) =
    let rules = rules_of config policy in
    other_steps config policy s (input.Set who name value) refl
    (settled rules s (ask rules (domain_of config.domains who) name value s)
    (of_calm rules s _ _ (ask_by rules Calm (calm_acts rules) (domain_of config.domains who) name value s)))

-- Histories.

record RunsFrom (config : Config) (policy : PolicyLines) (s : State) (history : List Entry) : Type 0 where
  begun : List Action
  of_config : AllByRecursion (Contains config.actions) begun
  lines : flat_map action_in (outputs_of history) ≡ map action_at begun
  commands : map command_at (all_left s.running ++ commands_in begun)
      ≡ flat_map run_by history ++ map command_at (all_left (after_from config policy s (inputs_of history)).running)

-- one entry, and those behind it
commands_joined : (left more later end : List Command) (mid : List Command) (run runs : List CommandAt) → map command_at (left ++ more) ≡ run ++ map command_at mid
    → map command_at (mid ++ later) ≡ runs ++ map command_at end → map command_at (left ++ (more ++ later)) ≡ (run ++ runs) ++ map command_at end
commands_joined left more later end mid run runs one other =
    ap (map command_at) (sym (append_assoc left more later))
    ∙ map-append command_at (left ++ more) later
    ∙ ap (λ xs. xs ++ map command_at later) one
    ∙ append_assoc run (map command_at mid) (map command_at later)
    ∙ ap (λ xs. run ++ xs) (sym (map-append command_at mid later) ∙ other)
    ∙ sym (append_assoc run runs (map command_at end))

run_same : (e : Entry) (i : Input) (lines : List Output) → e.input ≡ i → e.outputs ≡ lines → run_by (record { input = i; outputs = lines }) ≡ run_by e
run_same e i lines same is =
    ap (λ (j : Input). if is_next j then flat_map command_in lines else []) (sym same)
    ∙ ap (λ (xs : List Output). if is_next e.input then flat_map command_in xs else []) (sym is)

runs_from : (config : Config) (policy : PolicyLines) (s : State) (history : List Entry) → LegalFrom config policy s history → RunsFrom config policy s history
runs_from config policy s [] legal = record { begun = []; of_config = tt; lines = refl; commands = ap (map command_at) (append-nil (all_left s.running)) }
runs_from config policy s (e ∷ history) legal =
    let t = (step config policy s e.input).state in
    let one = steps config policy s e.input in
    let rest = runs_from config policy t history legal.1 in
    record {
      begun = one.begun ++ rest.begun;
      of_config = all_append (Contains config.actions) one.begun rest.begun one.of_config rest.of_config;
      lines = flat_map-append action_in e.outputs (outputs_of history)
          ∙ ap (λ xs. xs ++ flat_map action_in (outputs_of history)) (ap (flat_map action_in) legal.0 ∙ one.lines)
          ∙ ap (λ xs. map action_at one.begun ++ xs) rest.lines ∙ sym (map-append action_at one.begun rest.begun);
      commands = ap (λ xs. map command_at (all_left s.running ++ xs)) (flat_map-append (λ (a : Action). a.commands) one.begun rest.begun)
          ∙ commands_joined (all_left s.running) (commands_in one.begun) (commands_in rest.begun) (all_left (after_from config policy t (inputs_of history)).running)
          (all_left t.running) (run_by e) (flat_map run_by history)
          (one.commands ∙ ap (λ xs. xs ++ map command_at (all_left t.running)) (run_same e e.input (step config policy s e.input).lines refl legal.0)) rest.commands;
    }

pub runs_in_order : (o : Opening) (history : List Entry) → Legal o history → RunsInOrder o history
unfolding first_state
runs_in_order o history legal =
    let runs = runs_from o.config o.policy (first_state o) history legal in
    record { begun = runs.begun; of_config = runs.of_config; lines = runs.lines; commands = runs.commands }

follow_from : (config : Config) (policy : PolicyLines) (s : State) (history : List Entry) → LegalFrom config policy s history
    → AllByRecursion (CommandsFollow (rules_of config policy)) history
follow_from config policy s [] legal = tt
follow_from config policy s (e ∷ history) legal = (
  subst (AreInPlace (rules_of config policy) (is_next e.input)) (sym legal.0) (steps config policy s e.input).in_place,
  follow_from config policy (step config policy s e.input).state history legal.1,
)

pub commands_follow : (o : Opening) (history : List Entry) → Legal o history → AllByRecursion (CommandsFollow (rules_of o.config o.policy)) history
commands_follow o history legal = follow_from o.config o.policy (first_state o) history legal
