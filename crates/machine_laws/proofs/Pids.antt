-- The pids of the processes that are spawned count from 100.
use Rattle.std.proofs.Common.{◌≡◌, ℕ, ◌+◌, List, [], ◌∷◌, ◌++◌, length, refl, sym, ap, ◌∙◌, arith, length-append}
use Rattle.std.proofs.lemmas.Grind.{flat_map-append}
use Rattle.std.specs.List.{flat_map}
use Rattle.init_machine.specs.History.{Legal}
use Rattle.init_machine.specs.Setting.{put_line, put_property}
use Rattle.init_machine.specs.State.{Opening, State, Rules, rules_of, first_state}
use Rattle.init_machine.specs.declared.output.Output.{Output}
use Rattle.init_machine.specs.declared.output.Output.TheVariants as output
use Rattle.init_machine.specs.declared.report.Entry.{Entry}
use Rattle.machine_laws.specs.Counting.{counting_from}
use Rattle.machine_laws.specs.Processes.{spawned_in}
use Rattle.machine_laws.specs.Rebooting.{outputs_of}
use Rattle.machine_laws.proofs.Counted.{counting-append}
use Rattle.machine_laws.proofs.Relation.{IsPlain, Sets}
use Rattle.machine_laws.proofs.Saving.{loaded_by}
use Rattle.machine_laws.proofs.Stepping.{Clocks, Steps, tick_by, exit_by, step_by, history_by}
use Rattle.machine_laws.proofs.Taking.{IsTaking, event, change, all, action}

abbrev pids_in : List Output → List ℕ
pids_in lines = flat_map spawned_in lines

-- the spawned processes have the pids from the next one on
record Numbers (s : State) (lines : List Output) (t : State) : Type 0 where
  pids : (k : ℕ) → s.kernel.next_pid ≡ k + 1 → pids_in lines ≡ counting_from k (length (pids_in lines))
  next : t.kernel.next_pid ≡ s.kernel.next_pid + length (pids_in lines)

none_spawned : (s t : State) → t.kernel.next_pid ≡ s.kernel.next_pid → Numbers s [] t
none_spawned s t same = record { pids = λ k is. refl; next = omega (arith, same) }

-- a line that spawns nothing
line_spawns_none : (s t : State) (o : Output) → spawned_in o ≡ [] → t.kernel.next_pid ≡ s.kernel.next_pid → Numbers s (o ∷ []) t
line_spawns_none s t o none same =
    let e : pids_in (o ∷ []) ≡ [] = ap (λ pids. pids ++ []) none in
    record {
      pids = λ k is. rw e refl;
      next = rw e (omega (arith, same));
    }

joined : (s t u : State) (first second : List Output) → Numbers s first t → Numbers t second u → Numbers s (first ++ second) u
joined s t u first second one other =
    let e : pids_in (first ++ second) ≡ pids_in first ++ pids_in second = flat_map-append spawned_in first second in
    let len : length (pids_in first ++ pids_in second) ≡ length (pids_in first) + length (pids_in second) = length-append (pids_in first) (pids_in second) in
    record {
      pids = λ k is.
          let at : t.kernel.next_pid ≡ (k + length (pids_in first)) + 1 = omega (arith, is, one.next) in
          rw (e, len) (
          ap (λ front. front ++ pids_in second) (one.pids k is)
          ∙ ap (λ back. counting_from k (length (pids_in first)) ++ back) (other.pids (k + length (pids_in first)) at)
          ∙ sym (counting-append k (length (pids_in first)) (length (pids_in second)))
          );
      next = rw (e, len) (omega (arith, one.next, other.next));
    }

-- a process is spawned
spawns : (s t : State) (o : Output) → spawned_in o ≡ s.kernel.next_pid ∷ [] → t.kernel.next_pid ≡ s.kernel.next_pid + 1 → Numbers s (o ∷ []) t
spawns s t o one more =
    let e : pids_in (o ∷ []) ≡ s.kernel.next_pid ∷ [] = ap (λ pids. pids ++ []) one in
    record {
      pids = λ k is. rw e (ap (λ n. n ∷ []) is);
      next = rw e more;
    }

plain_spawns_none : (s : State) (o : Output) → IsPlain o → Numbers s (o ∷ []) s
plain_spawns_none s (output.Spawn pid name path) plain = absurd plain
plain_spawns_none s o plain = line_spawns_none s s o refl refl

taking_spawns_none : (s : State) (o : Output) → IsTaking o → Numbers s (o ∷ []) s
taking_spawns_none s o (event name) = line_spawns_none s s _ refl refl
taking_spawns_none s o (change name value) = line_spawns_none s s _ refl refl
taking_spawns_none s o all = line_spawns_none s s _ refl refl
taking_spawns_none s o (action file line) = line_spawns_none s s _ refl refl

put_spawns_none : (s : State) (name value : List ℕ) → Numbers s (put_line s name value ∷ []) (put_property s name value).state
unfolding put_property
put_spawns_none s name value = line_spawns_none s _ (put_line s name value) refl refl

sets : (rules : Rules) → Sets rules Numbers
sets rules = record {
  none = λ s. none_spawned s s refl;
  joined = joined;
  line = plain_spawns_none;
  stored = λ s name on. line_spawns_none s s (output.Stored name) refl refl;
  aside = λ s t same. none_spawned s t (ap (λ k. k.next_pid) same.kernel);
  put = λ s by name value accepted. put_spawns_none s name value;
}

clocks : (rules : Rules) → Clocks rules Numbers
clocks rules = record {
  reaps = record {
    runs = record {
      acts = record {
        sets = sets rules;
        mark = λ s at m same. none_spawned s _ refl;
        spawned = λ s at service on here pid alone. spawns s _ _ refl refl;
        program = λ s path on pid. spawns s _ _ refl refl;
        killed = λ s at service pid on here is. line_spawns_none s _ _ refl refl;
        loaded = loaded_by rules Numbers (sets rules) (record { forgotten = λ s name. none_spawned s _ refl; turned_on = λ s. none_spawned s _ refl });
      };
      command = λ s c args. line_spawns_none s s _ refl refl;
      rebooted = λ s target on. line_spawns_none s _ _ refl refl;
    };
    unmarked = λ s at. none_spawned s _ refl;
    reaped = λ s pid name how on. line_spawns_none s s _ refl refl;
  };
  moved = λ s now on. none_spawned s _ refl;
  left = λ s pid on. none_spawned s _ refl;
}

steps : (rules : Rules) → Steps rules Numbers
steps rules = record {
  runs = (clocks rules).reaps.runs;
  taking = taking_spawns_none;
  scheduled = λ s t same. none_spawned s t (ap (λ k. k.next_pid) same.kernel);
  clock = tick_by rules Numbers (clocks rules);
  exits = exit_by rules Numbers (clocks rules);
}

pub pids_count : (o : Opening) (history : List Entry) → Legal o history
    → flat_map spawned_in (outputs_of history) ≡ counting_from 99 (length (flat_map spawned_in (outputs_of history)))
unfolding first_state
pids_count o history legal =
    let rules = rules_of o.config o.policy in
    let all_numbered = history_by o.config o.policy Numbers (sets rules) (step_by o.config o.policy Numbers (steps rules)) (first_state o) history legal in
    all_numbered.pids 99 refl
