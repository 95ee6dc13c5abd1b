-- Ticks, exits and files, from what their parts do.
use Rattle.std.proofs.Common.{◌≡◌, ◌↔◌, ℕ, ◌+◌, Bool, true, false, cond, nat_lt, List, [], ◌∷◌, ◌++◌, map, Option, Some, None, Result, Ok, Err, refl, sym, ap, ◌∙◌, subst, append-nil}
use Rattle.std.specs.List.{find}
use Rattle.std.specs.Option.{option_map}
use Rattle.std.specs.Str.{bytes_eq}
use Rattle.std.proofs.lemmas.Slice.Eq.{bytes_eq-Decides}
use Rattle.init_base.specs.declared.units.Pid.{Pid}
use Rattle.init_machine.specs.Changes.{Change, change, nothing, and_then, each}
use Rattle.init_machine.specs.FileTree.{Place, tree_refusal, tree_after}
use Rattle.init_machine.specs.Kernel.{Process, last_time, ending_at, at_time, first_named, without}
use Rattle.init_machine.specs.Props.{Props}
use Rattle.init_machine.specs.Reaping.{reap}
use Rattle.init_machine.specs.State.{State, Rules}
use Rattle.init_machine.specs.Step.{reap_ended, time_out, restart_due, move_clock, tick, exit_of, exit, file_by, file}
use Rattle.init_machine.specs.declared.output.Cause.TheVariants as cause
use Rattle.init_machine.specs.declared.output.FsRefusal.{FsRefusal}
use Rattle.init_machine.specs.declared.output.FsRefusal.TheVariants as refusal
use Rattle.init_machine.specs.declared.output.How.TheVariants as how
use Rattle.init_machine.specs.declared.output.Output.{Output}
use Rattle.init_machine.specs.declared.output.Output.TheVariants as output
use Rattle.init_machine.specs.declared.task.TreeCall.{TreeCall}
use Rattle.init_machine.specs.declared.task.TreeCall.TheVariants as call
use Rattle.outputs.specs.Joins.{Joins}
use Rattle.machine_parts.specs.Parts.{Does, state_of, rules_of}
use Rattle.machine_parts.specs.declared.parts.Parts.{Parts}
use Rattle.model_fs.specs.Calls.{IsRefused}
use Rattle.model_kernel.specs.Kernel.{KernelView, pid_of, exiting, exited, without_first, reaped_of, reaped_at, ticked}
use Rattle.model_kernel.specs.declared.reaped.Reaped.{Reaped}
use Rattle.model_kernel.specs.declared.refusal.TickRefusal.{TickRefusal}
use Rattle.model_kernel.specs.declared.refusal.TickRefusal.TheVariants as tick_refusal
use Rattle.init_core.specs.Reaped.{reap_one}
use Rattle.machine_parts.proofs.Doing.{does_plain, does_both}

-- the reaped of the kernel are the processes that have ended
each_reaped : (rules : Rules) (ps : List Process) (s : State) → each (reap_one rules) (map reaped_of ps) s ≡ each (reap_ended rules) ps s
each_reaped rules [] s = refl
each_reaped rules (p ∷ ps) s = λ i. and_then (reap_ended rules p s) (λ now. each_reaped rules ps now i)

pub not_far : (b : Bool) (r : Result (List Reaped) TickRefusal) (ended : List Reaped) → r ≡ Ok ended → (r ≡ Err tick_refusal.TooFar) ↔ (b ≡ true) → b ≡ false
not_far false r ended ok far = refl
not_far true r ended ok far = let both : r ≡ Err tick_refusal.TooFar = far.1 refl in absurd (cc)

named_by : (b : Bool) (q p : Process) (name : List ℕ) (rest : Option Process) → bytes_eq q.name name ≡ b → cond b (Some q) rest ≡ Some p → (rest ≡ Some p → p.name ≡ name) → p.name ≡ name
named_by true q p name rest same found later = let it : q ≡ p = cc in ap (λ (other : Process). other.name) (sym it) ∙ (bytes_eq-Decides q.name name).0 same
named_by false q p name rest same found later = later found

-- what is found has the name
named : (ps : List Process) (name : List ℕ) (p : Process) → find (λ other. bytes_eq other.name name) ps ≡ Some p → p.name ≡ name
named [] name p is = absurd (cc)
named (q ∷ ps) name p is = named_by (bytes_eq q.name name) q p name _ refl is (named ps name p)

-- a refusal that isn't want of memory
pub refused_by : (tree new : List Place) (asked : TreeCall) (why : FsRefusal) → (why ≡ refusal.NoMemory → ⊥) → IsRefused tree asked new why → (tree_refusal tree asked ≡ Some why) × (new ≡ tree)
refused_by tree new asked refusal.NoMemory other is = absurd (other refl)
refused_by tree new asked refusal.BadPath other is = is
refused_by tree new asked refusal.Absent other is = is
refused_by tree new asked refusal.IsDir other is = is
refused_by tree new asked refusal.NotDir other is = is
refused_by tree new asked refusal.Exists other is = is
refused_by tree new asked refusal.NotEmpty other is = is
refused_by tree new asked refusal.Insecure other is = is

abbrev moves_on : List Reaped → Rules → State → Change
moves_on ended rules s = and_then (and_then (each (reap_one rules) ended s) (time_out rules)) (restart_due rules)

module _ {S O : Type 0} {meaning : S → Props} {told : S → Option (List (List ℕ × List ℕ))} {adds : O → O → List Output → Type 0} (joins : Joins adds) where
  -- the kernel alone has changed
  kernel_changed : (old : Parts S O) (kernel changed : KernelView) → kernel ≡ changed → changed.plans ≡ old.kernel.plans
      → Does meaning told adds old (record old { kernel = kernel }) (nothing (record (state_of meaning old) { kernel = changed.kernel }))
  kernel_changed old kernel changed is plans =
      does_plain joins (ap (λ (k : KernelView). record (state_of meaning old) { kernel = k.kernel }) is) (joins.none old.outputs) refl
      (ap (λ (k : KernelView). let rules : Rules = record { services = old.services.defs; plans = k.plans; policy = old.policy } in rules) is
      ∙ ap (λ (ps : List _). let rules : Rules = record { services = old.services.defs; plans = ps; policy = old.policy } in rules) plans)
      refl refl

  -- the clock has moved
  pub clock_moves : (old new : Parts S O) (kernel : KernelView) (ended : List Reaped) (ms : ℕ) → nat_lt last_time (old.kernel.kernel.clock + ms) ≡ false
      → kernel ≡ ticked old.kernel (old.kernel.kernel.clock + ms) → ended ≡ reaped_at old.kernel (old.kernel.kernel.clock + ms)
      → (let mid : Parts S O = record old { kernel = kernel } in
      Does meaning told adds mid new (and_then (and_then (each (reap_one (rules_of mid)) ended (state_of meaning mid)) (time_out (rules_of mid))) (restart_due (rules_of mid)))
      → Does meaning told adds old new (tick (rules_of old) ms (state_of meaning old)))
  unfolding tick
  clock_moves old new kernel ended ms near moved reaped second =
      let s = state_of meaning old in
      let rules = rules_of old in
      let now = old.kernel.kernel.clock + ms in
      let ps = ending_at s.kernel now in
      let then : State = record s { kernel = at_time s.kernel now } in
      let done : Does meaning told adds old new (moves_on ended rules then) = does_both joins (λ rules. moves_on ended rules) (kernel_changed old kernel (ticked old.kernel now) moved refl) second in
      let same : moves_on ended rules then ≡ move_clock rules now s =
      ap (λ (es : List Reaped). moves_on es rules then) reaped
      ∙ ap (λ (c : Change). and_then (and_then c (time_out rules)) (restart_due rules)) (each_reaped rules ps then) in
      subst (λ (b : Bool). Does meaning told adds old new (cond b (change s (output.TooFar ∷ [])) (move_clock rules now s))) (sym near)
      (subst (Does meaning told adds old new) same done)

  pub is_far : (old : Parts S O) (kernel : KernelView) (outputs : O) (ms : ℕ) → nat_lt last_time (old.kernel.kernel.clock + ms) ≡ true → kernel ≡ old.kernel
      → adds old.outputs outputs (output.TooFar ∷ []) → Does meaning told adds old (record old { kernel = kernel; outputs = outputs }) (tick (rules_of old) ms (state_of meaning old))
  unfolding tick
  is_far old kernel outputs ms far same line =
      let s = state_of meaning old in
      let new : Parts S O = record old { kernel = kernel; outputs = outputs } in
      subst (λ (b : Bool). Does meaning told adds old new (cond b (change s (output.TooFar ∷ [])) (move_clock (rules_of old) (old.kernel.kernel.clock + ms) s))) (sym far)
      (does_plain joins (ap (λ (k : KernelView). record s { kernel = k.kernel }) same) line refl
      (ap (λ (k : KernelView). let rules : Rules = record { services = old.services.defs; plans = k.plans; policy = old.policy } in rules) same) refl refl)

  -- a process exits
  exits_of : (old new : Parts S O) (kernel : KernelView) (pid : Pid) (name : List ℕ) (status : ℕ) (found : Option Process) → first_named old.kernel.kernel name ≡ found
      → Some pid ≡ option_map pid_of found → kernel ≡ record old.kernel { kernel = without_first old.kernel.kernel found }
      → (let mid : Parts S O = record old { kernel = kernel } in
      Does meaning told adds mid new (reap (rules_of mid) pid.0 name (how.Exit status) (state_of meaning mid))
      → Does meaning told adds old new (exit_of (rules_of old) status found (state_of meaning old)))
  exits_of old new kernel pid name status None is it gone second = absurd (cc)
  exits_of old new kernel pid name status (Some p) is it gone second =
      let pid_is : pid ≡ pid_of p = cc in
      let name_is : p.name ≡ name = named old.kernel.kernel.processes name p is in
      let mid : Parts S O = record old { kernel = kernel } in
      does_both joins (λ rules now. reap rules p.pid p.name (how.Exit status) now)
      (kernel_changed old kernel (record old.kernel { kernel = without old.kernel.kernel p.pid }) gone refl)
      (subst (λ (n : List ℕ). Does meaning told adds mid new (reap (rules_of mid) p.pid n (how.Exit status) (state_of meaning mid))) (sym name_is)
      (subst (λ (it : Pid). Does meaning told adds mid new (reap (rules_of mid) it.0 name (how.Exit status) (state_of meaning mid))) pid_is second))

  pub exits : (old new : Parts S O) (kernel : KernelView) (pid : Pid) (name : List ℕ) (status : ℕ) → Some pid ≡ exiting old.kernel name → kernel ≡ exited old.kernel name
      → (let mid : Parts S O = record old { kernel = kernel } in
      Does meaning told adds mid new (reap (rules_of mid) pid.0 name (how.Exit status) (state_of meaning mid))
      → Does meaning told adds old new (exit (rules_of old) name status (state_of meaning old)))
  unfolding exit
  exits old new kernel pid name status it gone second = exits_of old new kernel pid name status (first_named old.kernel.kernel name) refl it gone second

  no_process_of : (old : Parts S O) (kernel : KernelView) (outputs : O) (status : ℕ) (found : Option Process) → None ≡ option_map pid_of found
      → kernel ≡ record old.kernel { kernel = without_first old.kernel.kernel found } → adds old.outputs outputs (output.NoProcess ∷ [])
      → Does meaning told adds old (record old { kernel = kernel; outputs = outputs }) (exit_of (rules_of old) status found (state_of meaning old))
  no_process_of old kernel outputs status None none same line =
      does_plain joins (ap (λ (k : KernelView). record (state_of meaning old) { kernel = k.kernel }) same) line refl
      (ap (λ (k : KernelView). let rules : Rules = record { services = old.services.defs; plans = k.plans; policy = old.policy } in rules) same) refl refl
  no_process_of old kernel outputs status (Some p) none same line = absurd (cc)

  pub no_process : (old : Parts S O) (kernel : KernelView) (outputs : O) (name : List ℕ) (status : ℕ) → None ≡ exiting old.kernel name → kernel ≡ exited old.kernel name
      → adds old.outputs outputs (output.NoProcess ∷ [])
      → Does meaning told adds old (record old { kernel = kernel; outputs = outputs }) (exit (rules_of old) name status (state_of meaning old))
  unfolding exit
  no_process old kernel outputs name status none same line = no_process_of old kernel outputs status (first_named old.kernel.kernel name) none same line

  -- a file appears, or doesn't
  pub writes : (old : Parts S O) (tree : List Place) (outputs : O) (path content given shown : List ℕ) → given ≡ content → shown ≡ path
      → tree_refusal old.tree (call.Write path given) ≡ None → tree ≡ tree_after old.tree (call.Write path given) → adds old.outputs outputs (output.Tree shown ∷ [])
      → Does meaning told adds old (record old { tree = tree; outputs = outputs }) (file path content (state_of meaning old))
  unfolding file
  writes old tree outputs path content given shown is showing allowed after line =
      let s = state_of meaning old in
      let new : Parts S O = record old { tree = tree; outputs = outputs } in
      let done : Does meaning told adds old new (file_by None path given s) =
      does_plain joins (ap (λ (t : List Place). record s { tree = t }) after) (subst (λ (p : List ℕ). adds old.outputs outputs (output.Tree p ∷ [])) showing line) refl refl refl refl in
      subst (λ (text : List ℕ). Does meaning told adds old new (file_by (tree_refusal old.tree (call.Write path text)) path text s)) is
      (subst (λ (o : Option FsRefusal). Does meaning told adds old new (file_by o path given s)) (sym allowed) done)

  pub writes_not : (old : Parts S O) (tree : List Place) (outputs : O) (path content given : List ℕ) (why : FsRefusal) → given ≡ content
      → (tree_refusal old.tree (call.Write path given) ≡ Some why) × (tree ≡ old.tree) → adds old.outputs outputs (output.Failed (cause.Tree why) ∷ [])
      → Does meaning told adds old (record old { tree = tree; outputs = outputs }) (file path content (state_of meaning old))
  unfolding file
  writes_not old tree outputs path content given why is refused line =
      let s = state_of meaning old in
      let new : Parts S O = record old { tree = tree; outputs = outputs } in
      let done : Does meaning told adds old new (file_by (Some why) path given s) = does_plain joins (ap (λ (t : List Place). record s { tree = t }) refused.1) line refl refl refl refl in
      subst (λ (text : List ℕ). Does meaning told adds old new (file_by (tree_refusal old.tree (call.Write path text)) path text s)) is
      (subst (λ (o : Option FsRefusal). Does meaning told adds old new (file_by o path given s)) (sym refused.0) done)
