-- Operations on services, by what was done before and what is told then.
use Rattle.std.proofs.Common.{◌≡◌, ◌++◌, ℕ, Bool, true, false, List, [], ◌∷◌, Option, Some, None, Result, Ok, Err, ◌↔◌, refl, sym, ap, ◌∙◌, subst, codes}
use Rattle.std.specs.List.{slice_get}
use Rattle.init_base.specs.declared.units.Pid.{Pid}
use Rattle.init_machine.specs.Changes.{Change, change, behind, nothing}
use Rattle.init_machine.specs.History.{sets_in}
use Rattle.init_machine.specs.Kernel.{has_pid}
use Rattle.init_machine.specs.Marks.{service_step}
use Rattle.init_machine.specs.Props.{Props, more_sets}
use Rattle.init_machine.specs.Services.{follow, kill_process, marks_at, not_spawned, operate, operate_on, operated, pid_of, spawn, spawned, spawn_line, state_name, tell, with_spawned}
use Rattle.init_machine.specs.Setting.{set_property, told_refusal, unset_lines}
use Rattle.init_machine.specs.State.{Rules, State}
use Rattle.init_machine.specs.declared.output.Output.{Output}
use Rattle.init_machine.specs.declared.output.Output.TheVariants as output
use Rattle.init_machine.specs.declared.output.SetRefusal.{SetRefusal}
use Rattle.init_machine.specs.declared.service.Move.{Move}
use Rattle.init_machine.specs.declared.service.Op.{Op}
use Rattle.init_machine.specs.declared.service.Op.TheVariants as op
use Rattle.init_machine.specs.declared.service.ServiceDef.{ServiceDef}
use Rattle.model_kernel.specs.Kernel.{KernelView}
use Rattle.model_kernel.specs.declared.refusal.SpawnRefusal.{SpawnRefusal}
use Rattle.model_kernel.specs.declared.refusal.SpawnRefusal.TheVariants as refusal
use Rattle.model_kernel.specs.Kernel.{spawned as kernel_spawned, killed as kernel_killed}
use Rattle.outputs.specs.Joins.{Joins}
use Rattle.services.specs.Services.{ServicesView, move_of, with_op}
use Rattle.machine_parts.specs.internal.Operations.{with_step}
use Rattle.machine_parts.specs.Parts.{Does, actions_of, rules_of, state_of}
use Rattle.machine_parts.specs.declared.parts.Parts.{Parts}
use Rattle.machine_parts.proofs.Doing.{does_both, does_more, does_plain, unset_sets_none}

module _ {S O : Type 0} (meaning : S → Props) (told : S → Option (List (List ℕ × List ℕ))) {adds : O → O → List Output → Type 0} (joins : Joins adds) where
  -- the state is told by a set, and a refusal is a line
  pub tells : (a b c : Parts S O) (service name word given : List ℕ) (refused : Option SetRefusal) (outs : O) → name ≡ state_name service → given ≡ word
      → refused ≡ (set_property (rules_of a) (state_of meaning a) None name given).refused
      → Does meaning told adds a b (set_property (rules_of a) (state_of meaning a) None name given).done
      → c ≡ record b { outputs = outs } → adds b.outputs outs (unset_lines name refused)
      → Does meaning told adds a c (tell (rules_of a) service word (state_of meaning a))
  unfolding tell
  tells a b c service name word given refused outs named same why did is outputs =
      let done = (set_property (rules_of a) (state_of meaning a) None name given).done in
      let more : Does meaning told adds a c (change done.state (done.lines ++ unset_lines name refused)) =
      subst (λ (p : Parts S O). Does meaning told adds a p (change done.state (done.lines ++ unset_lines name refused))) (sym is) (does_more joins outs (unset_lines name refused) did outputs (unset_sets_none name refused)) in
      subst (λ (w : List ℕ). Does meaning told adds a c (told_refusal (state_name service) (set_property (rules_of a) (state_of meaning a) None (state_name service) w))) same
      (subst (λ (n : List ℕ). Does meaning told adds a c (told_refusal n (set_property (rules_of a) (state_of meaning a) None n given))) named
      (subst (λ (r : Option SetRefusal). Does meaning told adds a c (change done.state (done.lines ++ unset_lines name r))) why more))

  -- what is told after a change
  tells_after : (a b c : Parts S O) (first : Change) (name word : List ℕ) → Does meaning told adds a b first → Does meaning told adds b c (tell (rules_of b) name word (state_of meaning b))
      → Does meaning told adds a c (behind first.lines (tell (rules_of a) name word first.state))
  tells_after a b c first name word f s = does_both joins (λ rules t. tell rules name word t) f s

  -- parts that differ in the state alone
  pub does_from : (a b c : Parts S O) (done : Change) → b.outputs ≡ a.outputs → told b.store ≡ told a.store → rules_of b ≡ rules_of a → actions_of b ≡ actions_of a
      → Does meaning told adds b c done → Does meaning told adds a c done
  does_from a b c done outputs sets rules actions d = record {
    state = d.state;
    lines = subst (λ (os : O). adds os c.outputs done.lines) outputs d.lines;
    sets = d.sets ∙ ap (λ t. more_sets t (sets_in done.lines)) sets;
    rules = d.rules ∙ rules;
    actions = d.actions ∙ actions;
  }

  pub spawns : (a c d : Parts S O) (kernel : KernelView) (pid : Pid) (name path : List ℕ) (at : ℕ)
      → kernel ≡ kernel_spawned a.kernel name path → pid.0 ≡ a.kernel.kernel.next_pid
      → Does meaning told adds (record a { kernel = kernel }) c
      (change (with_step (state_of meaning (record a { kernel = kernel })) at (op.Spawned pid (record { 0 = kernel.kernel.clock }))) (output.Spawn pid name path ∷ []))
      → Does meaning told adds c d (tell (rules_of c) name (codes "running") (state_of meaning c))
      → Does meaning told adds a d (spawned (rules_of a) name path at (state_of meaning a))
  spawns a c d kernel pid name path at is number entered telling =
      let now = kernel_spawned a.kernel name path in
      let entered' : Does meaning told adds (record a { kernel = now }) c
      (change (with_spawned (rules_of a) name path at (state_of meaning a)) (spawn_line a.kernel.kernel name path ∷ [])) =
      subst (λ (p : ℕ). Does meaning told adds (record a { kernel = now }) c (change (with_step (state_of meaning (record a { kernel = now })) at (op.Spawned (pid_of p) (record { 0 = now.kernel.clock }))) (output.Spawn (pid_of p) name path ∷ []))) number
      (subst (λ (k : KernelView). Does meaning told adds (record a { kernel = k }) c (change (with_step (state_of meaning (record a { kernel = k })) at (op.Spawned pid (record { 0 = k.kernel.clock }))) (output.Spawn pid name path ∷ []))) is entered) in
      let from : Does meaning told adds a c (change (with_spawned (rules_of a) name path at (state_of meaning a)) (spawn_line a.kernel.kernel name path ∷ [])) =
      does_from a (record a { kernel = now }) c _ refl refl refl refl entered' in
      tells_after a c d _ name (codes "running") from telling

  pub kills : (a b c : Parts S O) (kernel : KernelView) (outs : O) (pid : Pid) (name given : List ℕ) → kernel ≡ kernel_killed a.kernel pid → given ≡ name
      → adds a.outputs outs (output.Kill pid given ∷ []) → b ≡ record a { kernel = kernel; outputs = outs }
      → Does meaning told adds b c (tell (rules_of b) name (codes "stopping") (state_of meaning b))
      → Does meaning told adds a c (kill_process (rules_of a) name pid (state_of meaning a))
  unfolding kill_process
  kills a b c kernel outs pid name given is named outputs both telling =
      let whole : b ≡ record a { kernel = kernel_killed a.kernel pid; outputs = outs } = both ∙ (λ i. record a { kernel = is i; outputs = outs }) in
      let from : Does meaning told adds a b (change (record (state_of meaning a) { kernel = (kernel_killed a.kernel pid).kernel }) (output.Kill pid name ∷ [])) =
      does_plain joins (ap (state_of meaning) whole)
      (subst (λ (os : O). adds a.outputs os (output.Kill pid name ∷ [])) (sym (ap (λ (p : Parts S O). p.outputs) whole)) (subst (λ (n : List ℕ). adds a.outputs outs (output.Kill pid n ∷ [])) named outputs))
      (ap (λ (p : Parts S O). told p.store) whole) (ap rules_of whole) (ap actions_of whole) refl in
      tells_after a b c _ name (codes "stopping") from telling

  pub unspawns : (a c d : Parts S O) (kernel : KernelView) (name : List ℕ) (at : ℕ) → kernel ≡ a.kernel
      → Does meaning told adds (record a { kernel = kernel }) c (change (with_step (state_of meaning (record a { kernel = kernel })) at op.NoPid) (output.NoPid name ∷ []))
      → Does meaning told adds c d (tell (rules_of c) name (codes "stopped") (state_of meaning c))
      → Does meaning told adds a d (not_spawned (rules_of a) name at (state_of meaning a))
  unspawns a c d kernel name at is entered telling =
      let from : Does meaning told adds a c (change (with_step (state_of meaning a) at op.NoPid) (output.NoPid name ∷ [])) =
      subst (λ (k : KernelView). Does meaning told adds (record a { kernel = k }) c (change (with_step (state_of meaning (record a { kernel = k })) at op.NoPid) (output.NoPid name ∷ []))) is entered in
      tells_after a c d _ name (codes "stopped") from telling

-- whether the kernel has a pid decides

spawn_had : (rules : Rules) (s : State) (name path : List ℕ) (at : ℕ) → has_pid s.kernel ≡ true → spawn rules name path at s ≡ operated true (spawned rules name path at s)
unfolding spawn
spawn_had rules s name path at had = rw had refl

spawn_not : (rules : Rules) (s : State) (name path : List ℕ) (at : ℕ) → has_pid s.kernel ≡ false → spawn rules name path at s ≡ operated false (not_spawned rules name at s)
unfolding spawn
spawn_not rules s name path at none = rw none refl

is_true : (b : Bool) → (b ≡ false → ⊥) → b ≡ true
is_true true never = refl
is_true false never = absurd (never refl)

pub spawn_of_pid : (rules : Rules) (s : State) (name path : List ℕ) (at : ℕ) (r : Result Pid SpawnRefusal) (pid : Pid) → r ≡ Ok pid → ((r ≡ Err refusal.NoPid) ↔ (has_pid s.kernel ≡ false))
    → spawn rules name path at s ≡ operated true (spawned rules name path at s)
spawn_of_pid rules s name path at r pid is exact = spawn_had rules s name path at (is_true (has_pid s.kernel) (λ none. absurd (cc (is, exact.1 none))))

pub spawn_without_pid : (rules : Rules) (s : State) (name path : List ℕ) (at : ℕ) (r : Result Pid SpawnRefusal) → r ≡ Err refusal.NoPid → ((r ≡ Err refusal.NoPid) ↔ (has_pid s.kernel ≡ false))
    → spawn rules name path at s ≡ operated false (not_spawned rules name at s)
spawn_without_pid rules s name path at r is exact = spawn_not rules s name path at (exact.0 is)

-- an operation on a service that is there, and what follows from it
operates_is : (rules : Rules) (service : ServiceDef) (at : ℕ) (what : Op) (s : State) → Some service ≡ slice_get rules.services at
    → operate rules at what s ≡ follow rules service.name service.path at (service_step what (marks_at s at)).todo (with_step s at what)
unfolding operate
operates_is rules service at what s there = ap (λ (o : Option ServiceDef). operate_on rules o at what s) (sym there)

pub operates_none : (rules : Rules) (at : ℕ) (what : Op) (s : State) → None ≡ slice_get rules.services at → operate rules at what s ≡ operated true (nothing s)
unfolding operate
operates_none rules at what s none = ap (λ (o : Option ServiceDef). operate_on rules o at what s) (sym none)

pub operates : {S O : Type 0} (meaning : S → Props) (a : Parts S O) (services : ServicesView) (service : ServiceDef) (at : ℕ) (what : Op) (todo : Move) (name path : List ℕ)
    → Some service ≡ slice_get a.services.defs at → name ≡ service.name → path ≡ service.path → services ≡ with_op a.services at what → todo ≡ move_of a.services at what
    → follow (rules_of (record a { services = services })) name path at todo (state_of meaning (record a { services = services })) ≡ operate (rules_of a) at what (state_of meaning a)
operates meaning a services service at what todo name path there named placed is moved =
    (λ i. follow (rules_of (record a { services = is i })) (named i) (placed i) at (moved i) (state_of meaning (record a { services = is i })))
    ∙ sym (operates_is (rules_of a) service at what (state_of meaning a) there)
