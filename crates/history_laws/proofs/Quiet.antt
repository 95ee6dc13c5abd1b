-- What a client's set leaves alone: the tree, the clock, whether the machine is over, and each wait but one that it ends. None of
-- its lines is an answer. (The tree may change under the relations of `machine_laws`, so each rule is gone through here.)
use Rattle.std.proofs.Common.{◌≡◌, ◌⊎◌, inl, inr, ℕ, Bool, true, false, List, [], ◌∷◌, ◌++◌, codes, Option, Some, None, if◌then◌else◌, refl, ◌∙◌}
use Rattle.std.specs.List.{AllByRecursion}
use Rattle.init_machine.specs.Changes.{Change, behind, nothing}
use Rattle.init_machine.specs.Kernel.{has_pid, with_kill}
use Rattle.init_machine.specs.Marks.{service_step}
use Rattle.init_machine.specs.Services.{state_name, tell, Operated, operated, spawn_line, with_marks, marks_at, with_spawned, spawned, not_spawned, spawn, kill_process, follow, operate_on, operate, service_at, control_at}
use Rattle.init_machine.specs.Setting.{Judged, judged, set_answer, put_property, stored_lines, is_stored, released_lines, awaits, still_waits, set_property, unset_lines, told_refusal}
use Rattle.init_machine.specs.State.{State, Rules}
use Rattle.init_machine.specs.declared.output.Output.{Output}
use Rattle.init_machine.specs.declared.output.Output.TheVariants as output
use Rattle.init_machine.specs.declared.output.SetRefusal.{SetRefusal}
use Rattle.init_machine.specs.declared.service.Move.{Move}
use Rattle.init_machine.specs.declared.service.Move.TheVariants as move
use Rattle.init_machine.specs.declared.service.Op.{Op}
use Rattle.init_machine.specs.declared.service.Op.TheVariants as op
use Rattle.init_machine.specs.declared.service.ServiceDef.{ServiceDef}
use Rattle.init_machine.specs.declared.waiting.Waiting.{Waiting}
use Rattle.machine_laws.proofs.Members.{all_append}
use Rattle.history_laws.specs.Answered.{IsNoAnswer}

pub record Quiet (s : State) (c : Change) : Type 0 where
  pub tree : c.state.tree ≡ s.tree
  pub clock : c.state.kernel.clock ≡ s.kernel.clock
  pub waits : (c.state.waits ≡ s.waits) ⊎ (c.state.waits ≡ None)
  pub over : c.state.over ≡ s.over
  pub plain : AllByRecursion IsNoAnswer c.lines

-- two states that don't differ in any of that
record IsBeside (s t : State) : Type 0 where
  tree : t.tree ≡ s.tree
  clock : t.kernel.clock ≡ s.kernel.clock
  waits : t.waits ≡ s.waits
  over : t.over ≡ s.over

pub quiet_nothing : (s : State) → Quiet s (nothing s)
quiet_nothing s = record { tree = refl; clock = refl; waits = inl refl; over = refl; plain = tt }

-- lines, and then a rule in a state beside
quiet_behind : (s t : State) (lines : List Output) (c : Change) → IsBeside s t → AllByRecursion IsNoAnswer lines → Quiet t c → Quiet s (behind lines c)
quiet_behind s t lines c beside plain quiet = record {
  tree = quiet.tree ∙ beside.tree;
  clock = quiet.clock ∙ beside.clock;
  waits = elim (quiet.waits) [ inl same ↦ inl (same ∙ beside.waits) | inr none ↦ inr none ];
  over = quiet.over ∙ beside.over;
  plain = all_append IsNoAnswer lines c.lines plain quiet.plain;
}

-- sets of properties

waits_on : (ends : Bool) (waits : Option Waiting) → (still_waits ends waits ≡ waits) ⊎ (still_waits ends waits ≡ None)
waits_on true waits = inr refl
waits_on false waits = inl refl

stored_plain : (is : Bool) (name : List ℕ) → AllByRecursion IsNoAnswer (if is then output.Stored name ∷ [] else [])
stored_plain true name = (refl, tt)
stored_plain false name = tt

released_plain : (ends : Bool) → AllByRecursion IsNoAnswer (released_lines ends)
released_plain true = (refl, tt)
released_plain false = tt

-- the lines of a put behind its first
pub behind_put : (s : State) (name value : List ℕ) → AllByRecursion IsNoAnswer (stored_lines s name ++ released_lines (awaits s.waits name value))
behind_put s name value =
    all_append IsNoAnswer (stored_lines s name) (released_lines (awaits s.waits name value))
    (stored_plain (is_stored s name) name) (released_plain (awaits s.waits name value))

quiet_put : (s : State) (name value : List ℕ) → Quiet s (put_property s name value)
unfolding put_property
quiet_put s name value = record {
  tree = refl;
  clock = refl;
  waits = waits_on (awaits s.waits name value) s.waits;
  over = refl;
  plain = (refl, behind_put s name value);
}

pub quiet_judged : (refused : Option SetRefusal) (s : State) (c : Change) → Quiet s c → Quiet s (judged refused s c).done
quiet_judged None s c quiet = quiet
quiet_judged (Some why) s c quiet = quiet_nothing s

pub quiet_set : (rules : Rules) (s : State) (by : Option (List ℕ)) (name value : List ℕ) → Quiet s (set_property rules s by name value).done
unfolding set_property
quiet_set rules s by name value = quiet_judged (set_answer rules s by name value) s (put_property s name value) (quiet_put s name value)

unset_plain : (name : List ℕ) (refused : Option SetRefusal) → AllByRecursion IsNoAnswer (unset_lines name refused)
unset_plain name None = tt
unset_plain name (Some why) = (refl, tt)

quiet_told : (s : State) (name : List ℕ) (answer : Judged) → Quiet s answer.done → Quiet s (told_refusal name answer)
quiet_told s name answer quiet = record {
  tree = quiet.tree;
  clock = quiet.clock;
  waits = quiet.waits;
  over = quiet.over;
  plain = all_append IsNoAnswer answer.done.lines (unset_lines name answer.refused) quiet.plain (unset_plain name answer.refused);
}

quiet_tell : (rules : Rules) (name word : List ℕ) (s : State) → Quiet s (tell rules name word s)
unfolding tell
quiet_tell rules name word s =
    quiet_told s (state_name name) (set_property rules s None (state_name name) word) (quiet_set rules s None (state_name name) word)

-- operations on services

quiet_spawned : (rules : Rules) (name path : List ℕ) (at : ℕ) (s : State) → Quiet s (spawned rules name path at s)
quiet_spawned rules name path at s =
    let t = with_spawned rules name path at s in
    quiet_behind s t (spawn_line s.kernel name path ∷ []) (tell rules name (codes "running") t)
    (record { tree = refl; clock = refl; waits = refl; over = refl }) (refl, tt) (quiet_tell rules name (codes "running") t)

quiet_not_spawned : (rules : Rules) (name : List ℕ) (at : ℕ) (s : State) → Quiet s (not_spawned rules name at s)
quiet_not_spawned rules name at s =
    let t = with_marks s at (service_step op.NoPid (marks_at s at)).marks in
    quiet_behind s t (output.NoPid name ∷ []) (tell rules name (codes "stopped") t)
    (record { tree = refl; clock = refl; waits = refl; over = refl }) (refl, tt) (quiet_tell rules name (codes "stopped") t)

quiet_choice : (b : Bool) (s : State) (one other : Operated) → Quiet s one.done → Quiet s other.done → Quiet s (if b then one else other).done
quiet_choice true s one other first second = first
quiet_choice false s one other first second = second

quiet_spawn : (rules : Rules) (name path : List ℕ) (at : ℕ) (s : State) → Quiet s (spawn rules name path at s).done
unfolding spawn
quiet_spawn rules name path at s =
    quiet_choice (has_pid s.kernel) s (operated true (spawned rules name path at s)) (operated false (not_spawned rules name at s))
    (quiet_spawned rules name path at s) (quiet_not_spawned rules name at s)

quiet_follow : (rules : Rules) (name path : List ℕ) (at : ℕ) (todo : Move) (s : State) → Quiet s (follow rules name path at todo s).done
unfolding follow kill_process
quiet_follow rules name path at move.Nothing s = quiet_nothing s
quiet_follow rules name path at move.Spawn s = quiet_spawn rules name path at s
quiet_follow rules name path at (move.Kill pid) s =
    let t : State = record s { kernel = with_kill s.kernel pid.0 } in
    quiet_behind s t (output.Kill pid name ∷ []) (tell rules name (codes "stopping") t)
    (record { tree = refl; clock = refl; waits = refl; over = refl }) (refl, tt) (quiet_tell rules name (codes "stopping") t)
quiet_follow rules name path at move.Stopped s = quiet_tell rules name (codes "stopped") s
quiet_follow rules name path at move.Exited s = quiet_nothing s

quiet_operate_on : (rules : Rules) (service : Option ServiceDef) (at : ℕ) (what : Op) (s : State) → Quiet s (operate_on rules service at what s).done
quiet_operate_on rules None at what s = quiet_nothing s
quiet_operate_on rules (Some service) at what s =
    let answer = service_step what (marks_at s at) in
    let t = with_marks s at answer.marks in
    quiet_behind s t [] (follow rules service.name service.path at answer.todo t).done
    (record { tree = refl; clock = refl; waits = refl; over = refl }) tt (quiet_follow rules service.name service.path at answer.todo t)

quiet_operate : (rules : Rules) (at : ℕ) (what : Op) (s : State) → Quiet s (operate rules at what s).done
unfolding operate
quiet_operate rules at what s = quiet_operate_on rules (service_at rules at) at what s

pub quiet_control : (rules : Rules) (what : Option Op) (at : Option ℕ) (s : State) → Quiet s (control_at rules what at s)
quiet_control rules None at s = quiet_nothing s
quiet_control rules (Some what) None s = quiet_nothing s
quiet_control rules (Some what) (Some at) s = quiet_operate rules at what s
