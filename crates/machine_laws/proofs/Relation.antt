-- How a law of the machine is proved: by a relation between the state before a rule, the rule's lines and the state behind
-- it. The ladder of the rules is climbed once, for any relation that holds of nothing, of two rules one after another, and
-- of the machine's smallest changes. What a relation needs stands in records, one for each storey: `Sets` here, `Acts` of
-- `Serving`, `Runs` and `Reaps` of `Reaping`, `Clocks` and `Steps` of `Stepping`. A law gives its relation and these records,
-- and has `step_by` and `history_by` of `Stepping` for it.
use Rattle.std.proofs.Common.{◌≡◌, ℕ, Bool, true, false, List, [], ◌∷◌, ◌++◌, Option, Some, None, if◌then◌else◌, refl, subst}
use Rattle.std.proofs.lemmas.List.{append-nil}
use Rattle.init_machine.specs.Changes.{Change, unless_over, and_then, each}
use Rattle.init_machine.specs.HasText.{RefusalHasText, CauseHasText}
use Rattle.init_machine.specs.Setting.{put_line, put_property, set_answer}
use Rattle.init_machine.specs.State.{State, Rules}
use Rattle.init_machine.specs.declared.output.Output.{Output}
use Rattle.init_machine.specs.declared.output.Output.TheVariants as output

-- the relation holds between a state and what a rule does in it
abbrev pub By : (State → List Output → State → Type 0) → State → Change → Type 0
By R s c = R s c.lines c.state

-- a line that tells of no event, action, command, set, stored property, process or reboot, and has a text
abbrev pub IsPlain : Output → Type 0
IsPlain (output.Event name) = ⊥
IsPlain (output.Change name value) = ⊥
IsPlain output.AllProperties = ⊥
IsPlain (output.Action file line) = ⊥
IsPlain (output.Command file line word args) = ⊥
IsPlain (output.Put number name value) = ⊥
IsPlain (output.Stored name) = ⊥
IsPlain (output.Unset name refusal) = RefusalHasText refusal
IsPlain (output.Spawn pid name path) = ⊥
IsPlain (output.NoPid name) = Unit {0}
IsPlain (output.Kill pid name) = ⊥
IsPlain (output.Reap pid name how) = ⊥
IsPlain (output.Env name value) = Unit {0}
IsPlain (output.Tree path) = Unit {0}
IsPlain output.Noted = Unit {0}
IsPlain output.Ok = Unit {0}
IsPlain (output.Failed cause) = CauseHasText cause
IsPlain (output.WaitChild pid) = Unit {0}
IsPlain (output.WaitProp name value) = Unit {0}
IsPlain (output.WaitFile path until) = Unit {0}
IsPlain output.Released = Unit {0}
IsPlain output.Timeout = Unit {0}
IsPlain output.Blocked = Unit {0}
IsPlain output.Idle = Unit {0}
IsPlain output.Down = Unit {0}
IsPlain output.TooFar = Unit {0}
IsPlain output.NoProcess = Unit {0}
IsPlain (output.Reboot target) = ⊥
IsPlain (output.Accepted number) = Unit {0}
IsPlain (output.Control number) = Unit {0}
IsPlain (output.Refused refusal) = RefusalHasText refusal

-- two states differ at most in the events and waits, in what is counted, in the environment and in the tree
pub record IsAside (s t : State) : Type 0 where
  pub props : t.props ≡ s.props
  pub saved : t.saved ≡ s.saved
  pub saving : t.saving ≡ s.saving
  pub marks : t.marks ≡ s.marks
  pub kernel : t.kernel ≡ s.kernel
  pub running : t.running ≡ s.running
  pub over : t.over ≡ s.over

-- two states differ at most in the events and the running actions
pub record IsScheduled (s t : State) : Type 0 where
  pub props : t.props ≡ s.props
  pub saved : t.saved ≡ s.saved
  pub saving : t.saving ≡ s.saving
  pub marks : t.marks ≡ s.marks
  pub kernel : t.kernel ≡ s.kernel
  pub over : t.over ≡ s.over

-- what a relation needs for sets of properties
pub record Sets (rules : Rules) (R : State → List Output → State → Type 0) : Type 0 where
  pub none : (s : State) → R s [] s
  pub joined : (s t u : State) (first second : List Output) → R s first t → R t second u → R s (first ++ second) u
  pub line : (s : State) (o : Output) → IsPlain o → R s (o ∷ []) s
  pub stored : (s : State) (name : List ℕ) → s.saving ≡ true → R s (output.Stored name ∷ []) s
  pub aside : (s t : State) → IsAside s t → R s [] t
  pub put : (s : State) (by : Option (List ℕ)) (name value : List ℕ) → set_answer rules s by name value ≡ None
      → R s (put_line s name value ∷ []) (put_property s name value).state

-- a choice of two rules
pub either : (R : State → List Output → State → Type 0) (s : State) (b : Bool) (c d : Change)
    → (b ≡ true → By R s c) → (b ≡ false → By R s d) → By R s (if b then c else d)
either R s true c d first second = first refl
either R s false c d first second = second refl

module _ (rules : Rules) (R : State → List Output → State → Type 0) (sets : Sets rules R) where
  pub behind_by : (s t : State) (lines : List Output) (c : Change) → R s lines t → By R t c → R s (lines ++ c.lines) c.state
  behind_by s t lines c first second = sets.joined s t c.state lines c.lines first second

  unless_over_by : (s : State) (over : Option (List ℕ)) (c : Change) (rule : State → Change) → c.state.over ≡ over → By R s c
      → ((t : State) → t.over ≡ None → By R t (rule t)) → By R s (unless_over over c rule)
  unless_over_by s None c rule on first second = sets.joined s c.state (rule c.state).state c.lines (rule c.state).lines first (second c.state on)
  unless_over_by s (Some target) c rule on first second = first

  -- a change without lines behind a rule
  pub ended_by : (s t u : State) (lines : List Output) → R s lines t → R t [] u → R s lines u
  ended_by s t u lines first second = subst (λ all. R s all u) (append-nil lines) (sets.joined s t u lines [] first second)

  -- a rule in the state that another one left
  pub and_then_by : (s : State) (c : Change) (rule : State → Change) → By R s c
      → ((t : State) → t.over ≡ None → By R t (rule t)) → By R s (and_then c rule)
  and_then_by s c rule first second = unless_over_by s c.state.over c rule refl first second

  -- a rule for each of some things
  pub each_by : {T : Type 0} (rule : T → State → Change) → ((x : T) (t : State) → t.over ≡ None → By R t (rule x t))
      → (xs : List T) (s : State) → s.over ≡ None → By R s (each rule xs s)
  each_by rule holds [] s on = sets.none s
  each_by rule holds (x ∷ rest) s on = and_then_by s (rule x s) (each rule rest) (holds x s on) (λ t still. each_by rule holds rest t still)
