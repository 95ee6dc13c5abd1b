-- Operations on services at some places, one after another.
use Rattle.std.proofs.Common.{◌≡◌, ℕ, List, [], ◌∷◌, Option, Some, None, refl, sym, ap, ◌∙◌, subst, append_assoc, append-nil}
use Rattle.init_machine.specs.Changes.{Change, behind, change, each, nothing, unless_over}
use Rattle.init_machine.specs.Props.{Props}
use Rattle.init_machine.specs.Services.{operate, operate_each}
use Rattle.init_machine.specs.State.{Rules, State}
use Rattle.init_machine.specs.declared.output.Output.{Output}
use Rattle.init_machine.specs.declared.service.Op.{Op}
use Rattle.outputs.specs.Joins.{Joins}
use Rattle.machine_parts.specs.Parts.{Does, rules_of, state_of}
use Rattle.machine_parts.specs.declared.parts.Parts.{Parts}
use Rattle.machine_parts.proofs.Doing.{does_behind, does_nothing}

-- an operation on the service at a place
abbrev pub rule_of : Rules → Op → ℕ → State → Change
rule_of rules what at s = (operate rules at what s).done

module _ {S O : Type 0} (meaning : S → Props) (told : S → Option (List (List ℕ × List ℕ))) (adds : O → O → List Output → Type 0) where
  -- what was done so far, which decides with what is left
  pub record SoFar (a b : Parts S O) (rule : ℕ → State → Change) (all left : List ℕ) : Type 0 where
    pub done : Change
    pub does : Does meaning told adds a b done
    pub rest : behind done.lines (each rule left done.state) ≡ each rule all (state_of meaning a)

module _ {S O : Type 0} (meaning : S → Props) (told : S → Option (List (List ℕ × List ℕ))) {adds : O → O → List Output → Type 0} (joins : Joins adds) where
  pub begins : (a : Parts S O) (rule : ℕ → State → Change) (all : List ℕ) → SoFar meaning told adds a a rule all all
  begins a rule all = record { done = nothing (state_of meaning a); does = does_nothing joins a; rest = refl }

  -- one place more
  one_more : (a b c : Parts S O) (rule : ℕ → State → Change) (all : List ℕ) (left : List ℕ) (at : ℕ) (so : SoFar meaning told adds a b rule all left) → Does meaning told adds b c (rule at (state_of meaning b))
      → Does meaning told adds a c (behind so.done.lines (rule at so.done.state))
  one_more a b c rule all left at so did =
      does_behind joins so.does (subst (λ (s : State). Does meaning told adds b c (rule at s)) so.does.state did)

  pub goes_on : (a b c : Parts S O) (rule : ℕ → State → Change) (all left : List ℕ) (at : ℕ) (rest : List ℕ) → SoFar meaning told adds a b rule all left → left ≡ at ∷ rest
      → Does meaning told adds b c (rule at (state_of meaning b)) → c.over ≡ None → SoFar meaning told adds a c rule all rest
  goes_on a b c rule all left at rest so is did up =
      let one = rule at so.done.state in
      let does : Does meaning told adds a c (behind so.done.lines one) = one_more a b c rule all left at so did in
      let still : one.state.over ≡ None = sym (ap (λ (s : State). s.over) does.state) ∙ up in
      record {
        done = behind so.done.lines one;
        does = does;
        rest = (λ i. change (each rule rest one.state).state (append_assoc so.done.lines one.lines (each rule rest one.state).lines i))
            ∙ ap (λ (over : Option (List ℕ)). behind so.done.lines (unless_over over one (each rule rest))) (sym still)
            ∙ ap (λ places. behind so.done.lines (each rule places so.done.state)) (sym is)
            ∙ so.rest;
      }

  -- the machine is over
  pub stops : (a b c : Parts S O) (rule : ℕ → State → Change) (all left : List ℕ) (at : ℕ) (rest : List ℕ) (target : List ℕ) → SoFar meaning told adds a b rule all left → left ≡ at ∷ rest
      → Does meaning told adds b c (rule at (state_of meaning b)) → c.over ≡ Some target → Does meaning told adds a c (each rule all (state_of meaning a))
  stops a b c rule all left at rest target so is did over =
      let one = rule at so.done.state in
      let does : Does meaning told adds a c (behind so.done.lines one) = one_more a b c rule all left at so did in
      let down : one.state.over ≡ Some target = sym (ap (λ (s : State). s.over) does.state) ∙ over in
      subst (Does meaning told adds a c)
      (ap (λ (o : Option (List ℕ)). behind so.done.lines (unless_over o one (each rule rest))) (sym down)
      ∙ ap (λ places. behind so.done.lines (each rule places so.done.state)) (sym is)
      ∙ so.rest) does

  -- no place is left
  pub ends : (a b : Parts S O) (rule : ℕ → State → Change) (all left : List ℕ) → SoFar meaning told adds a b rule all left → left ≡ [] → Does meaning told adds a b (each rule all (state_of meaning a))
  ends a b rule all left so none =
      subst (Does meaning told adds a b)
      (ap (change so.done.state) (sym (append-nil so.done.lines))
      ∙ ap (λ places. behind so.done.lines (each rule places so.done.state)) (sym none)
      ∙ so.rest) so.does

  -- by the rules that stay
  pub by_rules : (a b c : Parts S O) (what : Op) (at : ℕ) → rules_of b ≡ rules_of a → Does meaning told adds b c (operate (rules_of b) at what (state_of meaning b)).done
      → Does meaning told adds b c (rule_of (rules_of a) what at (state_of meaning b))
  by_rules a b c what at same did = subst (λ (r : Rules). Does meaning told adds b c (operate r at what (state_of meaning b)).done) same did

  pub whole : (a b : Parts S O) (what : Op) (places : List ℕ) → Does meaning told adds a b (each (rule_of (rules_of a) what) places (state_of meaning a))
      → Does meaning told adds a b (operate_each (rules_of a) what places (state_of meaning a))
  unfolding operate_each
  whole a b what places did = did
