-- How a client's set is answered.
use Rattle.std.specs.Prelude.{◌≡◌, ⊤, ℕ, Bool, true, false, List, [], ◌∷◌, ◌++◌, Option, Some, None}
use Rattle.std.specs.List.{AllByRecursion}
use Rattle.init_base.specs.declared.units.ClientId.{ClientId}
use Rattle.init_machine.specs.History.{after, inputs_of, sets_in}
use Rattle.init_machine.specs.Setting.{set_answer}
use Rattle.init_machine.specs.State.{Opening, rules_of}
use Rattle.init_machine.specs.Step.{answer_line, domain_of}
use Rattle.init_machine.specs.declared.output.Output.{Output}
use Rattle.init_machine.specs.declared.output.Output.TheVariants as output
use Rattle.init_machine.specs.declared.output.SetRefusal.{SetRefusal}
use Rattle.init_machine.specs.declared.report.Entry.{Entry}

-- a line that answers a client's set
abbrev pub is_answer : Output → Bool
is_answer (output.Accepted number) = true
is_answer (output.Control number) = true
is_answer (output.Refused refusal) = true
is_answer _ = false

abbrev pub IsNoAnswer : Output → Type 0
IsNoAnswer o = is_answer o ≡ false

-- why a client's set is refused that comes behind these entries, or none
abbrev pub refusal_behind : Opening → List Entry → ClientId → List ℕ → List ℕ → Option SetRefusal
refusal_behind o earlier who name value =
    set_answer (rules_of o.config o.policy) (after o (inputs_of earlier)) (Some (domain_of o.config.domains who)) name value

-- What a set did. A refused one did nothing. An accepted one of a property began with its put, of the number that the answer
-- has, and put nothing else. (What an operation on a service writes, by a control name, is not said here.)
abbrev pub Did : Option SetRefusal → Bool → List ℕ → List ℕ → ℕ → List Output → Type 0
Did (Some why) control name value count did = did ≡ []
Did None true name value count did = ⊤
Did None false name value count did = (rest : List Output) × (did ≡ output.Put count name value ∷ rest) × (sets_in rest ≡ [])

-- The lines of a client's set, where so many sets are made when it is done: what it did, and behind all of that its answer, which
-- is the only one.
pub record EndsWithAnswer (refused : Option SetRefusal) (control : Bool) (name value : List ℕ) (count : ℕ) (lines : List Output) : Type 0 where
  pub did : List Output
  pub ends : lines ≡ did ++ answer_line refused control count ∷ []
  pub only : AllByRecursion IsNoAnswer did
  pub done : Did refused control name value count did
