-- What lines give, as the reader of the contexts text keeps it.
use Rattle.std.specs.Prelude.{◌≡◌, ◌≤◌, ℕ, ⊤, Bool, true, false, IsTrue, is_some, List, [], ◌∷◌, ◌++◌, length, Option, Some, None}
use Rattle.init_machine.specs.Policy.{ContextLine}
use Rattle.init_machine.specs.declared.policy.Context.{Context}
use Rattle.prop_contexts.specs.NameLines.{has_name}
use Rattle.prop_contexts.specs.Contexts.{ScopedLine, default_contexts, exact_lines, prefix_lines}
use Rattle.prop_contexts.specs.Grammar.{contexts_fit, IsBadContext, IsTwice}
use Rattle.init_base.specs.Lines.{lines_of}
use Rattle.prop_contexts.specs.declared.line.Reading.{Reading}
use Rattle.prop_contexts.specs.declared.line.Reading.TheVariants.{Skipped, Bad, Read}
use Rattle.prop_contexts.specs.declared.refusal.PolicyRefusal.{PolicyRefusal}
use Rattle.prop_contexts.specs.declared.refusal.PolicyRefusal.TheVariants as refusal
use Rattle.prop_contexts.specs.declared.context_line.Scope.{Scope}
use Rattle.prop_contexts.specs.declared.context_line.Scope.TheVariants.{Default, Exact, Prefix}
use Rattle.prop_contexts.specs.declared.contexts.Contexts.{Contexts}

pub record Given : Type 0 where
  pub default : Option Context
  pub exact : List ContextLine
  pub prefixes : List ContextLine

abbrev pub first_of : {A : Type 0} → List A → Option A
first_of [] = None
first_of (x ∷ xs) = Some x

-- what is given by lines
abbrev pub given_by : List (List ℕ) → Given
given_by lines = record {
  default = first_of (default_contexts lines);
  exact = exact_lines lines;
  prefixes = prefix_lines lines;
}

abbrev pub given : Contexts → Given
given contexts = record { default = contexts.default; exact = contexts.exact; prefixes = contexts.prefixes }

abbrev pub nothing_given : Given
nothing_given = record { default = None; exact = []; prefixes = [] }

-- whether there is a line of this name and kind
abbrev pub has_for : Given → Scope → List ℕ → Bool
has_for given Default name = is_some given.default
has_for given Exact name = has_name given.exact name
has_for given Prefix name = has_name given.prefixes name

abbrev pub has_line : Given → ScopedLine → Bool
has_line given l = has_for given l.scope l.line.name

abbrev pub with_for : Given → Scope → ContextLine → Given
with_for given Default line = record given { default = Some line.context }
with_for given Exact line = record given { exact = given.exact ++ line ∷ [] }
with_for given Prefix line = record given { prefixes = given.prefixes ++ line ∷ [] }

-- with one line more
abbrev pub with_line : Given → ScopedLine → Given
with_line given l = with_for given l.scope l.line

-- a line was taken
abbrev pub Takes : Given → Reading ScopedLine → Given → Type 0
Takes old Skipped new = new ≡ old
Takes old Bad new = ⊥
Takes old (Read line) new = (has_line old line ≡ false) × (new ≡ with_line old line)

-- why a line wasn't taken
abbrev pub IsLineRefusal : Given → Reading ScopedLine → ℕ → PolicyRefusal → Type 0
IsLineRefusal given reading number (refusal.BadLine false line) = (line ≡ number) × (reading ≡ Bad)
IsLineRefusal given reading number (refusal.BadLine true line) = ⊥
IsLineRefusal given reading number (refusal.Twice line) = (line ≡ number) × ((l : ScopedLine) × (reading ≡ Read l) × (has_line given l ≡ true))
IsLineRefusal given reading number (refusal.NoDefault line) = ⊥
IsLineRefusal given reading number refusal.NoMemory = ⊤

-- the contexts of a whole text
pub record AreGiven (text : List ℕ) (contexts : Contexts) : Type 0 where
  pub fit : IsTrue (contexts_fit (lines_of text))
  pub are : given contexts ≡ given_by (lines_of text)
  pub count : contexts.lines ≡ length (lines_of text)
  pub few : contexts.lines ≤ length text

-- why a text gives none
abbrev pub IsTextRefusal : List ℕ → PolicyRefusal → Type 0
IsTextRefusal text (refusal.BadLine false line) = IsBadContext text line
IsTextRefusal text (refusal.BadLine true line) = ⊥
IsTextRefusal text (refusal.Twice line) = IsTwice text line
IsTextRefusal text (refusal.NoDefault line) = ⊥
IsTextRefusal text refusal.NoMemory = ⊤
