-- What the reader of the allow text answers.
use Rattle.std.specs.Prelude.{◌≡◌, ℕ, ⊤, true, false, IsTrue, List, [], ◌∷◌, ◌++◌}
use Rattle.init_machine.specs.declared.policy.AllowLine.{AllowLine}
use Rattle.prop_contexts.specs.Allows.{allow_lines}
use Rattle.prop_contexts.specs.Grammar.{allows_fit, IsFirstUnfit}
use Rattle.init_base.specs.Lines.{lines_of}
use Rattle.prop_contexts.specs.declared.line.Reading.{Reading}
use Rattle.prop_contexts.specs.declared.line.Reading.TheVariants.{Skipped, Bad, Read}
use Rattle.prop_contexts.specs.declared.refusal.PolicyRefusal.{PolicyRefusal}
use Rattle.prop_contexts.specs.declared.refusal.PolicyRefusal.TheVariants as refusal

-- the pairs of a whole text
pub record AreAllowed (text : List ℕ) (allows : List AllowLine) : Type 0 where
  pub fit : IsTrue (allows_fit (lines_of text))
  pub are : allows ≡ allow_lines (lines_of text)

-- why a text gives none
abbrev pub IsAllowRefusal : List ℕ → PolicyRefusal → Type 0
IsAllowRefusal text (refusal.BadLine true line) = (bad : List ℕ) × IsFirstUnfit allows_fit (lines_of text) line bad
IsAllowRefusal text (refusal.BadLine false line) = ⊥
IsAllowRefusal text (refusal.Twice line) = ⊥
IsAllowRefusal text (refusal.NoDefault line) = ⊥
IsAllowRefusal text refusal.NoMemory = ⊤

-- a line was taken
abbrev pub TakesPair : List AllowLine → Reading AllowLine → List AllowLine → Type 0
TakesPair old Skipped new = new ≡ old
TakesPair old Bad new = ⊥
TakesPair old (Read line) new = new ≡ old ++ line ∷ []

-- why a line wasn't taken
abbrev pub IsPairRefusal : Reading AllowLine → ℕ → PolicyRefusal → Type 0
IsPairRefusal reading number (refusal.BadLine true line) = (line ≡ number) × (reading ≡ Bad)
IsPairRefusal reading number (refusal.BadLine false line) = ⊥
IsPairRefusal reading number (refusal.Twice line) = ⊥
IsPairRefusal reading number (refusal.NoDefault line) = ⊥
IsPairRefusal reading number refusal.NoMemory = ⊤
