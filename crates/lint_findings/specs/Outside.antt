-- Baselines that come from a source and go to a keeper.
use Rattle.std.specs.Prelude.{◌≡◌, ℕ, ◌<◌, ⊤, Bool, true, false, List, length, Option, Some, None, Result, Ok, Err}
use Rattle.lint_findings.specs.declared.finding.Finding.{Finding}
use Rattle.lint_findings.specs.Baseline.{IsBaseline, IsBaselineOf, IsUnfitAt, baseline_text}
use Rattle.lint_findings.specs.declared.reading.Baseline.{Baseline}
use Rattle.lint_findings.specs.declared.refusal.BaselineRefusal.{BaselineRefusal}
use Rattle.lint_findings.specs.declared.refusal.BaselineRefusal.TheVariants as refusal

-- what told bytes give; a fault and want of memory are free
abbrev pub GivesBaseline : List ℕ → Result Baseline BaselineRefusal → Type 0
GivesBaseline bytes (Ok baseline) = IsBaseline bytes baseline.rows
GivesBaseline bytes (Err (refusal.BadLine line)) = IsUnfitAt bytes line
GivesBaseline bytes (Err refusal.TooLarge) = 33554432 < length bytes
GivesBaseline bytes (Err refusal.ReadFault) = ⊤
GivesBaseline bytes (Err refusal.NoMemory) = ⊤

abbrev pub is_read_fault : Result Baseline BaselineRefusal → Bool
is_read_fault (Ok baseline) = false
is_read_fault (Err (refusal.BadLine line)) = false
is_read_fault (Err refusal.TooLarge) = false
is_read_fault (Err refusal.ReadFault) = true
is_read_fault (Err refusal.NoMemory) = false

-- a keeper holds a text, where it tells what it holds
abbrev pub Holds : Option (List ℕ) → Option (List ℕ) → List ℕ → Type 0
Holds None now text = ⊤
Holds (Some held) now text = now ≡ Some text

-- a keeper holds the baseline of findings
pub record HoldsBaselineOf (findings : List Finding) (old new : Option (List ℕ)) : Type 0 where
  pub rows : List (List ℕ)
  pub rows_are : IsBaselineOf findings rows
  pub held : Holds old new (baseline_text rows)
