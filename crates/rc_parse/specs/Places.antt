-- Where the lines of a file stand, and the diagnostics among them.
use Rattle.std.specs.Prelude.{◌≡◌, ℕ, List, [], ◌∷◌, ◌++◌, map}
use Rattle.std.specs.List.{flat_map}
use Rattle.init_machine.specs.declared.diagnostic.Diagnostic.{Diagnostic}
use Rattle.rc_tokens.specs.Lines.{Line, Tokens}
use Rattle.rc_parse.specs.Lines.{Section, sections, lines_before_header}
use Rattle.rc_parse.specs.Sections.{cut}
use Rattle.rc_parse.specs.declared.parsed.Parsed.{Parsed}

-- the lines of a section
abbrev pub section_lines : Section → List Line
section_lines section = section.header ∷ section.body

-- each line stands before the first header, or in one section, in order
abbrev pub IsParted : List Line → Type 0
IsParted lines = lines_before_header lines ++ flat_map section_lines (sections lines) ≡ lines

-- some of these numbers, in their order
pub data InOrder : List ℕ → List ℕ → Type 0 where
  end : InOrder [] []
  left_out : {number : ℕ} {some all : List ℕ} → InOrder some all → InOrder some (number ∷ all)
  taken : {number : ℕ} {some all : List ℕ} → InOrder some all → InOrder (number ∷ some) (number ∷ all)

abbrev pub numbers : List Line → List ℕ
numbers lines = map (λ line. line.number) lines

abbrev pub places : List Diagnostic → List ℕ
places diagnostics = map (λ diagnostic. diagnostic.line) diagnostics

-- the diagnostics of a file stand in the order of its lines, at most one at a line, and behind them the line that was
-- left out
pub record ArePlaced (file : List ℕ) (tokens : Tokens) (parsed : Parsed) : Type 0 where
  pub found : List Diagnostic
  pub all_are : parsed.diagnostics ≡ found ++ cut file tokens.dropped
  pub in_order : InOrder (places found) (numbers tokens.lines)
