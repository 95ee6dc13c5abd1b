-- The text of a summary, this project's own format: a line for each number, and `end`.
use Rattle.std.specs.Prelude.{ℕ, List, [], ◌∷◌, ◌++◌, codes}
use Rattle.std.specs.Fmt.{decimal}
use Rattle.init_trace.specs.Line.{line_text}
use Rattle.soak_summary.specs.declared.summary.Summary.{Summary}

-- a word and a number
unfoldable pub number_line : List ℕ → ℕ → List ℕ
number_line word number = line_text (word ∷ decimal number ∷ [])

unfoldable pub end_line : List ℕ
end_line = line_text (codes "end" ∷ [])

abbrev pub SummaryText : Summary → List ℕ
SummaryText summary =
    number_line (codes "soak") summary.services
    ++ number_line (codes "entries") summary.tally.entries
    ++ number_line (codes "puts") summary.tally.puts
    ++ number_line (codes "spawns") summary.tally.spawns
    ++ number_line (codes "events") summary.tally.events
    ++ number_line (codes "found") summary.tally.found
    ++ number_line (codes "used") summary.tally.used
    ++ end_line
