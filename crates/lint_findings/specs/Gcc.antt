-- The form of compilers: a line for each finding, and a last line with their numbers.
use Rattle.std.specs.Prelude.{ℕ, ◌==◌, ◌||◌, nat_lt, if◌then◌else◌, List, [], ◌++◌, codes, length, map, Option, Some, None}
use Rattle.std.specs.Fmt.{decimal}
use Rattle.std.specs.List.{flat_map}
use Rattle.lint_findings.specs.Findings.{errors_in, warnings_in}
use Rattle.lint_findings.specs.Names.{about_text}
use Rattle.lint_findings.specs.Promoted.{severity_in}
use Rattle.lint_findings.specs.declared.finding.Finding.{Finding}
use Rattle.lint_findings.specs.declared.finding.Place.{Place}
use Rattle.lint_findings.specs.declared.promoted.Severity.{Severity}
use Rattle.lint_findings.specs.declared.promoted.Severity.TheVariants as severity
use Rattle.lint_findings.specs.declared.style.Style.{Style}

-- control bytes are shown as `?` (63), so that a finding is one line
abbrev pub shown_byte : ℕ → ℕ
shown_byte byte = if nat_lt byte 32 || byte == 127 then 63 else byte

abbrev pub shown : List ℕ → List ℕ
shown text = map shown_byte text

abbrev pub severity_text : Severity → List ℕ
severity_text severity.Error = codes "error"
severity_text severity.Warning = codes "warning"
severity_text severity.Hint = codes "hint"

-- `ROOT/PATH:LINE`, where what stands before the paths is ROOT
abbrev pub place_text : List ℕ → List ℕ → ℕ → List ℕ
place_text root file line = shown root ++ shown file ++ codes ":" ++ decimal line

-- where a message leads to
abbrev pub other_text : List ℕ → Option Place → List ℕ
other_text root None = []
other_text root (Some place) = codes "; see " ++ place_text root place.file place.line

-- `ROOT/PATH:LINE: error: `
abbrev pub front_text : Style → Finding → List ℕ
front_text style finding =
    place_text style.root finding.file finding.line ++ codes ": " ++ severity_text (severity_in style.promoted finding.about) ++ codes ": "

-- `MESSAGE [KIND]`
abbrev pub message_text : List ℕ → Finding → List ℕ
message_text root finding =
    shown finding.message ++ other_text root finding.other ++ codes " [" ++ about_text finding.about ++ codes "]\n"

abbrev pub finding_line : Style → Finding → List ℕ
finding_line style finding = front_text style finding ++ message_text style.root finding

-- `1 NAME`, `2 NAMEs`
abbrev pub counted : ℕ → List ℕ → List ℕ
counted number name = decimal number ++ codes " " ++ name ++ (if number == 1 then [] else codes "s")

-- `N errors, M warnings in K files`
abbrev pub last_line : ℕ → ℕ → ℕ → List ℕ
last_line errors warnings files =
    counted errors (codes "error") ++ codes ", " ++ counted warnings (codes "warning")
    ++ codes " in " ++ counted files (codes "file") ++ codes "\n"

abbrev pub report_text : Style → List Finding → ℕ → List ℕ
report_text style findings files =
    flat_map (finding_line style) findings
    ++ last_line (length (errors_in style.promoted findings)) (length (warnings_in style.promoted findings)) files
