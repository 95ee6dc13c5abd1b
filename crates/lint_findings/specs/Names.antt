-- The names of kinds. That of a diagnostic is its name in a trace.
use Rattle.std.specs.Prelude.{ℕ, if◌then◌else◌, List, [], ◌∷◌, codes, map, Option, Some, None}
use Rattle.std.specs.Str.{bytes_eq}
use Rattle.init_trace.specs.Words.{kind_text}
use Rattle.lint_findings.specs.declared.finding.About.{About}
use Rattle.lint_findings.specs.declared.finding.About.TheVariants as about
use Rattle.lint_findings.specs.declared.finding.HintKind.{HintKind}
use Rattle.lint_findings.specs.declared.finding.HintKind.TheVariants as hint
use Rattle.lint_findings.specs.declared.finding.WarningKind.{WarningKind}
use Rattle.lint_findings.specs.declared.finding.WarningKind.TheVariants as warning
use Rattle.lint_findings.specs.declared.name.TheConstants.{KINDS}

abbrev pub warning_text : WarningKind → List ℕ
warning_text warning.NotModelled = codes "NotModelled"
warning_text warning.NoService = codes "NoService"
warning_text warning.NoClass = codes "NoClass"
warning_text warning.UnheardEvent = codes "UnheardEvent"
warning_text warning.UnsentEvent = codes "UnsentEvent"

abbrev pub hint_text : HintKind → List ℕ
hint_text hint.ByteOrderMark = codes "ByteOrderMark"
hint_text hint.SpannedLines = codes "SpannedLines"
hint_text hint.CapitalHeader = codes "CapitalHeader"

-- the name of a kind
abbrev pub about_text : About → List ℕ
about_text (about.Error kind) = kind_text kind
about_text (about.Warning kind) = warning_text kind
about_text (about.Hint kind) = hint_text kind

-- what stands beside a name in a table
abbrev pub choose : List (List ℕ × About) → List ℕ → Option About
choose [] name = None
choose (row ∷ rows) name = if bytes_eq row.0 name then Some row.1 else choose rows name

-- the kind with a name
abbrev pub about_in : List ℕ → Option About
about_in name = choose (map (λ row. (row.0.now, row.1)) KINDS) name
