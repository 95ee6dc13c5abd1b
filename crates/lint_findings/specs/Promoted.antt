-- How grave a kind is where some are promoted.
use Rattle.std.specs.Prelude.{Bool, true, false, if◌then◌else◌}
use Rattle.std.specs.List.{list_any}
use Rattle.std.specs.Str.{bytes_eq}
use Rattle.lint_findings.specs.Names.{about_text}
use Rattle.lint_findings.specs.declared.finding.About.{About}
use Rattle.lint_findings.specs.declared.finding.About.TheVariants as about
use Rattle.lint_findings.specs.declared.promoted.Promoted.{Promoted}
use Rattle.lint_findings.specs.declared.promoted.Promoted.TheVariants as promoted
use Rattle.lint_findings.specs.declared.promoted.Severity.{Severity}
use Rattle.lint_findings.specs.declared.promoted.Severity.TheVariants as severity

abbrev pub own_severity : About → Severity
own_severity (about.Error kind) = severity.Error
own_severity (about.Warning kind) = severity.Warning
own_severity (about.Hint kind) = severity.Hint

-- kinds are one where they have one name
abbrev pub is_promoted : Promoted → About → Bool
is_promoted promoted.Nothing about = false
is_promoted promoted.All about = true
is_promoted (promoted.Kinds kinds) about = list_any (λ kind. bytes_eq (about_text kind) (about_text about)) kinds

abbrev pub severity_in : Promoted → About → Severity
severity_in promoted about = if is_promoted promoted about then severity.Error else own_severity about
