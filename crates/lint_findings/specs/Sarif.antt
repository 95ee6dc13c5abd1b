-- The form of SARIF 2.1.0 (OASIS) in a line: a log with one run, which has a rule for each kind and a result for each finding.
use Rattle.std.specs.Prelude.{ℕ, List, [], ◌++◌, codes, Option, Some, None}
use Rattle.std.specs.Fmt.{decimal}
use Rattle.lint_findings.specs.Names.{about_text}
use Rattle.lint_findings.specs.Promoted.{severity_in}
use Rattle.lint_findings.specs.declared.finding.About.{About}
use Rattle.lint_findings.specs.declared.finding.Finding.{Finding}
use Rattle.lint_findings.specs.declared.finding.Place.{Place}
use Rattle.lint_findings.specs.declared.name.TheConstants.{KINDS}
use Rattle.lint_findings.specs.declared.promoted.Severity.{Severity}
use Rattle.lint_findings.specs.declared.promoted.Severity.TheVariants as severity
use Rattle.lint_findings.specs.Json.{parted, text_json}
use Rattle.lint_findings.specs.Uri.{uri_of}
use Rattle.lint_findings.specs.declared.sarif.TheConstants.{ARTIFACT, HEAD, LOCATIONS, REGION, RELATED, RESULTS, TAIL}
use Rattle.lint_findings.specs.declared.style.Style.{Style}

abbrev pub level_text : Severity → List ℕ
level_text severity.Error = codes "error"
level_text severity.Warning = codes "warning"
level_text severity.Hint = codes "note"

-- a file, and a line in it; what stands before them is in src/sarif.rt
abbrev pub artifact_text : List ℕ → List ℕ → List ℕ
artifact_text root file = ARTIFACT.now ++ uri_of root file ++ codes "\"}"

abbrev pub region_text : ℕ → List ℕ
region_text line = REGION.now ++ decimal line ++ codes "}}}"

-- a line of a file
abbrev pub location_text : List ℕ → List ℕ → ℕ → List ℕ
location_text root file line = artifact_text root file ++ region_text line

-- where a message leads to; what stands before it is in src/sarif.rt
abbrev pub related_text : List ℕ → Option Place → List ℕ
related_text root None = []
related_text root (Some place) = RELATED.now ++ location_text root place.file place.line ++ codes "]"

abbrev pub rule_text : About → List ℕ
rule_text about = codes "{\"id\":\"" ++ about_text about ++ codes "\"}"

abbrev pub front_text : Style → Finding → List ℕ
front_text style finding =
    codes "{\"ruleId\":\"" ++ about_text finding.about ++ codes "\",\"level\":\""
    ++ level_text (severity_in style.promoted finding.about) ++ codes "\",\"message\":{\"text\":"

abbrev pub locations_text : List ℕ → Finding → List ℕ
locations_text root finding =
    location_text root finding.file finding.line ++ codes "]" ++ related_text root finding.other ++ codes "}"

abbrev pub back_text : List ℕ → Finding → List ℕ
back_text root finding =
    text_json finding.message ++ LOCATIONS.now ++ locations_text root finding

unfoldable pub result_text : Style → Finding → List ℕ
result_text style finding = front_text style finding ++ back_text style.root finding

-- the rules, by their names in the order of KINDS
abbrev pub rules_text : List ℕ
rules_text = parted (λ kind. rule_text kind.1) KINDS

-- a log: what stands before its rules, between them and its results, and behind these is in src/sarif.rt
abbrev pub log_text : Style → List Finding → List ℕ
log_text style findings = HEAD.now ++ rules_text ++ RESULTS.now ++ parted (result_text style) findings ++ TAIL.now
