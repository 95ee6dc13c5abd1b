-- The form for programs: one object of JSON (RFC 8259) in a line.
use Rattle.std.specs.Prelude.{ℕ, List, [], ◌∷◌, ◌++◌, codes, length, Option, Some, None}
use Rattle.std.specs.Fmt.{decimal}
use Rattle.std.specs.List.{flat_map}
use Rattle.std.specs.Str.Lossy.{utf8_lossy}
use Rattle.serde_json.specs.Data.{string}
use Rattle.serde_json.specs.Written.{compact_text}
use Rattle.lint_findings.specs.Findings.{errors_in, warnings_in}
use Rattle.lint_findings.specs.Names.{about_text}
use Rattle.lint_findings.specs.Promoted.{severity_in}
use Rattle.lint_findings.specs.declared.finding.Finding.{Finding}
use Rattle.lint_findings.specs.declared.finding.Place.{Place}
use Rattle.lint_findings.specs.Gcc.{severity_text}
use Rattle.lint_findings.specs.declared.style.Style.{Style}

-- a text as a JSON string, in which what isn't UTF-8 is replaced
abbrev pub text_json : List ℕ → List ℕ
text_json bytes = compact_text (string (utf8_lossy bytes))

-- elements parted by commas
abbrev pub parted : {A : Type 0} → (A → List ℕ) → List A → List ℕ
parted text [] = []
parted text (x ∷ rest) = text x ++ flat_map (λ y. codes "," ++ text y) rest

abbrev pub place_json : List ℕ → List ℕ → ℕ → List ℕ
place_json root file line = codes "\"file\":" ++ text_json (root ++ file) ++ codes ",\"line\":" ++ decimal line

-- where a message leads to
abbrev pub see_json : List ℕ → Option Place → List ℕ
see_json root None = codes "null"
see_json root (Some place) = codes "{" ++ place_json root place.file place.line ++ codes "}"

abbrev pub front_json : Style → Finding → List ℕ
front_json style finding =
    codes "{\"severity\":\"" ++ severity_text (severity_in style.promoted finding.about) ++ codes "\",\"kind\":\"" ++ about_text finding.about ++ codes "\","

abbrev pub back_json : List ℕ → Finding → List ℕ
back_json root finding =
    place_json root finding.file finding.line ++ codes ",\"message\":" ++ text_json finding.message
    ++ codes ",\"see\":" ++ see_json root finding.other ++ codes "}"

abbrev pub finding_json : Style → Finding → List ℕ
finding_json style finding = front_json style finding ++ back_json style.root finding

abbrev pub counts_json : ℕ → ℕ → ℕ → List ℕ
counts_json errors warnings files =
    codes "\"errors\":" ++ decimal errors ++ codes ",\"warnings\":" ++ decimal warnings ++ codes ",\"files\":" ++ decimal files

abbrev pub report_json : Style → List Finding → ℕ → List ℕ
report_json style findings files =
    codes "{\"findings\":[" ++ parted (finding_json style) findings ++ codes "],"
    ++ counts_json (length (errors_in style.promoted findings)) (length (warnings_in style.promoted findings)) files ++ codes "}\n"
