-- Kinds and names go together.
use Rattle.std.proofs.Common.{◌≡◌, ℕ, Bool, true, false, cond, ◌&&◌, List, [], ◌∷◌, map, Option, Some, refl, sym, ap, ◌∙◌, ◌⊎◌, inl, inr}
use Rattle.std.specs.List.{list_all}
use Rattle.std.specs.Str.{bytes_eq}
use Rattle.init_machine.proofs.DistinctSums.{same_bytes}
use Rattle.init_machine.specs.declared.diagnostic.DiagKind.{DiagKind}
use Rattle.init_machine.specs.declared.diagnostic.DiagKind.TheVariants as kind
use Rattle.init_trace.specs.Words.{kind_text}
use Rattle.lint_findings.specs.Names.{about_in, about_text, choose, hint_text, warning_text}
use Rattle.lint_findings.specs.declared.finding.About.{About}
use Rattle.lint_findings.specs.declared.finding.About.TheVariants as about
use Rattle.lint_findings.specs.declared.finding.HintKind.{HintKind}
use Rattle.lint_findings.specs.declared.finding.HintKind.TheVariants as hint
use Rattle.lint_findings.specs.declared.finding.WarningKind.{WarningKind}
use Rattle.lint_findings.specs.declared.finding.WarningKind.TheVariants as warning
use Rattle.lint_findings.specs.declared.name.TheConstants.{KINDS}
use Rattle.std.proofs.lemmas.Bool.{and_parts}

if_some : (test : Bool) (first second : Option About) (value : About) → cond test first second ≡ Some value
    → ((test ≡ true) × (first ≡ Some value)) ⊎ ((test ≡ false) × (second ≡ Some value))
if_some true first second value e = inl (refl, e)
if_some false first second value e = inr (refl, e)

-- what stands beside a name is what has the name
chosen : (table : List (List ℕ × About)) (name : List ℕ) (a : About)
    → list_all (λ row. bytes_eq row.0 (about_text row.1)) table ≡ true → choose table name ≡ Some a → name ≡ about_text a
chosen [] name a h e = cc
chosen (row ∷ rows) name a h e =
    let p = and_parts (bytes_eq row.0 (about_text row.1)) (list_all (λ row. bytes_eq row.0 (about_text row.1)) rows) h in
    elim (if_some (bytes_eq row.0 name) (Some row.1) (choose rows name) a e) [
      | inl is ↦
          let same : row.1 ≡ a = let found = is.1 in cc in
          sym (same_bytes row.0 name is.0) ∙ same_bytes row.0 (about_text row.1) p.0 ∙ ap about_text same
      | inr isnt ↦ chosen rows name a p.1 isnt.1
    ]

pub named : (name : List ℕ) (a : About) → about_in name ≡ Some a → name ≡ about_text a
unfolding kind_text
named name a e = chosen (map (λ row. (row.0.now, row.1)) KINDS) name a refl e

error_found : (k : DiagKind) → about_in (kind_text k) ≡ Some (about.Error k)
unfolding kind_text
error_found kind.Cut = refl
error_found kind.Orphan = refl
error_found kind.NoTrigger = refl
error_found kind.BadTrigger = refl
error_found kind.TwiceProp = refl
error_found kind.BadWord = refl
error_found kind.BadArity = refl
error_found kind.BadOption = refl
error_found kind.BadService = refl
error_found kind.ServiceAgain = refl
error_found kind.BadImport = refl
error_found kind.NoFile = refl
error_found kind.Loop = refl
error_found kind.TooDeep = refl
error_found kind.BadExpand = refl
error_found kind.BadProp = refl

warning_found : (k : WarningKind) → about_in (warning_text k) ≡ Some (about.Warning k)
warning_found warning.NotModelled = refl
warning_found warning.NoService = refl
warning_found warning.NoClass = refl
warning_found warning.UnheardEvent = refl
warning_found warning.UnsentEvent = refl

hint_found : (k : HintKind) → about_in (hint_text k) ≡ Some (about.Hint k)
hint_found hint.ByteOrderMark = refl
hint_found hint.SpannedLines = refl
hint_found hint.CapitalHeader = refl

pub found : (a : About) → about_in (about_text a) ≡ Some a
found (about.Error k) = error_found k
found (about.Warning k) = warning_found k
found (about.Hint k) = hint_found k
