-- What is told of sections whose actions and services aren't kept, header by header.
use Rattle.std.proofs.Common.{◌≡◌, ℕ, true, Option, List, [], ◌∷◌, ◌++◌, map, refl, sym, ap, ◌∙◌, append_assoc}
use Rattle.std.proofs.lemmas.List.{append-nil}
use Rattle.std.specs.List.{flat_map}
use Rattle.init_machine.specs.declared.diagnostic.Diagnostic.{Diagnostic}
use Rattle.init_machine.specs.declared.service.ServiceDef.{ServiceDef}
use Rattle.rc_tokens.specs.Lines.{Line, Tokens}
use Rattle.rc_parse.specs.Lines.{Section, sections, is_header, lines_before_header}
use Rattle.rc_parse.specs.Sections.{Sections, services_of, imports_of, diagnostics_of, orphan_diagnostics, cut}
use Rattle.rc_parse.specs.internal.Adding.{from_header, section_of}
use Rattle.rc_parse.specs.internal.Skimming.{with_found, with_skim, with_skims}
use Rattle.rc_parse.specs.Skims.{mark_of, skim_of}
use Rattle.rc_parse.specs.declared.parsed.Parsed.{Parsed}
use Rattle.rc_parse.specs.declared.skimmed.ServiceMark.{ServiceMark}
use Rattle.rc_parse.specs.declared.skimmed.Skimmed.{Skimmed}
use Rattle.rc_parse.proofs.Headers.{one_section, same_sections, is_first_header}

pub marks_append : (some others : List ServiceDef) → map mark_of (some ++ others) ≡ map mark_of some ++ map mark_of others
marks_append [] others = refl
marks_append (service ∷ some) others = ap (λ (marks : List ServiceMark). mark_of service ∷ marks) (marks_append some others)

with_first_skim : (file : List ℕ) (skimmed : Skimmed) (section : Section) (more : List Section)
    → with_skims file (with_skim file skimmed section) more ≡ with_skims file skimmed (section ∷ more)
with_first_skim file skimmed section more = rw (
  marks_append (services_of file section) (flat_map (services_of file) more),
  append_assoc skimmed.services (map mark_of (services_of file section)) (map mark_of (flat_map (services_of file) more)),
  append_assoc skimmed.imports (imports_of section) (flat_map imports_of more),
  append_assoc skimmed.diagnostics (diagnostics_of file section) (flat_map (diagnostics_of file) more),
) refl

-- ---- section by section

-- a section more
pub skim_added : (file : List ℕ) (skimmed next : Skimmed) (lines rest body left : List Line) (header : Line)
    → from_header lines ≡ lines → lines ≡ header ∷ rest → body ≡ lines_before_header rest → left ≡ from_header rest
    → next ≡ with_skim file skimmed (section_of header body)
    → with_skims file next (sections left) ≡ with_skims file skimmed (sections lines)
skim_added file skimmed next lines rest body left header whole lines_are body_is left_is next_is =
    let first : is_header header ≡ true = is_first_header header rest (ap from_header (sym lines_are) ∙ whole ∙ lines_are) in
    ap (λ (s : Skimmed). with_skims file s (sections left)) (next_is ∙ ap (λ (all : List Line). with_skim file skimmed (section_of header all)) body_is)
    ∙ ap (λ (all : List Section). with_skims file (with_skim file skimmed (section_of header (lines_before_header rest))) all) (ap sections left_is ∙ same_sections rest)
    ∙ with_first_skim file skimmed (section_of header (lines_before_header rest)) (sections rest)
    ∙ ap (λ (all : List Section). with_skims file skimmed all) (sym (one_section header rest first) ∙ ap sections (sym lines_are))

abbrev pub nothing : Skimmed
nothing = record { services = []; imports = []; diagnostics = [] }

-- all sections were added to what had the first lines, and then the line that was left out
all_added : (file : List ℕ) (tokens : Tokens) (begun skimmed last : Skimmed)
    → begun ≡ with_found nothing (orphan_diagnostics file (lines_before_header tokens.lines))
    → with_skims file skimmed [] ≡ with_skims file begun (sections tokens.lines)
    → last ≡ with_found skimmed (cut file tokens.dropped)
    → (parsed : Parsed) → Sections file tokens parsed → last ≡ skim_of parsed
all_added file tokens begun skimmed last begun_is left last_is parsed is =
    let services : skimmed.services ≡ map mark_of parsed.services =
    sym (append-nil skimmed.services) ∙ ap (λ (s : Skimmed). s.services) left
    ∙ ap (λ (s : Skimmed). s.services ++ map mark_of (flat_map (services_of file) (sections tokens.lines))) begun_is
    ∙ ap (map mark_of) (sym is.services_are) in
    let imports : skimmed.imports ≡ parsed.imports =
    sym (append-nil skimmed.imports) ∙ ap (λ (s : Skimmed). s.imports) left
    ∙ ap (λ (s : Skimmed). s.imports ++ flat_map imports_of (sections tokens.lines)) begun_is ∙ sym is.imports_are in
    let diagnostics : skimmed.diagnostics ++ cut file tokens.dropped ≡ parsed.diagnostics =
    ap (λ (before : List Diagnostic). before ++ cut file tokens.dropped) (
    sym (append-nil skimmed.diagnostics) ∙ ap (λ (s : Skimmed). s.diagnostics) left
    ∙ ap (λ (s : Skimmed). s.diagnostics ++ flat_map (diagnostics_of file) (sections tokens.lines)) begun_is)
    ∙ sym is.diagnostics_are in
    let all : with_found skimmed (cut file tokens.dropped) ≡ skim_of parsed =
    λ i. record { services = services i; imports = imports i; diagnostics = diagnostics i } in
    last_is ∙ all

-- the same, where no lines are left
pub none_left : (file : List ℕ) (tokens : Tokens) (first begun skimmed last : Skimmed) (lines orphans left none : List Line) (dropped : Option ℕ)
    → first ≡ nothing → lines ≡ tokens.lines → orphans ≡ lines_before_header lines
    → begun ≡ with_found first (orphan_diagnostics file orphans) → left ≡ from_header lines
    → with_skims file skimmed (sections none) ≡ with_skims file begun (sections left) → none ≡ []
    → dropped ≡ tokens.dropped → last ≡ with_found skimmed (cut file dropped)
    → (parsed : Parsed) → Sections file tokens parsed → last ≡ skim_of parsed
none_left file tokens first begun skimmed last lines orphans left none dropped first_is lines_are orphans_are begun_is left_is left_decides none_is dropped_is last_is =
    all_added file tokens begun skimmed last
    (begun_is ∙ ap (λ (s : Skimmed). with_found s (orphan_diagnostics file orphans)) first_is
    ∙ ap (λ (all : List Line). with_found nothing (orphan_diagnostics file all)) orphans_are
    ∙ ap (λ (all : List Line). with_found nothing (orphan_diagnostics file (lines_before_header all))) lines_are)
    (ap (λ (all : List Line). with_skims file skimmed (sections all)) (sym none_is) ∙ left_decides
    ∙ ap (λ (all : List Section). with_skims file begun all) (ap sections left_is ∙ same_sections lines ∙ ap sections lines_are))
    (last_is ∙ ap (λ (number : Option ℕ). with_found skimmed (cut file number)) dropped_is)
