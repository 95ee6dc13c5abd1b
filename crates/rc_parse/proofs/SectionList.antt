-- The sections of a list of lines, header by header.
use Rattle.std.proofs.Common.{◌≡◌, ℕ, Bool, true, false, IsTrue, ◌&&◌, if◌then◌else◌, Option, Result, Ok, Err, List, [], ◌∷◌, ◌++◌, refl, sym, ap, ◌∙◌, append_assoc}
use Rattle.std.proofs.lemmas.List.{append-nil}
use Rattle.std.proofs.lemmas.List.Folds.{list_all-append}
use Rattle.std.specs.List.{flat_map, list_all}
use Rattle.init_machine.specs.declared.action.Action.{Action}
use Rattle.init_machine.specs.declared.diagnostic.DiagKind.{DiagKind}
use Rattle.init_machine.specs.declared.diagnostic.Diagnostic.{Diagnostic}
use Rattle.rc_tokens.specs.Lines.{Line, Tokens}
use Rattle.rc_parse.specs.Lines.{Section, sections, is_header, is_on, lines_before_header}
use Rattle.rc_parse.specs.Sections.{Sections, header_args, commands_of, has_command, action_under, actions_of, services_of, imports_of, diagnostics_of, orphan_diagnostics, cut}
use Rattle.rc_parse.specs.Triggers.{triggers_of}
use Rattle.rc_parse.specs.internal.Adding.{from_header, section_of, with_diagnostics, with_section, with_sections}
use Rattle.rc_parse.specs.declared.parsed.Parsed.{Parsed}
use Rattle.rc_parse.specs.declared.trigger.Triggers.{Triggers}
use Rattle.rc_parse.proofs.Headers.{one_section, same_sections, is_first_header}

no_orphans : (file : List ℕ) (parsed : Parsed) → with_diagnostics parsed [] ≡ parsed
no_orphans file parsed = ap (λ (found : List Diagnostic). record parsed { diagnostics = found }) (append-nil parsed.diagnostics)

with_first_section : (file : List ℕ) (parsed : Parsed) (section : Section) (more : List Section)
    → with_sections file (with_section file parsed section) more ≡ with_sections file parsed (section ∷ more)
with_first_section file parsed section more = rw (
  append_assoc parsed.actions (actions_of file section) (flat_map (actions_of file) more),
  append_assoc parsed.services (services_of file section) (flat_map (services_of file) more),
  append_assoc parsed.imports (imports_of section) (flat_map imports_of more),
  append_assoc parsed.diagnostics (diagnostics_of file section) (flat_map (diagnostics_of file) more),
) refl

-- ---- section by section

-- a section more
pub section_added : (file : List ℕ) (parsed next : Parsed) (lines rest body left : List Line) (header : Line)
    → from_header lines ≡ lines → lines ≡ header ∷ rest → body ≡ lines_before_header rest → left ≡ from_header rest
    → next ≡ with_section file parsed (section_of header body)
    → with_sections file next (sections left) ≡ with_sections file parsed (sections lines)
section_added file parsed next lines rest body left header whole lines_are body_is left_is next_is =
    let first : is_header header ≡ true = is_first_header header rest (ap from_header (sym lines_are) ∙ whole ∙ lines_are) in
    ap (λ (p : Parsed). with_sections file p (sections left)) (next_is ∙ ap (λ (all : List Line). with_section file parsed (section_of header all)) body_is)
    ∙ ap (λ (all : List Section). with_sections file (with_section file parsed (section_of header (lines_before_header rest))) all) (ap sections left_is ∙ same_sections rest)
    ∙ with_first_section file parsed (section_of header (lines_before_header rest)) (sections rest)
    ∙ ap (λ (all : List Section). with_sections file parsed all) (sym (one_section header rest first) ∙ ap sections (sym lines_are))

abbrev pub nothing : Parsed
nothing = record { actions = []; services = []; imports = []; diagnostics = [] }

-- all sections were added to what had the first lines, and then the line that was left out
all_added : (file : List ℕ) (tokens : Tokens) (begun parsed last : Parsed)
    → begun ≡ with_diagnostics nothing (orphan_diagnostics file (lines_before_header tokens.lines))
    → with_sections file parsed [] ≡ with_sections file begun (sections tokens.lines)
    → last ≡ with_diagnostics parsed (cut file tokens.dropped)
    → Sections file tokens last
all_added file tokens begun parsed last begun_is left last_is = record {
  actions_are =
      ap (λ (p : Parsed). p.actions) last_is ∙ sym (append-nil parsed.actions) ∙ ap (λ (p : Parsed). p.actions) left
      ∙ ap (λ (p : Parsed). p.actions ++ flat_map (actions_of file) (sections tokens.lines)) begun_is;
  services_are =
      ap (λ (p : Parsed). p.services) last_is ∙ sym (append-nil parsed.services) ∙ ap (λ (p : Parsed). p.services) left
      ∙ ap (λ (p : Parsed). p.services ++ flat_map (services_of file) (sections tokens.lines)) begun_is;
  imports_are =
      ap (λ (p : Parsed). p.imports) last_is ∙ sym (append-nil parsed.imports) ∙ ap (λ (p : Parsed). p.imports) left
      ∙ ap (λ (p : Parsed). p.imports ++ flat_map imports_of (sections tokens.lines)) begun_is;
  diagnostics_are =
      ap (λ (p : Parsed). p.diagnostics) last_is
      ∙ ap (λ (before : List Diagnostic). before ++ cut file tokens.dropped) (
      sym (append-nil parsed.diagnostics) ∙ ap (λ (p : Parsed). p.diagnostics) left
      ∙ ap (λ (p : Parsed). p.diagnostics ++ flat_map (diagnostics_of file) (sections tokens.lines)) begun_is);
}

-- the same, where no lines are left
pub none_left : (file : List ℕ) (tokens : Tokens) (first begun parsed last : Parsed) (lines orphans left none : List Line) (dropped : Option ℕ)
    → first ≡ nothing → lines ≡ tokens.lines → orphans ≡ lines_before_header lines
    → begun ≡ with_diagnostics first (orphan_diagnostics file orphans) → left ≡ from_header lines
    → with_sections file parsed (sections none) ≡ with_sections file begun (sections left) → none ≡ []
    → dropped ≡ tokens.dropped → last ≡ with_diagnostics parsed (cut file dropped)
    → Sections file tokens last
none_left file tokens first begun parsed last lines orphans left none dropped first_is lines_are orphans_are begun_is left_is left_decides none_is dropped_is last_is =
    all_added file tokens begun parsed last
    (begun_is ∙ ap (λ (p : Parsed). with_diagnostics p (orphan_diagnostics file orphans)) first_is
    ∙ ap (λ (all : List Line). with_diagnostics nothing (orphan_diagnostics file all)) orphans_are
    ∙ ap (λ (all : List Line). with_diagnostics nothing (orphan_diagnostics file (lines_before_header all))) lines_are)
    (ap (λ (all : List Line). with_sections file parsed (sections all)) (sym none_is) ∙ left_decides
    ∙ ap (λ (all : List Section). with_sections file begun all) (ap sections left_is ∙ same_sections lines ∙ ap sections lines_are))
    (last_is ∙ ap (λ (number : Option ℕ). with_diagnostics parsed (cut file number)) dropped_is)

-- ---- each action has a command

kept_step : (b : Bool) (action : Action) → has_command action ≡ b → list_all has_command (if b then action ∷ [] else []) ≡ true
kept_step true action has = rw has refl
kept_step false action has = refl

under_have : (file : List ℕ) (section : Section) (reading : Result Triggers DiagKind) → list_all has_command (action_under file section reading) ≡ true
under_have file section (Ok triggers) =
    let action : Action = record { file = file; line = section.header.number; event = triggers.event; props = triggers.props; commands = commands_of file section.body } in
    kept_step (has_command action) action refl
under_have file section (Err kind) = refl

only_if : (b : Bool) (actions : List Action) → list_all has_command actions ≡ true → list_all has_command (if b then actions else []) ≡ true
only_if true actions have = have
only_if false actions have = refl

pub actions_have : (file : List ℕ) (more : List Section) → list_all has_command (flat_map (actions_of file) more) ≡ true
actions_have file [] = refl
actions_have file (section ∷ more) =
    list_all-append has_command (actions_of file section) (flat_map (actions_of file) more)
    ∙ ap (λ (b : Bool). b && list_all has_command (flat_map (actions_of file) more)) (only_if (is_on section.header) _ (under_have file section (triggers_of (header_args section))))
    ∙ actions_have file more

pub parsed_have : (file : List ℕ) (tokens : Tokens) (parsed : Parsed) → Sections file tokens parsed → IsTrue (list_all has_command parsed.actions)
parsed_have file tokens parsed are = ap (λ (actions : List Action). list_all has_command actions) are.actions_are ∙ actions_have file (sections tokens.lines)
