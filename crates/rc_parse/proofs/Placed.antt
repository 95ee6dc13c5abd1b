-- Each line stands in its section, and diagnostics stand in the order of the lines.
use Rattle.std.proofs.Common.{◌≡◌, ℕ, ◌+◌, ◌<◌, Option, Some, None, Bool, true, false, not, cond, if◌then◌else◌, Result, Ok, Err, List, [], ◌∷◌, ◌++◌, length, take, ◌==◌, refl, sym, subst, ap, ◌∙◌}
use Rattle.std.proofs.Math.Numerals.{one-add}
use Rattle.std.proofs.lemmas.List.{map-append}
use Rattle.std.specs.List.{AllByRecursion, flat_map, position_or_len}
use Rattle.std.specs.Option.{option_to_list}
use Rattle.init_machine.specs.declared.diagnostic.DiagKind.{DiagKind}
use Rattle.init_machine.specs.declared.diagnostic.Diagnostic.{Diagnostic}
use Rattle.rc_tokens.specs.Lines.{Line, Tokens, Ascend, numbers as token_numbers}
use Rattle.rc_parse.specs.Lines.{Section, sections, is_header, is_on, is_service, lines_before_header}
use Rattle.rc_parse.specs.Places.{section_lines, IsParted, InOrder, end, left_out, taken, numbers, places, ArePlaced}
use Rattle.rc_parse.specs.Readings.{diagnosed}
use Rattle.rc_parse.specs.Sections.{Sections, header_args, command_at, setting_at, action_diagnostics, service_diagnostics, import_diagnostics, diagnostics_of, orphan_diagnostics, cut}
use Rattle.rc_parse.specs.Services.{is_service_header}
use Rattle.rc_parse.specs.Triggers.{triggers_of}
use Rattle.rc_parse.specs.internal.Adding.{section_of}
use Rattle.rc_parse.specs.declared.parsed.Parsed.{Parsed}
use Rattle.rc_parse.specs.declared.trigger.Triggers.{Triggers}

-- ---- each line has its place

none_before : (line : Line) (lines : List Line) → is_header line ≡ true → lines_before_header (line ∷ lines) ≡ []
none_before line lines is = ap (λ (b : Bool). take (cond (not b) (1 + position_or_len is_header lines) 0) (line ∷ lines)) is

one_before : (line : Line) (lines : List Line) → is_header line ≡ false → lines_before_header (line ∷ lines) ≡ line ∷ lines_before_header lines
one_before line lines is =
    ap (λ (b : Bool). take (cond (not b) (1 + position_or_len is_header lines) 0) (line ∷ lines)) is
    ∙ ap (λ (n : ℕ). take n (line ∷ lines)) (one-add (position_or_len is_header lines))

sections_are : (b : Bool) (line : Line) (lines : List Line) → is_header line ≡ b
    → sections (line ∷ lines) ≡ (if b then section_of line (lines_before_header lines) ∷ sections lines else sections lines)
sections_are b line lines is = ap (λ (c : Bool). if c then section_of line (lines_before_header lines) ∷ sections lines else sections lines) is

parted_step : (b : Bool) (line : Line) (lines : List Line) → is_header line ≡ b → IsParted lines → IsParted (line ∷ lines)
parted_step true line lines is parted =
    ap (λ (front : List Line). front ++ flat_map section_lines (sections (line ∷ lines))) (none_before line lines is)
    ∙ ap (λ (all : List Section). flat_map section_lines all) (sections_are true line lines is)
    ∙ ap (λ (more : List Line). line ∷ more) parted
parted_step false line lines is parted =
    ap (λ (front : List Line). front ++ flat_map section_lines (sections (line ∷ lines))) (one_before line lines is)
    ∙ ap (λ (all : List Section). line ∷ lines_before_header lines ++ flat_map section_lines all) (sections_are false line lines is)
    ∙ ap (λ (more : List Line). line ∷ more) parted

pub lines_parted : (lines : List Line) → IsParted lines
lines_parted [] = refl
lines_parted (line ∷ lines) = parted_step (is_header line) line lines refl (lines_parted lines)

-- ---- the order of the diagnostics

none_in_order : (all : List ℕ) → InOrder [] all
none_in_order [] = end
none_in_order (number ∷ all) = left_out (none_in_order all)

in_order-append : {a b c d : List ℕ} → InOrder a b → InOrder c d → InOrder (a ++ c) (b ++ d)
in_order-append end second = second
in_order-append (left_out first) second = left_out (in_order-append first second)
in_order-append (taken first) second = taken (in_order-append first second)

-- diagnostics that stand in the order of some lines
abbrev Placed : List Diagnostic → List Line → Type 0
Placed found lines = InOrder (places found) (numbers lines)

placed-append : (d e : List Diagnostic) (one other : List Line) → Placed d one → Placed e other → Placed (d ++ e) (one ++ other)
placed-append d e one other first second =
    subst (λ all. InOrder (places (d ++ e)) all) (sym (map-append (λ (line : Line). line.number) one other))
    (subst (λ some. InOrder some (numbers one ++ numbers other)) (sym (map-append (λ (found : Diagnostic). found.line) d e))
    (in_order-append first second))

reading_placed : {A : Type 0} (file : List ℕ) (line : Line) (reading : Result A DiagKind) → Placed (diagnosed file line.number reading) (line ∷ [])
reading_placed file line (Ok value) = left_out end
reading_placed file line (Err kind) = taken end

lines_placed : {A : Type 0} (file : List ℕ) (read : Line → Result A DiagKind) (lines : List Line)
    → Placed (flat_map (λ line. diagnosed file line.number (read line)) lines) lines
lines_placed file read [] = end
lines_placed file read (line ∷ lines) =
    placed-append (diagnosed file line.number (read line)) (flat_map (λ more. diagnosed file more.number (read more)) lines)
    (line ∷ []) lines (reading_placed file line (read line)) (lines_placed file read lines)

orphans_placed : (file : List ℕ) (lines : List Line) → Placed (orphan_diagnostics file lines) lines
orphans_placed file [] = end
orphans_placed file (line ∷ lines) = taken (orphans_placed file lines)

action_placed : (file : List ℕ) (section : Section) (reading : Result Triggers DiagKind)
    → Placed (action_diagnostics file section reading) (section_lines section)
action_placed file section (Ok triggers) = left_out (lines_placed file (command_at file) section.body)
action_placed file section (Err kind) = taken (none_in_order (numbers section.body))

service_placed : (b : Bool) (file : List ℕ) (section : Section) → is_service_header (header_args section) ≡ b
    → Placed (service_diagnostics file section) (section_lines section)
service_placed true file section is = rw is (left_out (lines_placed file (setting_at file) section.body))
service_placed false file section is = rw is (taken (none_in_order (numbers section.body)))

import_placed : (b : Bool) (file : List ℕ) (section : Section) → (length (header_args section) == 1) ≡ b
    → Placed (import_diagnostics file section) (section_lines section)
import_placed true file section is = rw is (left_out (orphans_placed file section.body))
import_placed false file section is = rw is (taken (orphans_placed file section.body))

either_placed : (b : Bool) (one other : List Diagnostic) (lines : List Line)
    → Placed one lines → Placed other lines → Placed (if b then one else other) lines
either_placed true one other lines first second = first
either_placed false one other lines first second = second

section_placed : (file : List ℕ) (section : Section) → Placed (diagnostics_of file section) (section_lines section)
section_placed file section =
    either_placed (is_on section.header) (action_diagnostics file section (triggers_of (header_args section)))
    (if is_service section.header then service_diagnostics file section else import_diagnostics file section) (section_lines section)
    (action_placed file section (triggers_of (header_args section)))
    (either_placed (is_service section.header) (service_diagnostics file section) (import_diagnostics file section) (section_lines section)
    (service_placed (is_service_header (header_args section)) file section refl)
    (import_placed (length (header_args section) == 1) file section refl))

sections_placed : (file : List ℕ) (more : List Section) → Placed (flat_map (diagnostics_of file) more) (flat_map section_lines more)
sections_placed file [] = end
sections_placed file (section ∷ more) =
    placed-append (diagnostics_of file section) (flat_map (diagnostics_of file) more)
    (section_lines section) (flat_map section_lines more) (section_placed file section) (sections_placed file more)

pub diagnostics_placed : (file : List ℕ) (tokens : Tokens) (parsed : Parsed) → Sections file tokens parsed → ArePlaced file tokens parsed
diagnostics_placed file tokens parsed are = record {
  found = orphan_diagnostics file (lines_before_header tokens.lines) ++ flat_map (diagnostics_of file) (sections tokens.lines);
  all_are = are.diagnostics_are;
  in_order = subst (λ lines. InOrder (places (orphan_diagnostics file (lines_before_header tokens.lines) ++ flat_map (diagnostics_of file) (sections tokens.lines))) (numbers lines))
      (lines_parted tokens.lines)
      (placed-append (orphan_diagnostics file (lines_before_header tokens.lines)) (flat_map (diagnostics_of file) (sections tokens.lines))
      (lines_before_header tokens.lines) (flat_map section_lines (sections tokens.lines))
      (orphans_placed file (lines_before_header tokens.lines)) (sections_placed file (sections tokens.lines)));
}

-- ---- their lines ascend

above_fewer : {some all : List ℕ} (least : ℕ) (rest : List ℕ) → InOrder some all
    → AllByRecursion (λ other. least < other) (all ++ rest) → AllByRecursion (λ other. least < other) (some ++ rest)
above_fewer least rest end above = above
above_fewer least rest (left_out order) above = above_fewer least rest order above.1
above_fewer least rest (taken order) above = (above.0, above_fewer least rest order above.1)

fewer_ascend : {some all : List ℕ} (rest : List ℕ) → InOrder some all → Ascend (all ++ rest) → Ascend (some ++ rest)
fewer_ascend rest end ascend = ascend
fewer_ascend rest (left_out order) ascend = fewer_ascend rest order ascend.1
fewer_ascend rest (taken {number = least} order) ascend = (above_fewer least rest order ascend.0, fewer_ascend rest order ascend.1)

cut_place : (file : List ℕ) (dropped : Option ℕ) → option_to_list dropped ≡ places (cut file dropped)
cut_place file None = refl
cut_place file (Some line) = refl

pub diagnostics_ascend : (file : List ℕ) (tokens : Tokens) (parsed : Parsed) → Sections file tokens parsed
    → Ascend (token_numbers tokens.lines tokens.dropped) → Ascend (places parsed.diagnostics)
diagnostics_ascend file tokens parsed are ascend =
    let placed = diagnostics_placed file tokens parsed are in
    subst (λ found. Ascend found)
    (ap (λ (more : List ℕ). places placed.found ++ more) (cut_place file tokens.dropped)
    ∙ sym (map-append (λ (found : Diagnostic). found.line) placed.found (cut file tokens.dropped))
    ∙ sym (ap places placed.all_are))
    (fewer_ascend (option_to_list tokens.dropped) placed.in_order ascend)
