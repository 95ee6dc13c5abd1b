-- What is gathered line by line.
use Rattle.std.proofs.Common.{◌≡◌, ℕ, ◌+◌, List, [], ◌∷◌, ◌++◌, length, Option, Some, None, refl, sym, ap, ◌∙◌, append_assoc, append-nil, arith, Bool, true, false, cond}
use Rattle.std.proofs.lemmas.List.Sums.{sum_by-cons}
use Rattle.script_lang.specs.Gathering.{nothing_gathered, with_line, with_reading, gathered_from, or_else, said_more, unread_in, until_unread, first_unread, said_until}
use Rattle.script_lang.specs.Ordering.{first_misfit, first_unfit, misfit_in}
use Rattle.script_lang.specs.Script.{fits, said_in, said_from, statements_in, steps_in, total_steps}
use Rattle.script_lang.specs.Statements.{reading_of}
use Rattle.script_lang.specs.declared.gather.Gathered.{Gathered}
use Rattle.script_lang.specs.declared.statement.Said.{Said}
use Rattle.script_lang.specs.declared.statement.Statement.{Statement}

-- ---- one line

-- a line is counted before it is read
abbrev counted : Gathered → Gathered
counted g = record g { lines = g.lines + 1 }

lines_step : (g : Gathered) (reading : Option (Option Statement)) → (with_reading g reading).lines ≡ g.lines
lines_step g None = refl
lines_step g (Some None) = refl
lines_step g (Some (Some s)) = refl

steps_step : (g : Gathered) (reading : Option (Option Statement)) → (with_reading g reading).steps ≡ g.steps + steps_in reading
steps_step g None = omega arith
steps_step g (Some None) = omega arith
steps_step g (Some (Some s)) = refl

or_later : (unread : Option ℕ) (line : ℕ) (later : Option ℕ) → or_else (or_else unread (Some line)) later ≡ or_else unread (Some line)
or_later None line later = refl
or_later (Some first) line later = refl

unread_step : (g : Gathered) (reading : Option (Option Statement)) (later : Option ℕ)
    → or_else (with_reading g reading).unread later ≡ or_else g.unread (unread_in g.lines reading later)
unread_step g None later = or_later g.unread g.lines later
unread_step g (Some None) later = refl
unread_step g (Some (Some s)) later = refl

no_more : (unread : Option ℕ) (line : ℕ) (said later : List Said) → said_more (or_else unread (Some line)) said later ≡ said_more unread said []
no_more None line said later = sym (append-nil said)
no_more (Some first) line said later = refl

one_more : (unread : Option ℕ) (said : List Said) (one : Said) (later : List Said)
    → said_more unread (said_more unread said (one ∷ [])) later ≡ said_more unread said (one ∷ later)
one_more None said one later = append_assoc said (one ∷ []) later
one_more (Some first) said one later = refl

said_step : (g : Gathered) (reading : Option (Option Statement)) (later : List Said)
    → said_more (with_reading g reading).unread (with_reading g reading).said later ≡ said_more g.unread g.said (until_unread g.lines reading later)
said_step g None later = no_more g.unread g.lines g.said later
said_step g (Some None) later = refl
said_step g (Some (Some s)) later = one_more g.unread g.said (record { line = g.lines; statement = s }) later

-- ---- lines

lines_behind : (g : Gathered) (lines : List (List ℕ)) → (gathered_from g lines).lines ≡ g.lines + length lines
lines_behind g [] = omega arith
lines_behind g (line ∷ lines) = omega (arith, lines_behind (with_line g line) lines, lines_step (counted g) (reading_of line))

steps_behind : (g : Gathered) (lines : List (List ℕ)) → (gathered_from g lines).steps ≡ g.steps + total_steps lines
steps_behind g [] = omega arith
steps_behind g (line ∷ lines) =
    omega (arith, steps_behind (with_line g line) lines, steps_step (counted g) (reading_of line), sum_by-cons (λ line. steps_in (reading_of line)) line lines)

unread_behind : (g : Gathered) (lines : List (List ℕ)) → (gathered_from g lines).unread ≡ or_else g.unread (first_unread (g.lines + 1) lines)
unread_behind g [] = or_none g.unread
  where
    or_none : (unread : Option ℕ) → unread ≡ or_else unread None
    or_none None = refl
    or_none (Some line) = refl
unread_behind g (line ∷ lines) =
    unread_behind (with_line g line) lines
    ∙ ap (λ n. or_else (with_line g line).unread (first_unread (n + 1) lines)) (lines_step (counted g) (reading_of line))
    ∙ unread_step (counted g) (reading_of line) (first_unread (g.lines + 1 + 1) lines)

said_behind : (g : Gathered) (lines : List (List ℕ)) → (gathered_from g lines).said ≡ said_more g.unread g.said (said_until (g.lines + 1) lines)
said_behind g [] = none_said g.unread g.said
  where
    none_said : (unread : Option ℕ) (said : List Said) → said ≡ said_more unread said []
    none_said None said = sym (append-nil said)
    none_said (Some line) said = refl
said_behind g (line ∷ lines) =
    said_behind (with_line g line) lines
    ∙ ap (λ n. said_more (with_line g line).unread (with_line g line).said (said_until (n + 1) lines)) (lines_step (counted g) (reading_of line))
    ∙ said_step (counted g) (reading_of line) (said_until (g.lines + 1 + 1) lines)

-- what is gathered of the lines of a text

pub record IsGathered (all : List (List ℕ)) (g : Gathered) : Type 0 where
  pub said : g.said ≡ said_until 1 all
  pub unread : g.unread ≡ first_unread 1 all
  pub lines : g.lines ≡ length all
  pub steps : g.steps ≡ total_steps all

pub gathered_is : (lines : List (List ℕ)) (g : Gathered) → g ≡ gathered_from nothing_gathered lines → IsGathered lines g
gathered_is lines g is = record {
  said = ap (λ (g : Gathered). g.said) is ∙ said_behind nothing_gathered lines;
  unread = ap (λ (g : Gathered). g.unread) is ∙ unread_behind nothing_gathered lines;
  lines = omega (arith, ap (λ (g : Gathered). g.lines) is, lines_behind nothing_gathered lines);
  steps = omega (arith, ap (λ (g : Gathered). g.steps) is, steps_behind nothing_gathered lines);
}

-- ---- what the first bad line is

-- a line that says nothing adds no statement
misfit_step : (before : List Statement) (number : ℕ) (reading : Option (Option Statement)) (said : List Said) (unread misfit : Option ℕ)
    → or_else (first_unfit (before ++ statements_in reading) said) unread ≡ misfit
    → or_else (first_unfit before (until_unread number reading said)) (unread_in number reading unread) ≡ misfit_in before number reading misfit
misfit_step before number None said unread misfit later = refl
misfit_step before number (Some None) said unread misfit later =
    ap (λ b. or_else (first_unfit b said) unread) (sym (append-nil before)) ∙ later
misfit_step before number (Some (Some s)) said unread misfit later =
    chosen (fits before s) (first_unfit (before ++ s ∷ []) said) later
  where
    chosen : (fit : Bool) (unfit : Option ℕ) → or_else unfit unread ≡ misfit
        → or_else (cond fit unfit (Some number)) unread ≡ cond fit misfit (Some number)
    chosen true unfit e = e
    chosen false unfit e = refl

-- the first line that doesn't fit is out of form, or says what doesn't fit
pub misfit_is : (before : List Statement) (number : ℕ) (lines : List (List ℕ))
    → or_else (first_unfit before (said_until number lines)) (first_unread number lines) ≡ first_misfit before number lines
misfit_is before number [] = refl
misfit_is before number (line ∷ lines) =
    misfit_step before number (reading_of line) (said_until (number + 1) lines) (first_unread (number + 1) lines)
    (first_misfit (before ++ statements_in (reading_of line)) (number + 1) lines)
    (misfit_is (before ++ statements_in (reading_of line)) (number + 1) lines)

said_all_step : (number : ℕ) (reading : Option (Option Statement)) (unread : Option ℕ) (said all : List Said) → unread_in number reading unread ≡ None
    → (unread ≡ None → said ≡ all) → until_unread number reading said ≡ said_in number reading ++ all
said_all_step number None unread said all none later = cc
said_all_step number (Some says) unread said all none later = ap (λ s. said_in number (Some says) ++ s) (later none)

-- where no line is out of form, all is said
pub all_said : (number : ℕ) (lines : List (List ℕ)) → first_unread number lines ≡ None → said_until number lines ≡ said_from number lines
all_said number [] none = refl
all_said number (line ∷ lines) none =
    said_all_step number (reading_of line) (first_unread (number + 1) lines) (said_until (number + 1) lines) (said_from (number + 1) lines) none
    (all_said (number + 1) lines)
