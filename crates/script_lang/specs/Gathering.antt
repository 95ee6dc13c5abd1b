-- What the code gathers, line by line. No promise of the crate cites these definitions.
use Rattle.std.specs.Prelude.{◌≡◌, ℕ, ◌+◌, ◌≤◌, length, List, [], ◌∷◌, ◌++◌, Option, Some, None}
use Rattle.script_lang.specs.Lines.{lines_of}
use Rattle.script_lang.specs.Script.{steps_in, said_in}
use Rattle.script_lang.specs.Statements.{reading_of}
use Rattle.script_lang.specs.declared.gather.Gathered.{Gathered}
use Rattle.script_lang.specs.declared.statement.Said.{Said}
use Rattle.script_lang.specs.declared.statement.Statement.{Statement}

abbrev pub nothing_gathered : Gathered
nothing_gathered = record { said = []; unread = None; lines = 0; steps = 0 }

-- the first of two lines
abbrev pub or_else : Option ℕ → Option ℕ → Option ℕ
or_else None other = other
or_else (Some line) other = Some line

-- what was said, and behind it this, unless a line was out of form
abbrev pub said_more : Option ℕ → List Said → List Said → List Said
said_more None said more = said ++ more
said_more (Some line) said more = said

-- the reading of the line that was counted last
abbrev pub with_reading : Gathered → Option (Option Statement) → Gathered
with_reading g None = record g { unread = or_else g.unread (Some g.lines) }
with_reading g (Some None) = g
with_reading g (Some (Some s)) = record g {
  said = said_more g.unread g.said (record { line = g.lines; statement = s } ∷ []);
  steps = g.steps + steps_in (Some (Some s));
}

-- one line more
abbrev pub with_line : Gathered → List ℕ → Gathered
with_line g line = with_reading (record g { lines = g.lines + 1 }) (reading_of line)

abbrev pub gathered_from : Gathered → List (List ℕ) → Gathered
gathered_from g [] = g
gathered_from g (line ∷ lines) = gathered_from (with_line g line) lines

-- the first of some lines that is out of form, where the first of them has this number
abbrev pub unread_in : ℕ → Option (Option Statement) → Option ℕ → Option ℕ
unread_in number None later = Some number
unread_in number (Some says) later = later

abbrev pub first_unread : ℕ → List (List ℕ) → Option ℕ
first_unread number [] = None
first_unread number (line ∷ lines) = unread_in number (reading_of line) (first_unread (number + 1) lines)

-- what the lines before that one say
abbrev pub until_unread : ℕ → Option (Option Statement) → List Said → List Said
until_unread number None later = []
until_unread number (Some says) later = said_in number (Some says) ++ later

abbrev pub said_until : ℕ → List (List ℕ) → List Said
said_until number [] = []
said_until number (line ∷ lines) = until_unread number (reading_of line) (said_until (number + 1) lines)

-- this was gathered of all lines of a text within the limits
pub record IsGatheredWithin (bytes : List ℕ) (g : Gathered) : Type 0 where
  pub short : length bytes ≤ 16777216
  pub few_lines : g.lines ≤ 100000
  pub few_steps : g.steps ≤ 1000000
  pub gathered : g ≡ gathered_from nothing_gathered (lines_of bytes)
