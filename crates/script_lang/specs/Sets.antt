-- Scripts whose clients only set: which texts are such scripts, and which line of another text is the first bad one.
use Rattle.std.specs.Prelude.{◌≡◌, ℕ, ◌+◌, ⊤, Bool, true, false, IsTrue, ◌&&◌, List, ◌∷◌, ◌++◌, length, Option, Some, None}
use Rattle.script_lang.specs.Lines.{lines_of}
use Rattle.script_lang.specs.Refusal.{IsTooLarge}
use Rattle.script_lang.specs.Script.{IsWithinLimits, fits, said_from, script_of, statements_of}
use Rattle.script_lang.specs.Statements.{reading_of}
use Rattle.script_lang.specs.declared.refusal.ScriptRefusal.{ScriptRefusal}
use Rattle.script_lang.specs.declared.refusal.ScriptRefusal.TheVariants.{TooLarge, BadLine, NoMemory}
use Rattle.script_lang.specs.declared.script.Act.{Act}
use Rattle.script_lang.specs.declared.script.Act.TheVariants as act
use Rattle.script_lang.specs.declared.script.Ask.{Ask}
use Rattle.script_lang.specs.declared.script.Ask.TheVariants as ask
use Rattle.script_lang.specs.declared.script.Script.{Script}
use Rattle.script_lang.specs.declared.statement.Statement.{Statement}
use Rattle.script_lang.specs.declared.statement.Statement.TheVariants as statement

-- whether a client's request is a set
abbrev pub is_set_ask : Ask → Bool
is_set_ask (ask.Set pair) = true
is_set_ask (ask.Read name) = false
is_set_ask ask.Sync = false
is_set_ask ask.Catch = false

-- whether a statement may stand where clients only set: each but a client's read, sync or catch
abbrev pub only_sets : Statement → Bool
only_sets (statement.Area size) = true
only_sets (statement.Plan plan) = true
only_sets (statement.Client client) = true
only_sets (statement.Step count) = true
only_sets (statement.Tick ms) = true
only_sets (statement.Exit name status) = true
only_sets (statement.File path content) = true
only_sets (statement.Ask name ask) = is_set_ask ask

-- ---- lines

abbrev pub reading_fits_sets : List Statement → Option (Option Statement) → Bool
reading_fits_sets before None = false
reading_fits_sets before (Some None) = true
reading_fits_sets before (Some (Some s)) = fits before s && only_sets s

-- A line fits behind others where clients only set: it is in form, what it says fits behind what they say, and it is no
-- client's read, sync or catch.
abbrev pub line_fits_sets : List (List ℕ) → List ℕ → Bool
line_fits_sets before line = reading_fits_sets (statements_of before) (reading_of line)

-- each of some lines fits so behind those before it
abbrev pub AllFitSets : List (List ℕ) → Type 0
AllFitSets lines =
    (before : List (List ℕ)) (line : List ℕ) (behind : List (List ℕ)) → lines ≡ before ++ line ∷ behind
    → IsTrue (line_fits_sets before line)

-- the first of some lines that doesn't fit so behind those before it, by its number from 1
pub record IsFirstBadOfSets (lines : List (List ℕ)) (number : ℕ) : Type 0 where
  pub before : List (List ℕ)
  pub bad : List ℕ
  pub behind : List (List ℕ)
  pub text : lines ≡ before ++ bad ∷ behind
  pub all_fit : AllFitSets before
  pub misfit : line_fits_sets before bad ≡ false
  pub number_is : number ≡ length before + 1

-- ---- the script

-- an act where clients only set
abbrev pub IsSetOrMain : Act → Type 0
IsSetOrMain (act.Step count) = ⊤
IsSetOrMain (act.Tick ms) = ⊤
IsSetOrMain (act.Exit name status) = ⊤
IsSetOrMain (act.File path content) = ⊤
IsSetOrMain (act.Ask who ask) = IsTrue (is_set_ask ask)

-- the bytes are the text of this script, whose clients only set
pub record IsScriptOfSets (bytes : List ℕ) (script : Script) : Type 0 where
  pub within : IsWithinLimits bytes
  pub all_fit : AllFitSets (lines_of bytes)
  pub script_is : script ≡ script_of (said_from 1 (lines_of bytes))

-- the bytes are within all limits, and this line is the first bad one
pub record IsBadOfSetsAt (bytes : List ℕ) (line : ℕ) : Type 0 where
  pub within : IsWithinLimits bytes
  pub first_bad : IsFirstBadOfSets (lines_of bytes) line

-- why the bytes are no script whose clients only set; want of memory is free
abbrev pub IsRefusedOfSets : List ℕ → ScriptRefusal → Type 0
IsRefusedOfSets bytes (TooLarge limit number) = IsTooLarge bytes limit number
IsRefusedOfSets bytes (BadLine line) = IsBadOfSetsAt bytes line
IsRefusedOfSets bytes NoMemory = ⊤
