-- What the bytes of a build file say (AOSP, `build.prop`; that a bad line has a diagnostic is this project's profile).
-- Space (32), tab (9) and CR (13) are blanks, 61 is `=` and 35 `#`.
use Rattle.std.specs.Prelude.{◌≡◌, ℕ, ◌+◌, Bool, ◌||◌, ◌==◌, nat_eq, if◌then◌else◌, List, [], ◌∷◌, ◌++◌, codes, take, drop, position, Option, Some, None}
use Rattle.std.specs.List.{flat_map, list_all, starts_with}
use Rattle.init_base.specs.Lines.{lines_of}
use Rattle.init_machine.specs.Pairs.{pair}
use Rattle.init_machine.specs.declared.config.Pair.{Pair}
use Rattle.init_machine.specs.declared.diagnostic.DiagKind.TheVariants.{BadProp}
use Rattle.init_machine.specs.declared.diagnostic.Diagnostic.{Diagnostic}
use Rattle.prop_rules.specs.declared.build.BuildLine.{BuildLine}
use Rattle.prop_rules.specs.declared.build.BuildLine.TheVariants.{Skipped, Bad, Sets}
use Rattle.prop_rules.specs.declared.build.BuildProps.{BuildProps}

abbrev pub is_blank : ℕ → Bool
is_blank b = b == 32 || b == 9 || b == 13

abbrev pub without_first_blanks : List ℕ → List ℕ
without_first_blanks [] = []
without_first_blanks (b ∷ rest) = if is_blank b then without_first_blanks rest else b ∷ rest

abbrev pub without_last_blanks : List ℕ → List ℕ
without_last_blanks [] = []
without_last_blanks (b ∷ rest) = if list_all is_blank (b ∷ rest) then [] else b ∷ without_last_blanks rest

-- a text without the blanks at both its ends
abbrev pub trimmed : List ℕ → List ℕ
trimmed text = without_last_blanks (without_first_blanks text)

-- a name that begins with `ctl.` asks for something to be done, and can't be given a value
abbrev pub with_name : List ℕ → List ℕ → BuildLine
with_name name value = if starts_with nat_eq name (codes "ctl.") then Bad else Sets (pair name value)

-- a pair is parted at its first `=`
abbrev pub parted_at : Option ℕ → List ℕ → BuildLine
parted_at None line = Bad
parted_at (Some at) line = with_name (trimmed (take at line)) (trimmed (drop (at + 1) line))

-- by what stands behind the blanks at the front: nothing, a comment, or a pair
abbrev pub behind_blanks : List ℕ → BuildLine
behind_blanks [] = Skipped
behind_blanks (b ∷ rest) = if b == 35 then Skipped else parted_at (position (λ c. c == 61) (b ∷ rest)) (b ∷ rest)

-- what a line says
abbrev pub build_line : List ℕ → BuildLine
build_line line = behind_blanks (without_first_blanks line)

abbrev pub pairs_in : BuildLine → List Pair
pairs_in Skipped = []
pairs_in Bad = []
pairs_in (Sets p) = p ∷ []

abbrev pub faults_in : List ℕ → ℕ → BuildLine → List Diagnostic
faults_in file number Skipped = []
faults_in file number Bad = record { file = file; line = number; kind = BadProp } ∷ []
faults_in file number (Sets p) = []

-- the pairs of some lines, in order
abbrev pub build_pairs : List (List ℕ) → List Pair
build_pairs lines = flat_map (λ line. pairs_in (build_line line)) lines

-- the diagnostics of some lines, of which the first has this number
abbrev pub build_faults : List ℕ → ℕ → List (List ℕ) → List Diagnostic
build_faults file number [] = []
build_faults file number (line ∷ rest) = faults_in file number (build_line line) ++ build_faults file (number + 1) rest

-- what a build file of these bytes says
pub record IsBuildFile (file bytes : List ℕ) (props : BuildProps) : Type 0 where
  pub pairs_are : props.pairs ≡ build_pairs (lines_of bytes)
  pub diagnostics_are : props.diagnostics ≡ build_faults file 1 (lines_of bytes)
