-- The lines of the allow text: `allow DOMAIN LABEL` (after AOSP's policy rules for setting properties).
use Rattle.std.specs.Prelude.{ℕ, if◌then◌else◌, List, [], ◌∷◌, codes}
use Rattle.std.specs.List.{flat_map}
use Rattle.std.specs.Str.{bytes_eq}
use Rattle.init_machine.specs.declared.policy.AllowLine.{AllowLine}
use Rattle.prop_contexts.specs.Lines.{is_comment, words_of}
use Rattle.prop_contexts.specs.Contexts.{read_in}
use Rattle.prop_contexts.specs.declared.line.Reading.{Reading}
use Rattle.prop_contexts.specs.declared.line.Reading.TheVariants.{Skipped, Bad, Read}

-- by the words behind the first one
abbrev pub pair_of : List (List ℕ) → Reading AllowLine
pair_of (domain ∷ label ∷ []) = Read (record { domain = domain; label = label })
pair_of _ = Bad

abbrev pub allow_of_words : List (List ℕ) → Reading AllowLine
allow_of_words [] = Skipped
allow_of_words (first ∷ words) =
    if is_comment first then Skipped else if bytes_eq first (codes "allow") then pair_of words else Bad

-- what a line says
abbrev pub allow_of : List ℕ → Reading AllowLine
allow_of line = allow_of_words (words_of line)

-- what lines give, in their order
abbrev pub allow_lines : List (List ℕ) → List AllowLine
allow_lines lines = flat_map (λ line. read_in (allow_of line)) lines
