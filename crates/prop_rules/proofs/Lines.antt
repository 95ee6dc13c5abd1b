-- The lines of a build file, and what they give one after another.
use Rattle.std.proofs.Common.{◌≡◌, ℕ, ◌+◌, List, [], ◌∷◌, ◌++◌, ap, sym, ◌∙◌, append_assoc, append-nil}
use Rattle.init_base.specs.Lines.{lines_of}
use Rattle.init_machine.specs.declared.config.Pair.{Pair}
use Rattle.init_machine.specs.declared.diagnostic.Diagnostic.{Diagnostic}
use Rattle.prop_rules.specs.Build.{build_faults, build_line, build_pairs, faults_in, pairs_in}
use Rattle.prop_rules.specs.declared.build.BuildLine.{BuildLine}

-- a line was added, and what is left decides
pub pairs_more : (old new all : List Pair) (rest behind line : List ℕ) (said : BuildLine)
    → old ++ build_pairs (lines_of rest) ≡ all → lines_of rest ≡ line ∷ lines_of behind → said ≡ build_line line → new ≡ old ++ pairs_in said
    → new ++ build_pairs (lines_of behind) ≡ all
pairs_more old new all rest behind line said so_far first is added =
    ap (λ ps. ps ++ build_pairs (lines_of behind)) (added ∙ ap (λ s. old ++ pairs_in s) is)
    ∙ append_assoc old (pairs_in (build_line line)) (build_pairs (lines_of behind))
    ∙ ap (λ ls. old ++ build_pairs ls) (sym first)
    ∙ so_far

pub faults_more : (file : List ℕ) (number : ℕ) (old new all : List Diagnostic) (rest behind line : List ℕ) (said : BuildLine)
    → old ++ build_faults file number (lines_of rest) ≡ all → lines_of rest ≡ line ∷ lines_of behind → said ≡ build_line line → new ≡ old ++ faults_in file number said
    → new ++ build_faults file (number + 1) (lines_of behind) ≡ all
faults_more file number old new all rest behind line said so_far first is added =
    ap (λ ds. ds ++ build_faults file (number + 1) (lines_of behind)) (added ∙ ap (λ s. old ++ faults_in file number s) is)
    ∙ append_assoc old (faults_in file number (build_line line)) (build_faults file (number + 1) (lines_of behind))
    ∙ ap (λ ls. old ++ build_faults file number ls) (sym first)
    ∙ so_far

-- nothing is left
pub pairs_all : (done all : List Pair) (rest : List ℕ) → done ++ build_pairs (lines_of rest) ≡ all → rest ≡ [] → done ≡ all
pairs_all done all rest so_far none = sym (append-nil done) ∙ ap (λ bytes. done ++ build_pairs (lines_of bytes)) (sym none) ∙ so_far

pub faults_all : (file : List ℕ) (number : ℕ) (done all : List Diagnostic) (rest : List ℕ) → done ++ build_faults file number (lines_of rest) ≡ all → rest ≡ [] → done ≡ all
faults_all file number done all rest so_far none = sym (append-nil done) ∙ ap (λ bytes. done ++ build_faults file number (lines_of bytes)) (sym none) ∙ so_far
