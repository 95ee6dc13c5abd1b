-- Each text has one reading as a script whose clients only set.
use Rattle.std.proofs.Common.{◌≡◌, ℕ, true, false, IsTrue, List, Option, Some, None, sym, ◌∙◌}
use Rattle.std.proofs.lemmas.Bool.{and_parts}
use Rattle.script_lang.specs.Lines.{lines_of}
use Rattle.script_lang.specs.Script.{IsScript, fits, reading_fits, statements_of}
use Rattle.script_lang.specs.Sets.{IsBadOfSetsAt, IsScriptOfSets, only_sets, reading_fits_sets}
use Rattle.script_lang.specs.Statements.{reading_of}
use Rattle.script_lang.specs.declared.script.Script.{Script}
use Rattle.script_lang.specs.declared.statement.Statement.{Statement}
use Rattle.script_lang.proofs.Misfits.{one_first_bad_of_sets}

pub one_line_of_sets : (bytes : List ℕ) (line other : ℕ) → IsBadOfSetsAt bytes line → IsBadOfSetsAt bytes other → line ≡ other
one_line_of_sets bytes line other first second = one_first_bad_of_sets (lines_of bytes) line other first.first_bad second.first_bad

pub sets_or_line : (bytes : List ℕ) (script : Script) (line : ℕ) → IsScriptOfSets bytes script → IsBadOfSetsAt bytes line → ⊥
sets_or_line bytes script line is bad =
    let fit = is.all_fit bad.first_bad.before bad.first_bad.bad bad.first_bad.behind bad.first_bad.text in
    let odd : true ≡ false = sym fit ∙ bad.first_bad.misfit in
    cc

-- what fits where clients only set fits in any script
fits_too : (before : List Statement) (reading : Option (Option Statement)) → IsTrue (reading_fits_sets before reading) → IsTrue (reading_fits before reading)
fits_too before None fit = fit
fits_too before (Some None) fit = fit
fits_too before (Some (Some s)) fit = (and_parts (fits before s) (only_sets s) fit).0

pub script_of_sets_is_script : (bytes : List ℕ) (script : Script) → IsScriptOfSets bytes script → IsScript bytes script
script_of_sets_is_script bytes script is = record {
  within = is.within;
  all_fit = λ before line behind text. fits_too (statements_of before) (reading_of line) (is.all_fit before line behind text);
  script_is = is.script_is;
}
