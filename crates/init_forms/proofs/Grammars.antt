-- What holds of scripts by either grammar: a text has one reading.
use Rattle.std.proofs.Common.{◌≡◌, ℕ, List}
use Rattle.script_lang.proofs.OneReading.{one_line, script_or_line}
use Rattle.script_lang.proofs.SetsReading.{one_line_of_sets, script_of_sets_is_script, sets_or_line}
use Rattle.script_lang.specs.Script.{IsScript, IsWithinLimits}
use Rattle.script_lang.specs.declared.script.Script.{Script}
use Rattle.job_reader.specs.Script.{IsBadIn, IsScriptIn}
use Rattle.job_reader.specs.declared.grammar.Grammar.{Grammar}
use Rattle.job_reader.specs.declared.grammar.Grammar.TheVariants.{Whole, Sets}

pub is_script : (g : Grammar) (bytes : List ℕ) (script : Script) → IsScriptIn g bytes script → IsScript bytes script
is_script Whole bytes script is = is
is_script Sets bytes script is = script_of_sets_is_script bytes script is

pub bad_within : (g : Grammar) (bytes : List ℕ) (line : ℕ) → IsBadIn g bytes line → IsWithinLimits bytes
bad_within Whole bytes line bad = bad.within
bad_within Sets bytes line bad = bad.within

pub one_bad_line : (g : Grammar) (bytes : List ℕ) (line other : ℕ) → IsBadIn g bytes line → IsBadIn g bytes other → line ≡ other
one_bad_line Whole bytes line other first second = one_line bytes line other first second
one_bad_line Sets bytes line other first second = one_line_of_sets bytes line other first second

pub script_or_bad : (g : Grammar) (bytes : List ℕ) (script : Script) (line : ℕ) → IsScriptIn g bytes script → IsBadIn g bytes line → ⊥
script_or_bad Whole bytes script line is bad = script_or_line bytes script line is bad
script_or_bad Sets bytes script line is bad = sets_or_line bytes script line is bad
