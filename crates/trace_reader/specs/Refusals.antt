-- Refusals, causes of failures and ends of processes, by the fields that tell them.
use Rattle.std.specs.Prelude.{ℕ, if◌then◌else◌, List, [], ◌∷◌, codes, map, Option, None}
use Rattle.std.specs.Option.{option_map}
use Rattle.std.specs.Str.{bytes_eq}
use Rattle.init_base.specs.Quoted.{unquoted}
use Rattle.init_machine.specs.declared.output.Cause.{Cause}
use Rattle.init_machine.specs.declared.output.Cause.TheVariants as cause
use Rattle.init_machine.specs.declared.output.How.{How}
use Rattle.init_machine.specs.declared.output.How.TheVariants as how
use Rattle.init_machine.specs.declared.output.SetRefusal.{SetRefusal}
use Rattle.init_machine.specs.declared.output.SetRefusal.TheVariants as refusal
use Rattle.script_lang.specs.Statements.{status_in}
use Rattle.trace_reader.specs.Reading.{bind, choose, lone, only, two}
use Rattle.trace_reader.specs.Words.{large_in, tree_in}
use Rattle.trace_reader.specs.declared.cause.CauseWord.{CauseWord}
use Rattle.trace_reader.specs.declared.cause.CauseWord.TheVariants as cause_word
use Rattle.trace_reader.specs.declared.cause.TheConstants.{CAUSES}
use Rattle.trace_reader.specs.declared.refusal.RefusalWord.{RefusalWord}
use Rattle.trace_reader.specs.declared.refusal.RefusalWord.TheVariants as refusal_word
use Rattle.trace_reader.specs.declared.refusal.TheConstants.{REFUSALS}

abbrev pub area_full_of : List (List ℕ) → Option SetRefusal
area_full_of args = two (λ used need. refusal.AreaFull used need) large_in large_in args

-- a refusal, by the fields behind its name
abbrev pub refusal_in : RefusalWord → List (List ℕ) → Option SetRefusal
refusal_in refusal_word.Down args = option_map (λ target. refusal.Down target) (only unquoted args)
refusal_in refusal_word.InvalidName args = lone refusal.InvalidName args
refusal_in refusal_word.UnknownControl args = lone refusal.UnknownControl args
refusal_in refusal_word.Denied args = option_map (λ context. refusal.Denied context) (only unquoted args)
refusal_in refusal_word.NoSuchService args = lone refusal.NoSuchService args
refusal_in refusal_word.InvalidType args = lone refusal.InvalidType args
refusal_in refusal_word.ValueTooLong args = option_map (λ len. refusal.ValueTooLong len) (only large_in args)
refusal_in refusal_word.NotUtf8 args = lone refusal.NotUtf8 args
refusal_in refusal_word.ReadOnly args = option_map (λ number. refusal.ReadOnly number) (only large_in args)
refusal_in refusal_word.AreaFull args = area_full_of args
refusal_in refusal_word.NumberSpent args = option_map (λ last. refusal.NumberSpent last) (only large_in args)

abbrev pub refusal_named : List ℕ → Option RefusalWord
refusal_named word = choose (map (λ row. (row.0.now, row.1)) REFUSALS) word

abbrev pub refusal_of : List (List ℕ) → Option SetRefusal
refusal_of [] = None
refusal_of (word ∷ args) = bind (refusal_named word) (λ known. refusal_in known args)

-- a cause, by the fields behind its name
abbrev pub cause_in : CauseWord → List (List ℕ) → Option Cause
cause_in cause_word.Absent args = option_map (λ name. cause.Absent name) (only unquoted args)
cause_in cause_word.BadForm args = option_map (λ place. cause.BadForm place) (only large_in args)
cause_in cause_word.TooLong args = lone cause.TooLong args
cause_in cause_word.NoSuchService args = option_map (λ name. cause.NoSuchService name) (only unquoted args)
cause_in cause_word.AlreadyRunning args = option_map (λ name. cause.AlreadyRunning name) (only unquoted args)
cause_in cause_word.NoPid args = lone cause.NoPid args
cause_in cause_word.BadArgument args = option_map (λ number. cause.BadArgument number) (only large_in args)
cause_in cause_word.Tree args = option_map (λ kind. cause.Tree kind) (only tree_in args)
cause_in cause_word.Set args = option_map (λ refusal. cause.Set refusal) (refusal_of args)

abbrev pub cause_named : List ℕ → Option CauseWord
cause_named word = choose (map (λ row. (row.0.now, row.1)) CAUSES) word

abbrev pub cause_of : List (List ℕ) → Option Cause
cause_of [] = None
cause_of (word ∷ args) = bind (cause_named word) (λ known. cause_in known args)

abbrev pub how_of : List (List ℕ) → Option How
how_of [] = None
how_of (word ∷ args) =
    if bytes_eq word (codes "exit") then option_map (λ status. how.Exit status) (only status_in args)
    else if bytes_eq word (codes "killed") then lone how.Killed args
    else None
