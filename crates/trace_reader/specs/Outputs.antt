-- Outputs, by the fields that tell them.
use Rattle.std.specs.Prelude.{ℕ, if◌then◌else◌, List, [], ◌∷◌, codes, map, Option, None}
use Rattle.std.specs.Option.{option_map}
use Rattle.std.specs.Str.{bytes_eq}
use Rattle.init_base.specs.Quoted.{unquoted}
use Rattle.init_base.specs.declared.units.Millis.{Millis}
use Rattle.init_base.specs.declared.units.Pid.{Pid}
use Rattle.init_machine.specs.Commands.{word_of}
use Rattle.init_machine.specs.declared.output.Output.{Output}
use Rattle.init_machine.specs.declared.output.Output.TheVariants as output
use Rattle.script_lang.specs.Statements.{with_two, with_three}
use Rattle.trace_reader.specs.Reading.{choose, lone, only, pair_of, three, two, with_four}
use Rattle.trace_reader.specs.Refusals.{cause_of, how_of, refusal_of}
use Rattle.trace_reader.specs.Words.{large_in, small_in, texts_in}
use Rattle.trace_reader.specs.declared.output_word.OutputWord.{OutputWord}
use Rattle.trace_reader.specs.declared.output_word.OutputWord.TheVariants as word
use Rattle.trace_reader.specs.declared.output_word.TheConstants.{OUTPUTS}

abbrev pub pid : ℕ → Pid
pid number = record { 0 = number }

abbrev pub millis : ℕ → Millis
millis number = record { 0 = number }

abbrev pub action_of : List (List ℕ) → Option Output
action_of args = two (λ file line. output.Action file line) unquoted small_in args

abbrev pub command_of : List (List ℕ) → Option Output
command_of (file ∷ line ∷ word ∷ args) =
    with_four (λ file line word args. output.Command file line word args) (unquoted file) (small_in line) (word_of word) (texts_in args)
command_of _ = None

abbrev pub put_of : List (List ℕ) → Option Output
put_of args = three (λ number name value. output.Put number name value) large_in unquoted unquoted args

abbrev pub unset_of : List (List ℕ) → Option Output
unset_of [] = None
unset_of (name ∷ args) = with_two (λ name refusal. output.Unset name refusal) (unquoted name) (refusal_of args)

abbrev pub spawn_of : List (List ℕ) → Option Output
spawn_of args = three (λ number name path. output.Spawn (pid number) name path) small_in unquoted unquoted args

abbrev pub kill_of : List (List ℕ) → Option Output
kill_of args = two (λ number name. output.Kill (pid number) name) small_in unquoted args

abbrev pub reap_of : List (List ℕ) → Option Output
reap_of (number ∷ name ∷ args) = with_three (λ number name how. output.Reap (pid number) name how) (small_in number) (unquoted name) (how_of args)
reap_of _ = None

abbrev pub wait_child_of : List (List ℕ) → Option Output
wait_child_of args = option_map (λ number. output.WaitChild (pid number)) (only small_in args)

abbrev pub wait_prop_of : List (List ℕ) → Option Output
wait_prop_of args = option_map (λ texts. output.WaitProp texts.0 texts.1) (pair_of unquoted unquoted args)

abbrev pub wait_file_of : List (List ℕ) → Option Output
wait_file_of args = two (λ path until. output.WaitFile path (millis until)) unquoted large_in args

abbrev pub wait_of : List (List ℕ) → Option Output
wait_of [] = None
wait_of (word ∷ args) =
    if bytes_eq word (codes "child") then wait_child_of args
    else if bytes_eq word (codes "prop") then wait_prop_of args
    else if bytes_eq word (codes "file") then wait_file_of args
    else None

-- an output, by the fields behind its first word
abbrev pub output_in : OutputWord → List (List ℕ) → Option Output
output_in word.Event args = option_map (λ name. output.Event name) (only unquoted args)
output_in word.Change args = option_map (λ texts. output.Change texts.0 texts.1) (pair_of unquoted unquoted args)
output_in word.AllProperties args = lone output.AllProperties args
output_in word.Action args = action_of args
output_in word.Command args = command_of args
output_in word.Put args = put_of args
output_in word.Stored args = option_map (λ name. output.Stored name) (only unquoted args)
output_in word.Unset args = unset_of args
output_in word.Spawn args = spawn_of args
output_in word.NoPid args = option_map (λ name. output.NoPid name) (only unquoted args)
output_in word.Kill args = kill_of args
output_in word.Reap args = reap_of args
output_in word.Env args = option_map (λ texts. output.Env texts.0 texts.1) (pair_of unquoted unquoted args)
output_in word.Tree args = option_map (λ path. output.Tree path) (only unquoted args)
output_in word.Noted args = lone output.Noted args
output_in word.Ok args = lone output.Ok args
output_in word.Failed args = option_map (λ cause. output.Failed cause) (cause_of args)
output_in word.Wait args = wait_of args
output_in word.Released args = lone output.Released args
output_in word.Timeout args = lone output.Timeout args
output_in word.Blocked args = lone output.Blocked args
output_in word.Idle args = lone output.Idle args
output_in word.Down args = lone output.Down args
output_in word.TooFar args = lone output.TooFar args
output_in word.NoProcess args = lone output.NoProcess args
output_in word.Reboot args = option_map (λ target. output.Reboot target) (only unquoted args)
output_in word.Accepted args = option_map (λ number. output.Accepted number) (only large_in args)
output_in word.Control args = option_map (λ number. output.Control number) (only large_in args)
output_in word.Refused args = option_map (λ refusal. output.Refused refusal) (refusal_of args)

abbrev pub output_named : List ℕ → Option OutputWord
output_named word = choose (map (λ row. (row.0.now, row.1)) OUTPUTS) word
