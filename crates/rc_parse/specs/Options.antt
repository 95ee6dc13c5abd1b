-- The options of a service (AOSP, init's README, "Services").
use Rattle.std.specs.Prelude.{ℕ, ◌*◌, Bool, if◌then◌else◌, List, [], ◌∷◌, length, codes, Option, Some, None, Result, Ok, Err}
use Rattle.std.specs.List.{find, list_any}
use Rattle.std.specs.Option.{ok_or, option_map}
use Rattle.std.specs.Str.{bytes_eq}
use Rattle.init_base.specs.declared.units.Millis.{Millis}
use Rattle.init_machine.specs.Arity.{is_within}
use Rattle.init_machine.specs.declared.action.Command.{Command}
use Rattle.init_machine.specs.declared.arity.Arity.{Arity}
use Rattle.init_machine.specs.declared.diagnostic.DiagKind.{DiagKind}
use Rattle.init_machine.specs.declared.diagnostic.DiagKind.TheVariants.{BadArity, BadOption, BadWord}
use Rattle.init_machine.specs.declared.word.Word.TheVariants as word
use Rattle.init_machine.specs.WordTexts.{word_text}
use Rattle.rc_parse.specs.Lines.{first_word, arguments}
use Rattle.rc_parse.specs.Commands.{command_of}
use Rattle.rc_parse.specs.Values.{number_from, millis, critical_of}
use Rattle.rc_parse.specs.declared.option_word.InertOption.{InertOption}
use Rattle.rc_parse.specs.declared.option_word.InertOption.TheVariants as inert
use Rattle.rc_parse.specs.declared.option_word.OptionWord.{OptionWord}
use Rattle.rc_parse.specs.declared.option_word.OptionWord.TheVariants as option
use Rattle.rc_parse.specs.declared.setting.Setting.{Setting}
use Rattle.rc_parse.specs.declared.setting.Setting.TheVariants as setting
use Rattle.rc_parse.specs.declared.table.TheConstants.{OPTIONS}

-- an option that has no effect
unfoldable pub inert_option_text : InertOption → List ℕ
inert_option_text inert.User = codes "user"
inert_option_text inert.Group = codes "group"
inert_option_text inert.Capabilities = codes "capabilities"
inert_option_text inert.Seclabel = codes "seclabel"
inert_option_text inert.Socket = codes "socket"
inert_option_text inert.File = codes "file"
inert_option_text inert.Setenv = codes "setenv"
inert_option_text inert.Ioprio = codes "ioprio"
inert_option_text inert.Priority = codes "priority"
inert_option_text inert.Writepid = codes "writepid"
inert_option_text inert.TaskProfiles = codes "task_profiles"
inert_option_text inert.Namespace = codes "namespace"
inert_option_text inert.Shutdown = codes "shutdown"
inert_option_text inert.Interface = codes "interface"
inert_option_text inert.Console = codes "console"
inert_option_text inert.Rlimit = codes "rlimit"
inert_option_text inert.OomScoreAdjust = codes "oom_score_adjust"

-- an option, as it is written
unfoldable pub option_text : OptionWord → List ℕ
option_text option.Class = codes "class"
option_text option.Disabled = codes "disabled"
option_text option.Oneshot = codes "oneshot"
option_text option.Override = codes "override"
option_text option.Critical = codes "critical"
option_text option.Onrestart = codes "onrestart"
option_text option.RestartPeriod = codes "restart_period"
option_text option.TimeoutPeriod = codes "timeout_period"
option_text (option.Inert inert) = inert_option_text inert

-- the row of a table of options that has this word
abbrev pub row_of : List (OptionWord × Arity) → List ℕ → Option (OptionWord × Arity)
row_of rows word = find (λ row. bytes_eq (option_text row.0) word) rows

-- the row's option, where there is a row and it permits so many arguments
abbrev pub word_with : ℕ → Option (OptionWord × Arity) → Result OptionWord DiagKind
word_with count None = Err BadWord
word_with count (Some row) = if is_within row.1 count then Ok row.0 else Err BadArity

-- the word of an option with so many arguments
unfoldable pub option_word : List ℕ → ℕ → Result OptionWord DiagKind
option_word word count = word_with count (row_of OPTIONS word)

-- what a value sets, where it is of a good form
abbrev pub set_to : {A : Type 0} → (A → Setting) → Result A DiagKind → Result Setting DiagKind
set_to set (Ok value) = Ok (set value)
set_to set (Err kind) = Err kind

-- so many seconds, and at least these
abbrev pub seconds_of : ℕ → List ℕ → Result Millis DiagKind
seconds_of least text = ok_or (option_map (λ seconds. millis (seconds * 1000)) (number_from least text)) BadOption

-- a command that waits, which `onrestart` can't have
abbrev pub is_waiting_word : List ℕ → Bool
is_waiting_word text =
    list_any (λ word. bytes_eq text (word_text word)) (word.Exec ∷ word.ExecStart ∷ word.Wait ∷ word.WaitForProp ∷ [])

-- the command behind `onrestart`
abbrev pub onrestart_of : List ℕ → ℕ → List (List ℕ) → Result Command DiagKind
onrestart_of file line words = if is_waiting_word (first_word words) then Err BadOption else command_of file line words

-- what an option of this word sets, by the words of its line
abbrev pub setting_for : List ℕ → ℕ → List (List ℕ) → OptionWord → Result Setting DiagKind
setting_for file line words option.Class = Ok (setting.Classes (arguments words))
setting_for file line words option.Disabled = Ok setting.Disabled
setting_for file line words option.Oneshot = Ok setting.Oneshot
setting_for file line words option.Override = Ok setting.Override
setting_for file line words option.Critical = set_to (λ critical. setting.Critical critical) (critical_of (arguments words))
setting_for file line words option.Onrestart = set_to (λ command. setting.Onrestart command) (onrestart_of file line (arguments words))
setting_for file line words option.RestartPeriod = set_to (λ period. setting.Period period) (seconds_of 0 (first_word (arguments words)))
setting_for file line words option.TimeoutPeriod = set_to (λ timeout. setting.Timeout timeout) (seconds_of 1 (first_word (arguments words)))
setting_for file line words (option.Inert inert) = Ok (setting.Kept words)

abbrev pub setting_with : List ℕ → ℕ → List (List ℕ) → Result OptionWord DiagKind → Result Setting DiagKind
setting_with file line words (Ok option) = setting_for file line words option
setting_with file line words (Err kind) = Err kind

-- what these words set, as an option at a line of a file
abbrev pub setting_of : List ℕ → ℕ → List (List ℕ) → Result Setting DiagKind
setting_of file line words =
    setting_with file line words (option_word (first_word words) (length (arguments words)))
