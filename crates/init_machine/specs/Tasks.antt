-- What commands ask for, by their words and their expanded arguments (AOSP, init's README, "Commands"; the forms of
-- modes and times are this project's profile).
use Rattle.std.specs.Prelude.{ℕ, ◌+◌, ◌-◌, ◌*◌, Bool, true, false, ◌&&◌, ◌==◌, nat_le, List, [], ◌∷◌, ◌++◌, length, take, drop, codes, if◌then◌else◌}
use Rattle.std.specs.List.{after_first, before_first, fold, list_all, list_any}
use Rattle.std.specs.Str.{bytes_eq}
use Rattle.init_machine.specs.Typed.{is_decimal, number_of}
use Rattle.init_machine.specs.declared.service.Op.TheVariants as op
use Rattle.init_machine.specs.declared.task.Task.{Task}
use Rattle.init_machine.specs.declared.task.Task.TheVariants as task
use Rattle.init_machine.specs.declared.task.TreeCall.{TreeCall}
use Rattle.init_machine.specs.declared.task.TreeCall.TheVariants as call
use Rattle.init_machine.specs.declared.word.Word.{Word}
use Rattle.init_machine.specs.declared.word.Word.TheVariants as word

-- The arguments by their places. (A command has as many as its word takes: see `Arity`. One that it hasn't is empty.)

abbrev pub first : List (List ℕ) → List ℕ
first [] = []
first (one ∷ rest) = one

abbrev pub second : List (List ℕ) → List ℕ
second args = first (drop 1 args)

-- `[OPTION] NAME`: of two arguments the first has to be the option; one that stands alone is the name
abbrev pub optional : List ℕ → (Bool → List ℕ → Task) → List (List ℕ) → Task
optional option asked [] = asked false []
optional option asked (name ∷ []) = asked false name
optional option asked (given ∷ name ∷ rest) = if bytes_eq given option then asked true name else task.BadArgument 1

-- MODE: one to six octal digits, up to 07777
abbrev pub is_octal_digit : ℕ → Bool
is_octal_digit b = nat_le 48 b && nat_le b 55

abbrev pub octal_of : List ℕ → ℕ
octal_of digits = fold (λ number b. number * 8 + (b - 48)) 0 digits

abbrev pub is_mode : List ℕ → Bool
is_mode text = nat_le 1 (length text) && nat_le (length text) 6 && list_all is_octal_digit text && nat_le (octal_of text) 4095

-- with a mode, if the argument of this number is one
abbrev pub by_mode : ℕ → List ℕ → (ℕ → TreeCall) → Task
by_mode number text asked = if is_mode text then task.Tree (asked (octal_of text)) else task.BadArgument number

-- SECONDS: one to seven decimal digits, and then nothing or `.` (46) and one to nine digits. It means whole
-- milliseconds, 1,000,000,000 at most; digits past the third of the fraction are dropped.
abbrev pub millis_of : List ℕ → List ℕ → ℕ
millis_of whole fraction = number_of whole * 1000 + number_of (take 3 (fraction ++ codes "000"))

abbrev pub whole_part : List ℕ → List ℕ
whole_part text = before_first (λ b. b == 46) text

abbrev pub fraction : List ℕ → List ℕ
fraction text = after_first (λ b. b == 46) text

abbrev pub has_fraction : List ℕ → Bool
has_fraction text = list_any (λ b. b == 46) text

abbrev pub is_seconds : List ℕ → Bool
is_seconds text =
    is_decimal 7 (whole_part text) && (if has_fraction text then is_decimal 9 (fraction text) else true)
    && nat_le (millis_of (whole_part text) (fraction text)) 1000000000

-- `PATH [SECONDS]`, by default five seconds
abbrev pub wait_for : List (List ℕ) → Task
wait_for [] = task.WaitForFile [] (record { 0 = 5000 })
wait_for (path ∷ []) = task.WaitForFile path (record { 0 = 5000 })
wait_for (path ∷ seconds ∷ rest) =
    if is_seconds seconds
    then task.WaitForFile path (record { 0 = millis_of (whole_part seconds) (fraction seconds) })
    else task.BadArgument 2

-- `[ANY ... --] PATH [ARG ...]`: the path stands behind the first `--`, and without one is the first argument
abbrev pub is_dashes : List ℕ → Bool
is_dashes arg = bytes_eq arg (codes "--")

abbrev pub program : List (List ℕ) → Task
program [] = task.BadArgument 1
program (path ∷ rest) = task.Exec path

abbrev pub run_once : List (List ℕ) → Task
run_once args = if list_any is_dashes args then program (after_first is_dashes args) else program args

abbrev pub trigger : List ℕ → Task
trigger [] = task.BadArgument 1
trigger (byte ∷ rest) = task.Trigger (byte ∷ rest)

-- `PATH [MODE]`, by default 0755; up to four arguments more are not read
abbrev pub make_directory : List (List ℕ) → Task
make_directory [] = task.Tree (call.MakeDirectory [] 493)
make_directory (path ∷ []) = task.Tree (call.MakeDirectory path 493)
make_directory (path ∷ mode ∷ rest) = by_mode 2 mode (λ m. call.MakeDirectory path m)

unfoldable pub task_of : Word → List (List ℕ) → Task
task_of word.ClassStart args = task.OnClass op.ClassStart (first args)
task_of word.ClassStop args = task.OnClass op.Stop (first args)
task_of word.ClassReset args = task.OnClass op.Reset (first args)
task_of word.ClassRestart args = optional (codes "--only-enabled") (λ only class. task.OnClass (op.ClassRestart only) class) args
task_of word.Start args = task.OnService op.Start (first args)
task_of word.Stop args = task.OnService op.Stop (first args)
task_of word.Enable args = task.OnService op.Enable (first args)
task_of word.Restart args = optional (codes "--only-if-running") (λ only name. task.OnService (op.Restart only) name) args
task_of word.ExecStart args = task.ExecStart (first args)
task_of word.Exec args = run_once args
task_of word.Setprop args = task.SetProperty (first args) (second args)
task_of word.Trigger args = trigger (first args)
task_of word.WaitForProp args = task.WaitForProperty (first args) (second args)
task_of word.Wait args = wait_for args
task_of word.LoadPersistProps args = task.LoadSaved
task_of word.Export args = task.Export (first args) (second args)
task_of word.Write args = task.Tree (call.Write (first args) (second args))
task_of word.Copy args = task.Tree (call.Copy (first args) (second args))
task_of word.Rm args = task.Tree (call.Remove (first args))
task_of word.Rmdir args = task.Tree (call.RemoveDirectory (first args))
task_of word.Symlink args = task.Tree (call.Link (first args) (second args))
task_of word.Chmod args = by_mode 1 (first args) (λ m. call.ChangeMode m (second args))
task_of word.Mkdir args = make_directory args
task_of (word.Inert noted) args = task.Note
