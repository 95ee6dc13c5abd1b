-- No command waits for a file longer than the longest wait.
use Rattle.std.proofs.Common.{◌≡◌, ℕ, Bool, true, false, ◌&&◌, nat_le, List, [], ◌∷◌, refl, if◌then◌else◌, codes}
use Rattle.std.specs.List.{after_first, list_any}
use Rattle.std.specs.Str.{bytes_eq}
use Rattle.init_machine.specs.Tasks.{by_mode, first, fraction, has_fraction, is_dashes, is_mode, is_seconds, make_directory, millis_of, octal_of, optional, program, run_once, second, task_of, trigger, wait_for, whole_part}
use Rattle.init_machine.specs.Typed.{is_decimal}
use Rattle.init_machine.specs.declared.service.Op.TheVariants as op
use Rattle.init_machine.specs.declared.task.Task.{Task}
use Rattle.init_machine.specs.declared.task.Task.TheVariants as task
use Rattle.init_machine.specs.declared.task.TreeCall.{TreeCall}
use Rattle.init_machine.specs.declared.task.TreeCall.TheVariants as call
use Rattle.init_machine.specs.declared.word.Word.{Word}
use Rattle.init_machine.specs.declared.word.Word.TheVariants as word
use Rattle.builtins.specs.Brief.{is_brief}

brief_if : (b : Bool) (one other : Task) → is_brief one ≡ true → is_brief other ≡ true → is_brief (if b then one else other) ≡ true
brief_if true one other first second = first
brief_if false one other first second = second

brief_optional : (option : List ℕ) (asked : Bool → List ℕ → Task) (args : List (List ℕ)) → ((b : Bool) (name : List ℕ) → is_brief (asked b name) ≡ true)
    → is_brief (optional option asked args) ≡ true
brief_optional option asked [] each = each false []
brief_optional option asked (name ∷ []) each = each false name
brief_optional option asked (given ∷ name ∷ rest) each = brief_if (bytes_eq given option) (asked true name) (task.BadArgument 1) (each true name) refl

brief_mode : (number : ℕ) (mode : List ℕ) (asked : ℕ → TreeCall) → is_brief (by_mode number mode asked) ≡ true
brief_mode number mode asked = brief_if (is_mode mode) (task.Tree (asked (octal_of mode))) (task.BadArgument number) refl refl

brief_program : (args : List (List ℕ)) → is_brief (program args) ≡ true
brief_program [] = refl
brief_program (path ∷ rest) = refl

brief_once : (args : List (List ℕ)) → is_brief (run_once args) ≡ true
brief_once args = brief_if (list_any is_dashes args) (program (after_first is_dashes args)) (program args) (brief_program (after_first is_dashes args)) (brief_program args)

brief_trigger : (event : List ℕ) → is_brief (trigger event) ≡ true
brief_trigger [] = refl
brief_trigger (byte ∷ rest) = refl

brief_directory : (args : List (List ℕ)) → is_brief (make_directory args) ≡ true
brief_directory [] = refl
brief_directory (path ∷ []) = refl
brief_directory (path ∷ mode ∷ rest) = brief_mode 2 mode (λ m. call.MakeDirectory path m)

last_true : (a b c : Bool) → (a && b && c) ≡ true → c ≡ true
last_true true true c is = is
last_true true false c is = absurd (cc)
last_true false b c is = absurd (cc)

brief_seconds : (path text : List ℕ) (b : Bool) → is_seconds text ≡ b
    → is_brief (if b then task.WaitForFile path (record { 0 = millis_of (whole_part text) (fraction text) }) else task.BadArgument 2) ≡ true
brief_seconds path text true is =
    last_true (is_decimal 7 (whole_part text)) (if has_fraction text then is_decimal 9 (fraction text) else true)
    (nat_le (millis_of (whole_part text) (fraction text)) 1000000000) is
brief_seconds path text false is = refl

brief_wait : (args : List (List ℕ)) → is_brief (wait_for args) ≡ true
brief_wait [] = refl
brief_wait (path ∷ []) = refl
brief_wait (path ∷ seconds ∷ rest) = brief_seconds path seconds (is_seconds seconds) refl

pub brief : (what : Word) (args : List (List ℕ)) → is_brief (task_of what args) ≡ true
unfolding task_of
brief word.ClassStart args = refl
brief word.ClassStop args = refl
brief word.ClassReset args = refl
brief word.ClassRestart args = brief_optional (codes "--only-enabled") (λ only class. task.OnClass (op.ClassRestart only) class) args (λ only class. refl)
brief word.Start args = refl
brief word.Stop args = refl
brief word.Enable args = refl
brief word.Restart args = brief_optional (codes "--only-if-running") (λ only name. task.OnService (op.Restart only) name) args (λ only name. refl)
brief word.ExecStart args = refl
brief word.Exec args = brief_once args
brief word.Setprop args = refl
brief word.Trigger args = brief_trigger (first args)
brief word.WaitForProp args = refl
brief word.Wait args = brief_wait args
brief word.LoadPersistProps args = refl
brief word.Export args = refl
brief word.Write args = refl
brief word.Copy args = refl
brief word.Rm args = refl
brief word.Rmdir args = refl
brief word.Symlink args = refl
brief word.Chmod args = brief_mode 1 (first args) (λ m. call.ChangeMode m (second args))
brief word.Mkdir args = brief_directory args
brief (word.Inert noted) args = refl
