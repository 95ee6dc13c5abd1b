-- What the arguments of `critical` mean, argument by argument.
use Rattle.std.proofs.Common.{◌≡◌, ℕ, ◌<◌, Bool, true, false, ◌||◌, ◌==◌, nat_eq, nat_lt, if◌then◌else◌, cond, List, ◌∷◌, ◌++◌, length, codes, drop, get_or, ◌+◌, Option, Some, None, Result, Ok, Err, refl, ap, sym, ◌∙◌, arith}
use Rattle.std.specs.List.{flat_map, list_any, starts_with}
use Rattle.std.specs.Option.{option_to_list}
use Rattle.std.proofs.lemmas.List.{drop_more}
use Rattle.std.proofs.lemmas.Bool.{cond-true, or_left, or_right, lt-ltb}
use Rattle.init_machine.specs.declared.diagnostic.DiagKind.{DiagKind}
use Rattle.init_machine.specs.declared.diagnostic.DiagKind.TheVariants.{BadOption}
use Rattle.init_machine.specs.declared.service.Critical.{Critical}
use Rattle.rc_parse.specs.internal.Parts.{with_first, with_part}
use Rattle.rc_parse.specs.Readings.{is_bad, IsReading, values}
use Rattle.rc_parse.specs.Values.{critical_for, critical_of, last_value, part_of, target_part, targets_in, targets_of, window_part, window_of, windows_in, windows_of}
use Rattle.rc_parse.specs.declared.critical.CriticalPart.{CriticalPart}
use Rattle.rc_parse.specs.declared.critical.CriticalPart.TheVariants.{Window, Target}
use Rattle.rc_parse.specs.declared.critical.Parts.{Parts}
use Rattle.rc_parse.specs.declared.fault.Fault.{Fault}
use Rattle.rc_parse.specs.declared.fault.Fault.TheVariants as faults
use Rattle.rc_parse.specs.declared.critical.WindowLength.{WindowLength}
use Rattle.rc_parse.specs.declared.critical.WindowLength.TheVariants as minute

-- the meaning of some windows and targets, beside which something is out of form or not
abbrev pub outcome : Bool → List WindowLength → List (List ℕ) → Result (Option Critical) DiagKind
outcome bad windows targets =
    if bad || nat_lt 1 (length windows) || nat_lt 1 (length targets) then Err BadOption
    else Ok (critical_for (last_value (minute.Minutes 4) windows) (last_value (codes "bootloader") targets))

-- whether an argument is out of form
abbrev pub has_bad : List (List ℕ) → Bool
has_bad args = list_any (λ arg. is_bad (part_of arg)) args

-- the meaning of arguments behind those that gave some parts
abbrev pub outcome_of : Parts → List (List ℕ) → Result (Option Critical) DiagKind
outcome_of parts args =
    outcome (has_bad args) (option_to_list parts.window ++ windows_of args) (option_to_list parts.target ++ targets_of args)

abbrev pub outcome_with : List (List ℕ) → Result Parts DiagKind → Result (Option Critical) DiagKind
outcome_with args (Ok parts) = outcome_of parts args
outcome_with args (Err kind) = Err kind

two_windows : (bad : Bool) (first second : WindowLength) (windows : List WindowLength) (targets : List (List ℕ))
    → Err BadOption ≡ outcome bad (first ∷ second ∷ windows) targets
two_windows bad first second windows targets =
    sym (cond-true _ _ _ (or_left _ _ (or_right bad _ (lt-ltb 1 (length (first ∷ second ∷ windows)) (omega arith)))))

two_targets : (bad : Bool) (windows : List WindowLength) (first second : List ℕ) (targets : List (List ℕ))
    → Err BadOption ≡ outcome bad windows (first ∷ second ∷ targets)
two_targets bad windows first second targets = sym (cond-true _ _ _ (or_right _ _ (lt-ltb 1 (length (first ∷ second ∷ targets)) (omega arith))))

with_window : (windows : Option WindowLength) (target : Option (List ℕ)) (window : WindowLength) (args : List (List ℕ))
    → outcome_with args (with_first windows (record { window = Some window; target = target }))
    ≡ outcome (has_bad args) (option_to_list windows ++ window ∷ windows_of args) (option_to_list target ++ targets_of args)
with_window None target window args = refl
with_window (Some earlier) target window args =
    two_windows (has_bad args) earlier window (windows_of args) (option_to_list target ++ targets_of args)

with_target : (window : Option WindowLength) (targets : Option (List ℕ)) (target : List ℕ) (args : List (List ℕ))
    → outcome_with args (with_first targets (record { window = window; target = Some target }))
    ≡ outcome (has_bad args) (option_to_list window ++ windows_of args) (option_to_list targets ++ target ∷ targets_of args)
with_target window None target args = refl
with_target window (Some earlier) target args =
    two_targets (has_bad args) (option_to_list window ++ windows_of args) earlier target (targets_of args)

-- the meaning of arguments, behind an argument that was read so
abbrev outcome_behind : Parts → List (List ℕ) → Result CriticalPart DiagKind → Result (Option Critical) DiagKind
outcome_behind parts args reading =
    outcome (is_bad reading || has_bad args) (option_to_list parts.window ++ flat_map windows_in (values reading ++ flat_map (λ arg. values (part_of arg)) args))
    (option_to_list parts.target ++ flat_map targets_in (values reading ++ flat_map (λ arg. values (part_of arg)) args))

behind_part : (parts : Parts) (args : List (List ℕ)) (part : CriticalPart)
    → outcome_with args (with_part parts part) ≡ outcome_behind parts args (Ok part)
behind_part parts args (Window window) = with_window parts.window parts.target window args
behind_part parts args (Target target) = with_target parts.window parts.target target args

abbrev IsBadOption : Result CriticalPart DiagKind → Type 0
IsBadOption (Ok part) = Unit {0}
IsBadOption (Err kind) = kind ≡ BadOption

either_bad_option : (test : Bool) (x y : Result CriticalPart DiagKind) → IsBadOption x → IsBadOption y → IsBadOption (cond test x y)
either_bad_option true x y left right = left
either_bad_option false x y left right = right

bad_window : (window : Option WindowLength) → IsBadOption (window_part window)
bad_window None = refl
bad_window (Some window) = tt

bad_target : (target : List ℕ) → IsBadOption (target_part target)
bad_target target = either_bad_option (length target == 0) (Err BadOption) (Ok (Target target)) refl tt

bad_part : (word : List ℕ) → IsBadOption (part_of word)
bad_part word =
    either_bad_option (starts_with nat_eq word (codes "window=")) (window_part (window_of (drop 7 word)))
    (if starts_with nat_eq word (codes "target=") then target_part (drop 7 word) else Err BadOption)
    (bad_window (window_of (drop 7 word)))
    (either_bad_option (starts_with nat_eq word (codes "target=")) (target_part (drop 7 word)) (Err BadOption) (bad_target (drop 7 word)) refl)

behind_bad : (parts : Parts) (args : List (List ℕ)) (kind : DiagKind) (reading : Result CriticalPart DiagKind)
    → IsBadOption reading → reading ≡ Err kind → outcome_behind parts args reading ≡ Err kind
behind_bad parts args kind (Ok part) bad e = cc
behind_bad parts args kind (Err other) bad e = cc

-- one step on: the argument is a part, and the parts with it have the meaning of what is left
pub next_part : (parts : Parts) (arg : List ℕ) (args : List (List ℕ)) (part : CriticalPart) → part_of arg ≡ Ok part
    → outcome_of parts (arg ∷ args) ≡ outcome_with args (with_part parts part)
next_part parts arg args part e = ap (outcome_behind parts args) e ∙ sym (behind_part parts args part)

-- the argument is out of form
pub next_bad : (parts : Parts) (arg : List ℕ) (args : List (List ℕ)) (kind : DiagKind) → part_of arg ≡ Err kind
    → outcome_of parts (arg ∷ args) ≡ Err kind
next_bad parts arg args kind e = behind_bad parts args kind (part_of arg) (bad_part arg) e

-- an argument at a place, in front of what is left behind it
at_argument : (parts : Parts) (args : List (List ℕ)) (at : ℕ) (item arg : List ℕ) → at < length args → item ≡ get_or args at item → arg ≡ item
    → critical_of args ≡ outcome_of parts (drop at args) → critical_of args ≡ outcome_of parts (arg ∷ drop (at + 1) args)
at_argument parts args at item arg within item_is arg_is left_decides =
    left_decides ∙ ap (outcome_of parts) (drop_more args at item within)
    ∙ ap (λ (word : List ℕ). outcome_of parts (word ∷ drop (at + 1) args)) (sym (arg_is ∙ item_is))

-- the loop at an argument that is out of form
pub fault_of_argument : (parts : Parts) (args : List (List ℕ)) (at : ℕ) (item arg : List ℕ) → at < length args → item ≡ get_or args at item → arg ≡ item
    → critical_of args ≡ outcome_of parts (drop at args) → (fault : Fault) → IsReading {A = CriticalPart} (Err fault) (part_of arg)
    → IsReading {A = Option Critical} (Err fault) (critical_of args)
fault_of_argument parts args at item arg within item_is arg_is left_decides (faults.Bad kind) reading =
    at_argument parts args at item arg within item_is arg_is left_decides ∙ next_bad parts arg (drop (at + 1) args) kind reading
fault_of_argument parts args at item arg within item_is arg_is left_decides faults.NoMemory reading = tt

-- the loop at a second argument of its key
pub fault_of_part : (parts : Parts) (args : List (List ℕ)) (at : ℕ) (item arg : List ℕ) → at < length args → item ≡ get_or args at item → arg ≡ item
    → critical_of args ≡ outcome_of parts (drop at args) → (part : CriticalPart) → part_of arg ≡ Ok part
    → (fault : Fault) → IsReading {A = Parts} (Err fault) (with_part parts part)
    → IsReading {A = Option Critical} (Err fault) (critical_of args)
fault_of_part parts args at item arg within item_is arg_is left_decides part part_is (faults.Bad kind) reading =
    at_argument parts args at item arg within item_is arg_is left_decides ∙ next_part parts arg (drop (at + 1) args) part part_is
    ∙ ap (outcome_with (drop (at + 1) args)) reading
fault_of_part parts args at item arg within item_is arg_is left_decides part part_is faults.NoMemory reading = tt

-- the loop at an argument that is one more part
pub on_to_next : (parts : Parts) (args : List (List ℕ)) (at : ℕ) (item arg : List ℕ) → at < length args → item ≡ get_or args at item → arg ≡ item
    → critical_of args ≡ outcome_of parts (drop at args) → (part : CriticalPart) → part_of arg ≡ Ok part
    → (next : Parts) → with_part parts part ≡ Ok next → critical_of args ≡ outcome_of next (drop (at + 1) args)
on_to_next parts args at item arg within item_is arg_is left_decides part part_is next next_is =
    at_argument parts args at item arg within item_is arg_is left_decides ∙ next_part parts arg (drop (at + 1) args) part part_is
    ∙ ap (outcome_with (drop (at + 1) args)) next_is
