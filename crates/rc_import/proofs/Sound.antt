-- What the sections of a file give is well-formed, and of several services of a name one stays.
use Rattle.std.proofs.Common.{◌≡◌, ℕ, suc, ◌*◌, ◌≤◌, ◌==◌, Bool, true, false, ◌&&◌, ◌||◌, not, if◌then◌else◌, nat_eq, nat_le, List, [], ◌∷◌, ◌++◌, length, drop, map, filter, Option, Some, None, Result, Ok, Err, codes, refl, sym, ap, ◌∙◌, subst, arith}
use Rattle.std.specs.List.{after_first, before_first, find, flat_map, list_all, list_any, starts_with}
use Rattle.std.specs.Option.{ok_or, option_map, unwrap_or}
use Rattle.std.specs.Str.{bytes_eq}
use Rattle.std.proofs.lemmas.Bool.{false≢true}
use Rattle.std.proofs.lemmas.Grind.{common_steps}
use Rattle.std.proofs.lemmas.List.Folds.{list_all-append}
use Rattle.std.proofs.lemmas.Slice.Eq.{bytes_eq-Decides}
use Rattle.init_base.specs.Name.{is_legal_name}
use Rattle.init_base.specs.declared.units.Millis.{Millis}
use Rattle.init_machine.specs.Arity.{permits}
use Rattle.init_machine.specs.Commands.{word_of}
use Rattle.init_machine.specs.Typed.{is_decimal, number_of}
use Rattle.init_machine.specs.WellFormed.{IsWellFormed, are_distinct, has_its_arguments, is_period, is_timeout, is_waiting_word, is_well_formed_action, is_well_formed_service, is_window}
use Rattle.init_machine.specs.WordTexts.{word_text}
use Rattle.init_machine.specs.declared.action.Action.{Action}
use Rattle.init_machine.specs.declared.action.Command.{Command}
use Rattle.init_machine.specs.declared.action.PropTest.{PropTest}
use Rattle.init_machine.specs.declared.config.Config.{Config}
use Rattle.init_machine.specs.declared.diagnostic.DiagKind.{DiagKind}
use Rattle.init_machine.specs.declared.diagnostic.DiagKind.TheVariants.{BadArity, BadOption, BadTrigger, NoTrigger, TwiceProp}
use Rattle.init_machine.specs.declared.service.ServiceDef.{ServiceDef}
use Rattle.init_machine.specs.declared.word.Word.{Word}
use Rattle.init_machine.specs.declared.word.Word.TheVariants as word
use Rattle.init_machine.specs.declared.word.TheConstants.{WORDS}
use Rattle.rc_tokens.specs.Lines.{Line, Tokens}
use Rattle.rc_parse.specs.Commands.{command_of, command_with, command_word, permitted}
use Rattle.rc_parse.specs.Kept.{Kept, chosen, is_again, is_named, is_not_overridden, kept, kept_behind}
use Rattle.rc_parse.specs.Lines.{Section, arguments, first_word, is_on, is_service, sections}
use Rattle.rc_parse.specs.Options as options
use Rattle.rc_parse.specs.Options.{onrestart_of, option_word, seconds_of, set_to, setting_for, setting_with}
use Rattle.rc_parse.specs.Readings.{values}
use Rattle.rc_parse.specs.Sections.{Sections, action_under, actions_of, has_command, header_args, if_has_commands, services_of, setting_at, settings_of}
use Rattle.rc_parse.specs.Services.{commands_in, criticals_in, is_service_header, is_service_name, periods_in, service_with, timeouts_in}
use Rattle.rc_parse.specs.Triggers.{event_of, events_of, first_of, good_triggers, has_bad_trigger, is_equals_sign, is_on_property, odd_words, test_of, tested_value, tests_in, tests_of, tests_twice, trigger_of, triggers_of}
use Rattle.rc_parse.specs.Values.{critical_for, critical_of, default_window, has_bad_part, is_number, last_value, millis, part_of, parts_of, plain_window, target_part, targets_of, window_of, window_part, windows_in, windows_of}
use Rattle.rc_parse.specs.declared.critical.CriticalPart.{CriticalPart}
use Rattle.rc_parse.specs.declared.critical.CriticalPart.TheVariants.{Target, Window}
use Rattle.rc_parse.specs.declared.critical.WindowLength.{WindowLength}
use Rattle.rc_parse.specs.declared.critical.WindowLength.TheVariants as minute
use Rattle.rc_parse.specs.declared.option_word.OptionWord.{OptionWord}
use Rattle.rc_parse.specs.declared.option_word.OptionWord.TheVariants as option
use Rattle.rc_parse.specs.declared.parsed.Parsed.{Parsed}
use Rattle.rc_parse.specs.declared.setting.Setting.{Setting}
use Rattle.rc_parse.specs.declared.setting.Setting.TheVariants as setting
use Rattle.rc_parse.specs.declared.trigger.Trigger.{Trigger}
use Rattle.rc_parse.specs.declared.trigger.Trigger.TheVariants.{Event, Test}
use Rattle.rc_parse.specs.declared.trigger.Triggers.{Triggers}
use Rattle.rc_parse.specs.declared.merging.Merger.{Merger}
use Rattle.rc_import.specs.internal.Sound.{AreSound, IsGathered}

-- ---- tests

and_true : (a b : Bool) → a ≡ true → b ≡ true → (a && b) ≡ true
and_true a b h k = λ i. h i && k i

first_true : (a b : Bool) → (a && b) ≡ true → a ≡ true
first_true true b h = refl
first_true false b h = h

second_true : (a b : Bool) → (a && b) ≡ true → b ≡ true
second_true true b h = h
second_true false b h = absurd (false≢true h)

-- ---- lists

all_flat : {A B : Type 0} (p : B → Bool) (f : A → List B) → ((x : A) → list_all p (f x) ≡ true) → (xs : List A) → list_all p (flat_map f xs) ≡ true
all_flat p f each [] = refl
all_flat p f each (x ∷ xs) = list_all-append p (f x) (flat_map f xs) ∙ and_true (list_all p (f x)) (list_all p (flat_map f xs)) (each x) (all_flat p f each xs)

-- the same, where each element passes a test of its own
all_flat_from : {A B : Type 0} (q : A → Bool) (p : B → Bool) (f : A → List B) → ((x : A) → q x ≡ true → list_all p (f x) ≡ true) → (xs : List A) → list_all q xs ≡ true → list_all p (flat_map f xs) ≡ true
all_flat_from q p f each [] all = refl
all_flat_from q p f each (x ∷ xs) all =
    list_all-append p (f x) (flat_map f xs)
    ∙ and_true (list_all p (f x)) (list_all p (flat_map f xs)) (each x (first_true (q x) (list_all q xs) all)) (all_flat_from q p f each xs (second_true (q x) (list_all q xs) all))

-- ---- commands

permitted_sound : (file : List ℕ) (line : ℕ) (args : List (List ℕ)) (word : Option Word) → list_all has_its_arguments (values (command_with file line args (permitted (length args) word))) ≡ true
permitted_sound file line args None = refl
permitted_sound file line args (Some word) = by (permits word (length args)) refl
  where
    by : (b : Bool) → permits word (length args) ≡ b → list_all has_its_arguments (values (command_with file line args (if b then Ok word else Err BadArity))) ≡ true
    by true e = and_true (permits word (length args)) true e refl
    by false e = refl

command_sound : (file : List ℕ) (line : ℕ) (words : List (List ℕ)) → list_all has_its_arguments (values (command_of file line words)) ≡ true
unfolding command_word
command_sound file line words = permitted_sound file line (arguments words) (word_of (first_word words))

-- ---- actions

if_sound : {A : Type 0} (p : A → Bool) (b : Bool) (x : A) (kind : DiagKind) → (b ≡ true → p x ≡ true) → list_all p (values (if b then Ok x else Err kind)) ≡ true
if_sound p true x kind h = and_true (p x) true (h refl) refl
if_sound p false x kind h = refl

abbrev is_legal_test : PropTest → Bool
is_legal_test test = is_legal_name test.name

abbrev is_sound_trigger : Trigger → Bool
is_sound_trigger (Event name) = true
is_sound_trigger (Test test) = is_legal_name test.name

test_sound : (text : List ℕ) → list_all is_sound_trigger (values (test_of text)) ≡ true
test_sound text =
    if_sound is_sound_trigger (list_any is_equals_sign text && is_legal_name (before_first is_equals_sign text))
    (Test (record { name = before_first is_equals_sign text; value = tested_value (after_first is_equals_sign text) })) BadTrigger
    (second_true (list_any is_equals_sign text) (is_legal_name (before_first is_equals_sign text)))

event_sound : (word : List ℕ) (b : Bool) → list_all is_sound_trigger (values (if b then Err BadTrigger else Ok (Event word))) ≡ true
event_sound word true = refl
event_sound word false = refl

trigger_sound : (word : List ℕ) → list_all is_sound_trigger (values (trigger_of word)) ≡ true
trigger_sound word = by (is_on_property word)
  where
    by : (b : Bool) → list_all is_sound_trigger (values (if b then test_of (drop 9 word) else event_of word)) ≡ true
    by true = test_sound (drop 9 word)
    by false = event_sound word (length word == 0)

legal_in : (trigger : Trigger) → is_sound_trigger trigger ≡ true → list_all is_legal_test (tests_in trigger) ≡ true
legal_in (Event name) h = refl
legal_in (Test test) h = and_true (is_legal_name test.name) true h refl

tests_sound : (words : List (List ℕ)) → list_all is_legal_test (tests_of words) ≡ true
tests_sound words =
    all_flat_from is_sound_trigger is_legal_test tests_in legal_in (good_triggers words)
    (all_flat is_sound_trigger (λ word. values (trigger_of word)) trigger_sound (odd_words words))

ok_if : {A : Type 0} (b : Bool) (kind : DiagKind) (r : Result A DiagKind) (x : A) → (if b then Err kind else r) ≡ Ok x → r ≡ Ok x
ok_if true kind r x h = cc
ok_if false kind r x h = h

props_sound : (words : List (List ℕ)) (triggers : Triggers) → triggers_of words ≡ Ok triggers → list_all is_legal_test triggers.props ≡ true
props_sound words triggers is =
    let last = ok_if (tests_twice words) TwiceProp _ triggers (ok_if (has_bad_trigger words) BadTrigger _ triggers (ok_if (length words == 0) NoTrigger _ triggers is)) in
    let same : record { event = first_of (events_of words); props = tests_of words } ≡ triggers = cc in
    subst (λ t. list_all is_legal_test t.props ≡ true) same (tests_sound words)

action_if : (action : Action) → list_all has_its_arguments action.commands ≡ true → list_all is_legal_test action.props ≡ true → list_all is_well_formed_action (if_has_commands action) ≡ true
action_if action commands props = by (has_command action) refl
  where
    by : (b : Bool) → has_command action ≡ b → list_all is_well_formed_action (if b then action ∷ [] else []) ≡ true
    by true e = and_true (is_well_formed_action action) true (and_true _ _ (and_true _ _ e commands) props) refl
    by false e = refl

under_sound : (file : List ℕ) (section : Section) (triggers : Result Triggers DiagKind) → ((found : Triggers) → triggers ≡ Ok found → list_all is_legal_test found.props ≡ true)
    → list_all is_well_formed_action (action_under file section triggers) ≡ true
under_sound file section (Ok triggers) props =
    action_if _ (all_flat has_its_arguments (λ line. values (command_of file line.number line.words)) (λ line. command_sound file line.number line.words) section.body) (props triggers refl)
under_sound file section (Err kind) props = refl

action_sound : (file : List ℕ) (section : Section) → list_all is_well_formed_action (actions_of file section) ≡ true
action_sound file section = by (is_on section.header)
  where
    by : (b : Bool) → list_all is_well_formed_action (if b then action_under file section (triggers_of (header_args section)) else []) ≡ true
    by true = under_sound file section (triggers_of (header_args section)) (props_sound (header_args section))
    by false = refl

-- ---- times

at_most : (a b : ℕ) → nat_le a b ≡ true → a ≤ b
at_most a b h = grind (arith, common_steps)

is_at_most : (a b : ℕ) → a ≤ b → nat_le a b ≡ true
is_at_most a b h = grind (arith, common_steps)

number_small : (text : List ℕ) → is_number text ≡ true → number_of text ≤ 1000000
number_small text h = at_most (number_of text) 1000000 (second_true (is_decimal 7 text) (nat_le (number_of text) 1000000) h)

abbrev is_sound_window : WindowLength → Bool
is_sound_window minute.Off = true
is_sound_window (minute.Minutes minutes) = nat_le minutes 1000000

abbrev is_sound_part : CriticalPart → Bool
is_sound_part (Window window) = is_sound_window window
is_sound_part (Target target) = true

abbrev window_list : Option WindowLength → List WindowLength
window_list None = []
window_list (Some window) = window ∷ []

plain_sound : (text : List ℕ) → list_all is_sound_window (window_list (plain_window text)) ≡ true
plain_sound text = by (bytes_eq text (codes "off")) (is_number text) refl
  where
    by : (a b : Bool) → is_number text ≡ b → list_all is_sound_window (window_list (if a then Some minute.Off else if b then Some (minute.Minutes (number_of text)) else None)) ≡ true
    by true b e = refl
    by false true e = and_true (nat_le (number_of text) 1000000) true (is_at_most (number_of text) 1000000 (number_small text e)) refl
    by false false e = refl

window_part_sound : (window : Option WindowLength) → list_all is_sound_window (window_list window) ≡ true → list_all is_sound_part (values (window_part window)) ≡ true
window_part_sound None h = refl
window_part_sound (Some window) h = h

target_part_sound : (target : List ℕ) (b : Bool) → list_all is_sound_part (values (if b then Err BadOption else Ok (Target target))) ≡ true
target_part_sound target true = refl
target_part_sound target false = refl

part_sound : (word : List ℕ) → list_all is_sound_part (values (part_of word)) ≡ true
part_sound word = by (starts_with nat_eq word (codes "window=")) (starts_with nat_eq word (codes "target="))
  where
    by : (a b : Bool) → list_all is_sound_part (values (if a then window_part (window_of (drop 7 word)) else if b then target_part (drop 7 word) else Err BadOption)) ≡ true
    by true b = window_part_sound (window_of (drop 7 word)) (plain_sound (unwrap_or (default_window (drop 7 word)) (drop 7 word)))
    by false true = target_part_sound (drop 7 word) (length (drop 7 word) == 0)
    by false false = refl

window_in : (part : CriticalPart) → is_sound_part part ≡ true → list_all is_sound_window (windows_in part) ≡ true
window_in (Window window) h = and_true (is_sound_window window) true h refl
window_in (Target target) h = refl

last_sound : {A : Type 0} (p : A → Bool) (other : A) (xs : List A) → p other ≡ true → list_all p xs ≡ true → p (last_value other xs) ≡ true
last_sound p other [] h all = h
last_sound p other (x ∷ xs) h all = last_sound p x xs (first_true (p x) (list_all p xs) all) (second_true (p x) (list_all p xs) all)

windows_sound : (args : List (List ℕ)) → list_all is_sound_window (windows_of args) ≡ true
windows_sound args =
    all_flat_from is_sound_part is_sound_window windows_in window_in (parts_of args) (all_flat is_sound_part (λ arg. values (part_of arg)) part_sound args)

for_sound : (window : WindowLength) (target : List ℕ) → is_sound_window window ≡ true → is_window (critical_for window target) ≡ true
for_sound minute.Off target h = refl
for_sound (minute.Minutes minutes) target h = is_at_most (minutes * 60000) 60000000000 (omega (arith, at_most minutes 1000000 h))

-- ---- settings

abbrev is_sound_setting : Setting → Bool
is_sound_setting (setting.Critical critical) = is_window critical
is_sound_setting (setting.Period period) = is_period period
is_sound_setting (setting.Timeout timeout) = is_period timeout
is_sound_setting (setting.Onrestart command) = has_its_arguments command && not (is_waiting_word command.word)
is_sound_setting _ = true

critical_sound : (args : List (List ℕ)) → list_all is_sound_setting (values (set_to (λ critical. setting.Critical critical) (critical_of args))) ≡ true
critical_sound args = by (has_bad_part args)
  where
    by : (b : Bool) → list_all is_sound_setting (values (set_to (λ critical. setting.Critical critical)
        (if b then Err BadOption else Ok (critical_for (last_value (minute.Minutes 4) (windows_of args)) (last_value (codes "bootloader") (targets_of args)))))) ≡ true
    by true = refl
    by false =
        and_true (is_window (critical_for (last_value (minute.Minutes 4) (windows_of args)) (last_value (codes "bootloader") (targets_of args)))) true
        (for_sound (last_value (minute.Minutes 4) (windows_of args)) (last_value (codes "bootloader") (targets_of args))
        (last_sound is_sound_window (minute.Minutes 4) (windows_of args) refl (windows_sound args))) refl

seconds_sound : (set : Millis → Setting) → ((time : Millis) → is_period time ≡ true → is_sound_setting (set time) ≡ true) → (least : ℕ) (text : List ℕ)
    → list_all is_sound_setting (values (set_to set (seconds_of least text))) ≡ true
seconds_sound set sound least text = by (is_number text) refl (nat_le least (number_of text))
  where
    by : (a : Bool) → is_number text ≡ a → (b : Bool)
        → list_all is_sound_setting (values (set_to set (ok_or (option_map (λ seconds. millis (seconds * 1000)) (if a && b then Some (number_of text) else None)) BadOption))) ≡ true
    by true e true =
        and_true (is_sound_setting (set (millis (number_of text * 1000)))) true
        (sound (millis (number_of text * 1000)) (is_at_most (number_of text * 1000) 60000000000 (omega (arith, number_small text e)))) refl
    by true e false = refl
    by false e b = refl

found_passes : {A : Type 0} (p : A → Bool) (xs : List A) (x : A) → find p xs ≡ Some x → p x ≡ true
found_passes p [] x h = cc
found_passes p (y ∷ ys) x h = by (p y) refl h (found_passes p ys x)
  where
    by : (b : Bool) → p y ≡ b → (if b then Some y else find p ys) ≡ Some x → (find p ys ≡ Some x → p x ≡ true) → p x ≡ true
    by true e is more = let same : y ≡ x = cc in ap p (sym same) ∙ e
    by false e is more = more is

same_bytes : (a b : List ℕ) → bytes_eq a b ≡ true → a ≡ b
same_bytes a b same = (bytes_eq-Decides a b).0 same

turned : (a b : List ℕ) → bytes_eq a b ≡ true → bytes_eq b a ≡ true
turned a b same = ap (λ c. bytes_eq b c) (same_bytes a b same) ∙ (bytes_eq-Decides b b).1 refl

or_second : (a b : Bool) → b ≡ true → (a || b) ≡ true
or_second true b h = refl
or_second false b h = h

differs : (a b : List ℕ) → bytes_eq b a ≡ true → bytes_eq a b ≡ false → ⊥
differs a b same other = false≢true (sym other ∙ turned b a same)

neither : (a b : Bool) → (a || b) ≡ false → (a ≡ false) × (b ≡ false)
neither true b h = absurd (false≢true (sym h))
neither false b h = (refl, h)

-- the texts of the words that wait, one after another
waiting_texts : (text : List ℕ) → options.is_waiting_word text ≡ false
    → (bytes_eq text (word_text word.Exec) ≡ false) × (bytes_eq text (word_text word.ExecStart) ≡ false) × (bytes_eq text (word_text word.Wait) ≡ false) × (bytes_eq text (word_text word.WaitForProp) ≡ false)
waiting_texts text none =
    let first = neither (bytes_eq text (word_text word.Exec)) _ none in
    let second = neither (bytes_eq text (word_text word.ExecStart)) _ first.1 in
    let third = neither (bytes_eq text (word_text word.Wait)) _ second.1 in
    let fourth = neither (bytes_eq text (word_text word.WaitForProp)) _ third.1 in
    (first.0, second.0, third.0, fourth.0)

no_waiting : (text : List ℕ) → options.is_waiting_word text ≡ false → (w : Word) → bytes_eq (word_text w) text ≡ true → is_waiting_word w ≡ false
no_waiting text none word.Exec e = absurd (differs text (word_text word.Exec) e (waiting_texts text none).0)
no_waiting text none word.ExecStart e = absurd (differs text (word_text word.ExecStart) e (waiting_texts text none).1)
no_waiting text none word.Wait e = absurd (differs text (word_text word.Wait) e (waiting_texts text none).2)
no_waiting text none word.WaitForProp e = absurd (differs text (word_text word.WaitForProp) e (waiting_texts text none).3)
no_waiting text none _ e = refl

abbrev is_sound_command : Command → Bool
is_sound_command command = has_its_arguments command && not (is_waiting_word command.word)

restart_permitted : (file : List ℕ) (line : ℕ) (args : List (List ℕ)) (w : Option Word) → ((found : Word) → w ≡ Some found → is_waiting_word found ≡ false)
    → list_all is_sound_setting (values (set_to (λ command. setting.Onrestart command) (command_with file line args (permitted (length args) w)))) ≡ true
restart_permitted file line args None sound = refl
restart_permitted file line args (Some w) sound = by (permits w (length args)) refl
  where
    by : (b : Bool) → permits w (length args) ≡ b → list_all is_sound_setting (values (set_to (λ command. setting.Onrestart command) (command_with file line args (if b then Ok w else Err BadArity)))) ≡ true
    by true e = and_true (permits w (length args) && not (is_waiting_word w)) true (and_true (permits w (length args)) (not (is_waiting_word w)) e (ap not (sound w refl))) refl
    by false e = refl

restart_command : (file : List ℕ) (line : ℕ) (words : List (List ℕ)) → options.is_waiting_word (first_word words) ≡ false
    → list_all is_sound_setting (values (set_to (λ command. setting.Onrestart command) (command_of file line words))) ≡ true
unfolding command_word
restart_command file line words none =
    restart_permitted file line (arguments words) (word_of (first_word words))
    (λ found is. no_waiting (first_word words) none found (found_passes (λ w. bytes_eq (word_text w) (first_word words)) WORDS found is))

restart_sound : (file : List ℕ) (line : ℕ) (words : List (List ℕ)) → list_all is_sound_setting (values (set_to (λ command. setting.Onrestart command) (onrestart_of file line words))) ≡ true
restart_sound file line words = by (options.is_waiting_word (first_word words)) refl
  where
    by : (b : Bool) → options.is_waiting_word (first_word words) ≡ b
        → list_all is_sound_setting (values (set_to (λ command. setting.Onrestart command) (if b then Err BadOption else command_of file line words))) ≡ true
    by true e = refl
    by false e = restart_command file line words e

setting_sound_for : (file : List ℕ) (line : ℕ) (words : List (List ℕ)) (word : OptionWord) → list_all is_sound_setting (values (setting_for file line words word)) ≡ true
setting_sound_for file line words option.Class = refl
setting_sound_for file line words option.Disabled = refl
setting_sound_for file line words option.Oneshot = refl
setting_sound_for file line words option.Override = refl
setting_sound_for file line words option.Critical = critical_sound (arguments words)
setting_sound_for file line words option.Onrestart = restart_sound file line (arguments words)
setting_sound_for file line words option.RestartPeriod = seconds_sound (λ period. setting.Period period) (λ time h. h) 0 (first_word (arguments words))
setting_sound_for file line words option.TimeoutPeriod = seconds_sound (λ timeout. setting.Timeout timeout) (λ time h. h) 1 (first_word (arguments words))
setting_sound_for file line words (option.Inert inert) = refl

setting_sound_with : (file : List ℕ) (line : ℕ) (words : List (List ℕ)) (word : Result OptionWord DiagKind) → list_all is_sound_setting (values (setting_with file line words word)) ≡ true
setting_sound_with file line words (Ok word) = setting_sound_for file line words word
setting_sound_with file line words (Err kind) = refl

settings_sound : (file : List ℕ) (lines : List Line) → list_all is_sound_setting (settings_of file lines) ≡ true
settings_sound file lines =
    all_flat is_sound_setting (λ line. values (setting_at file line))
    (λ line. setting_sound_with file line.number line.words (option_word (first_word line.words) (length (arguments line.words)))) lines

-- ---- services

period_in : (s : Setting) → is_sound_setting s ≡ true → list_all is_period (periods_in s) ≡ true
period_in (setting.Period period) h = and_true (is_period period) true h refl
period_in _ h = refl

timeout_in : (s : Setting) → is_sound_setting s ≡ true → list_all is_timeout (timeouts_in s) ≡ true
timeout_in (setting.Timeout timeout) h = and_true (is_period timeout) true h refl
timeout_in _ h = refl

critical_in : (s : Setting) → is_sound_setting s ≡ true → list_all is_window (criticals_in s) ≡ true
critical_in (setting.Critical critical) h = and_true (is_window critical) true h refl
critical_in _ h = refl

command_in : (s : Setting) → is_sound_setting s ≡ true → list_all is_sound_command (commands_in s) ≡ true
command_in (setting.Onrestart command) h = and_true (is_sound_command command) true h refl
command_in _ h = refl

all_first : (commands : List Command) → list_all is_sound_command commands ≡ true → list_all has_its_arguments commands ≡ true
all_first [] h = refl
all_first (c ∷ cs) h =
    let here = first_true (is_sound_command c) (list_all is_sound_command cs) h in
    and_true (has_its_arguments c) (list_all has_its_arguments cs) (first_true (has_its_arguments c) (not (is_waiting_word c.word)) here)
    (all_first cs (second_true (is_sound_command c) (list_all is_sound_command cs) h))

not_or : (a b : Bool) → not a ≡ true → not b ≡ true → not (a || b) ≡ true
not_or true b h k = h
not_or false b h k = k

none_waits : (commands : List Command) → list_all is_sound_command commands ≡ true → not (list_any (λ c. is_waiting_word c.word) commands) ≡ true
none_waits [] h = refl
none_waits (c ∷ cs) h =
    let here = first_true (is_sound_command c) (list_all is_sound_command cs) h in
    not_or (is_waiting_word c.word) (list_any (λ c. is_waiting_word c.word) cs) (second_true (has_its_arguments c) (not (is_waiting_word c.word)) here)
    (none_waits cs (second_true (is_sound_command c) (list_all is_sound_command cs) h))

with_sound : (file : List ℕ) (line : ℕ) (args : List (List ℕ)) (settings : List Setting) → is_service_name (first_word args) ≡ true → list_all is_sound_setting settings ≡ true
    → is_well_formed_service (service_with file line args settings) ≡ true
with_sound file line args settings name sound =
    let commands = all_flat_from is_sound_setting is_sound_command commands_in command_in settings sound in
    and_true _ _
    (and_true _ _
    (and_true _ _
    (and_true _ _
    (and_true (is_service_name (first_word args)) _ name
    (last_sound is_period (millis 5000) (flat_map periods_in settings) refl (all_flat_from is_sound_setting is_period periods_in period_in settings sound)))
    (last_sound is_timeout None (flat_map timeouts_in settings) refl (all_flat_from is_sound_setting is_timeout timeouts_in timeout_in settings sound)))
    (last_sound is_window None (flat_map criticals_in settings) refl (all_flat_from is_sound_setting is_window criticals_in critical_in settings sound)))
    (all_first (flat_map commands_in settings) commands))
    (none_waits (flat_map commands_in settings) commands)

service_sound : (file : List ℕ) (section : Section) → list_all is_well_formed_service (services_of file section) ≡ true
service_sound file section = by (is_service section.header) (is_service_header (header_args section)) refl
  where
    by : (a b : Bool) → is_service_header (header_args section) ≡ b
        → list_all is_well_formed_service (if a && b then service_with file section.header.number (header_args section) (settings_of file section.body) ∷ [] else []) ≡ true
    by true true e =
        and_true (is_well_formed_service (service_with file section.header.number (header_args section) (settings_of file section.body))) true
        (with_sound file section.header.number (header_args section) (settings_of file section.body)
        (second_true (nat_le 2 (length (header_args section))) (is_service_name (first_word (header_args section))) (first_true _ _ e))
        (settings_sound file section.body)) refl
    by true false e = refl
    by false b e = refl

-- ---- files

pub sections_sound : (file : List ℕ) (tokens : Tokens) (parsed : Parsed) → Sections file tokens parsed → AreSound parsed.actions parsed.services
sections_sound file tokens parsed is = record {
  each_action = ap (list_all is_well_formed_action) is.actions_are ∙ all_flat is_well_formed_action (actions_of file) (action_sound file) (sections tokens.lines);
  each_service = ap (list_all is_well_formed_service) is.services_are ∙ all_flat is_well_formed_service (services_of file) (service_sound file) (sections tokens.lines);
}

pub sound_more : (actions more : List Action) (services others : List ServiceDef) → AreSound actions services → AreSound more others → AreSound (actions ++ more) (services ++ others)
sound_more actions more services others first second = record {
  each_action = list_all-append is_well_formed_action actions more ∙ and_true _ _ first.each_action second.each_action;
  each_service = list_all-append is_well_formed_service services others ∙ and_true _ _ first.each_service second.each_service;
}

-- ---- the services that stay

behind_sound : (p : ServiceDef → Bool) (before services : List ServiceDef) → list_all p services ≡ true → list_all p (kept_behind before services) ≡ true
behind_sound p before [] all = refl
behind_sound p before (s ∷ later) all =
    by (not (is_again before s) && is_not_overridden later s) (behind_sound p (before ++ s ∷ []) later (second_true (p s) (list_all p later) all))
  where
    by : (b : Bool) → list_all p (kept_behind (before ++ s ∷ []) later) ≡ true
        → list_all p (if b then s ∷ kept_behind (before ++ s ∷ []) later else kept_behind (before ++ s ∷ []) later) ≡ true
    by true rest = and_true (p s) _ (first_true (p s) (list_all p later) all) rest
    by false rest = rest

chosen_one : (services : List ServiceDef) → length (chosen services) ≤ 1
chosen_one [] = omega arith
chosen_one (s ∷ later) = omega arith

any_counted : (name : List ℕ) (services : List ServiceDef) → list_any (λ other. bytes_eq other name) (map (λ s. s.name) services) ≡ true → 1 ≤ length (filter (is_named name) services)
any_counted name [] h = absurd (false≢true h)
any_counted name (s ∷ later) h = by (bytes_eq s.name name) h (any_counted name later)
  where
    by : (b : Bool) → (b || list_any (λ other. bytes_eq other name) (map (λ s. s.name) later)) ≡ true
        → (list_any (λ other. bytes_eq other name) (map (λ s. s.name) later) ≡ true → 1 ≤ length (filter (is_named name) later))
        → 1 ≤ length (if b then s ∷ filter (is_named name) later else filter (is_named name) later)
    by true any more = omega arith
    by false any more = more any

fewer : (name : List ℕ) (s : ServiceDef) (later : List ServiceDef) (b : Bool) → length (filter (is_named name) later) ≤ length (if b then s ∷ filter (is_named name) later else filter (is_named name) later)
fewer name s later true = omega arith
fewer name s later false = omega arith

itself_counted : (s : ServiceDef) (later : List ServiceDef) → length (filter (is_named s.name) (s ∷ later)) ≡ suc (length (filter (is_named s.name) later))
itself_counted s later = ap (λ b. length (if b then s ∷ filter (is_named s.name) later else filter (is_named s.name) later)) ((bytes_eq-Decides s.name s.name).1 refl)

distinct_names : (services : List ServiceDef) → ((name : List ℕ) → length (filter (is_named name) services) ≤ 1) → are_distinct (map (λ s. s.name) services) ≡ true
distinct_names [] one = refl
distinct_names (s ∷ later) one = by (list_any (λ other. bytes_eq other s.name) (map (λ s. s.name) later)) refl
    (distinct_names later (λ name. omega (arith, one name, fewer name s later (bytes_eq s.name name))))
  where
    by : (b : Bool) → list_any (λ other. bytes_eq other s.name) (map (λ s. s.name) later) ≡ b → are_distinct (map (λ s. s.name) later) ≡ true → (not b && are_distinct (map (λ s. s.name) later)) ≡ true
    by true e rest = absurd (omega (arith, one s.name, itself_counted s later, any_counted s.name later e))
    by false e rest = rest

pub kept_well_formed : (actions : List Action) (read : List ServiceDef) → AreSound actions read → Kept read (kept read) → (config : Config)
    → config ≡ record { actions = actions; services = kept read; pairs = []; saved = []; plans = []; domains = [] } → IsWellFormed config
kept_well_formed actions read sound one config is =
    subst IsWellFormed (sym is) (record {
      actions = sound.each_action;
      services = behind_sound is_well_formed_service [] read sound.each_service;
      names = distinct_names (kept read) (λ name. omega (arith, ap (λ (l : List ServiceDef). length l) (one.one_of_a_name name), chosen_one (filter (is_named name) read)));
      plans = refl;
      paths = refl;
      saved = refl;
      order = refl;
      domains = refl;
    })

-- ---- what was gathered

pub nothing_gathered : (merger : Merger) → merger ≡ record { actions = []; services = [] } → IsGathered merger
nothing_gathered merger is = subst IsGathered (sym is) (record { read = []; kept_are = refl; sound = record { each_action = refl; each_service = refl } })

pub gathered_more : (merger next : Merger) (actions : List Action) (services : List ServiceDef) → IsGathered merger → AreSound actions services → next.actions ≡ merger.actions ++ actions
    → ((read : List ServiceDef) → merger.services ≡ kept read → Kept (read ++ services) next.services) → IsGathered next
gathered_more merger next actions services gathered sound added stays = record {
  read = gathered.read ++ services;
  kept_are = (stays gathered.read gathered.kept_are).kept_are;
  sound = subst (λ all. AreSound all (gathered.read ++ services)) (sym added) (sound_more merger.actions actions gathered.read services gathered.sound sound);
}

pub gathered_config : (merger : Merger) (config : Config) → IsGathered merger → ((read : List ServiceDef) → Kept read (kept read))
    → config ≡ record { actions = merger.actions; services = merger.services; pairs = []; saved = []; plans = []; domains = [] } → IsWellFormed config
gathered_config merger config gathered one is =
    kept_well_formed merger.actions gathered.read gathered.sound (one gathered.read) config
    (is ∙ ap (λ services. record { actions = merger.actions; services = services; pairs = []; saved = []; plans = []; domains = [] }) gathered.kept_are)
