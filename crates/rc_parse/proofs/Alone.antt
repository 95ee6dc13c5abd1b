-- A trigger alone.
use Rattle.std.proofs.Common.{◌≡◌, ℕ, Bool, true, false, not, ◌&&◌, ◌||◌, if◌then◌else◌, nat_lt, List, [], ◌∷◌, ◌++◌, length, map, take, Some, None, Result, Ok, Err, refl, sym, ap, subst, ◌∙◌, arith}
use Rattle.std.specs.List.{before_first, flat_map, list_any, position}
use Rattle.init_base.specs.Name.{is_legal_name}
use Rattle.init_machine.specs.declared.diagnostic.DiagKind.{DiagKind}
use Rattle.init_machine.specs.declared.diagnostic.DiagKind.TheVariants.{BadTrigger, TwiceProp}
use Rattle.rc_parse.specs.internal.Skimming.{settled}
use Rattle.init_machine.specs.declared.diagnostic.Diagnostic.{Diagnostic}
use Rattle.rc_parse.specs.Lines.{Section, arguments, first_word}
use Rattle.rc_parse.specs.Readings.{IsReading, diagnostic, is_bad, values}
use Rattle.rc_parse.specs.Sections.{action_diagnostics}
use Rattle.rc_parse.specs.Triggers.{events_in, first_of, has_twice, is_equals_sign, test_of, tests_in, trigger_of, triggers_of}
use Rattle.rc_parse.specs.declared.fault.Fault.{Fault}
use Rattle.rc_parse.specs.declared.fault.Fault.TheVariants as fault
use Rattle.rc_parse.specs.declared.trigger.Trigger.{Trigger}
use Rattle.rc_parse.specs.declared.trigger.Trigger.TheVariants.{Event, Test}
use Rattle.rc_parse.specs.declared.trigger.Triggers.{Triggers}
use Rattle.rc_parse.proofs.Signs.{no_parts, sign_at}

-- the triggers of a line with this one alone
abbrev alone : Result Trigger DiagKind → Result Triggers DiagKind
alone reading =
    if (is_bad reading || false) || not true || nat_lt 1 (length (flat_map events_in (values reading ++ []))) then Err BadTrigger
    else if has_twice (map (λ test. test.name) (flat_map tests_in (values reading ++ []))) then Err TwiceProp
    else Ok (record { event = first_of (flat_map events_in (values reading ++ [])); props = flat_map tests_in (values reading ++ []) })

alone_is : (reading : Result Trigger DiagKind) → settled (alone reading) ≡ (if is_bad reading then Err BadTrigger else Ok tt)
alone_is (Ok (Event name)) = refl
alone_is (Ok (Test test)) = refl
alone_is (Err kind) = refl

judged_alone : (words : List (List ℕ)) → length words ≡ 2
    → settled (triggers_of (arguments words)) ≡ (if is_bad (trigger_of (first_word (arguments words))) then Err BadTrigger else Ok tt)
judged_alone [] two = absurd (omega (arith, two))
judged_alone (word ∷ []) two = absurd (omega (arith, two))
judged_alone (word ∷ other ∷ []) two = alone_is (trigger_of other)
judged_alone (word ∷ other ∷ more ∷ words) two = absurd (omega (arith, two))

chosen : (bad : Bool) → Result (Unit {0}) DiagKind
chosen bad = if bad then Err BadTrigger else Ok tt

pub good_alone : (words : List (List ℕ)) → length words ≡ 2 → is_bad (trigger_of (first_word (arguments words))) ≡ false
    → settled (triggers_of (arguments words)) ≡ Ok tt
unfolding chosen
good_alone words two good = judged_alone words two ∙ ap chosen good

pub bad_alone : (words : List (List ℕ)) → length words ≡ 2 → is_bad (trigger_of (first_word (arguments words))) ≡ true
    → settled (triggers_of (arguments words)) ≡ Err BadTrigger
unfolding chosen
bad_alone words two bad = judged_alone words two ∙ ap chosen bad

-- where there is no value, there is none
pub unsettled : {A : Type 0} (reading : Result A DiagKind) (kind : DiagKind) → settled reading ≡ Err kind → reading ≡ Err kind
unsettled (Ok value) kind is = cc
unsettled (Err other) kind is = let same : other ≡ kind = cc in ap (λ k. Err k) same

-- ---- a test

badly : (sign legal : Bool) (trigger : Trigger) → is_bad (if sign && legal then Ok trigger else Err BadTrigger) ≡ not (sign && legal)
badly true true trigger = refl
badly true false trigger = refl
badly false legal trigger = refl

pub named_badly : (text : List ℕ) (place : ℕ) (legal : Bool) → Some place ≡ position is_equals_sign text → legal ≡ is_legal_name (take place text)
    → not legal ≡ is_bad (test_of text)
named_badly text place legal h legal_is =
    let at = sign_at text place h in
    sym (badly (list_any is_equals_sign text) (is_legal_name (before_first is_equals_sign text)) _
    ∙ ap (λ (b : Bool). not (b && is_legal_name (before_first is_equals_sign text))) at.0
    ∙ ap (λ (n : ℕ). not (is_legal_name (take n text))) at.1 ∙ ap not (sym legal_is))

pub without_sign : (text : List ℕ) → None ≡ position is_equals_sign text → true ≡ is_bad (test_of text)
without_sign text h =
    sym (badly (list_any is_equals_sign text) (is_legal_name (before_first is_equals_sign text)) _
    ∙ ap (λ (b : Bool). not (b && is_legal_name (before_first is_equals_sign text))) (no_parts text h))

-- ---- an action that is skipped

pub action_skipped : (file : List ℕ) (section : Section) (reading : Result Triggers DiagKind) (why : Fault) (kind told : DiagKind) (number : ℕ) (old diagnostics : List Diagnostic)
    → IsReading {A = Unit {0}} (Err why) (settled reading) → why ≡ fault.Bad kind → told ≡ kind → number ≡ section.header.number
    → diagnostics ≡ old ++ diagnostic file number told ∷ [] → diagnostics ≡ old ++ action_diagnostics file section reading
action_skipped file section reading why kind told number old diagnostics is why_is told_is number_is added =
    let none : reading ≡ Err kind = unsettled reading kind (subst (λ w. IsReading {A = Unit {0}} (Err w) (settled reading)) why_is is) in
    added ∙ ap (λ k. old ++ diagnostic file number k ∷ []) told_is ∙ ap (λ n. old ++ diagnostic file n kind ∷ []) number_is ∙ ap (λ r. old ++ action_diagnostics file section r) (sym none)
