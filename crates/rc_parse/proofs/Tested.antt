-- Triggers that were joined, and then tested for two of one property.
use Rattle.std.proofs.Common.{◌≡◌, ℕ, Bool, true, false, ◌==◌, if◌then◌else◌, List, length, map, ap, ◌∙◌, Result, Ok, Err}
use Rattle.init_machine.specs.declared.diagnostic.DiagKind.{DiagKind}
use Rattle.init_machine.specs.declared.diagnostic.DiagKind.TheVariants.{NoTrigger, BadTrigger, TwiceProp}
use Rattle.rc_parse.specs.internal.Joining.{joined_of}
use Rattle.rc_parse.specs.Readings.{IsReading}
use Rattle.rc_parse.specs.Triggers.{has_twice, has_bad_trigger, triggers_of}
use Rattle.rc_parse.specs.declared.fault.Fault.{Fault}
use Rattle.rc_parse.specs.declared.fault.Fault.TheVariants as fault
use Rattle.rc_parse.specs.declared.trigger.Triggers.{Triggers}

abbrev tested : Triggers → Result Triggers DiagKind
tested triggers = if has_twice (map (λ test. test.name) triggers.props) then Err TwiceProp else Ok triggers

abbrev judged : Bool → Bool → Triggers → Result Triggers DiagKind
judged none bad triggers = if none then Err NoTrigger else if bad then Err BadTrigger else tested triggers

judged_bad : (none bad : Bool) (triggers : Triggers) (kind : DiagKind) → none ≡ false
    → (if bad then Err BadTrigger else Ok triggers) ≡ Err kind → judged none bad triggers ≡ Err kind
judged_bad true bad triggers kind some h = cc
judged_bad false true triggers kind some h = h
judged_bad false false triggers kind some h = cc

judged_good : (none bad : Bool) (triggers joined : Triggers) → none ≡ false
    → (if bad then Err BadTrigger else Ok triggers) ≡ Ok joined → judged none bad triggers ≡ tested joined
judged_good true bad triggers joined some h = cc
judged_good false true triggers joined some h = cc
judged_good false false triggers joined some h = let same : triggers ≡ joined = cc in ap tested same

pub not_joined : (words : List (List ℕ)) (why : Fault) → (length words == 0) ≡ false → IsReading {A = Triggers} (Err why) (joined_of words) → IsReading {A = Triggers} (Err why) (triggers_of words)
not_joined words fault.NoMemory some h = tt
not_joined words (fault.Bad kind) some h = judged_bad (length words == 0) (has_bad_trigger words) _ kind some h

pub twice : (words : List (List ℕ)) (joined : Triggers) → (length words == 0) ≡ false → joined_of words ≡ Ok joined
    → has_twice (map (λ test. test.name) joined.props) ≡ true → triggers_of words ≡ Err TwiceProp
twice words joined some h yes_twice =
    judged_good (length words == 0) (has_bad_trigger words) _ joined some h ∙ ap (λ (b : Bool). (let r : Result Triggers DiagKind = if b then Err TwiceProp else Ok joined in r)) yes_twice

pub once : (words : List (List ℕ)) (joined : Triggers) → (length words == 0) ≡ false → joined_of words ≡ Ok joined
    → has_twice (map (λ test. test.name) joined.props) ≡ false → triggers_of words ≡ Ok joined
once words joined some h not_twice =
    judged_good (length words == 0) (has_bad_trigger words) _ joined some h ∙ ap (λ (b : Bool). (let r : Result Triggers DiagKind = if b then Err TwiceProp else Ok joined in r)) not_twice
