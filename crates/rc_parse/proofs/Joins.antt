-- Triggers that are joined one by one.
use Rattle.std.proofs.Common.{◌≡◌, ℕ, ◌<◌, ◌≤◌, suc, Bool, true, false, not, ◌&&◌, ◌||◌, cond, if◌then◌else◌, List, [], ◌∷◌, ◌++◌, length, refl, ap, sym, subst, ◌∙◌, Option, Some, None, Result, Ok, Err, arith, nat_lt, append_assoc}
use Rattle.std.specs.List.{list_any, list_all, flat_map}
use Rattle.std.proofs.lemmas.List.{append-nil}
use Rattle.std.proofs.lemmas.Bool.{lt-ltb}
use Rattle.init_machine.specs.declared.action.PropTest.{PropTest}
use Rattle.init_machine.specs.declared.diagnostic.DiagKind.{DiagKind}
use Rattle.init_machine.specs.declared.diagnostic.DiagKind.TheVariants.{BadTrigger}
use Rattle.rc_parse.specs.internal.Joining.{with_trigger, with_reading, then_joined, behind_joiner, joined_onto, joined_of}
use Rattle.rc_parse.specs.Readings.{is_bad, IsReading, values}
use Rattle.rc_parse.specs.Triggers.{is_joiner, trigger_of, odd_words, joiners, events_in, tests_in, events_of, tests_of, good_triggers, first_of}
use Rattle.rc_parse.specs.declared.fault.Fault.{Fault}
use Rattle.rc_parse.specs.declared.fault.Fault.TheVariants as fault
use Rattle.rc_parse.specs.declared.trigger.Trigger.{Trigger}
use Rattle.rc_parse.specs.declared.trigger.Trigger.TheVariants.{Event, Test}
use Rattle.rc_parse.specs.declared.trigger.Triggers.{Triggers}

-- ---- a trigger is bad in one way only

one_way : (a b c : Bool) (t e : Trigger) (kind : DiagKind)
    → cond a (cond b (Ok t) (Err BadTrigger)) (cond c (Err BadTrigger) (Ok e)) ≡ Err kind → kind ≡ BadTrigger
one_way true true c t e kind h = cc
one_way true false c t e kind h = cc
one_way false b true t e kind h = cc
one_way false b false t e kind h = cc

only_bad : (word : List ℕ) (kind : DiagKind) → trigger_of word ≡ Err kind → kind ≡ BadTrigger
only_bad word kind h = one_way _ _ _ _ _ kind h

-- ---- what the triggers of some words are, joined with others

abbrev held : Option (List ℕ) → List (List ℕ)
held None = []
held (Some event) = event ∷ []

abbrev joined_as : Bool → Bool → List (List ℕ) → List PropTest → Result Triggers DiagKind
joined_as bad other events tests =
    if bad || other || nat_lt 1 (length events) then Err BadTrigger else Ok (record { event = first_of events; props = tests })

abbrev outcome : Option (List ℕ) → List PropTest → List (List ℕ) → Result Triggers DiagKind
outcome event props words =
    joined_as (list_any (λ word. is_bad (trigger_of word)) (odd_words words)) (not (list_all is_joiner (joiners words)))
    (held event ++ events_of words) (props ++ tests_of words)

-- the triggers of one word and of those behind a joining word
abbrev front_outcome : Option (List ℕ) → List PropTest → Result Trigger DiagKind → Bool → List (List ℕ) → Result Triggers DiagKind
front_outcome event props reading joins words =
    joined_as (is_bad reading || list_any (λ word. is_bad (trigger_of word)) (odd_words words)) (not (joins && list_all is_joiner (joiners words)))
    (held event ++ flat_map events_in (values reading ++ good_triggers words)) (props ++ flat_map tests_in (values reading ++ good_triggers words))

other_joiner : (bad : Bool) (events : List (List ℕ)) (tests : List PropTest) → joined_as bad true events tests ≡ Err BadTrigger
other_joiner true events tests = refl
other_joiner false events tests = refl

two_events : (bad other : Bool) (first second : List ℕ) (events : List (List ℕ)) (tests : List PropTest) → joined_as bad other (first ∷ second ∷ events) tests ≡ Err BadTrigger
two_events true other first second events tests = refl
two_events false true first second events tests = refl
two_events false false first second events tests =
    let h : nat_lt 1 (length (first ∷ second ∷ events)) ≡ true = lt-ltb 1 (length (first ∷ second ∷ events)) (omega arith) in
    ap (λ (b : Bool). (let joined : Result Triggers DiagKind = if b then Err BadTrigger else Ok (record { event = Some first; props = tests }) in joined)) h

with_joiner : (joins : Bool) (event : Option (List ℕ)) (props : List PropTest) (words : List (List ℕ))
    → joined_onto (record { event = event; props = props }) words ≡ outcome event props words
    → (if joins then joined_onto (record { event = event; props = props }) words else Err BadTrigger)
    ≡ joined_as (list_any (λ word. is_bad (trigger_of word)) (odd_words words)) (not (joins && list_all is_joiner (joiners words))) (held event ++ events_of words) (props ++ tests_of words)
with_joiner true event props words h = h
with_joiner false event props words h = sym (other_joiner _ _ _)

front : (reading : Result Trigger DiagKind) (joins : Bool) (event : Option (List ℕ)) (props : List PropTest) (words : List (List ℕ))
    → ((kind : DiagKind) → reading ≡ Err kind → kind ≡ BadTrigger)
    → ((event : Option (List ℕ)) (props : List PropTest) → joined_onto (record { event = event; props = props }) words ≡ outcome event props words)
    → then_joined (with_reading (record { event = event; props = props }) reading) (λ joined. if joins then joined_onto joined words else Err BadTrigger)
    ≡ front_outcome event props reading joins words
front (Err kind) joins event props words only next = ap (λ (k : DiagKind). Err k) (only kind refl)
front (Ok (Test test)) joins event props words only next =
    with_joiner joins event (props ++ test ∷ []) words (next event (props ++ test ∷ []))
    ∙ ap (λ (tests : List PropTest). joined_as (list_any (λ word. is_bad (trigger_of word)) (odd_words words)) (not (joins && list_all is_joiner (joiners words))) (held event ++ events_of words) tests)
    (append_assoc props (test ∷ []) (tests_of words))
front (Ok (Event name)) joins None props words only next = with_joiner joins (Some name) props words (next (Some name) props)
front (Ok (Event name)) joins (Some other) props words only next =
    sym (two_events (list_any (λ word. is_bad (trigger_of word)) (odd_words words)) (not (joins && list_all is_joiner (joiners words)))
    other name (events_of words) (props ++ tests_of words))

no_more : (event : Option (List ℕ)) (props : List PropTest) → joined_onto (record { event = event; props = props }) [] ≡ outcome event props []
no_more None props = ap (λ (tests : List PropTest). (let joined : Result Triggers DiagKind = Ok (record { event = None; props = tests }) in joined)) (sym (append-nil props))
no_more (Some name) props = ap (λ (tests : List PropTest). (let joined : Result Triggers DiagKind = Ok (record { event = Some name; props = tests }) in joined)) (sym (append-nil props))

one_word : (reading : Result Triggers DiagKind) → reading ≡ then_joined reading (λ joined. Ok joined)
one_word (Ok triggers) = refl
one_word (Err kind) = refl

joined_is : (words : List (List ℕ)) (event : Option (List ℕ)) (props : List PropTest) → joined_onto (record { event = event; props = props }) words ≡ outcome event props words
joined_is [] event props = no_more event props
joined_is (word ∷ []) event props = one_word _ ∙ front (trigger_of word) true event props [] (only_bad word) no_more
joined_is (word ∷ joiner ∷ words) event props = front (trigger_of word) (is_joiner joiner) event props words (only_bad word) (joined_is words)

pub joined_start : (words : List (List ℕ)) → joined_onto (record { event = None; props = [] }) words ≡ joined_of words
joined_start words = joined_is words None []

-- ---- one turn of the loop

abbrev then_behind : Triggers → Option (List (List ℕ)) → Result Triggers DiagKind
then_behind joined None = Err BadTrigger
then_behind joined (Some words) = joined_onto joined words

behind : (joins : Bool) (joined : Triggers) (words : List (List ℕ))
    → (if joins then joined_onto joined words else Err BadTrigger) ≡ then_behind joined (if joins then Some words else None)
behind true joined words = refl
behind false joined words = refl

then_same : (reading : Result Triggers DiagKind) (joins : Bool) (words : List (List ℕ))
    → then_joined reading (λ joined. if joins then joined_onto joined words else Err BadTrigger)
    ≡ then_joined reading (λ joined. then_behind joined (if joins then Some words else None))
then_same (Ok joined) joins words = behind joins joined words
then_same (Err kind) joins words = refl

turn : (triggers : Triggers) (word : List ℕ) (words : List (List ℕ)) → joined_onto triggers (word ∷ words)
    ≡ then_joined (with_reading triggers (trigger_of word)) (λ joined. then_behind joined (behind_joiner words))
turn triggers word [] = one_word _
turn triggers word (joiner ∷ words) = then_same _ (is_joiner joiner) words

-- what is left to be joined, of all words
abbrev pub Left : Triggers → List (List ℕ) → Result Triggers DiagKind → Type 0
Left triggers left all = joined_onto triggers left ≡ all

turned : (triggers : Triggers) (word : List ℕ) (words left : List (List ℕ)) (all : Result Triggers DiagKind)
    → left ≡ word ∷ words → Left triggers left all
    → then_joined (with_reading triggers (trigger_of word)) (λ joined. then_behind joined (behind_joiner words)) ≡ all
turned triggers word words left all front h = sym (turn triggers word words) ∙ subst (λ (ws : List (List ℕ)). Left triggers ws all) front h

pub bad_reading : (triggers : Triggers) (word : List ℕ) (words left : List (List ℕ)) (all : Result Triggers DiagKind) (why : Fault)
    → left ≡ word ∷ words → Left triggers left all → IsReading {A = Trigger} (Err why) (trigger_of word) → IsReading {A = Triggers} (Err why) all
bad_reading triggers word words left all fault.NoMemory front h reading = tt
bad_reading triggers word words left all (fault.Bad kind) front h reading =
    sym (turned triggers word words left all front h)
    ∙ ap (λ (r : Result Trigger DiagKind). then_joined (with_reading triggers r) (λ joined. then_behind joined (behind_joiner words))) reading

after_reading : (triggers : Triggers) (word : List ℕ) (words left : List (List ℕ)) (all : Result Triggers DiagKind) (trigger : Trigger)
    → left ≡ word ∷ words → Left triggers left all → trigger_of word ≡ Ok trigger
    → then_joined (with_trigger triggers trigger) (λ joined. then_behind joined (behind_joiner words)) ≡ all
after_reading triggers word words left all trigger front h reading =
    sym (ap (λ (r : Result Trigger DiagKind). then_joined (with_reading triggers r) (λ joined. then_behind joined (behind_joiner words))) reading)
    ∙ turned triggers word words left all front h

pub bad_joining : (triggers : Triggers) (word : List ℕ) (words left : List (List ℕ)) (all : Result Triggers DiagKind) (trigger : Trigger) (why : Fault)
    → left ≡ word ∷ words → Left triggers left all → trigger_of word ≡ Ok trigger
    → IsReading {A = Triggers} (Err why) (with_trigger triggers trigger) → IsReading {A = Triggers} (Err why) all
bad_joining triggers word words left all trigger fault.NoMemory front h reading joining = tt
bad_joining triggers word words left all trigger (fault.Bad kind) front h reading joining =
    sym (after_reading triggers word words left all trigger front h reading)
    ∙ ap (λ (r : Result Triggers DiagKind). then_joined r (λ joined. then_behind joined (behind_joiner words))) joining

pub after_joining : (triggers : Triggers) (word : List ℕ) (words left : List (List ℕ)) (all : Result Triggers DiagKind) (trigger : Trigger) (joined : Triggers)
    (next : Option (List (List ℕ)))
    → left ≡ word ∷ words → Left triggers left all → trigger_of word ≡ Ok trigger → with_trigger triggers trigger ≡ Ok joined → next ≡ behind_joiner words
    → then_behind joined next ≡ all
after_joining triggers word words left all trigger joined next front h reading joining same =
    ap (λ (o : Option (List (List ℕ))). then_behind joined o) same
    ∙ sym (ap (λ (r : Result Triggers DiagKind). then_joined r (λ joined. then_behind joined (behind_joiner words))) joining)
    ∙ after_reading triggers word words left all trigger front h reading

pub none_left : (triggers : Triggers) (left : List (List ℕ)) (all : Result Triggers DiagKind) → length left < 1 → Left triggers left all → all ≡ Ok triggers
none_left triggers [] all few h = sym h
none_left triggers (word ∷ left) all few h = absurd (omega arith)

fewer : (joins : Bool) (words left : List (List ℕ)) → Some left ≡ (if joins then Some words else None) → length left ≤ suc (length words)
fewer true words left h = let e : left ≡ words = cc in rw e (omega arith)
fewer false words left h = cc

fewer_behind : (words left : List (List ℕ)) → Some left ≡ behind_joiner words → length left ≤ length words
fewer_behind [] left h = let e : left ≡ [] = cc in rw e (omega arith)
fewer_behind (joiner ∷ words) left h = fewer (is_joiner joiner) words left h

pub smaller : (left words next : List (List ℕ)) (word : List ℕ) → left ≡ word ∷ words → Some next ≡ behind_joiner words → length next < length left
smaller left words next word front h = let few = fewer_behind words next h in rw front (omega arith)
