-- A client's list, and its counts alone.
use Rattle.std.proofs.Common.{◌≡◌, ◌+◌, ◌<◌, ◌≤◌, ℕ, zero, suc, Bool, true, false, cond, ◌==◌, ◌&&◌, ◌||◌, not, leb, List, [], ◌∷◌, ◌++◌, length, map, Some, None, refl, sym, ap, ◌∙◌, arith}
use Rattle.std.specs.List.{list_any}
use Rattle.std.specs.Str.{bytes_eq}
use Rattle.std.proofs.lemmas.Bool.{leb-false, leb-true, le-leb}
use Rattle.std.proofs.lemmas.Slice.Eq.{bytes_eq-Decides}
use mathlib.Core.Option.{some}
use lib.ListN.{get_elem?}
use Rattle.init_machine.specs.History.{sets_in}
use Rattle.init_machine.specs.Orderly.{readings_in, InOrder, SecondsRise, count_after, count_before}
use Rattle.init_machine.specs.Serial.{rank}
use Rattle.init_machine.specs.declared.client.ClientItem.{ClientItem}
use Rattle.init_machine.specs.declared.client.ClientItem.TheVariants.{Told, Asked}
use Rattle.init_machine.specs.declared.client.ClientRequest.{ClientRequest}
use Rattle.init_machine.specs.declared.config.Pair.{Pair}
use Rattle.init_machine.specs.declared.input.Input.{Input}
use Rattle.init_machine.specs.declared.input.Input.TheVariants as input
use Rattle.init_machine.specs.declared.report.Entry.{Entry}
use Rattle.init_machine.specs.declared.report.Reading.{Reading}
use Rattle.init_machine.specs.declared.report.Reading.TheVariants as reading
use Rattle.script_lang.specs.declared.script.Ask.{Ask}
use Rattle.script_lang.specs.declared.script.Ask.TheVariants as ask
use Rattle.trace_audit.specs.Audited.{answer_all, is_answer, list_of, request_at, request_if, requests_from}
use Rattle.script_lang.specs.Laws.{set_by}
use Rattle.trace_audit.specs.Lists.{all_requests, ascending, bounds_by, bounds_in, bounds_list, bounds_of, request_in, is_lowest, is_no_higher, rises}
use Rattle.trace_audit.specs.declared.told.Bounds.{Bounds}
use Rattle.trace_audit.specs.declared.told.Request.{Request}
use Rattle.std.specs.Cmp.{first_so, second_so}

abbrev pub item_bounds : ClientItem → Bounds
item_bounds item = record { before = count_before item; after = count_after item }

-- the counts of a list are those of its items
pub list_bounds : (asks : List Ask) (requests : List ClientRequest) (readings : List Reading)
    → map item_bounds (list_of asks requests readings) ≡ bounds_list asks (map bounds_in requests) readings
list_bounds [] requests readings = refl
list_bounds (ask.Set pair ∷ asks) [] readings = list_bounds asks [] readings
list_bounds (ask.Set pair ∷ asks) (request ∷ requests) readings = ap (λ (bs : List Bounds). bounds_in request ∷ bs) (list_bounds asks requests readings)
list_bounds (ask.Read name ∷ asks) requests [] = list_bounds asks requests []
list_bounds (ask.Read name ∷ asks) requests (told ∷ readings) = ap (λ (bs : List Bounds). bounds_of told ∷ bs) (list_bounds asks requests readings)
list_bounds (ask.Sync ∷ asks) requests [] = list_bounds asks requests []
list_bounds (ask.Sync ∷ asks) requests (told ∷ readings) = ap (λ (bs : List Bounds). bounds_of told ∷ bs) (list_bounds asks requests readings)
list_bounds (ask.Catch ∷ asks) requests [] = list_bounds asks requests []
list_bounds (ask.Catch ∷ asks) requests (told ∷ readings) = ap (λ (bs : List Bounds). bounds_of told ∷ bs) (list_bounds asks requests readings)

-- ---- a list is in order where its counts ascend

and_both : (a b : Bool) → a ≡ true → b ≡ true → (a && b) ≡ true
and_both a b first then = ap (λ (x : Bool). x && b) first ∙ then

pub in_order : (seen : ℕ) (items : List ClientItem) → ascending seen (map item_bounds items) ≡ true → InOrder seen items
in_order seen [] ascend = tt
in_order seen (item ∷ items) ascend =
    let first : Bool = leb seen (count_before item) in
    let then : Bool = leb (count_before item) (count_after item) in
    let behind : Bool = ascending (count_after item) (map item_bounds items) in
    let both = first_so (first && then) behind ascend in (
      leb-true seen (count_before item) (first_so first then both),
      leb-true (count_before item) (count_after item) (second_so first then both),
      in_order (count_after item) items (second_so (first && then) behind ascend),
    )

pub ascends : (seen : ℕ) (items : List ClientItem) → InOrder seen items → ascending seen (map item_bounds items) ≡ true
ascends seen [] order = refl
ascends seen (item ∷ items) order =
    let first : Bool = leb seen (count_before item) in
    let then : Bool = leb (count_before item) (count_after item) in
    let behind : Bool = ascending (count_after item) (map item_bounds items) in
    and_both (first && then) behind
    (and_both first then (le-leb seen (count_before item) order.0) (le-leb (count_before item) (count_after item) order.1))
    (ascends (count_after item) items order.2)

-- ---- the set requests of a client

if_case : (own : Bool) (pair : Pair) (request : ClientRequest) (rest : List ClientRequest) (bounds : List Bounds)
    → map bounds_in rest ≡ bounds → map bounds_in (request_if (cond own (Some pair) None) request ++ rest) ≡ cond own (bounds_in request ∷ bounds) bounds
if_case true pair request rest bounds same = ap (λ (bs : List Bounds). bounds_in request ∷ bs) same
if_case false pair request rest bounds same = same

one_entry : (who place before : ℕ) (i : Input) (e : Entry) (rest : List ClientRequest) (behind : List Request) → e.input ≡ i
    → map bounds_in rest ≡ bounds_by who behind
    → map bounds_in (request_if (set_by who i) (request_at place before e) ++ rest)
    ≡ bounds_by who (request_in i before (before + length (sets_in e.outputs)) ++ behind)
one_entry who place before (input.Set by name value) e rest behind is same =
    if_case (by.0 == who) (record { name = name; value = value }) (request_at place before e) rest (bounds_by who behind) same
one_entry who place before input.Boot e rest behind is same = same
one_entry who place before input.Next e rest behind is same = same
one_entry who place before (input.Tick ms) e rest behind is same = same
one_entry who place before (input.Exit name status) e rest behind is same = same
one_entry who place before (input.File path content) e rest behind is same = same

pub request_bounds : (who place before : ℕ) (entries : List Entry)
    → map bounds_in (requests_from who place before entries) ≡ bounds_by who (all_requests before entries)
request_bounds who place before [] = refl
request_bounds who place before (e ∷ entries) =
    one_entry who place before e.input e (requests_from who (place + 1) (before + length (sets_in e.outputs)) entries)
    (all_requests (before + length (sets_in e.outputs)) entries) refl
    (request_bounds who (place + 1) (before + length (sets_in e.outputs)) entries)

-- ---- second serials

pub told_all : (asks : List Ask) (requests : List ClientRequest) (readings : List Reading) → answer_all asks readings ≡ true
    → readings_in (list_of asks requests readings) ≡ readings
told_all [] requests [] all = refl
told_all [] requests (told ∷ readings) all = cc
told_all (ask.Set pair ∷ asks) [] readings all = told_all asks [] readings all
told_all (ask.Set pair ∷ asks) (request ∷ requests) readings all = told_all asks requests readings all
told_all (ask.Read name ∷ asks) requests [] all = cc
told_all (ask.Read name ∷ asks) requests (told ∷ readings) all =
    ap (λ (rs : List Reading). told ∷ rs) (told_all asks requests readings (second_so (is_answer (ask.Read name) told) (answer_all asks readings) all))
told_all (ask.Sync ∷ asks) requests [] all = cc
told_all (ask.Sync ∷ asks) requests (told ∷ readings) all =
    ap (λ (rs : List Reading). told ∷ rs) (told_all asks requests readings (second_so (is_answer ask.Sync told) (answer_all asks readings) all))
told_all (ask.Catch ∷ asks) requests [] all = cc
told_all (ask.Catch ∷ asks) requests (told ∷ readings) all =
    ap (λ (rs : List Reading). told ∷ rs) (told_all asks requests readings (second_so (is_answer ask.Catch told) (answer_all asks readings) all))

not_true_false : (b : Bool) → not b ≡ true → b ≡ false
not_true_false true no_b = cc
not_true_false false no_b = refl

or_none : (a b : Bool) → (a || b) ≡ false → (a ≡ false) × (b ≡ false)
or_none true b none = cc
or_none false b none = (refl, none)

same_bytes : (a : List ℕ) → bytes_eq a a ≡ true
same_bytes a = (bytes_eq-Decides a a).1 refl

above : (name : List ℕ) (s s' : ℕ) → (bytes_eq name name && leb (rank s') (rank s)) ≡ false → rank s < rank s'
above name s s' none =
    let no : leb (rank s') (rank s) ≡ false = ap (λ (b : Bool). b && leb (rank s') (rank s)) (sym (same_bytes name)) ∙ none in
    leb-false (rank s') (rank s) no

-- where no later one ranks no higher, each later one ranks higher
above_at : (name : List ℕ) (s : ℕ) (list : List ClientItem) (j n' f' s' : ℕ) → list_any (is_no_higher name s) (readings_in list) ≡ false
    → get_elem? list j ≡ some (Told (reading.Again name n' f' s')) → rank s < rank s'
above_at name s [] j n' f' s' none at = cc
above_at name s (Asked q ∷ list) zero n' f' s' none at = cc
above_at name s (Asked q ∷ list) (suc j) n' f' s' none at = above_at name s list j n' f' s' none at
above_at name s (Told told ∷ list) zero n' f' s' none at =
    let same : told ≡ reading.Again name n' f' s' = cc in
    above name s s'
    (ap (λ (r : Reading). is_no_higher name s r) (sym same)
    ∙ (or_none (is_no_higher name s told) (list_any (is_no_higher name s) (readings_in list)) none).0)
above_at name s (Told told ∷ list) (suc j) n' f' s' none at =
    above_at name s list j n' f' s' (or_none (is_no_higher name s told) (list_any (is_no_higher name s) (readings_in list)) none).1 at

pub rise_list : (list : List ClientItem) → rises (readings_in list) ≡ true → SecondsRise list
rise_list [] all i j n n' name f f' s s' before at at' = cc
rise_list (Asked q ∷ list) all zero j n n' name f f' s s' before at at' = cc
rise_list (Asked q ∷ list) all (suc i) zero n n' name f f' s s' before at at' = cc
rise_list (Asked q ∷ list) all (suc i) (suc j) n n' name f f' s s' before at at' = rise_list list all i j n n' name f f' s s' (omega arith) at at'
rise_list (Told told ∷ list) all zero zero n n' name f f' s s' before at at' = absurd (omega arith)
rise_list (Told told ∷ list) all (suc i) zero n n' name f f' s s' before at at' = absurd (omega arith)
rise_list (Told told ∷ list) all zero (suc j) n n' name f f' s s' before at at' =
    let same : told ≡ reading.Again name n f s = cc in
    let lowest : not (list_any (is_no_higher name s) (readings_in list)) ≡ true =
    ap (λ (r : Reading). is_lowest r (readings_in list)) (sym same)
    ∙ first_so (is_lowest told (readings_in list)) (rises (readings_in list)) all in
    above_at name s list j n' f' s' (not_true_false (list_any (is_no_higher name s) (readings_in list)) lowest) at'
rise_list (Told told ∷ list) all (suc i) (suc j) n n' name f f' s s' before at at' =
    rise_list list (second_so (is_lowest told (readings_in list)) (rises (readings_in list)) all) i j n n' name f f' s s' (omega arith) at at'

-- in the list each told reading of the name that met a write ranks higher
HigherIn : List ℕ → ℕ → List ClientItem → Type 0
HigherIn name s list = (j n' f' s' : ℕ) → get_elem? list j ≡ some (Told (reading.Again name n' f' s')) → rank s < rank s'

or_both : (a b : Bool) → a ≡ false → b ≡ false → (a || b) ≡ false
or_both a b first then = ap (λ (x : Bool). x || b) first ∙ then

false_of : (b c : Bool) → b ≡ c → (b ≡ true → ⊥) → b ≡ false
false_of b true is never = absurd (never is)
false_of b false is never = is

not_this : (name : List ℕ) (s : ℕ) (told : Reading)
    → ((n' f' s' : ℕ) → told ≡ reading.Again name n' f' s' → rank s < rank s') → is_no_higher name s told ≡ false
not_this name s (reading.Found other number value) higher = refl
not_this name s (reading.Absent other number) higher = refl
not_this name s (reading.Synced number) higher = refl
not_this name s (reading.Caught number) higher = refl
not_this name s (reading.Again other n' f' s') higher =
    false_of (bytes_eq other name && leb (rank s') (rank s)) (bytes_eq other name && leb (rank s') (rank s)) refl
    (λ (both : (bytes_eq other name && leb (rank s') (rank s)) ≡ true).
    let own : other ≡ name = (bytes_eq-Decides other name).0 (first_so (bytes_eq other name) (leb (rank s') (rank s)) both) in
    let low : rank s' ≤ rank s = leb-true (rank s') (rank s) (second_so (bytes_eq other name) (leb (rank s') (rank s)) both) in
    let high : rank s < rank s' = higher n' f' s' (ap (λ (m : List ℕ). reading.Again m n' f' s') own) in
    omega arith)

none_higher : (name : List ℕ) (s : ℕ) (list : List ClientItem) → HigherIn name s list → list_any (is_no_higher name s) (readings_in list) ≡ false
unfolding HigherIn
none_higher name s [] higher = refl
none_higher name s (Asked q ∷ list) higher = none_higher name s list (λ (j : ℕ). higher (suc j))
none_higher name s (Told told ∷ list) higher =
    or_both (is_no_higher name s told) (list_any (is_no_higher name s) (readings_in list))
    (not_this name s told (λ (n' f' s' : ℕ) (same : told ≡ reading.Again name n' f' s'). higher zero n' f' s' (ap (λ (r : Reading). some (Told r)) same)))
    (none_higher name s list (λ (j : ℕ). higher (suc j)))

lowest : (told : Reading) (list : List ClientItem)
    → ((n f s : ℕ) (name : List ℕ) → told ≡ reading.Again name n f s → HigherIn name s list) → is_lowest told (readings_in list) ≡ true
lowest (reading.Found other number value) list higher = refl
lowest (reading.Absent other number) list higher = refl
lowest (reading.Synced number) list higher = refl
lowest (reading.Caught number) list higher = refl
lowest (reading.Again name n f s) list higher = ap (λ (b : Bool). not b) (none_higher name s list (higher n f s name refl))

pub list_rise : (list : List ClientItem) → SecondsRise list → rises (readings_in list) ≡ true
unfolding HigherIn
list_rise [] rise = refl
list_rise (Asked q ∷ list) rise =
    list_rise list (λ (i j n n' : ℕ) (name : List ℕ) (f f' s s' : ℕ) (before : i < j). rise (suc i) (suc j) n n' name f f' s s' (omega arith))
list_rise (Told told ∷ list) rise =
    and_both (is_lowest told (readings_in list)) (rises (readings_in list))
    (lowest told list (λ (n f s : ℕ) (name : List ℕ) (same : told ≡ reading.Again name n f s) (j n' f' s' : ℕ).
    rise zero (suc j) n n' name f f' s s' (omega arith) (ap (λ (r : Reading). some (Told r)) same)))
    (list_rise list (λ (i j n n' : ℕ) (name : List ℕ) (f f' s s' : ℕ) (before : i < j). rise (suc i) (suc j) n n' name f f' s s' (omega arith)))
