-- Slots of services, and the index of their names.
use Rattle.std.proofs.Common.{◌≡◌, ℕ, zero, suc, ◌<◌, Bool, true, false, not, ◌&&◌, ◌||◌, cond, if◌then◌else◌, Option, Some, None, List, [], ◌∷◌, ◌++◌, length, refl, sym, ap, ◌∙◌, arith, slice_set, length-set}
use Rattle.std.proofs.lemmas.Bool.{and_parts, and_from, not-true, not_from_false, cond-true, cond-false, false≢true, or_parts, or_from}
use Rattle.std.proofs.lemmas.List.{append-nil}
use Rattle.std.proofs.lemmas.Grind.{flat_map-append}
use Rattle.std.proofs.lemmas.List.Folds.{list_any-append}
use Rattle.std.proofs.lemmas.Slice.Eq.{bytes_eq-Decides}
use Rattle.std.specs.Cmp.{both_ways}
use Rattle.std.specs.List.{list_any}
use Rattle.std.specs.Option.{is_some, option_to_list}
use Rattle.std.specs.Str.{bytes_eq}
use Rattle.init_machine.specs.declared.diagnostic.DiagKind.TheVariants.{ServiceAgain}
use Rattle.init_machine.specs.declared.service.ServiceDef.{ServiceDef}
use Rattle.rc_parse.specs.Readings.{diagnostic}
use Rattle.rc_parse.specs.Kept.{is_named, is_again, kept_behind, not_overridden, merged, agains_behind}
use Rattle.rc_parse.specs.internal.Merging.{standing, has_name, holds, is_only_at, is_placed, IsVacated}

-- ---- names

same_name : (x y : List ℕ) → bytes_eq x y ≡ true → x ≡ y
same_name x y e = (bytes_eq-Decides x y).0 e

name_itself : (x : List ℕ) → bytes_eq x x ≡ true
name_itself x = (bytes_eq-Decides x x).1 refl

pub names_swapped : (x y : List ℕ) → bytes_eq x y ≡ bytes_eq y x
names_swapped x y =
    both_ways (bytes_eq x y) (bytes_eq y x) (λ e. (bytes_eq-Decides y x).1 (sym (same_name x y e))) (λ e. (bytes_eq-Decides x y).1 (sym (same_name y x e)))

-- ---- one service more, in the definitions

other_stays : (named : Bool) (other : ServiceDef) (rest : List ServiceDef) → cond (not ((named && false) || false)) (other ∷ rest) rest ≡ other ∷ rest
other_stays true other rest = refl
other_stays false other rest = refl

overridden_none : (services : List ServiceDef) (service : ServiceDef) → service.overrides ≡ false → not_overridden (service ∷ []) services ≡ services
overridden_none [] service none = refl
overridden_none (other ∷ services) service none =
    let rest = not_overridden (service ∷ []) services in
    ap (λ (b : Bool). cond (not ((bytes_eq service.name other.name && b) || false)) (other ∷ rest) rest) none
    ∙ other_stays (bytes_eq service.name other.name) other rest
    ∙ ap (λ (u : List ServiceDef). other ∷ u) (overridden_none services service none)

overridden_absent : (services : List ServiceDef) (service : ServiceDef) → list_any (is_named service.name) services ≡ false → not_overridden (service ∷ []) services ≡ services
overridden_absent [] service none = refl
overridden_absent (other ∷ services) service none =
    let parts = or_parts (is_named service.name other) (list_any (is_named service.name) services) none in
    let rest = not_overridden (service ∷ []) services in
    ap (λ (b : Bool). cond (not ((b && service.overrides) || false)) (other ∷ rest) rest) (names_swapped service.name other.name ∙ parts.0)
    ∙ ap (λ (u : List ServiceDef). other ∷ u) (overridden_absent services service parts.1)

pub kept_one : (services : List ServiceDef) (service : ServiceDef) → is_again services service ≡ false → kept_behind services (service ∷ []) ≡ service ∷ []
kept_one services service again = ap (λ (b : Bool). if not b && true then service ∷ [] else []) again

kept_none : (services : List ServiceDef) (service : ServiceDef) → is_again services service ≡ true → kept_behind services (service ∷ []) ≡ []
kept_none services service again = ap (λ (b : Bool). if not b && true then service ∷ [] else []) again

-- a second service of its name leaves all as it is
pub again_alone : (services : List ServiceDef) (service : ServiceDef) → is_again services service ≡ true → services ≡ merged services (service ∷ [])
again_alone services service again =
    let plain = not-true service.overrides (and_parts (list_any (is_named service.name) services) (not service.overrides) again).1 in
    sym (ap (λ (u : List ServiceDef). u ++ kept_behind services (service ∷ [])) (overridden_none services service plain)
    ∙ ap (λ (u : List ServiceDef). services ++ u) (kept_none services service again)
    ∙ append-nil services)

pub told_again : (services : List ServiceDef) (service : ServiceDef) → is_again services service ≡ true
    → agains_behind services (service ∷ []) ≡ diagnostic service.file service.line ServiceAgain ∷ []
told_again services service again = cond-true _ _ _ again

pub none_again : (services : List ServiceDef) (service : ServiceDef) → is_again services service ≡ false → agains_behind services (service ∷ []) ≡ []
none_again services service again = cond-false _ _ _ again

-- ---- slots

has-append : (name : List ℕ) (slots more : List (Option ServiceDef)) → has_name name (slots ++ more) ≡ (has_name name slots || has_name name more)
has-append name slots more =
    ap (list_any (is_named name)) (flat_map-append option_to_list slots more)
    ∙ list_any-append (is_named name) (standing slots) (standing more)

or_none : (b : Bool) → (b || false) ≡ b
or_none true = refl
or_none false = refl

only_has : (name : List ℕ) (slots : List (Option ServiceDef)) (place : ℕ) → is_only_at name slots place ≡ true → has_name name slots ≡ true
only_has name [] place only = cc
only_has name (None ∷ slots) zero only = cc
only_has name (Some service ∷ slots) zero only =
    let parts = and_parts (is_named name service) (not (has_name name slots)) only in
    ap (λ (b : Bool). b || has_name name slots) parts.0
only_has name (None ∷ slots) (suc place) only = only_has name slots place only
only_has name (Some service ∷ slots) (suc place) only =
    let parts = and_parts (not (is_named name service)) (is_only_at name slots place) only in
    ap (λ (b : Bool). b || has_name name slots) (not-true (is_named name service) parts.0) ∙ only_has name slots place parts.1

only_within : (name : List ℕ) (slots : List (Option ServiceDef)) (place : ℕ) → is_only_at name slots place ≡ true → place < length slots
only_within name [] place only = cc
only_within name (slot ∷ slots) zero only = omega arith
only_within name (slot ∷ slots) (suc place) only =
    let behind = only_within name slots place (and_parts (not (holds name slot)) (is_only_at name slots place) only).1 in
    omega arith

-- a name has a place exactly where a service has it
pub placed_has : (name : List ℕ) (slots : List (Option ServiceDef)) (place : Option ℕ) → is_placed name slots place ≡ true → has_name name slots ≡ is_some place
placed_has name slots None placed = not-true (has_name name slots) placed
placed_has name slots (Some place) placed = only_has name slots place placed

-- ---- a slot that is emptied

named_other : (name other : List ℕ) (service : ServiceDef) → is_named name service ≡ true → bytes_eq other name ≡ false → is_named other service ≡ false
named_other name other service named apart =
    ap (λ (n : List ℕ). bytes_eq n other) (same_name service.name name named) ∙ names_swapped name other ∙ apart

pub none_set : (name : List ℕ) (slots : List (Option ServiceDef)) (place : ℕ) → is_only_at name slots place ≡ true → has_name name (slice_set slots place None) ≡ false
none_set name [] place only = cc
none_set name (slot ∷ slots) zero only = not-true (has_name name slots) (and_parts (holds name slot) (not (has_name name slots)) only).1
none_set name (None ∷ slots) (suc place) only = none_set name slots place only
none_set name (Some service ∷ slots) (suc place) only =
    let parts = and_parts (not (is_named name service)) (is_only_at name slots place) only in
    or_from (is_named name service) (has_name name (slice_set slots place None)) (not-true (is_named name service) parts.0) (none_set name slots place parts.1)

has_set : (name other : List ℕ) (slots : List (Option ServiceDef)) (place : ℕ) → is_only_at name slots place ≡ true → bytes_eq other name ≡ false
    → has_name other (slice_set slots place None) ≡ has_name other slots
has_set name other [] place only apart = cc
has_set name other (None ∷ slots) zero only apart = refl
has_set name other (Some service ∷ slots) zero only apart =
    let named = (and_parts (is_named name service) (not (has_name name slots)) only).0 in
    sym (ap (λ (b : Bool). b || has_name other slots) (named_other name other service named apart))
has_set name other (None ∷ slots) (suc place) only apart = has_set name other slots place only apart
has_set name other (Some service ∷ slots) (suc place) only apart =
    ap (λ (b : Bool). is_named other service || b)
    (has_set name other slots place (and_parts (not (is_named name service)) (is_only_at name slots place) only).1 apart)

only_set : (name other : List ℕ) (slots : List (Option ServiceDef)) (place at : ℕ) → is_only_at name slots place ≡ true → bytes_eq other name ≡ false
    → is_only_at other slots at ≡ true → is_only_at other (slice_set slots place None) at ≡ true
only_set name other [] place at only apart here = cc
only_set name other (None ∷ slots) zero at only apart here = cc
only_set name other (Some service ∷ slots) zero zero only apart here =
    let named = (and_parts (is_named name service) (not (has_name name slots)) only).0 in
    let also = (and_parts (is_named other service) (not (has_name other slots)) here).0 in
    absurd (false≢true (sym (named_other name other service named apart) ∙ also))
only_set name other (Some service ∷ slots) zero (suc at) only apart here = (and_parts (not (is_named other service)) (is_only_at other slots at) here).1
only_set name other (slot ∷ slots) (suc place) zero only apart here =
    let parts = and_parts (holds other slot) (not (has_name other slots)) here in
    and_from (holds other slot) (not (has_name other (slice_set slots place None))) parts.0
    (ap not (has_set name other slots place (and_parts (not (holds name slot)) (is_only_at name slots place) only).1 apart) ∙ parts.1)
only_set name other (slot ∷ slots) (suc place) (suc at) only apart here =
    let parts = and_parts (not (holds other slot)) (is_only_at other slots at) here in
    and_from (not (holds other slot)) (is_only_at other (slice_set slots place None) at) parts.0
    (only_set name other slots place at (and_parts (not (holds name slot)) (is_only_at name slots place) only).1 apart parts.1)

pub placed_set : (name other : List ℕ) (slots : List (Option ServiceDef)) (place : ℕ) (at : Option ℕ) → is_only_at name slots place ≡ true → bytes_eq other name ≡ false
    → is_placed other slots at ≡ true → is_placed other (slice_set slots place None) at ≡ true
placed_set name other slots place None only apart here = ap not (has_set name other slots place only apart) ∙ here
placed_set name other slots place (Some at) only apart here = only_set name other slots place at only apart here

front_overridden : (service other : ServiceDef) (rest : List ServiceDef) → is_named service.name other ≡ true → service.overrides ≡ true
    → not_overridden (service ∷ []) (other ∷ rest) ≡ not_overridden (service ∷ []) rest
front_overridden service other rest named overrides =
    cond-false _ _ _ (ap not (ap (λ (b : Bool). (b && service.overrides) || false) (names_swapped service.name other.name ∙ named)
    ∙ ap (λ (b : Bool). (true && b) || false) overrides))

front_stays : (service other : ServiceDef) (rest : List ServiceDef) → is_named service.name other ≡ false
    → not_overridden (service ∷ []) (other ∷ rest) ≡ other ∷ not_overridden (service ∷ []) rest
front_stays service other rest named =
    cond-true _ _ _ (ap not (ap (λ (b : Bool). (b && service.overrides) || false) (names_swapped service.name other.name ∙ named)))

standing_set : (service : ServiceDef) (slots : List (Option ServiceDef)) (place : ℕ) → is_only_at service.name slots place ≡ true → service.overrides ≡ true
    → standing (slice_set slots place None) ≡ not_overridden (service ∷ []) (standing slots)
standing_set service [] place only overrides = cc
standing_set service (None ∷ slots) zero only overrides = cc
standing_set service (Some other ∷ slots) zero only overrides =
    let parts = and_parts (is_named service.name other) (not (has_name service.name slots)) only in
    sym (front_overridden service other (standing slots) parts.0 overrides
    ∙ overridden_absent (standing slots) service (not-true (has_name service.name slots) parts.1))
standing_set service (None ∷ slots) (suc place) only overrides = standing_set service slots place only overrides
standing_set service (Some other ∷ slots) (suc place) only overrides =
    let parts = and_parts (not (is_named service.name other)) (is_only_at service.name slots place) only in
    ap (λ (u : List ServiceDef). other ∷ u) (standing_set service slots place parts.1 overrides)
    ∙ sym (front_stays service other (standing slots) (not-true (is_named service.name other) parts.0))

-- a service that isn't a second one, of a name that others have, overrides
must_override : (has overrides : Bool) → has ≡ true → (has && not overrides) ≡ false → overrides ≡ true
must_override true true h again = refl
must_override true false h again = cc
must_override false overrides h again = cc

-- ---- the slots without that of a name

pub vacated_none : (name : List ℕ) (slots : List (Option ServiceDef)) (place : Option ℕ) → place ≡ None → is_placed name slots place ≡ true → IsVacated name slots slots
vacated_none name slots place none placed =
    let absent : has_name name slots ≡ false = placed_has name slots place placed ∙ ap is_some none in
    record {
      none = absent;
      others = λ other at apart here. here;
      count = refl;
      stay = λ service named again. sym (overridden_absent (standing slots) service (ap (λ (n : List ℕ). has_name n slots) named ∙ absent));
    }

pub vacated_one : (name : List ℕ) (slots : List (Option ServiceDef)) (place : Option ℕ) (at : ℕ) → place ≡ Some at → is_placed name slots place ≡ true
    → IsVacated name slots (slice_set slots at None)
vacated_one name slots place at some placed =
    let only : is_only_at name slots at ≡ true = ap (λ (p : Option ℕ). is_placed name slots p) (sym some) ∙ placed in
    record {
      none = none_set name slots at only;
      others = λ other p apart here. placed_set name other slots at p only apart here;
      count = length-set slots at None;
      stay = λ service named again.
          let here : is_only_at service.name slots at ≡ true = ap (λ (n : List ℕ). is_only_at n slots at) named ∙ only in
          standing_set service slots at here (must_override (has_name service.name slots) service.overrides (only_has service.name slots at here) again);
    }

pub place_within : (name : List ℕ) (slots : List (Option ServiceDef)) (place : Option ℕ) (at : ℕ) → place ≡ Some at → is_placed name slots place ≡ true → at < length slots
place_within name slots place at some placed = only_within name slots at (ap (λ (p : Option ℕ). is_placed name slots p) (sym some) ∙ placed)

-- ---- a service at the end

last_placed : (name : List ℕ) (slots : List (Option ServiceDef)) (service : ServiceDef) → has_name name slots ≡ false → is_named name service ≡ true
    → is_only_at name (slots ++ Some service ∷ []) (length slots) ≡ true
last_placed name [] service none named = and_from (is_named name service) true named refl
last_placed name (None ∷ slots) service none named = last_placed name slots service none named
last_placed name (Some other ∷ slots) service none named =
    let parts = or_parts (is_named name other) (has_name name slots) none in
    and_from (not (is_named name other)) (is_only_at name (slots ++ Some service ∷ []) (length slots)) (not_from_false (is_named name other) parts.0)
    (last_placed name slots service parts.1 named)

has_more : (other : List ℕ) (slots : List (Option ServiceDef)) (service : ServiceDef) → is_named other service ≡ false
    → has_name other (slots ++ Some service ∷ []) ≡ has_name other slots
has_more other slots service isnt =
    has-append other slots (Some service ∷ []) ∙ ap (λ (b : Bool). has_name other slots || (b || false)) isnt ∙ or_none (has_name other slots)

only_more : (other : List ℕ) (slots : List (Option ServiceDef)) (service : ServiceDef) (at : ℕ) → is_named other service ≡ false
    → is_only_at other slots at ≡ true → is_only_at other (slots ++ Some service ∷ []) at ≡ true
only_more other [] service at isnt here = cc
only_more other (slot ∷ slots) service zero isnt here =
    let parts = and_parts (holds other slot) (not (has_name other slots)) here in
    and_from (holds other slot) (not (has_name other (slots ++ Some service ∷ []))) parts.0 (ap not (has_more other slots service isnt) ∙ parts.1)
only_more other (slot ∷ slots) service (suc at) isnt here =
    let parts = and_parts (not (holds other slot)) (is_only_at other slots at) here in
    and_from (not (holds other slot)) (is_only_at other (slots ++ Some service ∷ []) at) parts.0 (only_more other slots service at isnt parts.1)

placed_more : (other : List ℕ) (slots : List (Option ServiceDef)) (service : ServiceDef) (at : Option ℕ) → is_named other service ≡ false
    → is_placed other slots at ≡ true → is_placed other (slots ++ Some service ∷ []) at ≡ true
placed_more other slots service None isnt here = ap not (has_more other slots service isnt) ∙ here
placed_more other slots service (Some at) isnt here = only_more other slots service at isnt here

next_placed : (apart : Bool) (other : List ℕ) (slots : List (Option ServiceDef)) (service : ServiceDef) (at : Option ℕ) → bytes_eq other service.name ≡ apart
    → has_name service.name slots ≡ false → (bytes_eq other service.name ≡ false → is_placed other slots at ≡ true)
    → is_placed other (slots ++ Some service ∷ []) (if apart then Some (length slots) else at) ≡ true
next_placed true other slots service at is none here =
    let same = same_name other service.name is in
    last_placed other slots service (ap (λ (n : List ℕ). has_name n slots) same ∙ none) (ap (bytes_eq service.name) same ∙ name_itself service.name)
next_placed false other slots service at is none here =
    placed_more other slots service at (names_swapped service.name other ∙ is) (here is)

-- the index with the new name
pub all_placed : (old new : List (Option ServiceDef)) (service : ServiceDef) (place : ℕ) (places more : List ℕ → Option ℕ) → IsVacated service.name old new
    → place ≡ length old → ((name : List ℕ) → is_placed name old (places name) ≡ true)
    → ((other : List ℕ) → more other ≡ (if bytes_eq other service.name then Some place else places other))
    → (other : List ℕ) → is_placed other (new ++ Some service ∷ []) (more other) ≡ true
all_placed old new service place places more vacated end placed put other =
    ap (is_placed other (new ++ Some service ∷ [])) (put other ∙ ap (λ (p : ℕ). if bytes_eq other service.name then Some p else places other) (end ∙ sym vacated.count))
    ∙ next_placed (bytes_eq other service.name) other new service (places other) refl vacated.none (λ apart. vacated.others other (places other) apart (placed other))

-- the services with the new one
pub all_standing : (old new : List (Option ServiceDef)) (services : List ServiceDef) (service : ServiceDef) → IsVacated service.name old new
    → standing old ≡ services → is_again services service ≡ false → standing (new ++ Some service ∷ []) ≡ merged services (service ∷ [])
all_standing old new services service vacated are again =
    let old_again : is_again (standing old) service ≡ false = ap (λ (u : List ServiceDef). is_again u service) are ∙ again in
    flat_map-append option_to_list new (Some service ∷ [])
    ∙ ap (λ (u : List ServiceDef). u ++ service ∷ []) (vacated.stay service refl old_again ∙ ap (not_overridden (service ∷ [])) are)
    ∙ ap (λ (u : List ServiceDef). not_overridden (service ∷ []) services ++ u) (sym (kept_one services service again))
