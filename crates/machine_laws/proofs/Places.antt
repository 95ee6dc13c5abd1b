-- Services by their names, and marks by their places.
use Rattle.std.proofs.Common.{◌≡◌, ◌≢◌, ℕ, zero, suc, ◌+◌, ◌<◌, true, false, not, cond, List, [], ◌∷◌, length, map, slice_get, slice_set, slice_index_or, Some, codes, refl, sym, ap, ◌∙◌, arith, subst}
use Rattle.std.proofs.lemmas.Bool.{false≢true}
use Rattle.std.proofs.lemmas.Iterator.Adapters.{position_from-zero}
use Rattle.std.proofs.lemmas.Slice.Eq.{bytes_eq-Decides}
use Rattle.std.specs.List.{AllByRecursion, list_any, position_from}
use Rattle.std.specs.Str.{bytes_eq}
use Rattle.init_base.specs.Name.{is_legal_name}
use Rattle.init_machine.specs.Marks.{first_marks}
use Rattle.init_machine.specs.Services.{place_of, service_at}
use Rattle.init_machine.specs.State.{Rules}
use Rattle.init_machine.specs.WellFormed.{are_distinct}
use Rattle.init_machine.specs.declared.service.Marks.{Marks}
use Rattle.init_machine.specs.declared.service.ServiceDef.{ServiceDef}
use Rattle.machine_laws.proofs.Options.{same_value}
use Rattle.machine_laws.proofs.Tests.{left_holds, right_holds, fails_not, neither_first, neither_second}

-- the names of the services are legal, and no two are the same
pub record AreNamed (rules : Rules) : Type 0 where
  pub distinct : are_distinct (map (λ (s : ServiceDef). s.name) rules.services) ≡ true
  pub legal : AllByRecursion (λ (s : ServiceDef). is_legal_name s.name ≡ true) rules.services

-- the service at a place
record Placed (services : List ServiceDef) (name : List ℕ) (first at : ℕ) : Type 0 where
  place : ℕ
  is : at ≡ first + place
  service : ServiceDef
  there : slice_get services place ≡ Some service
  named : service.name ≡ name

place_further : (services : List ServiceDef) (x : ServiceDef) (name : List ℕ) (first at : ℕ) → Placed services name (first + 1) at → Placed (x ∷ services) name first at
place_further services x name first at found =
    record { place = suc found.place; is = omega (arith, found.is); service = found.service; there = found.there; named = found.named }

from_place : (services : List ServiceDef) (name : List ℕ) (first at : ℕ) → position_from (λ (s : ServiceDef). bytes_eq s.name name) first services ≡ Some at
    → Placed services name first at
from_place [] name first at is = absurd (cc)
from_place (x ∷ services) name first at is =
    elim (bytes_eq x.name name) as (λ b. bytes_eq x.name name ≡ b → cond b (Some first) (position_from (λ (s : ServiceDef). bytes_eq s.name name) (first + 1) services) ≡ Some at
    → Placed (x ∷ services) name first at) [
      | true ↦ λ same here.
          let e : first ≡ at = same_value first at here in
          record { place = 0; is = omega (arith, e); service = x; there = refl; named = (bytes_eq-Decides x.name name).0 same }
      | false ↦ λ differ later. place_further services x name first at (from_place services name (first + 1) at later)
    ] refl is

-- a service of a name, by the name's place
pub record Found (rules : Rules) (name : List ℕ) (at : ℕ) : Type 0 where
  pub service : ServiceDef
  pub there : service_at rules at ≡ Some service
  pub named : service.name ≡ name

pub service_of_place : (rules : Rules) (name : List ℕ) (at : ℕ) → place_of rules name ≡ Some at → Found rules name at
service_of_place rules name at is =
    let found = from_place rules.services name 0 at (sym (position_from-zero (λ (s : ServiceDef). bytes_eq s.name name) rules.services) ∙ is) in
    let e : at ≡ found.place = omega (arith, found.is) in
    record { service = found.service; there = ap (slice_get rules.services) e ∙ found.there; named = found.named }

same_text : (a : List ℕ) → bytes_eq a a ≡ true
same_text a = (bytes_eq-Decides a a).1 refl

turned : (a b : List ℕ) → bytes_eq a b ≡ false → bytes_eq b a ≡ false
turned a b differ =
    elim (bytes_eq b a) as (λ c. bytes_eq b a ≡ c → c ≡ false) [
      | true ↦ λ same. absurd (false≢true (sym differ ∙ (bytes_eq-Decides a b).1 (sym ((bytes_eq-Decides b a).0 same))))
      | false ↦ λ other. refl
    ] refl

other_name : (services : List ServiceDef) (x service : ServiceDef) (at : ℕ) → list_any (λ (other : List ℕ). bytes_eq other x.name) (map (λ (s : ServiceDef). s.name) services) ≡ false
    → slice_get services at ≡ Some service → bytes_eq x.name service.name ≡ false
other_name [] x service at none there = absurd (cc)
other_name (y ∷ services) x service zero none there =
    let e : y ≡ service = same_value y service there in
    let first = neither_first (bytes_eq y.name x.name) (list_any (λ (other : List ℕ). bytes_eq other x.name) (map (λ (s : ServiceDef). s.name) services)) none in
    turned service.name x.name (subst (λ (s : ServiceDef). bytes_eq s.name x.name ≡ false) e first)
other_name (y ∷ services) x service (suc at) none there =
    other_name services x service at
    (neither_second (bytes_eq y.name x.name) (list_any (λ (other : List ℕ). bytes_eq other x.name) (map (λ (s : ServiceDef). s.name) services)) none) there

place_from : (services : List ServiceDef) (service : ServiceDef) (first at : ℕ) → are_distinct (map (λ (s : ServiceDef). s.name) services) ≡ true
    → slice_get services at ≡ Some service → position_from (λ (s : ServiceDef). bytes_eq s.name service.name) first services ≡ Some (first + at)
place_from [] service first at distinct there = absurd (cc)
place_from (x ∷ services) service first zero distinct there =
    let e : x ≡ service = same_value x service there in
    let here : bytes_eq x.name service.name ≡ true = ap (λ (s : ServiceDef). bytes_eq s.name service.name) e ∙ same_text service.name in
    let at : first + 0 ≡ first = omega arith in
    rw (here, at) refl
place_from (x ∷ services) service first (suc at) distinct there =
    let others = map (λ (s : ServiceDef). s.name) services in
    let none = fails_not (list_any (λ (other : List ℕ). bytes_eq other x.name) others)
    (left_holds (not (list_any (λ (other : List ℕ). bytes_eq other x.name) others)) (are_distinct others) distinct) in
    let differ : bytes_eq x.name service.name ≡ false = other_name services x service at none there in
    let later = place_from services service (first + 1) at
    (right_holds (not (list_any (λ (other : List ℕ). bytes_eq other x.name) others)) (are_distinct others) distinct) there in
    let e : (first + 1) + at ≡ first + suc at = omega arith in
    rw differ (later ∙ ap (λ n. Some n) e)

-- a service is found by its name
pub place_of_service : (rules : Rules) (service : ServiceDef) (at : ℕ) → AreNamed rules → service_at rules at ≡ Some service → place_of rules service.name ≡ Some at
place_of_service rules service at named there =
    let e : 0 + at ≡ at = omega arith in
    position_from-zero (λ (s : ServiceDef). bytes_eq s.name service.name) rules.services
    ∙ place_from rules.services service 0 at named.distinct there ∙ ap (λ n. Some n) e

legal_at : (services : List ServiceDef) (at : ℕ) (service : ServiceDef) → AllByRecursion (λ (s : ServiceDef). is_legal_name s.name ≡ true) services
    → slice_get services at ≡ Some service → is_legal_name service.name ≡ true
legal_at [] at service legal there = absurd (cc)
legal_at (x ∷ services) zero service legal there = (let e : x ≡ service = same_value x service there in subst (λ (s : ServiceDef). is_legal_name s.name ≡ true) e legal.0)
legal_at (x ∷ services) (suc at) service legal there = legal_at services at service legal.1 there

-- no service has the name of what `exec` runs
pub no_service_is_exec : (rules : Rules) (at : ℕ) → AreNamed rules → place_of rules (codes "*exec") ≡ Some at → ⊥
no_service_is_exec rules at named is =
    let found = service_of_place rules (codes "*exec") at is in
    let legal : is_legal_name (codes "*exec") ≡ true =
    subst (λ name. is_legal_name name ≡ true) found.named (legal_at rules.services at found.service named.legal found.there) in
    absurd (false≢true legal)

-- Marks by their places.

abbrev pub marks_in : List Marks → ℕ → Marks
marks_in marks at = slice_index_or marks at (first_marks false false)

-- where other marks were put
pub marks_put : (marks : List Marks) (at other : ℕ) (m : Marks) → at ≢ other → marks_in (slice_set marks at m) other ≡ marks_in marks other
marks_put [] at other m differ = refl
marks_put (x ∷ marks) zero zero m differ = absurd (differ refl)
marks_put (x ∷ marks) zero (suc other) m differ = refl
marks_put (x ∷ marks) (suc at) zero m differ = refl
marks_put (x ∷ marks) (suc at) (suc other) m differ = marks_put marks at other m (λ same. differ (ap suc same))

pub marks_there : (marks : List Marks) (at : ℕ) (m : Marks) → at < length marks → marks_in (slice_set marks at m) at ≡ m
marks_there [] at m within = absurd (omega arith)
marks_there (x ∷ marks) zero m within = refl
marks_there (x ∷ marks) (suc at) m within = marks_there marks at m (omega arith)

pub marks_length : (marks : List Marks) (at : ℕ) (m : Marks) → length (slice_set marks at m) ≡ length marks
marks_length [] at m = refl
marks_length (x ∷ marks) zero m = refl
marks_length (x ∷ marks) (suc at) m = ap suc (marks_length marks at m)

pub within_services : (services : List ServiceDef) (at : ℕ) (service : ServiceDef) → slice_get services at ≡ Some service → at < length services
within_services [] at service there = absurd (cc)
within_services (x ∷ services) zero service there = omega arith
within_services (x ∷ services) (suc at) service there = (let less = within_services services at service there in omega (arith, less))
