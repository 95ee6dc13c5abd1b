-- Services that are read one by one behind others.
use Rattle.std.proofs.Common.{◌≡◌, ℕ, Bool, true, false, not, ◌&&◌, ◌||◌, cond, if◌then◌else◌, List, [], ◌∷◌, ◌++◌, refl, sym, ap, ◌∙◌, append_assoc}
use Rattle.std.proofs.Math.Bool.{or-true}
use Rattle.std.proofs.lemmas.List.{append-nil}
use Rattle.std.proofs.lemmas.List.Folds.{list_any-append}
use Rattle.std.proofs.lemmas.Slice.Eq.{bytes_eq-Decides}
use Rattle.std.specs.List.{filter, list_any}
use Rattle.std.specs.Str.{bytes_eq}
use Rattle.init_machine.specs.declared.diagnostic.DiagKind.TheVariants.{ServiceAgain}
use Rattle.init_machine.specs.declared.diagnostic.Diagnostic.{Diagnostic}
use Rattle.init_machine.specs.declared.service.ServiceDef.{ServiceDef}
use Rattle.rc_parse.specs.Readings.{diagnostic}
use Rattle.rc_parse.specs.Kept.{is_named, is_override_of, is_not_overridden, is_again, kept_behind, not_overridden, merged, agains_behind}
use Rattle.rc_parse.proofs.Slots.{again_alone, kept_one}
use Rattle.rc_parse.proofs.Together.{SameNames, kept_by_names, agains_by_names}

-- ---- names

or_none : (b : Bool) → (b || false) ≡ b
or_none true = refl
or_none false = refl

name_kept : (named overrides : Bool) (name : List ℕ) (other : ServiceDef) (rest : List ServiceDef) → (named ≡ true → is_named name other ≡ false)
    → list_any (is_named name) (cond (not ((named && overrides) || false)) (other ∷ rest) rest) ≡ (is_named name other || list_any (is_named name) rest)
name_kept true true name other rest apart = sym (ap (λ (b : Bool). b || list_any (is_named name) rest) (apart refl))
name_kept true false name other rest apart = refl
name_kept false overrides name other rest apart = refl

names_kept : (name : List ℕ) (services : List ServiceDef) (service : ServiceDef) → is_named name service ≡ false
    → list_any (is_named name) (not_overridden (service ∷ []) services) ≡ list_any (is_named name) services
names_kept name [] service isnt = refl
names_kept name (other ∷ services) service isnt =
    name_kept (bytes_eq service.name other.name) service.overrides name other (not_overridden (service ∷ []) services)
    (λ same. ap (λ (n : List ℕ). bytes_eq n name) (sym ((bytes_eq-Decides service.name other.name).0 same)) ∙ isnt)
    ∙ ap (λ (b : Bool). is_named name other || b) (names_kept name services service isnt)

-- the name of the service, or another one
either_name : (is : Bool) (name : List ℕ) (services : List ServiceDef) (service : ServiceDef) → is_named name service ≡ is
    → list_any (is_named name) (not_overridden (service ∷ []) services ++ service ∷ []) ≡ list_any (is_named name) (services ++ service ∷ [])
either_name true name services service is =
    list_any-append (is_named name) (not_overridden (service ∷ []) services) (service ∷ [])
    ∙ ap (λ (b : Bool). list_any (is_named name) (not_overridden (service ∷ []) services) || (b || false)) is
    ∙ or-true (list_any (is_named name) (not_overridden (service ∷ []) services))
    ∙ sym (list_any-append (is_named name) services (service ∷ [])
    ∙ ap (λ (b : Bool). list_any (is_named name) services || (b || false)) is ∙ or-true (list_any (is_named name) services))
either_name false name services service isnt =
    list_any-append (is_named name) (not_overridden (service ∷ []) services) (service ∷ [])
    ∙ ap (λ (b : Bool). b || (is_named name service || false)) (names_kept name services service isnt)
    ∙ sym (list_any-append (is_named name) services (service ∷ []))

again_name : (is : Bool) (name : List ℕ) (services : List ServiceDef) (service : ServiceDef) → is_named name service ≡ is
    → list_any (is_named service.name) services ≡ true → list_any (is_named name) services ≡ list_any (is_named name) (services ++ service ∷ [])
again_name true name services service is has =
    ap (λ (n : List ℕ). list_any (is_named n) services) (sym ((bytes_eq-Decides service.name name).0 is)) ∙ has
    ∙ sym (list_any-append (is_named name) services (service ∷ [])
    ∙ ap (λ (b : Bool). list_any (is_named name) services || (b || false)) is ∙ or-true (list_any (is_named name) services))
again_name false name services service isnt has =
    sym (list_any-append (is_named name) services (service ∷ [])
    ∙ ap (λ (b : Bool). list_any (is_named name) services || (b || false)) isnt ∙ or_none (list_any (is_named name) services))

front_true : (a b : Bool) → (a && b) ≡ true → a ≡ true
front_true true b both = refl
front_true false b both = cc

merged_names : (again : Bool) (services : List ServiceDef) (service : ServiceDef) → is_again services service ≡ again
    → SameNames (merged services (service ∷ [])) (services ++ service ∷ [])
merged_names true services service again name =
    ap (list_any (is_named name)) (sym (again_alone services service again))
    ∙ again_name (is_named name service) name services service refl (front_true (list_any (is_named service.name) services) (not service.overrides) again)
merged_names false services service again name =
    ap (λ (u : List ServiceDef). list_any (is_named name) (not_overridden (service ∷ []) services ++ u)) (kept_one services service again)
    ∙ either_name (is_named name service) name services service refl

-- ---- one by one

filtered_twice : (first second : Bool) (service : ServiceDef) (more : List ServiceDef) (test : ServiceDef → Bool) → test service ≡ not second
    → cond (not (first || second)) (service ∷ filter test more) (filter test more) ≡ filter test (cond (not (first || false)) (service ∷ more) more)
filtered_twice true second service more test is = refl
filtered_twice false second service more test is = sym (ap (λ (b : Bool). cond b (service ∷ filter test more) (filter test more)) is)

overridden_more : (service : ServiceDef) (later services : List ServiceDef)
    → not_overridden (service ∷ later) services ≡ not_overridden later (not_overridden (service ∷ []) services)
overridden_more service later [] = refl
overridden_more service later (other ∷ services) =
    ap (λ (u : List ServiceDef). cond (is_not_overridden (service ∷ later) other) (other ∷ u) u) (overridden_more service later services)
    ∙ filtered_twice (is_override_of other.name service) (list_any (is_override_of other.name) later) other (not_overridden (service ∷ []) services) (is_not_overridden later) refl

in_front : (stays : Bool) (service : ServiceDef) (some others : List ServiceDef)
    → cond stays (service ∷ (some ++ others)) (some ++ others) ≡ cond stays (service ∷ some) some ++ others
in_front true service some others = refl
in_front false service some others = refl

overridden-append : (later one other : List ServiceDef) → not_overridden later (one ++ other) ≡ not_overridden later one ++ not_overridden later other
overridden-append later [] other = refl
overridden-append later (service ∷ one) other =
    ap (λ (u : List ServiceDef). cond (is_not_overridden later service) (service ∷ u) u) (overridden-append later one other)
    ∙ in_front (is_not_overridden later service) service (not_overridden later one) (not_overridden later other)

first_kept : (again stays : Bool) (service : ServiceDef) (later rest : List ServiceDef) → is_not_overridden later service ≡ stays
    → not_overridden later (if not again && true then service ∷ [] else []) ++ rest ≡ (if not again && stays then service ∷ rest else rest)
first_kept true stays service later rest is = refl
first_kept false true service later rest is = ap (λ (b : Bool). cond b (service ∷ []) [] ++ rest) is
first_kept false false service later rest is = ap (λ (b : Bool). cond b (service ∷ []) [] ++ rest) is

pub merged_more : (services later : List ServiceDef) (service : ServiceDef) → merged services (service ∷ later) ≡ merged (merged services (service ∷ [])) later
merged_more services later service =
    let stay = not_overridden (service ∷ []) services in
    let one = kept_behind services (service ∷ []) in
    let rest : List ServiceDef = kept_behind (services ++ service ∷ []) later in
    let same : kept_behind (merged services (service ∷ [])) later ≡ rest =
    kept_by_names (merged services (service ∷ [])) (services ++ service ∷ []) later (merged_names (is_again services service) services service refl) in
    ap (λ (u : List ServiceDef). u ++ kept_behind services (service ∷ later)) (overridden_more service later services)
    ∙ ap (λ (u : List ServiceDef). not_overridden later stay ++ u) (sym (first_kept (is_again services service) (is_not_overridden later service) service later rest refl))
    ∙ sym (append_assoc (not_overridden later stay) (not_overridden later one) rest)
    ∙ ap (λ (u : List ServiceDef). u ++ rest) (sym (overridden-append later stay one))
    ∙ ap (λ (u : List ServiceDef). not_overridden later (stay ++ one) ++ u) (sym same)

told_first : (again : Bool) (told : Diagnostic) (rest : List Diagnostic) → (if again then told ∷ rest else rest) ≡ (if again then told ∷ [] else []) ++ rest
told_first true told rest = refl
told_first false told rest = refl

pub agains_more : (services later : List ServiceDef) (service : ServiceDef)
    → agains_behind services (service ∷ later) ≡ agains_behind services (service ∷ []) ++ agains_behind (merged services (service ∷ [])) later
agains_more services later service =
    told_first (is_again services service) (diagnostic service.file service.line ServiceAgain) (agains_behind (services ++ service ∷ []) later)
    ∙ ap (λ (u : List Diagnostic). agains_behind services (service ∷ []) ++ u)
    (sym (agains_by_names (merged services (service ∷ [])) (services ++ service ∷ []) later (merged_names (is_again services service) services service refl)))

none_overridden : (services : List ServiceDef) → not_overridden [] services ≡ services
none_overridden [] = refl
none_overridden (service ∷ services) = ap (λ (u : List ServiceDef). service ∷ u) (none_overridden services)

pub merged_none : (services : List ServiceDef) → merged services [] ≡ services
merged_none services = append-nil (not_overridden [] services) ∙ none_overridden services

-- ---- the loop

-- one turn
pub one_merged : (all next left behind start parsed : List ServiceDef) (service : ServiceDef) (told after first : List Diagnostic)
    → left ≡ service ∷ behind → next ≡ merged all (service ∷ []) → after ≡ told ++ agains_behind all (service ∷ [])
    → merged all left ≡ merged start parsed → told ++ agains_behind all left ≡ first
    → (merged next behind ≡ merged start parsed) × (after ++ agains_behind next behind ≡ first)
one_merged all next left behind start parsed service told after first front next_is after_is services agains = (
  ap (λ (u : List ServiceDef). merged u behind) next_is ∙ sym (merged_more all behind service) ∙ sym (ap (merged all) front) ∙ services,
  ap (λ (u : List Diagnostic). u ++ agains_behind next behind) after_is
      ∙ append_assoc told (agains_behind all (service ∷ [])) (agains_behind next behind)
      ∙ ap (λ (u : List ServiceDef). told ++ (agains_behind all (service ∷ []) ++ agains_behind u behind)) next_is
      ∙ sym (ap (λ (u : List Diagnostic). told ++ u) (agains_more all behind service))
      ∙ sym (ap (λ (u : List ServiceDef). told ++ agains_behind all u) front) ∙ agains,
)

-- the end
pub all_merged : (all left start parsed : List ServiceDef) (told first : List Diagnostic) → left ≡ []
    → merged all left ≡ merged start parsed → told ++ agains_behind all left ≡ first → (all ≡ merged start parsed) × (told ≡ first)
all_merged all left start parsed told first none services agains = (
  sym (merged_none all) ∙ sym (ap (merged all) none) ∙ services,
  sym (append-nil told) ∙ sym (ap (λ (u : List ServiceDef). told ++ agains_behind all u) none) ∙ agains,
)
