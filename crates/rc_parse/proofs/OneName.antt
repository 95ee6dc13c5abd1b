-- Of the services of one name one stays: the last one with `override`, or else the first.
use Rattle.std.proofs.Common.{◌≡◌, ℕ, Bool, true, false, not, ◌&&◌, ◌||◌, cond, if◌then◌else◌, List, [], ◌∷◌, ◌++◌, refl, sym, ap, ◌∙◌}
use Rattle.std.proofs.Math.Bool.{or-true, or-false}
use Rattle.std.proofs.lemmas.Bool.{or_parts, false≢true}
use Rattle.std.proofs.lemmas.List.Folds.{list_any-append}
use Rattle.std.proofs.lemmas.Slice.Eq.{bytes_eq-Decides}
use Rattle.std.specs.List.{filter, list_any}
use Rattle.std.specs.Str.{bytes_eq}
use Rattle.init_machine.specs.declared.service.ServiceDef.{ServiceDef}
use Rattle.rc_parse.specs.Kept.{is_named, is_override_of, is_not_overridden, is_again, kept_behind, kept, chosen_behind, chosen}

abbrev pub overrides : ServiceDef → Bool
overrides service = service.overrides

-- `kept_behind` where all services have one name: `seen` says whether one was read before
abbrev pub kept_one : Bool → List ServiceDef → List ServiceDef
kept_one seen [] = []
kept_one seen (service ∷ later) =
    if not (seen && not service.overrides) && not (list_any overrides later)
    then service ∷ kept_one true later
    else kept_one true later

-- ---- one name

none_later : (services : List ServiceDef) → list_any overrides services ≡ false → kept_one true services ≡ []
none_later [] h = refl
none_later (service ∷ later) h =
    let parts = or_parts service.overrides (list_any overrides later) h in
    rw (parts.0) (none_later later parts.1)

stays_first : (first : ServiceDef) (services : List ServiceDef) → list_any overrides services ≡ false → chosen_behind first services ≡ first
stays_first first [] h = refl
stays_first first (service ∷ later) h =
    let parts = or_parts service.overrides (list_any overrides later) h in
    rw (parts.0) (stays_first first later parts.1)

last_override : (first : ServiceDef) (services : List ServiceDef) → list_any overrides services ≡ true → kept_one true services ≡ chosen_behind first services ∷ []
last_override first [] h = elim (false≢true h) [ ]
last_override first (service ∷ later) h =
    elim service.overrides as (λ v. (v || list_any overrides later) ≡ true
    → (if not (true && not v) && not (list_any overrides later) then service ∷ kept_one true later else kept_one true later)
    ≡ (if v then chosen_behind service later else chosen_behind first later) ∷ []) [
      | true ↦ λ _. elim (list_any overrides later) as (λ w. list_any overrides later ≡ w
          → (if not w then service ∷ kept_one true later else kept_one true later) ≡ chosen_behind service later ∷ []) [
            | true ↦ λ e. last_override service later e
            | false ↦ λ e. rw (none_later later e, stays_first service later e) refl
          ] refl
      | false ↦ λ e. last_override first later e
    ] h

kept_one_is_chosen : (services : List ServiceDef) → kept_one false services ≡ chosen services
kept_one_is_chosen [] = refl
kept_one_is_chosen (service ∷ later) =
    elim (list_any overrides later) as (λ w. list_any overrides later ≡ w
    → (if not w then service ∷ kept_one true later else kept_one true later) ≡ chosen_behind service later ∷ []) [
      | true ↦ λ e. last_override service later e
      | false ↦ λ e. rw (none_later later e, stays_first service later e) refl
    ] refl

-- ---- the services of one name among others

same_name : (x y : List ℕ) → bytes_eq x y ≡ true → x ≡ y
same_name x y e = (bytes_eq-Decides x y).0 e

overrides_of : (name : List ℕ) (services : List ServiceDef) → list_any (is_override_of name) services ≡ list_any overrides (filter (is_named name) services)
overrides_of name [] = refl
overrides_of name (service ∷ later) =
    elim (is_named name service) as (λ v. ((v && service.overrides) || list_any (is_override_of name) later)
    ≡ list_any overrides (cond v (service ∷ filter (is_named name) later) (filter (is_named name) later))) [
      | true ↦ ap (λ (b : Bool). service.overrides || b) (overrides_of name later)
      | false ↦ overrides_of name later
    ]

-- a service of the name in front of those that stay
named : (name : List ℕ) (service : ServiceDef) (seen last : Bool) (stay rest : List ServiceDef) → is_named name service ≡ true
    → filter (is_named name) stay ≡ kept_one true rest → last ≡ not (list_any overrides rest)
    → filter (is_named name) (if not (seen && not service.overrides) && last then service ∷ stay else stay) ≡ kept_one seen (service ∷ rest)
named name service seen last stay rest is same is_last =
    rw is_last (elim (not (seen && not service.overrides) && not (list_any overrides rest)) as (λ v.
    filter (is_named name) (if v then service ∷ stay else stay) ≡ (if v then service ∷ kept_one true rest else kept_one true rest)) [
      | true ↦ rw is (ap (λ (u : List ServiceDef). service ∷ u) same)
      | false ↦ same
    ])

-- a service of another name
other_name : (name : List ℕ) (service : ServiceDef) (stays : Bool) (stay : List ServiceDef) → is_named name service ≡ false
    → filter (is_named name) (if stays then service ∷ stay else stay) ≡ filter (is_named name) stay
other_name name service true stay isnt = rw isnt refl
other_name name service false stay isnt = refl

pub kept_of_name : (name : List ℕ) (before services : List ServiceDef)
    → filter (is_named name) (kept_behind before services) ≡ kept_one (list_any (is_named name) before) (filter (is_named name) services)
kept_of_name name before [] = refl
kept_of_name name before (service ∷ later) =
    let F : List ServiceDef = filter (is_named name) later in
    let K : List ServiceDef = kept_behind (before ++ service ∷ []) later in
    let seen : Bool = list_any (is_named name) before in
    let rest : filter (is_named name) K ≡ kept_one (list_any (is_named name) (before ++ service ∷ [])) F = kept_of_name name (before ++ service ∷ []) later in
    let more : list_any (is_named name) (before ++ service ∷ []) ≡ (seen || (is_named name service || false)) = list_any-append (is_named name) before (service ∷ []) in
    elim (is_named name service) as (λ v. is_named name service ≡ v
    → filter (is_named name) (kept_behind before (service ∷ later)) ≡ kept_one seen (cond v (service ∷ F) F)) [
      | true ↦ λ e.
          let is : service.name ≡ name = same_name service.name name e in
          let last : is_not_overridden later service ≡ not (list_any overrides F) =
          ap (λ (n : List ℕ). not (list_any (is_override_of n) later)) is ∙ ap not (overrides_of name later) in
          let now : list_any (is_named name) (before ++ service ∷ []) ≡ true = more ∙ ap (λ (b : Bool). seen || (b || false)) e ∙ or-true seen in
          ap (λ (n : List ℕ). filter (is_named name) (if not (list_any (is_named n) before && not service.overrides) && is_not_overridden later service then service ∷ K else K)) is
          ∙ named name service seen (is_not_overridden later service) K F e (rest ∙ ap (λ (b : Bool). kept_one b F) now) last
      | false ↦ λ e.
          let now : list_any (is_named name) (before ++ service ∷ []) ≡ seen = more ∙ ap (λ (b : Bool). seen || (b || false)) e ∙ or-false seen in
          other_name name service (not (is_again before service) && is_not_overridden later service) K e
          ∙ rest ∙ ap (λ (b : Bool). kept_one b F) now
    ] refl

-- of each name one service stays
pub one_of_a_name : (services : List ServiceDef) (name : List ℕ) → filter (is_named name) (kept services) ≡ chosen (filter (is_named name) services)
one_of_a_name services name = kept_of_name name [] services ∙ kept_one_is_chosen (filter (is_named name) services)

-- ---- the names of the services that stay

abbrev has_any : List ServiceDef → Bool
has_any [] = false
has_any (service ∷ later) = true

any_is : (test : ServiceDef → Bool) (services : List ServiceDef) → list_any test services ≡ has_any (filter test services)
any_is test [] = refl
any_is test (service ∷ later) =
    elim (test service) as (λ v. (v || list_any test later) ≡ has_any (cond v (service ∷ filter test later) (filter test later))) [
      | true ↦ refl
      | false ↦ any_is test later
    ]

any_chosen : (services : List ServiceDef) → has_any (chosen services) ≡ has_any services
any_chosen [] = refl
any_chosen (service ∷ later) = refl

pub names_stay : (services : List ServiceDef) (name : List ℕ) → list_any (is_named name) (kept services) ≡ list_any (is_named name) services
names_stay services name =
    any_is (is_named name) (kept services)
    ∙ ap has_any (one_of_a_name services name)
    ∙ any_chosen (filter (is_named name) services)
    ∙ sym (any_is (is_named name) services)
