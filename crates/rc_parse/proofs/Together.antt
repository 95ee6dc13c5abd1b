-- Files put together one after another leave what all services that were read leave.
use Rattle.std.proofs.Common.{◌≡◌, ℕ, Bool, true, false, not, ◌&&◌, ◌||◌, if◌then◌else◌, List, [], ◌∷◌, ◌++◌, refl, sym, ap, ◌∙◌, append_assoc}
use Rattle.std.proofs.lemmas.List.{append-nil}
use Rattle.std.proofs.lemmas.List.Folds.{list_any-append}
use Rattle.std.specs.List.{filter, list_any}
use Rattle.init_machine.specs.declared.diagnostic.Diagnostic.{Diagnostic}
use Rattle.init_machine.specs.declared.diagnostic.DiagKind.TheVariants.{ServiceAgain}
use Rattle.init_machine.specs.declared.service.ServiceDef.{ServiceDef}
use Rattle.rc_parse.specs.Readings.{diagnostic}
use Rattle.rc_parse.specs.Kept.{Kept, is_named, is_override_of, is_not_overridden, is_again, kept_behind, kept, not_overridden, merged, agains_behind}
use Rattle.rc_parse.proofs.OneName.{one_of_a_name, names_stay}

-- two lists of services with the same names
abbrev pub SameNames : List ServiceDef → List ServiceDef → Type 0
SameNames some others = (name : List ℕ) → list_any (is_named name) some ≡ list_any (is_named name) others

one_more : (some others : List ServiceDef) (service : ServiceDef) → SameNames some others → SameNames (some ++ service ∷ []) (others ++ service ∷ [])
one_more some others service same name =
    list_any-append (is_named name) some (service ∷ [])
    ∙ ap (λ (b : Bool). b || (is_named name service || false)) (same name)
    ∙ sym (list_any-append (is_named name) others (service ∷ []))

-- what stays behind others depends on their names alone
pub kept_by_names : (some others services : List ServiceDef) → SameNames some others → kept_behind some services ≡ kept_behind others services
kept_by_names some others [] same = refl
kept_by_names some others (service ∷ later) same =
    ap (λ (b : Bool). if not (b && not service.overrides) && is_not_overridden later service
    then service ∷ kept_behind (some ++ service ∷ []) later
    else kept_behind (some ++ service ∷ []) later) (same service.name)
    ∙ ap (λ (u : List ServiceDef). if not (is_again others service) && is_not_overridden later service then service ∷ u else u)
    (kept_by_names (some ++ service ∷ []) (others ++ service ∷ []) later (one_more some others service same))

pub agains_by_names : (some others services : List ServiceDef) → SameNames some others → agains_behind some services ≡ agains_behind others services
agains_by_names some others [] same = refl
agains_by_names some others (service ∷ later) same =
    ap (λ (b : Bool). if b && not service.overrides
    then diagnostic service.file service.line ServiceAgain ∷ agains_behind (some ++ service ∷ []) later
    else agains_behind (some ++ service ∷ []) later) (same service.name)
    ∙ ap (λ (u : List Diagnostic). if is_again others service then diagnostic service.file service.line ServiceAgain ∷ u else u)
    (agains_by_names (some ++ service ∷ []) (others ++ service ∷ []) later (one_more some others service same))

-- ---- services read behind others

parted : (first second third : Bool) → (first && not (second || third)) ≡ ((first && not second) && not third)
parted true true third = refl
parted true false third = refl
parted false second third = refl

not_overridden_cons : (later stay : List ServiceDef) (service : ServiceDef) (stays : Bool)
    → (if stays && is_not_overridden later service then service ∷ not_overridden later stay else not_overridden later stay)
    ≡ not_overridden later (if stays then service ∷ stay else stay)
not_overridden_cons later stay service true = refl
not_overridden_cons later stay service false = refl

in_front : (stays : Bool) (service : ServiceDef) (some others : List ServiceDef)
    → (if stays then service ∷ (some ++ others) else some ++ others) ≡ (if stays then service ∷ some else some) ++ others
in_front true service some others = refl
in_front false service some others = refl

kept-append : (before services later : List ServiceDef)
    → kept_behind before (services ++ later) ≡ not_overridden later (kept_behind before services) ++ kept_behind (before ++ services) later
kept-append before [] later = ap (λ (u : List ServiceDef). kept_behind u later) (sym (append-nil before))
kept-append before (service ∷ services) later =
    let more : List ServiceDef = before ++ service ∷ [] in
    let first : Bool = not (is_again before service) in
    let stays : Bool = first && is_not_overridden services service in
    let last : List ServiceDef = kept_behind (before ++ service ∷ services) later in
    let rest : kept_behind more (services ++ later) ≡ not_overridden later (kept_behind more services) ++ last =
    kept-append more services later ∙ ap (λ (u : List ServiceDef). not_overridden later (kept_behind more services) ++ kept_behind u later) (append_assoc before (service ∷ []) services) in
    let test : (first && is_not_overridden (services ++ later) service) ≡ (stays && is_not_overridden later service) =
    ap (λ (b : Bool). first && not b) (list_any-append (is_override_of service.name) services later)
    ∙ parted first (list_any (is_override_of service.name) services) (list_any (is_override_of service.name) later) in
    ap (λ (b : Bool). if b then service ∷ kept_behind more (services ++ later) else kept_behind more (services ++ later)) test
    ∙ ap (λ (u : List ServiceDef). if stays && is_not_overridden later service then service ∷ u else u) rest
    ∙ in_front (stays && is_not_overridden later service) service (not_overridden later (kept_behind more services)) last
    ∙ ap (λ (u : List ServiceDef). u ++ last) (not_overridden_cons later (kept_behind more services) service stays)

-- ---- files

pub merged-kept : (read later : List ServiceDef) → merged (kept read) later ≡ kept (read ++ later)
merged-kept read later =
    ap (λ (u : List ServiceDef). not_overridden later (kept read) ++ u) (kept_by_names (kept read) read later (names_stay read))
    ∙ sym (kept-append [] read later)

-- the services after a file are those that stay of all that were read
pub all_kept : (before after later read : List ServiceDef) → after ≡ merged before later → before ≡ kept read → Kept (read ++ later) after
all_kept before after later read is all =
    let are : after ≡ kept (read ++ later) = is ∙ ap (λ (u : List ServiceDef). merged u later) all ∙ merged-kept read later in
    record {
      kept_are = are;
      one_of_a_name = λ name. ap (λ (u : List ServiceDef). filter (is_named name) u) are ∙ one_of_a_name (read ++ later) name;
    }

pub all_agains : (before later read : List ServiceDef) (diagnostics : List Diagnostic)
    → diagnostics ≡ agains_behind before later → before ≡ kept read → diagnostics ≡ agains_behind read later
all_agains before later read diagnostics is all =
    is ∙ ap (λ (u : List ServiceDef). agains_behind u later) all ∙ agains_by_names (kept read) read later (names_stay read)

pub kept_is_kept : (read : List ServiceDef) → Kept read (kept read)
kept_is_kept read = record { kept_are = refl; one_of_a_name = one_of_a_name read }
