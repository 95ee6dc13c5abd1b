-- What is found of classes when places are added.
use Rattle.std.proofs.Common.{◌≡◌, ℕ, zero, suc, ◌+◌, ◌-◌, ◌<◌, ◌≤◌, Bool, true, false, cond, ◌||◌, ◌==◌, eqb, nat_lt, List, [], ◌∷◌, ◌++◌, length, get_or, drop, Option, Some, None, refl, sym, ap, subst, ◌∙◌, arith, append_assoc, length-append, true≢false, if◌then◌else◌}
use Rattle.std.proofs.lemmas.Grind.{common_steps}
use Rattle.std.proofs.lemmas.List.{at_drop_more, get_or_past, get_or_read, get_or-set_same, get_or-set_other}
use Rattle.std.proofs.lemmas.List.Folds.{position_or_len_push}
use Rattle.std.proofs.lemmas.List.Quantifiers.{position-Some}
use Rattle.std.proofs.lemmas.Option.{unwrap_or-slice_get}
use Rattle.std.specs.Prelude.{position, slice_get, slice_set, unwrap_or}
use Rattle.std.specs.List.{cons_option, enumerate_from, filter_map, list_any, position_or_len}
use Rattle.std.specs.Option.{option_and_then}
use Rattle.std.specs.Str.{bytes_eq}
use Rattle.init_machine.proofs.DistinctSums.{bytes_eq-refl, same_bytes}
use Rattle.init_machine.specs.Services.{is_of_class, place_if}
use Rattle.init_machine.specs.declared.service.ServiceDef.{ServiceDef}
use Rattle.service_table.specs.Classes.{is_at, ends_with, with_place, placed_if}
use Rattle.collections.proofs.Places.{absent_added}
use Rattle.collections.specs.Texts.{with_text}

-- what stands at the place of a class
abbrev found_in : List (List ℕ) → List (List ℕ) → List ℕ → List ℕ
found_in names places q = unwrap_or (option_and_then (slice_get places) (position (bytes_eq q) names)) []

past : (n l : ℕ) → nat_lt n l ≡ false → l ≤ n
past n l e = grind (arith, common_steps)

by_place : (names places : List (List ℕ)) (q : List ℕ) → length names ≡ length places → found_in names places q ≡ get_or places (position_or_len (bytes_eq q) names) []
by_place names places q paired = by (nat_lt (position_or_len (bytes_eq q) names) (length names)) refl
  where
    by : (b : Bool) → nat_lt (position_or_len (bytes_eq q) names) (length names) ≡ b
        → unwrap_or (option_and_then (slice_get places) (cond b (Some (position_or_len (bytes_eq q) names)) None)) [] ≡ get_or places (position_or_len (bytes_eq q) names) []
    by true within = unwrap_or-slice_get places (position_or_len (bytes_eq q) names) []
    by false off = sym (get_or_past places (position_or_len (bytes_eq q) names) [] (omega (arith, past (position_or_len (bytes_eq q) names) (length names) off)))

none_behind : (places : List (List ℕ)) (n : ℕ) → get_or (places ++ [] ∷ []) n [] ≡ get_or places n []
none_behind [] zero = refl
none_behind [] (suc n) = refl
none_behind (p ∷ places) zero = refl
none_behind (p ∷ places) (suc n) = none_behind places n

-- a class that wasn't there is added with no places
pub class_added : (names places more_names more_places : List (List ℕ)) (class q list : List ℕ) → length names ≡ length places → position (bytes_eq class) names ≡ None
    → more_names ≡ with_text names class → more_places ≡ places ++ list ∷ [] → list ≡ []
    → found_in more_names more_places q ≡ found_in names places q
class_added names places more_names more_places class q list paired none named placed empty =
    let paired_still : length (names ++ class ∷ []) ≡ length (places ++ [] ∷ []) = omega (arith, length-append names (class ∷ []), length-append places ([] ∷ [])) in
    ap (λ all. found_in all more_places q) (named ∙ sym (absent_added names class none))
    ∙ ap (λ all. found_in (names ++ class ∷ []) all q) (placed ∙ ap (λ (none : List ℕ). places ++ none ∷ []) empty)
    ∙ by_place (names ++ class ∷ []) (places ++ [] ∷ []) q paired_still
    ∙ none_behind places (position_or_len (bytes_eq q) (names ++ class ∷ []))
    ∙ ap (λ n. get_or places n []) (position_or_len_push (bytes_eq q) names class)
    ∙ by (eqb (position_or_len (bytes_eq q) names) (length names)) refl
    ∙ sym (by_place names places q paired)
  where
    by : (b : Bool) → eqb (position_or_len (bytes_eq q) names) (length names) ≡ b
        → get_or places (cond b (length names + cond (bytes_eq q class) 0 1) (position_or_len (bytes_eq q) names)) [] ≡ get_or places (position_or_len (bytes_eq q) names) []
    by true off =
        let end : position_or_len (bytes_eq q) names ≡ length names = grind (arith, common_steps) in
        get_or_past places (length names + cond (bytes_eq q class) 0 1) [] (omega arith) ∙ sym (get_or_past places (position_or_len (bytes_eq q) names) [] (omega arith))
    by false off = refl

-- a change at the place of a class changes what is found of it, and nothing else
pub changed : (f : List ℕ → List ℕ) (names places : List (List ℕ)) (class q old new : List ℕ) (i : ℕ) → length names ≡ length places → position (bytes_eq class) names ≡ Some i
    → old ≡ get_or places i old → new ≡ f old
    → found_in names (slice_set places i new) q ≡ (if bytes_eq class q then f (found_in names places q) else found_in names places q)
changed f names places class q old new i paired at was is = by (bytes_eq class q) refl
  where
    at_place : (all : List (List ℕ)) → found_in names all class ≡ get_or all i []
    at_place all = ap (λ o. unwrap_or (option_and_then (slice_get all) o) []) at ∙ unwrap_or-slice_get all i []

    apart : (j : ℕ) → bytes_eq class q ≡ false → position (bytes_eq q) names ≡ Some j → j ≡ i → true ≡ false
    apart j differ there same =
        let name = same_bytes class (get_or names i []) (position-Some (bytes_eq class) names i [] at).1 in
        let other = same_bytes q (get_or names j []) (position-Some (bytes_eq q) names j [] there).1 in
        sym (bytes_eq-refl class) ∙ ap (bytes_eq class) (name ∙ ap (λ n. get_or names n []) (sym same) ∙ sym other) ∙ differ

    elsewhere : (o : Option ℕ) → bytes_eq class q ≡ false → position (bytes_eq q) names ≡ o
        → unwrap_or (option_and_then (slice_get (slice_set places i new)) o) [] ≡ unwrap_or (option_and_then (slice_get places) o) []
    elsewhere None differ there = refl
    elsewhere (Some j) differ there =
        unwrap_or-slice_get (slice_set places i new) j [] ∙ get_or-set_other places i j new [] (λ same. absurd (true≢false (apart j differ there same)))
        ∙ sym (unwrap_or-slice_get places j [])

    by : (b : Bool) → bytes_eq class q ≡ b → found_in names (slice_set places i new) q ≡ (if b then f (found_in names places q) else found_in names places q)
    by true same =
        let within : i < length places = omega (arith, (position-Some (bytes_eq class) names i [] at).0) in
        subst (λ r. found_in names (slice_set places i new) r ≡ f (found_in names places r)) (same_bytes class q same)
        (at_place (slice_set places i new) ∙ get_or-set_same places i new [] within ∙ is ∙ ap f (get_or_read places i old within was [] ∙ sym (at_place places)))
    by false differ = elsewhere (position (bytes_eq q) names) differ refl

last_place : (xs : List ℕ) (at : ℕ) → slice_get (xs ++ at ∷ []) (length xs) ≡ Some at
last_place [] at = refl
last_place (x ∷ xs) at = last_place xs at

ends : (xs : List ℕ) (at n : ℕ) → ends_with n (xs ++ at ∷ []) ≡ (at == n)
ends xs at n =
    let e : length (xs ++ at ∷ []) - 1 ≡ length xs = omega (arith, length-append xs (at ∷ [])) in
    ap (λ m. is_at n (slice_get (xs ++ at ∷ []) m)) e ∙ ap (is_at n) (last_place xs at)

itself : (at : ℕ) → (at == at) ≡ true
itself at = grind arith

differs : (at n : ℕ) → at + 1 ≤ n → (at == n) ≡ false
differs at n below = grind arith

-- a place that was added is the last one
twice : (at : ℕ) (xs : List ℕ) → with_place at (with_place at xs) ≡ with_place at xs
twice at xs = by (ends_with at xs) refl
  where
    by : (b : Bool) → ends_with at xs ≡ b → with_place at (if b then xs else xs ++ at ∷ []) ≡ (if b then xs else xs ++ at ∷ [])
    by true last = ap (λ b. if b then xs else xs ++ at ∷ []) last
    by false last = ap (λ b. if b then xs ++ at ∷ [] else (xs ++ at ∷ []) ++ at ∷ []) (ends xs at at ∙ itself at)

either : (a b : Bool) (at : ℕ) (xs : List ℕ) → placed_if b at (placed_if a at xs) ≡ placed_if (a || b) at xs
either true true at xs = twice at xs
either true false at xs = refl
either false b at xs = refl

-- one class of a service more
pub one_class : (ys classes : List (List ℕ)) (i : ℕ) (class name q : List ℕ) (at : ℕ) (now new goal : List ℕ) → ys ≡ classes → i < length ys → class ≡ get_or ys i class → name ≡ class
    → new ≡ placed_if (bytes_eq name q) at now
    → placed_if (list_any (λ other. bytes_eq other q) (drop i classes)) at now ≡ goal
    → placed_if (list_any (λ other. bytes_eq other q) (drop (i + 1) classes)) at new ≡ goal
one_class ys classes i class name q at now new goal same within is named added left =
    let rest = list_any (λ other. bytes_eq other q) (drop (i + 1) classes) in
    let within' : i < length classes = subst (λ (cs : List (List ℕ)). i < length cs) same within in
    let front = at_drop_more (λ names. placed_if (list_any (λ other. bytes_eq other q) names) at now) classes i class within' in
    ap (placed_if rest at) added ∙ either (bytes_eq name q) rest at now
    ∙ ap (λ (c : List ℕ). placed_if (bytes_eq c q || rest) at now) (named ∙ is ∙ ap (λ (cs : List (List ℕ)). get_or cs i class) same) ∙ sym front ∙ left

-- the places from a number on
abbrev pub places_from : ℕ → List ℕ → List ServiceDef → List ℕ
places_from n q defs = filter_map (place_if (is_of_class q)) (enumerate_from n defs)

not_last : (at : ℕ) (xs : List ℕ) → ends_with at xs ≡ false → with_place at xs ≡ xs ++ at ∷ []
not_last at xs behind = ap (λ b. if b then xs else xs ++ at ∷ []) behind

-- one service more
pub one_service : (defs : List ServiceDef) (at : ℕ) (def : ServiceDef) (q now new goal : List ℕ) → at < length defs → def ≡ get_or defs at def
    → new ≡ placed_if (is_of_class q def) at now → ends_with at now ≡ false
    → now ++ places_from at q (drop at defs) ≡ goal → new ++ places_from (at + 1) q (drop (at + 1) defs) ≡ goal
one_service defs at def q now new goal within is added behind left =
    by (is_of_class q def) added
    (ap (λ (d : ServiceDef). now ++ cons_option (if is_of_class q d then Some at else None) rest) is
    ∙ sym (at_drop_more (λ ds. now ++ places_from at q ds) defs at def within) ∙ left)
  where
    rest : List ℕ
    rest = places_from (at + 1) q (drop (at + 1) defs)

    by : (b : Bool) → new ≡ placed_if b at now → now ++ cons_option (if b then Some at else None) rest ≡ goal → new ++ rest ≡ goal
    by true more front = ap (λ xs. xs ++ rest) (more ∙ not_last at now behind) ∙ append_assoc now (at ∷ []) rest ∙ front
    by false more front = ap (λ xs. xs ++ rest) more ∙ front

-- and the last place stays before those that come
pub still_behind : (at : ℕ) (b : Bool) (now new : List ℕ) → new ≡ placed_if b at now → ((n : ℕ) → at ≤ n → ends_with n now ≡ false)
    → (n : ℕ) → at + 1 ≤ n → ends_with n new ≡ false
still_behind at true now new is behind n past = ap (ends_with n) (is ∙ not_last at now (behind at (omega arith))) ∙ ends now at n ∙ differs at n past
still_behind at false now new is behind n past = ap (ends_with n) is ∙ behind n (omega arith)
