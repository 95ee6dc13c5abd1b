-- Texts that differ, added in turn, are the texts.
use Rattle.std.proofs.Common.{◌≡◌, ℕ, Bool, true, false, not, ◌&&◌, ◌||◌, List, [], ◌∷◌, ◌++◌, fold, append-nil, refl, sym, ap, ◌∙◌, append_assoc, if◌then◌else◌}
use Rattle.std.proofs.lemmas.List.Folds.{list_any-append}
use Rattle.std.specs.List.{list_any}
use Rattle.std.specs.Str.{bytes_eq}
use Rattle.init_machine.specs.WellFormed.{are_distinct}
use Rattle.collections.specs.Texts.{with_text}

-- none of some texts is among those that were added
abbrev pub AreApart : List (List ℕ) → List (List ℕ) → Type 0
AreApart added [] = Unit {0}
AreApart added (text ∷ rest) = (list_any (bytes_eq text) added ≡ false) × AreApart added rest

both_true : (a b : Bool) → (not a && b) ≡ true → (a ≡ false) × (b ≡ true)
both_true true b h = cc
both_true false b h = (refl, h)

both_false : (a b : Bool) → (a || b) ≡ false → (a ≡ false) × (b ≡ false)
both_false true b h = cc
both_false false b h = (refl, h)

-- so it is when a text more is added that is none of them
apart_push : (added : List (List ℕ)) (text : List ℕ) (rest : List (List ℕ)) → AreApart added rest → list_any (λ other. bytes_eq other text) rest ≡ false → AreApart (added ++ text ∷ []) rest
apart_push added text [] apart none = tt
apart_push added text (other ∷ rest) apart none =
    let differ = both_false (bytes_eq other text) (list_any (λ other. bytes_eq other text) rest) none in
    (list_any-append (bytes_eq other) added (text ∷ []) ∙ (λ i. apart.0 i || (differ.0 i || false)), apart_push added text rest apart.1 differ.1)

added_behind : (added texts : List (List ℕ)) → are_distinct texts ≡ true → AreApart added texts → fold with_text added texts ≡ added ++ texts
added_behind added [] distinct apart = sym (append-nil added)
added_behind added (text ∷ rest) distinct apart =
    let parts = both_true (list_any (λ other. bytes_eq other text) rest) (are_distinct rest) distinct in
    ap (λ b. fold with_text (if b then added else added ++ text ∷ []) rest) apart.0
    ∙ added_behind (added ++ text ∷ []) rest parts.1 (apart_push added text rest apart.1 parts.0)
    ∙ append_assoc added (text ∷ []) rest

apart_none : (texts : List (List ℕ)) → AreApart [] texts
apart_none [] = tt
apart_none (text ∷ rest) = (refl, apart_none rest)

pub all_added : (texts : List (List ℕ)) → are_distinct texts ≡ true → fold with_text [] texts ≡ texts
all_added texts distinct = added_behind [] texts distinct (apart_none texts)
