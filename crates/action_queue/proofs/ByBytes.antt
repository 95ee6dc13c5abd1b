-- A map whose keys are bytes, by these bytes.
use Rattle.std.proofs.Common.{◌≡◌, ℕ, true, false, cond, List, [], Option, Some, refl, ap, subst, ◌∙◌}
use Rattle.std.specs.Cmp.Lexicographic.{nat_list_eq_equiv}
use Rattle.std.specs.HashMap.{HashMap, get_by, UpdatesBy}
use Rattle.std.specs.Option.{option_map_or}
use Rattle.std.specs.Str.{bytes_eq}
use Rattle.init_base.proofs.ByBytes.{apart, other_entries, same_bytes}

-- what a change at some bytes leaves at others
pub others_stay : {K X S : Type 0} (bytes : K → List ℕ) (bs : List ℕ) (m n : HashMap K X S) (w : Option X)
    → UpdatesBy (λ x y. bytes_eq (bytes x) (bytes y)) (λ k. bytes_eq bs (bytes k)) m n w
    → (cs : List ℕ) → bytes_eq bs cs ≡ false → get_by (λ k. bytes_eq cs (bytes k)) n ≡ get_by (λ k. bytes_eq cs (bytes k)) m
others_stay bytes bs m n w h cs e =
    other_entries _ _ _ _ h.3 _ (λ x y. nat_list_eq_equiv.congr cs (bytes x) (bytes y)) (λ k. apart bs cs (bytes k) e)

-- a function of bytes that was changed at some
pub by_bytes : {W : Type 0} (f g : List ℕ → W) (bs : List ℕ) (w : W) → g bs ≡ w → ((cs : List ℕ) → bytes_eq bs cs ≡ false → g cs ≡ f cs)
    → (cs : List ℕ) → g cs ≡ cond (bytes_eq bs cs) w (f cs)
by_bytes f g bs w here other cs =
    elim (bytes_eq bs cs) as (λ b. bytes_eq bs cs ≡ b → g cs ≡ cond b w (f cs)) [
      | true ↦ λ y. subst (λ l. g l ≡ w) (same_bytes bs cs y) here
      | false ↦ λ n. other cs n
    ] refl

-- the lists of places under bytes, where one was put
pub put_at : {K X S : Type 0} (bytes : K → List ℕ) (items : X → List ℕ) (m n : HashMap K X S) (key : K) (value : X) (bs : List ℕ) (old : List ℕ → List ℕ)
    → UpdatesBy (λ x y. bytes_eq (bytes x) (bytes y)) (λ k. bytes_eq (bytes key) (bytes k)) m n (Some value)
    → bytes key ≡ bs
    → ((cs : List ℕ) → bytes_eq bs cs ≡ false → option_map_or items (get_by (λ k. bytes_eq cs (bytes k)) m) [] ≡ old cs)
    → (cs : List ℕ) → option_map_or items (get_by (λ k. bytes_eq cs (bytes k)) n) [] ≡ cond (bytes_eq bs cs) (items value) (old cs)
put_at bytes items m n key value bs old h is before =
    let here : option_map_or items (get_by (λ k. bytes_eq bs (bytes k)) n) [] ≡ items value =
    subst (λ (b : List ℕ). option_map_or items (get_by (λ k. bytes_eq b (bytes k)) n) [] ≡ items value) is (ap (λ o. option_map_or items o []) h.1) in
    by_bytes old (λ cs. option_map_or items (get_by (λ k. bytes_eq cs (bytes k)) n) []) bs (items value) here
    (λ cs apart.
    ap (λ o. option_map_or items o []) (others_stay bytes (bytes key) m n (Some value) h cs (ap (λ (b : List ℕ). bytes_eq b cs) is ∙ apart)) ∙ before cs apart)
