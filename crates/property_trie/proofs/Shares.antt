-- Of the dotted prefixes of a name, those that are prefixes of other names too are the first of them; so what an absent
-- name needs is told by how many it shares.
use Rattle.std.proofs.Common.{◌≡◌, ℕ, suc, ◌+◌, ◌-◌, ◌≤◌, ◌<◌, max, Bool, true, false, ◌||◌, ◌==◌, nat_lt, List, [], ◌∷◌, ◌++◌, map, sum, drop, refl, sym, ap, ◌∙◌, arith, if◌then◌else◌}
use Rattle.std.specs.List.{flat_map}
use Rattle.std.proofs.Math.Seq.{drop-nil}
use Rattle.std.proofs.lemmas.Bool.{ltb-true, ltb-false}
use Rattle.std.proofs.lemmas.Bool.Decides.{nat_tests}
use Rattle.init_machine.specs.internal.Nodes.{total_beyond}
use Rattle.init_machine.specs.Words.{is_among, prefixes_of, node_words, Sized, names_in, cell_words, need_of}
use Rattle.init_machine.proofs.DistinctSums.{total, among-append}
use Rattle.init_machine.proofs.Needs.{sum-total, need_beyond}
use Rattle.init_machine.proofs.Prefixes.{among-longer, among-same, parts, prefixes-are}
use Rattle.property_trie.specs.Shared.{shared, shared_with}

among-other : (c b : ℕ) (ps : List (List ℕ)) (z : List ℕ) → (c == b) ≡ false → is_among (map (λ p. c ∷ p) ps) (b ∷ z) ≡ false
among-other c b [] z e = refl
among-other c b (p ∷ ps) z e = rw e (among-other c b ps z e)

-- the first k of ps, which stand from place j on, are among qs, and no others
abbrev pub Marked : List (List ℕ) → List (List ℕ) → ℕ → ℕ → Type 0
Marked qs [] j k = Unit {0}
Marked qs (p ∷ ps) j k = (is_among qs p ≡ nat_lt j k) × Marked qs ps (j + 1) k

abbrev NoneAmong : List (List ℕ) → List (List ℕ) → Type 0
NoneAmong qs [] = Unit {0}
NoneAmong qs (p ∷ ps) = (is_among qs p ≡ false) × NoneAmong qs ps

unmarked : (qs ps : List (List ℕ)) (j k : ℕ) → k ≤ j → NoneAmong qs ps → Marked qs ps j k
unmarked qs [] j k h none = tt
unmarked qs (p ∷ ps) j k h none = (none.0 ∙ grind (arith, nat_tests), unmarked qs ps (j + 1) k (omega arith) none.1)

none_of_none : (ps : List (List ℕ)) → NoneAmong [] ps
none_of_none [] = tt
none_of_none (p ∷ ps) = (refl, none_of_none ps)

none_longer : (b : ℕ) (ps : List (List ℕ)) → NoneAmong ([] ∷ []) (map (λ p. b ∷ p) ps)
none_longer b [] = tt
none_longer b (p ∷ ps) = (refl, none_longer b ps)

none_other : (c b : ℕ) (qs ps : List (List ℕ)) → (c == b) ≡ false → NoneAmong (map (λ p. c ∷ p) qs) (map (λ p. b ∷ p) ps)
none_other c b qs [] e = tt
none_other c b qs (p ∷ ps) e = (among-other c b qs p e, none_other c b qs ps e)

none_other_dot : (c b : ℕ) (qs ps : List (List ℕ)) → (c == b) ≡ false → NoneAmong ([] ∷ map (λ p. c ∷ p) qs) (map (λ p. b ∷ p) ps)
none_other_dot c b qs [] e = tt
none_other_dot c b qs (p ∷ ps) e = (among-other c b qs p e, none_other_dot c b qs ps e)

mapped : (b : ℕ) (qs ps : List (List ℕ)) (j k : ℕ) → Marked qs ps j k → Marked (map (λ p. b ∷ p) qs) (map (λ p. b ∷ p) ps) j k
mapped b qs [] j k m = tt
mapped b qs (p ∷ ps) j k m = (among-same b qs p ∙ m.0, mapped b qs ps (j + 1) k m.1)

mapped_dot : (b : ℕ) (qs ps : List (List ℕ)) (j k : ℕ) → Marked qs ps j k → Marked ([] ∷ map (λ p. b ∷ p) qs) (map (λ p. b ∷ p) ps) j k
mapped_dot b qs [] j k m = tt
mapped_dot b qs (p ∷ ps) j k m = (among-same b qs p ∙ m.0, mapped_dot b qs ps (j + 1) k m.1)

-- the prefixes of a name that begins with b, and of one that begins with c
abbrev parts_of_cons : Bool → ℕ → List (List ℕ) → List (List ℕ)
parts_of_cons t b ps = if t then [] ∷ map (λ p. b ∷ p) ps else map (λ p. b ∷ p) ps

marks_alike : (b : ℕ) (qs ps : List (List ℕ)) (j n : ℕ) (t : Bool) → ((i : ℕ) → Marked qs ps i (i + n))
    → Marked (parts_of_cons t b qs) (parts_of_cons t b ps) j (j + ((if t then 1 else 0) + n))
marks_alike b qs ps j n true m =
    let e : (j + 1) + n ≡ j + (1 + n) = omega arith in
    let rest : Marked qs ps (j + 1) (j + (1 + n)) = rw e at (m (j + 1)) in
    (grind (arith, nat_tests), mapped_dot b qs ps (j + 1) (j + (1 + n)) rest)
marks_alike b qs ps j n false m =
    let e : j + n ≡ j + (0 + n) = omega arith in
    let rest : Marked qs ps j (j + (0 + n)) = rw e at (m j) in
    mapped b qs ps j (j + (0 + n)) rest

marks_apart : (b c : ℕ) (qs ps : List (List ℕ)) (j : ℕ) (t u : Bool) → (c == b) ≡ false → (b == 46) ≡ t → (c == 46) ≡ u
    → Marked (parts_of_cons u c qs) (parts_of_cons t b ps) j (j + 0)
marks_apart b c qs ps j true true e t u = absurd (grind (arith, nat_tests))
marks_apart b c qs ps j true false e t u =
    (among-longer c qs ∙ grind (arith, nat_tests), unmarked (map (λ p. c ∷ p) qs) (map (λ p. b ∷ p) ps) (j + 1) (j + 0) (omega arith) (none_other c b qs ps e))
marks_apart b c qs ps j false true e t u =
    unmarked ([] ∷ map (λ p. c ∷ p) qs) (map (λ p. b ∷ p) ps) j (j + 0) (omega arith) (none_other_dot c b qs ps e)
marks_apart b c qs ps j false false e t u =
    unmarked (map (λ p. c ∷ p) qs) (map (λ p. b ∷ p) ps) j (j + 0) (omega arith) (none_other c b qs ps e)

marks_ended : (c : ℕ) (qs : List (List ℕ)) (j : ℕ) (u : Bool) → Marked (parts_of_cons u c qs) ([] ∷ []) j (j + (if u then 1 else 0))
marks_ended c qs j true = (grind (arith, nat_tests), tt)
marks_ended c qs j false = (among-longer c qs ∙ grind (arith, nat_tests), tt)

marks_end : (b : ℕ) (ps : List (List ℕ)) (j : ℕ) (t : Bool) → Marked ([] ∷ []) (parts_of_cons t b ps) j (j + (if t then 1 else 0))
marks_end b ps j true = (grind (arith, nat_tests), unmarked ([] ∷ []) (map (λ p. b ∷ p) ps) (j + 1) (j + 1) (omega arith) (none_longer b ps))
marks_end b ps j false = unmarked ([] ∷ []) (map (λ p. b ∷ p) ps) j (j + 0) (omega arith) (none_longer b ps)

-- of the prefixes of a name, the first are those of another too
pub marks : (name other : List ℕ) (j : ℕ) → Marked (parts other) (parts name) j (j + shared name other)
marks [] [] j = (grind (arith, nat_tests), tt)
marks [] (c ∷ other) j = marks_ended c (parts other) j (c == 46)
marks (b ∷ name) [] j = marks_end b (parts name) j (b == 46)
marks (b ∷ name) (c ∷ other) j =
    elim (b == c) as (λ t. (b == c) ≡ t → Marked (parts (c ∷ other)) (parts (b ∷ name)) j (j + (if t then (if b == 46 then 1 else 0) + shared name other else 0))) [
      | true ↦ λ t. let same : b ≡ c = grind (arith, nat_tests) in
          rw (← same) (marks_alike b (parts other) (parts name) j (shared name other) (b == 46) (marks name other))
      | false ↦ λ f. marks_apart b c (parts other) (parts name) j (b == 46) (c == 46) (grind (arith, nat_tests)) refl refl
    ] refl

mark_either : (a b : Bool) (j m n : ℕ) → a ≡ nat_lt j m → b ≡ nat_lt j n → (a || b) ≡ nat_lt j (max m n)
mark_either a b j m n e f = grind (arith, nat_tests)

marked_either : (qs rs ps : List (List ℕ)) (j m n : ℕ) → Marked qs ps j m → Marked rs ps j n → Marked (qs ++ rs) ps j (max m n)
marked_either qs rs [] j m n x y = tt
marked_either qs rs (p ∷ ps) j m n x y =
    (among-append qs rs p ∙ mark_either (is_among qs p) (is_among rs p) j m n x.0 y.0, marked_either qs rs ps (j + 1) m n x.1 y.1)

-- of the prefixes of a name, the first are prefixes of the names, and no others
pub marks_all : (names : List (List ℕ)) (name : List ℕ) → Marked (flat_map prefixes_of names) (parts name) 0 (shared_with names name)
marks_all [] name = unmarked [] (parts name) 0 0 (omega arith) (none_of_none (parts name))
marks_all (other ∷ rest) name =
    let e : 0 + shared name other ≡ shared name other = omega arith in
    let first : Marked (prefixes_of other) (parts name) 0 (shared name other) = rw (prefixes-are other) (rw e at (marks name other 0)) in
    marked_either (prefixes_of other) (flat_map prefixes_of rest) (parts name) 0 (shared name other) (shared_with rest name) first (marks_all rest name)

beyond_step : (w : List ℕ → ℕ) (p : List ℕ) (ps : List (List ℕ)) (j k : ℕ)
    → (if nat_lt j k then 0 else w p) + total w (drop (k - (j + 1)) ps) ≡ total w (drop (k - j) (p ∷ ps))
beyond_step w p ps j k =
    elim (nat_lt j k) as (λ t. nat_lt j k ≡ t → (if t then 0 else w p) + total w (drop (k - (j + 1)) ps) ≡ total w (drop (k - j) (p ∷ ps))) [
      | true ↦ λ t.
          let h : j < k = ltb-true j k t in
          let e : k - j ≡ suc (k - (j + 1)) = omega arith in rw e (omega arith)
      | false ↦ λ f.
          let h : k ≤ j = ltb-false j k f in
          let e : k - j ≡ 0 = omega arith in
          let e' : k - (j + 1) ≡ 0 = omega arith in rw (e, e') refl
    ] refl

pub total_beyond-marked : (w : List ℕ → ℕ) (qs ps : List (List ℕ)) (j k : ℕ) → Marked qs ps j k → total_beyond w qs ps ≡ total w (drop (k - j) ps)
total_beyond-marked w qs [] j k m = ap (λ ps. total w ps) (sym (drop-nil (k - j)))
total_beyond-marked w qs (p ∷ ps) j k m =
    ap (λ b. (if b then 0 else w p) + total_beyond w qs ps) m.0 ∙ ap (λ n. (if nat_lt j k then 0 else w p) + n) (total_beyond-marked w qs ps (j + 1) k m.1) ∙ beyond_step w p ps j k

-- what an absent name needs: its cell, and the nodes of the prefixes that it doesn't share
pub need_is : (sized : List Sized) (name : List ℕ) (len : ℕ) → is_among (names_in sized) name ≡ false
    → need_of sized name len ≡ cell_words len + sum (map node_words (drop (shared_with (names_in sized) name) (prefixes_of name)))
need_is sized name len absent =
    let names = names_in sized in
    let held : List (List ℕ) = flat_map prefixes_of names in
    let most : ℕ = shared_with names name in
    let whole : most - 0 ≡ most = omega arith in
    let first : Marked held (prefixes_of name) 0 most = rw (prefixes-are name) (marks_all names name) in
    let beyond : total_beyond node_words held (prefixes_of name) ≡ total node_words (drop most (prefixes_of name)) =
    total_beyond-marked node_words held (prefixes_of name) 0 most first ∙ ap (λ k. total node_words (drop k (prefixes_of name))) whole in
    let needed = need_beyond sized name len held absent (λ z. refl) in
    sym needed ∙ (ap (λ n. cell_words len + n) beyond ∙ ap (λ n. cell_words len + n) (sym (sum-total (drop most (prefixes_of name)))))
