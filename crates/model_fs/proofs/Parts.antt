-- The parts of a text, from its end.
use Rattle.std.proofs.Common.{◌≡◌, ℕ, zero, suc, ◌-◌, ◌<◌, ◌≤◌, Bool, true, false, ◌==◌, ◌&&◌, cond, nat_lt, List, [], ◌∷◌, ◌++◌, length, take, drop, filter, get_or, refl, sym, ap, ◌∙◌, arith, append_assoc, ◌⊎◌, inl, inr, ⊎_elim, ◌||◌, length-drop}
use Rattle.std.proofs.Math.Seq.{take-length, drop-cons, drop-length}
use Rattle.std.proofs.lemmas.List.{append-nil, get_or-take, length-take-le, take-append-drop}
use Rattle.std.specs.List.{list_all, slice_split, onto_first}
use Rattle.std.specs.Str.{bytes_eq}
use Rattle.init_machine.specs.FileTree.{parts_of, same_path, is_below}
use Rattle.model_fs.specs.internal.Paths.{is_no_slash}

-- the first part is there
pub split_some : (p : ℕ → Bool) (xs : List ℕ) → (first : List ℕ) × (rest : List (List ℕ)) × (slice_split p xs ≡ first ∷ rest)
split_some p [] = ([], [], refl)
split_some p (x ∷ xs) =
    let more = split_some p xs in
    elim (p x) as (λ b. (first : List ℕ) × (rest : List (List ℕ)) × (cond b ([] ∷ slice_split p xs) (onto_first x (slice_split p xs)) ≡ first ∷ rest)) [
      | true ↦ ([], slice_split p xs, refl)
      | false ↦ (x ∷ more.0, more.1, ap (onto_first x) more.2)
    ]

onto_first-append : (x : ℕ) (first : List ℕ) (rest all others : List (List ℕ)) → all ≡ first ∷ rest → onto_first x (all ++ others) ≡ onto_first x all ++ others
onto_first-append x first rest all others is = rw is refl

split_append : (p : ℕ → Bool) (xs ys : List ℕ) (y : ℕ) → p y ≡ true → slice_split p (xs ++ y ∷ ys) ≡ slice_split p xs ++ slice_split p ys
split_append p [] ys y at = rw at refl
split_append p (x ∷ xs) ys y at =
    let more = split_append p xs ys y at in
    let some = split_some p xs in
    elim (p x) as (λ b. cond b ([] ∷ slice_split p (xs ++ y ∷ ys)) (onto_first x (slice_split p (xs ++ y ∷ ys)))
    ≡ cond b ([] ∷ slice_split p xs) (onto_first x (slice_split p xs)) ++ slice_split p ys) [
      | true ↦ ap (λ s. [] ∷ s) more
      | false ↦ ap (onto_first x) more ∙ onto_first-append x some.0 some.1 (slice_split p xs) (slice_split p ys) some.2
    ]

filter_append : (f : List ℕ → Bool) (xs ys : List (List ℕ)) → filter f (xs ++ ys) ≡ filter f xs ++ filter f ys
filter_append f [] ys = refl
filter_append f (x ∷ xs) ys = grind (arith, filter_append f xs ys)

-- the parts on both sides of a slash
pub parts-append : (xs ys : List ℕ) → parts_of (xs ++ 47 ∷ ys) ≡ parts_of xs ++ parts_of ys
parts-append xs ys =
    ap (filter (λ part. nat_lt 0 (length part))) (split_append (λ byte. byte == 47) xs ys 47 refl)
    ∙ filter_append (λ part. nat_lt 0 (length part)) (slice_split (λ byte. byte == 47) xs) (slice_split (λ byte. byte == 47) ys)

split_whole : (ys : List ℕ) → list_all is_no_slash ys ≡ true → slice_split (λ byte. byte == 47) ys ≡ ys ∷ []
split_whole [] whole = refl
split_whole (y ∷ ys) whole = grind (arith, split_whole ys)

-- a text without slashes is one part
pub parts-whole : (ys : List ℕ) → list_all is_no_slash ys ≡ true → 0 < length ys → parts_of ys ≡ ys ∷ []
parts-whole ys whole some =
    let e : nat_lt 0 (length ys) ≡ true = grind arith in
    ap (filter (λ part. nat_lt 0 (length part))) (split_whole ys whole) ∙ ap (λ b. cond b (ys ∷ []) []) e

-- a slash at the end
pub take_last : (xs : List ℕ) (n : ℕ) → 0 < n → n ≤ length xs → take n xs ≡ take (n - 1) xs ++ get_or xs (n - 1) 0 ∷ []
take_last [] n some within = absurd (omega arith)
take_last (x ∷ xs) zero some within = absurd (omega arith)
take_last (x ∷ xs) (suc zero) some within = refl
take_last (x ∷ xs) (suc (suc n)) some within =
    let e : suc (suc n) - 1 ≡ suc (suc n - 1) = omega arith in
    ap (λ ys. x ∷ ys) (take_last xs (suc n) (omega arith) (omega arith)) ∙ ap (λ m. take m (x ∷ xs) ++ get_or (x ∷ xs) m 0 ∷ []) (sym e)

pub parts-trimmed : (text : List ℕ) (n : ℕ) → 0 < n → n ≤ length text → get_or text (n - 1) 0 ≡ 47 → parts_of (take n text) ≡ parts_of (take (n - 1) text)
parts-trimmed text n some within slash =
    ap parts_of (take_last text n some within ∙ ap (λ b. take (n - 1) text ++ b ∷ []) slash)
    ∙ parts-append (take (n - 1) text) [] ∙ append-nil (parts_of (take (n - 1) text))

less_or_same : (s m n : ℕ) → s ≤ m → m ≡ n → (s < m) ⊎ (s ≡ n)
less_or_same s m n bound same =
    elim (nat_lt s m) as (λ b. nat_lt s m ≡ b → (s < m) ⊎ (s ≡ n)) [ true ↦ λ y. inl (grind arith) | false ↦ λ no. inr (grind arith) ] refl

-- the last part begins within a text that doesn't end in a slash
pub start_within : (text : List ℕ) (n s : ℕ) → n ≤ length text → 0 < length (take n text) → (0 < n → get_or text (n - 1) 0 ≡ 47 → ⊥)
    → s ≤ length (take n text) → (0 < s → get_or (take n text) (s - 1) 0 ≡ 47) → s < length (take n text)
start_within text n s within some last bound slash =
    let len : length (take n text) ≡ n = length-take-le n text within in
    ⊎_elim (λ less. less)
    (λ (same : s ≡ n).
    let past : 0 < s = omega arith in
    let less : s - 1 < n = omega arith in
    let there : get_or (take n text) (s - 1) 0 ≡ get_or text (s - 1) 0 = get_or-take n text (s - 1) 0 less in
    absurd (last (omega arith) (ap (λ m. get_or text (m - 1) 0) (sym same) ∙ sym there ∙ slash past)))
    (less_or_same s (length (take n text)) n bound len)

-- the last part, and those before it
pub cut_at : (t : List ℕ) (s : ℕ) → s < length t → list_all is_no_slash (drop s t) ≡ true → (0 < s → get_or t (s - 1) 0 ≡ 47)
    → parts_of t ≡ parts_of (take s t) ++ take (length t - s) (drop s t) ∷ []
cut_at t zero within part slash =
    parts-whole t part within ∙ ap (λ ys. ys ∷ []) (sym (take-length t) ∙ ap (λ n. take n t) (let e : length t ≡ length t - 0 = omega arith in e))
cut_at t (suc s) within part slash =
    let here : get_or t (suc s - 1) 0 ≡ 47 = slash (omega arith) in
    let some : 0 < length (drop (suc s) t) = omega (arith, length-drop (suc s) t) in
    let front = take (suc s - 1) t in
    let whole : (front ++ 47 ∷ []) ++ drop (suc s) t ≡ t =
    ap (λ (b : ℕ). (front ++ b ∷ []) ++ drop (suc s) t) (sym here)
    ∙ ap (λ ys. ys ++ drop (suc s) t) (sym (take_last t (suc s) (omega arith) (omega arith)))
    ∙ take-append-drop (suc s) t in
    let rest : take (length t - suc s) (drop (suc s) t) ≡ drop (suc s) t =
    ap (λ n. take n (drop (suc s) t)) (sym (length-drop (suc s) t)) ∙ take-length (drop (suc s) t) in
    ap parts_of (sym whole ∙ append_assoc front (47 ∷ []) (drop (suc s) t))
    ∙ parts-append front (drop (suc s) t)
    ∙ ap (λ ps. parts_of front ++ ps) (parts-whole (drop (suc s) t) part some)
    ∙ ap (λ ps. ps ++ drop (suc s) t ∷ []) (sym (parts-trimmed t (suc s) (omega arith) (omega arith) here))
    ∙ ap (λ ys. parts_of (take (suc s) t) ++ ys ∷ []) (sym rest)

-- What is below, by its last part.

and_comm : (a b : Bool) → (a && b) ≡ (b && a)
and_comm true true = refl
and_comm true false = refl
and_comm false true = refl
and_comm false false = refl

below_nothing : (ps : List (List ℕ)) → is_below ps [] ≡ false
below_nothing [] = refl
below_nothing (p ∷ ps) = refl

below_one : (x : List ℕ) (ps : List (List ℕ)) (q : List ℕ) → bytes_eq x q && is_below ps [] ≡ false
below_one x ps q = ap (λ b. bytes_eq x q && b) (below_nothing ps) ∙ and_comm (bytes_eq x q) false

and_or : (a b c : Bool) → (a && (b || c)) ≡ ((a && b) || (a && c))
and_or true b c = refl
and_or false b c = refl

below-last : (ps qs : List (List ℕ)) (q : List ℕ) → is_below ps (qs ++ q ∷ []) ≡ same_path ps qs || is_below ps qs
below-last [] [] q = refl
below-last [] (y ∷ qs) q = refl
below-last (x ∷ ps) [] q = below_one x ps q
below-last (x ∷ ps) (y ∷ qs) q = ap (λ b. bytes_eq x y && b) (below-last ps qs q) ∙ and_or (bytes_eq x y) (same_path ps qs) (is_below ps qs)

pub below_by_last : (ps qs gs : List (List ℕ)) (q : List ℕ) → qs ≡ gs ++ q ∷ [] → is_below ps qs ≡ same_path ps gs || is_below ps gs
below_by_last ps qs gs q is = ap (is_below ps) is ∙ below-last ps gs q

pub take_shorter : (s n : ℕ) (xs : List ℕ) → s ≤ n → take s (take n xs) ≡ take s xs
take_shorter zero n xs within = refl
take_shorter (suc s) zero xs within = absurd (omega arith)
take_shorter (suc s) (suc n) [] within = refl
take_shorter (suc s) (suc n) (x ∷ xs) within = ap (λ ys. x ∷ ys) (take_shorter s n xs (omega arith))

-- the first part, and those behind it
pub cut_first : (t : List ℕ) (n : ℕ) → 0 < n → n ≤ length t → list_all is_no_slash (take n t) ≡ true → (n < length t → get_or t n 0 ≡ 47)
    → parts_of t ≡ take n t ∷ parts_of (drop n t)
cut_first t n some within part slash = ⊎_elim (λ less. inner less) (λ same. whole same) (less_or_same n (length t) (length t) within refl)
  where
    one : parts_of (take n t) ≡ take n t ∷ []
    one = parts-whole (take n t) part (omega (arith, length-take-le n t within))

    inner : n < length t → parts_of t ≡ take n t ∷ parts_of (drop n t)
    inner less =
        let here : drop n t ≡ 47 ∷ drop (suc n) t = drop-cons t n 0 less ∙ ap (λ b. b ∷ drop (suc n) t) (slash less) in
        ap parts_of (sym (take-append-drop n t) ∙ ap (λ ys. take n t ++ ys) here)
        ∙ parts-append (take n t) (drop (suc n) t)
        ∙ ap (λ ps. ps ++ parts_of (drop (suc n) t)) one
        ∙ ap (λ ys. take n t ∷ parts_of ys) (sym here)

    whole : n ≡ length t → parts_of t ≡ take n t ∷ parts_of (drop n t)
    whole same =
        let all : take n t ≡ t = ap (λ m. take m t) same ∙ take-length t in
        let none : drop n t ≡ [] = ap (λ m. drop m t) same ∙ drop-length t in
        ap parts_of (sym all) ∙ one ∙ ap (λ ys. take n t ∷ parts_of ys) (sym none)

-- what doesn't begin with a slash has a first part
pub not_at_slash : (t : List ℕ) (n : ℕ) → 0 < length t → (get_or t 0 0 ≡ 47 → ⊥) → (n < length t → get_or t n 0 ≡ 47) → 0 < n
not_at_slash t zero some no_slash slash = absurd (no_slash (slash some))
not_at_slash t (suc n) some no_slash slash = omega arith
