-- The slashes at the end of a text.
use Rattle.std.proofs.Common.{◌≡◌, ℕ, suc, ◌-◌, ◌+◌, ◌≤◌, Bool, true, false, if◌then◌else◌, List, [], ◌∷◌, ◌++◌, length, take, drop, slice_range, slice_index, refl, sym, ap, ◌∙◌, arith}
use Rattle.std.specs.List.{list_all}
use Rattle.std.proofs.Math.Bool.{and-true, and-false}
use Rattle.std.proofs.lemmas.List.{take_more, take_all, take_rest}
use Rattle.std.proofs.lemmas.List.Folds.{list_all-append}
use Rattle.rc_import.specs.Paths.{bare, is_slash, without_last_slashes}

slash_more : (xs : List ℕ) (b : ℕ) → is_slash b ≡ true → without_last_slashes (xs ++ b ∷ []) ≡ without_last_slashes xs
slash_more [] b e = rw e refl
slash_more (x ∷ xs) b e =
    let all : list_all is_slash (x ∷ (xs ++ b ∷ [])) ≡ list_all is_slash (x ∷ xs) = list_all-append is_slash (x ∷ xs) (b ∷ []) ∙ rw e (and-true (list_all is_slash (x ∷ xs))) in
    rw (all, slash_more xs b e) refl

other_more : (xs : List ℕ) (b : ℕ) → is_slash b ≡ false → without_last_slashes (xs ++ b ∷ []) ≡ xs ++ b ∷ []
other_more [] b e = rw e refl
other_more (x ∷ xs) b e =
    let some : list_all is_slash (x ∷ (xs ++ b ∷ [])) ≡ false = list_all-append is_slash (x ∷ xs) (b ∷ []) ∙ rw e (and-false (list_all is_slash (x ∷ xs))) in
    rw (some, other_more xs b e) refl

-- a list that isn't empty ends with its last element
whole : (xs : List ℕ) → 1 ≤ length xs → xs ≡ take (length xs - 1) xs ++ slice_index xs (length xs - 1) ∷ []
whole xs some =
    let all : length xs ≡ (length xs - 1) + 1 = omega arith in
    sym (take_all (length xs) xs (omega arith)) ∙ ap (λ n. take n xs) all ∙ take_more xs (length xs - 1) 0 (omega arith)

pub slash_last : (xs : List ℕ) → 1 ≤ length xs → is_slash (slice_index xs (length xs - 1)) ≡ true
    → without_last_slashes (take (length xs - 1) xs) ≡ without_last_slashes xs
slash_last xs some e = sym (ap without_last_slashes (whole xs some) ∙ slash_more (take (length xs - 1) xs) (slice_index xs (length xs - 1)) e)

pub other_last : (xs : List ℕ) → 1 ≤ length xs → is_slash (slice_index xs (length xs - 1)) ≡ false → without_last_slashes xs ≡ xs
other_last xs some e =
    ap without_last_slashes (whole xs some) ∙ other_more (take (length xs - 1) xs) (slice_index xs (length xs - 1)) e ∙ sym (whole xs some)

-- what is left stands at the front
kept_is : (rest : List ℕ) → without_last_slashes rest ≡ take (length (without_last_slashes rest)) rest
kept_is [] = refl
kept_is (byte ∷ rest) = by (list_all is_slash (byte ∷ rest)) (kept_is rest)
  where
    by : (b : Bool) → without_last_slashes rest ≡ take (length (without_last_slashes rest)) rest
        → (if b then [] else byte ∷ without_last_slashes rest) ≡ take (length (if b then [] else byte ∷ without_last_slashes rest)) (byte ∷ rest)
    by true more = refl
    by false more = ap (λ bytes. byte ∷ bytes) more

front_kept : (byte : ℕ) (rest kept : List ℕ) → kept ≡ without_last_slashes rest → take (length kept + 1) (byte ∷ rest) ≡ byte ∷ without_last_slashes rest
front_kept byte rest kept is =
    let count : length kept + 1 ≡ suc (length kept) = omega arith in
    ap (λ n. take n (byte ∷ rest)) count ∙ ap (λ k. byte ∷ take (length k) rest) is ∙ ap (λ bytes. byte ∷ bytes) (sym (kept_is rest))

bare_of : (path kept : List ℕ) → 1 ≤ length path → kept ≡ without_last_slashes (drop 1 path) → take (length kept + 1) path ≡ bare path
bare_of [] kept some is = absurd (omega arith)
bare_of (byte ∷ rest) kept some is = front_kept byte rest kept is

pub bare_kept : (path bytes kept : List ℕ) → bytes ≡ path → 1 ≤ length bytes → kept ≡ without_last_slashes (take (length bytes - 1) (drop 1 bytes))
    → slice_range path 0 (length kept + 1) ≡ bare path
bare_kept path bytes kept same some is =
    let front : slice_range path 0 (length kept + 1) ≡ take (length kept + 1) path = grind arith in
    let behind : kept ≡ without_last_slashes (drop 1 bytes) = is ∙ ap without_last_slashes (take_rest bytes 1) in
    front ∙ bare_of path kept (omega (arith, some, ap (λ (b : List ℕ). length b) same)) (behind ∙ ap (λ b. without_last_slashes (drop 1 b)) same)
