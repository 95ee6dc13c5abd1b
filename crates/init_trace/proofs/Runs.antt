-- A run of plain bytes stands for itself in q form.
use Rattle.std.proofs.Common.{◌≡◌, ℕ, suc, ◌+◌, Bool, true, false, cond, List, [], ◌∷◌, ◌++◌, take, drop, length, slice_index, ◌<◌, append_assoc, refl, sym, ap, ◌∙◌, arith, if◌then◌else◌, ◌&&◌}
use Rattle.std.specs.List.{flat_map, list_all, prefix_len}
use Rattle.std.proofs.Math.Seq.{drop-cons}
use Rattle.init_trace.specs.Quoted.{hex_byte, is_plain, quoted_byte}

plain_byte : (x : ℕ) → is_plain x ≡ true → quoted_byte x ≡ x ∷ []
plain_byte x is = ap (λ (b : Bool). if b then x ∷ [] else 37 ∷ hex_byte true x) is

pub run_quoted : (xs : List ℕ)
    → take (prefix_len is_plain xs) xs ++ flat_map quoted_byte (drop (prefix_len is_plain xs) xs) ≡ flat_map quoted_byte xs
run_quoted [] = refl
run_quoted (x ∷ xs) =
    let n : ℕ = prefix_len is_plain xs in
    elim (is_plain x) as
    (λ b. is_plain x ≡ b → take (cond b (1 + n) 0) (x ∷ xs) ++ flat_map quoted_byte (drop (cond b (1 + n) 0) (x ∷ xs)) ≡ quoted_byte x ++ flat_map quoted_byte xs) [
      | true ↦ λ is.
          let e : 1 + n ≡ suc n = omega arith in
          rw e (ap (λ l. x ∷ l) (run_quoted xs) ∙ ap (λ q. q ++ flat_map quoted_byte xs) (sym (plain_byte x is)))
      | false ↦ λ is. refl
    ] refl

-- the run was added, and the rest is left
pub run_left : (old bytes : List ℕ) (run : ℕ) → run ≡ prefix_len is_plain bytes
    → (old ++ take run bytes) ++ flat_map quoted_byte (drop run bytes) ≡ old ++ flat_map quoted_byte bytes
run_left old bytes run is =
    append_assoc old (take run bytes) (flat_map quoted_byte (drop run bytes))
    ∙ ap (λ n. old ++ (take n bytes ++ flat_map quoted_byte (drop n bytes))) is
    ∙ ap (λ q. old ++ q) (run_quoted bytes)

-- the run and the byte behind it were added, and the rest is left
pub byte_left : (old bytes : List ℕ) (run : ℕ) → run ≡ prefix_len is_plain bytes → run < length bytes
    → ((old ++ take run bytes) ++ quoted_byte (slice_index bytes run)) ++ flat_map quoted_byte (drop (run + 1) bytes) ≡ old ++ flat_map quoted_byte bytes
byte_left old bytes run is below =
    let front : drop run bytes ≡ slice_index bytes run ∷ drop (run + 1) bytes =
    drop-cons bytes run 0 below ∙ ap (λ n. slice_index bytes run ∷ drop n bytes) (let same : suc run ≡ run + 1 = omega arith in same) in
    append_assoc (old ++ take run bytes) (quoted_byte (slice_index bytes run)) (flat_map quoted_byte (drop (run + 1) bytes))
    ∙ ap (λ r. (old ++ take run bytes) ++ flat_map quoted_byte r) (sym front)
    ∙ run_left old bytes run is

-- plain bytes alone stand for themselves
pub plain_whole : (xs : List ℕ) → list_all is_plain xs ≡ true → xs ≡ flat_map quoted_byte xs
plain_whole [] is = refl
plain_whole (x ∷ xs) is = by (is_plain x) refl is (plain_whole xs)
  where
    by : (b : Bool) → is_plain x ≡ b → (b && list_all is_plain xs) ≡ true → (list_all is_plain xs ≡ true → xs ≡ flat_map quoted_byte xs)
        → x ∷ xs ≡ quoted_byte x ++ flat_map quoted_byte xs
    by true plain rest whole = ap (λ ys. x ∷ ys) (whole rest) ∙ ap (λ q. q ++ flat_map quoted_byte xs) (sym (plain_byte x plain))
    by false plain rest whole = absurd (cc)
