-- What was read, from what a read fills its buffer with.
use Rattle.std.proofs.Common.{◌≡◌, ℕ, zero, suc, ◌-◌, ◌≤◌, List, [], ◌∷◌, ◌++◌, length, take, drop, Option, Some, None, Ok, IfSome, sym, ◌∙◌, ap, arith, length-take}
use Rattle.std.proofs.lemmas.List.{take_at, take_all, drop-replicate, take-replicate}
use Rattle.std.specs.Prelude.{replicate}
use Rattle.std.specs.Int.{w64, from_le_bytes}
use Rattle.persist_disk.specs.DiskModel.{ReadsFrom}
use Rattle.persist_disk.specs.Image.{length_at}

-- a front of two lists
pub take_both : (n : ℕ) (xs ys : List ℕ) → take n (xs ++ ys) ≡ take n xs ++ take (n - length xs) ys
take_both zero xs ys = let e : 0 - length xs ≡ 0 = omega arith in sym (ap (λ k. take k ys) e)
take_both (suc n) [] ys = let e : suc n ≡ suc n - 0 = omega arith in ap (λ k. take k ys) e
take_both (suc n) (x ∷ xs) ys =
    let e : n - length xs ≡ suc n - suc (length xs) = omega arith in
    ap (λ (l : List ℕ). x ∷ l) (take_both n xs ys ∙ ap (λ k. take n xs ++ take k ys) e)

-- eight bytes that were read, with FF for those that lack
padded : (rest : List ℕ) (count : ℕ) (front : List ℕ) → front ≡ take 8 rest → length front ≡ count → front ++ drop count (replicate 8 255) ≡ take 8 (rest ++ replicate 8 255)
padded rest count front is len =
    let lacking : 8 - count ≡ 8 - length rest = omega (arith, ap length is, length-take 8 rest) in
    ap (λ (l : List ℕ). l ++ drop count (replicate 8 255)) is
    ∙ ap (λ (l : List ℕ). take 8 rest ++ l) (drop-replicate count 8 255 ∙ ap (λ k. replicate k 255) lacking ∙ sym (take-replicate (8 - length rest) 8 255 (omega arith)))
    ∙ sym (take_both 8 rest (replicate 8 255))

pub length_read : (content : Option (List ℕ)) (at count : ℕ) (buf front : List ℕ) (len : ℕ) → ReadsFrom content at (Ok count) buf → length buf ≡ 8 → count ≤ 8 → front ≡ take count buf
    → len ≡ from_le_bytes w64 (front ++ drop count (replicate 8 255)) → IfSome content (λ image. len ≡ length_at image at)
unfolding length_at
length_read None at count buf front len reads eight le is given = tt
length_read (Some image) at count buf front len reads eight le is given =
    let same : front ≡ take 8 (drop at image) = is ∙ reads ∙ ap (λ n. take n (drop at image)) eight in
    let size : length front ≡ count = omega (arith, ap length is, length-take count buf) in
    given ∙ ap (λ bytes. from_le_bytes w64 bytes) (padded (drop at image) count front same size)

pub part_read : (content : Option (List ℕ)) (at len count n : ℕ) (buf items text : List ℕ) → ReadsFrom content at (Ok count) buf → length buf ≡ len → n ≡ len → len ≤ count → count ≤ length buf
    → text ≡ take n (buf ++ drop (length buf) items) → IfSome content (λ image. text ≡ take len (drop at image))
part_read None at len count n buf items text reads buf_len n_is enough bound given = tt
part_read (Some image) at len count n buf items text reads buf_len n_is enough bound given =
    let count_is : count ≡ length buf = omega arith in
    let whole : take count buf ≡ buf = take_all count buf (omega arith) in
    let filled : buf ≡ take len (drop at image) = sym whole ∙ reads ∙ ap (λ k. take k (drop at image)) buf_len in
    given ∙ take_at buf (drop (length buf) items) n (omega arith) ∙ filled
