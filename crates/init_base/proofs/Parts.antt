-- Parts of lists.
use Rattle.std.proofs.Common.{◌≡◌, ℕ, ◌+◌, ◌-◌, ◌≤◌, List, length, take, drop, slice_range, sym, ap, ◌∙◌, arith, length-take, drop-drop}
use Rattle.std.proofs.lemmas.List.{drop-take, take-take}

-- a part of a part
part_of_part : (xs : List ℕ) (start end from to : ℕ) → from ≤ to → to ≤ end - start
    → slice_range xs (start + from) (start + to) ≡ slice_range (slice_range xs start end) from to
part_of_part xs start end from to order bound =
    let rest = end - start - from in
    let whole : from + rest ≡ end - start = omega arith in
    let count : start + to - (start + from) ≡ to - from = omega arith in
    let within : to - from ≤ rest = omega arith in
    ap (λ k. take k (drop (start + from) xs)) count
    ∙ ap (take (to - from)) (sym (drop-drop from start xs))
    ∙ sym (take-take (to - from) rest (drop from (drop start xs)) within)
    ∙ ap (take (to - from)) (sym (drop-take from rest (drop start xs)))
    ∙ ap (λ k. take (to - from) (drop from (take k (drop start xs)))) whole

-- a part of a text that is a part of shared bytes
pub part_of_shared : (whole xs : List ℕ) (start end from to : ℕ) → slice_range xs start end ≡ whole → from ≤ to → to ≤ length whole
    → slice_range xs (start + from) (start + to) ≡ slice_range whole from to
part_of_shared whole xs start end from to is order bound =
    let bounded : to ≤ length (slice_range xs start end) = rw is bound in
    let within : to ≤ end - start = omega (arith, length-take (end - start) (drop start xs)) in
    part_of_part xs start end from to order within ∙ ap (λ l. slice_range l from to) is

-- the front of a piece that begins where a part does
pub front_of_piece : (xs : List ℕ) (from to size : ℕ) → from ≤ to → to - from ≤ size
    → take (to - from) (slice_range xs from (from + size)) ≡ slice_range xs from to
front_of_piece xs from to size order short =
    let count : from + size - from ≡ size = omega arith in
    ap (λ k. take (to - from) (take k (drop from xs))) count
    ∙ take-take (to - from) size (drop from xs) short
