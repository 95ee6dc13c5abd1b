-- What a write leaves is one of the things that a crash may make of it.
use Rattle.std.proofs.Common.{◌≡◌, ⊎_elim, ℕ, ◌+◌, ◌-◌, ◌<◌, ◌≤◌, max, List, ◌++◌, length, take, drop, get_or, ◌∙◌, ap, arith, length-append, length-take, length-drop, append_assoc}
use Rattle.std.proofs.lemmas.List.{drop_at, drop_all, length-replicate, get_or_append_left, get_or-append_right, get_or-take, get_or-drop, append-nil}
use Rattle.std.specs.Prelude.{replicate}
use Rattle.persist_disk.specs.DiskModel.{written, Torn}

-- what stands before the place
abbrev front : List ℕ → ℕ → List ℕ
front old at = take at old ++ replicate (at - length old) 0

length-front : (old : List ℕ) (at : ℕ) → length (front old at) ≡ at
length-front old at = omega (arith, length-append (take at old) (replicate (at - length old) 0), length-take at old, length-replicate {A = ℕ} (at - length old) 0)

split : (old : List ℕ) (at : ℕ) (bytes : List ℕ) → written old at bytes ≡ front old at ++ (bytes ++ drop (at + length bytes) old)
split old at bytes = append_assoc (front old at) bytes (drop (at + length bytes) old)

pub drop-written : (old : List ℕ) (at : ℕ) (bytes : List ℕ) → drop at (written old at bytes) ≡ bytes ++ drop (at + length bytes) old
drop-written old at bytes = ap (λ (l : List ℕ). drop at l) (split old at bytes) ∙ drop_at (front old at) (bytes ++ drop (at + length bytes) old) at (length-front old at)

pub length-written : (old : List ℕ) (at : ℕ) (bytes : List ℕ) → length (written old at bytes) ≡ max (length old) (at + length bytes)
length-written old at bytes =
    omega (arith, ap length (split old at bytes), length-append (front old at) (bytes ++ drop (at + length bytes) old), length-front old at, length-append bytes (drop (at + length bytes) old), length-drop (at + length bytes) old)

before : (old : List ℕ) (at : ℕ) (bytes : List ℕ) (k : ℕ) → k < length old → k < at → get_or (written old at bytes) k 0 ≡ get_or old k 0
before old at bytes k within le =
    ap (λ (l : List ℕ). get_or l k 0) (split old at bytes)
    ∙ get_or_append_left (front old at) (bytes ++ drop (at + length bytes) old) 0 k (omega (arith, length-front old at))
    ∙ get_or_append_left (take at old) (replicate (at - length old) 0) 0 k (omega (arith, length-take at old))
    ∙ get_or-take at old k 0 le

behind : (old : List ℕ) (at : ℕ) (bytes : List ℕ) (k : ℕ) → at + length bytes ≤ k → get_or (written old at bytes) k 0 ≡ get_or old k 0
behind old at bytes k le =
    let size : length (front old at ++ bytes) ≡ at + length bytes = omega (arith, length-append (front old at) bytes, length-front old at) in
    let place : at + length bytes + (k - (at + length bytes)) ≡ k = omega arith in
    get_or-append_right (front old at ++ bytes) (drop (at + length bytes) old) (at + length bytes) k 0 size le
    ∙ get_or-drop (at + length bytes) old (k - (at + length bytes)) 0
    ∙ ap (λ i. get_or old i 0) place

-- what a write leaves is one of the things that a crash may make of it
pub written_is_torn : (old : List ℕ) (at : ℕ) (bytes : List ℕ) → Torn at (length bytes) old (written old at bytes)
written_is_torn old at bytes = record {
  outside = λ k within out. ⊎_elim (λ lt. before old at bytes k within lt) (λ le. behind old at bytes k le) out;
  no_shorter = omega (arith, length-written old at bytes);
  no_longer = omega (arith, length-written old at bytes);
}

-- all of few bytes is written over
pub written_over : (old bytes : List ℕ) → length old ≤ length bytes → written old 0 bytes ≡ bytes
written_over old bytes le =
    drop-written old 0 bytes ∙ ap (λ (l : List ℕ). bytes ++ l) (drop_all (0 + length bytes) old (omega arith)) ∙ append-nil bytes
