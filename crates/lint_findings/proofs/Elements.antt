-- Elements that join a page one by one.
use Rattle.std.proofs.Common.{◌≡◌, ℕ, suc, ◌+◌, ◌<◌, List, ◌∷◌, ◌++◌, length, get_or, drop, drop-cons, add-one, sym, ap, ◌∙◌, append_assoc}
use Rattle.std.specs.List.{flat_map}

pub next_more : {A : Type 0} (text : A → List ℕ) (xs : List A) (i : ℕ) (x : A) (old new all : List ℕ)
    → i < length xs → x ≡ get_or xs i x → new ≡ old ++ text x → old ++ flat_map text (drop i xs) ≡ all
    → new ++ flat_map text (drop (i + 1) xs) ≡ all
next_more {A = A} text xs i x old new all below is added so_far =
    let left : drop i xs ≡ x ∷ drop (i + 1) xs = rw add-one (drop-cons xs i x below ∙ ap (λ (y : A). y ∷ drop (suc i) xs) (sym is)) in
    ap (λ (t : List ℕ). t ++ flat_map text (drop (i + 1) xs)) added
    ∙ append_assoc old (text x) (flat_map text (drop (i + 1) xs))
    ∙ ap (λ (ys : List A). old ++ flat_map text ys) (sym left)
    ∙ so_far
