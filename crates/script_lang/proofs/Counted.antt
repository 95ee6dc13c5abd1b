-- The texts of the numbers from 1 on.
use Rattle.std.proofs.Common.{◌≡◌, ℕ, ◌+◌, List, ◌++◌, append_assoc, add-one, ap, ◌∙◌, refl}
use Rattle.script_lang.specs.Generated.{each_to}

each_to_next : (text : ℕ → List ℕ) (n : ℕ) → each_to text n ++ text (n + 1) ≡ each_to text (n + 1)
each_to_next text n = rw add-one refl

-- one number more
pub each_to_more : (text : ℕ → List ℕ) (start page new : List ℕ) (n : ℕ) → page ≡ start ++ each_to text n → new ≡ page ++ text (n + 1)
    → new ≡ start ++ each_to text (n + 1)
each_to_more text start page new n before more =
    more ∙ ap (λ xs. xs ++ text (n + 1)) before ∙ append_assoc start (each_to text n) (text (n + 1)) ∙ ap (λ xs. start ++ xs) (each_to_next text n)
