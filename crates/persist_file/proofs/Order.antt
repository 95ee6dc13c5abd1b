-- The order of names.
use Rattle.std.proofs.Common.{◌≡◌, suc, ◌-◌, Bool, true, false, ◌&&◌, List, [], ◌∷◌, ◌++◌, length, refl, ap, sym, ◌∙◌, arith}
use Rattle.std.proofs.Math.Bool.{and-true}
use Rattle.init_machine.specs.Pairs.{is_before}
use Rattle.init_machine.specs.declared.config.Pair.{Pair}
use Rattle.persist_file.specs.Causes.{is_above, last_name}
use Rattle.persist_file.specs.Store.{names_ascend}

and_joined : (a b c : Bool) → (a && (b && c)) ≡ ((a && b) && c)
and_joined true b c = refl
and_joined false b c = refl

last_behind : (p q : Pair) (rest : List Pair) → last_name (p ∷ q ∷ rest) ≡ last_name (q ∷ rest)
last_behind p q rest =
    let at : length (p ∷ q ∷ rest) - 1 ≡ suc (length (q ∷ rest) - 1) = omega arith in
    rw at refl

-- one pair more
pub ascends_behind : (pairs : List Pair) (pair : Pair) → names_ascend (pairs ++ pair ∷ []) ≡ (names_ascend pairs && is_above (last_name pairs) pair.name)
ascends_behind [] pair = refl
ascends_behind (p ∷ []) pair = and-true (is_before p.name pair.name)
ascends_behind (p ∷ q ∷ rest) pair =
    ap (λ b. is_before p.name q.name && b) (ascends_behind (q ∷ rest) pair)
    ∙ and_joined (is_before p.name q.name) (names_ascend (q ∷ rest)) (is_above (last_name (q ∷ rest)) pair.name)
    ∙ ap (λ n. (is_before p.name q.name && names_ascend (q ∷ rest)) && is_above n pair.name) (sym (last_behind p q rest))
