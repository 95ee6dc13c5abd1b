-- A map from bytes to numbers, by these bytes.
use Rattle.std.proofs.Common.{◌≡◌, ℕ, ◌+◌, ◌-◌, true, false, cond, List, Some, refl, sym, ap, subst, ◌∙◌, arith}
use Rattle.std.specs.Cmp.Lexicographic.{nat_list_eq_equiv}
use Rattle.std.specs.HashMap.{HashMap, UpdatesBy}
use Rattle.std.specs.Prelude.{Vec, unwrap_or}
use Rattle.std.specs.Str.{bytes_eq}
use Rattle.init_base.proofs.ByBytes.{apart, other_entries, same_bytes}
use Rattle.lint_findings.specs.internal.Rows.{count_in}

pub same_test : (bs cs : List ℕ) → bytes_eq bs cs ≡ bytes_eq cs bs
same_test bs cs = nat_list_eq_equiv.symm bs cs

-- what a number that is put leaves
pub number_put : {A S : Type 0} (m n : HashMap (Vec ℕ A) ℕ S) (key : Vec ℕ A) (value : ℕ) (bs : List ℕ)
    → UpdatesBy (λ x y. bytes_eq x.items y.items) (λ k. bytes_eq key.items k.items) m n (Some value) → key.items ≡ bs
    → (cs : List ℕ) → count_in n cs ≡ cond (bytes_eq bs cs) value (count_in m cs)
number_put m n key value bs h is cs =
    let here : count_in n bs ≡ value = subst (λ (b : List ℕ). count_in n b ≡ value) is (ap (λ o. unwrap_or o 0) h.1) in
    elim (bytes_eq bs cs) as (λ b. bytes_eq bs cs ≡ b → count_in n cs ≡ cond b value (count_in m cs)) [
      | true ↦ λ y. subst (λ l. count_in n l ≡ value) (same_bytes bs cs y) here
      | false ↦ λ e.
          ap (λ o. unwrap_or o 0)
          (other_entries _ _ _ _ h.3 (λ k. bytes_eq cs k.items) (λ x y. nat_list_eq_equiv.congr cs x.items y.items)
          (λ k. apart key.items cs k.items (ap (λ (b : List ℕ). bytes_eq b cs) is ∙ e)))
    ] refl

pub one_more : {A S : Type 0} (m : HashMap (Vec ℕ A) ℕ S) (bs cs : List ℕ)
    → cond (bytes_eq bs cs) (count_in m bs + 1) (count_in m cs) ≡ count_in m cs + cond (bytes_eq bs cs) 1 0
one_more m bs cs =
    elim (bytes_eq bs cs) as (λ b. bytes_eq bs cs ≡ b → cond b (count_in m bs + 1) (count_in m cs) ≡ count_in m cs + cond b 1 0) [
      | true ↦ λ y. ap (λ l. count_in m l + 1) (same_bytes bs cs y)
      | false ↦ λ e. omega arith
    ] refl

pub one_less : {A S : Type 0} (m : HashMap (Vec ℕ A) ℕ S) (bs cs : List ℕ)
    → cond (bytes_eq bs cs) (count_in m bs - 1) (count_in m cs) ≡ count_in m cs - cond (bytes_eq bs cs) 1 0
one_less m bs cs =
    elim (bytes_eq bs cs) as (λ b. bytes_eq bs cs ≡ b → cond b (count_in m bs - 1) (count_in m cs) ≡ count_in m cs - cond b 1 0) [
      | true ↦ λ y. ap (λ l. count_in m l - 1) (same_bytes bs cs y)
      | false ↦ λ e. omega arith
    ] refl

-- nothing is taken from what isn't there
pub none_less : {A S : Type 0} (m : HashMap (Vec ℕ A) ℕ S) (bs cs : List ℕ) → count_in m bs ≡ 0
    → count_in m cs ≡ count_in m cs - cond (bytes_eq bs cs) 1 0
none_less m bs cs none =
    elim (bytes_eq bs cs) as (λ b. bytes_eq bs cs ≡ b → count_in m cs ≡ count_in m cs - cond b 1 0) [
      | true ↦ λ y. let is : count_in m cs ≡ 0 = ap (λ l. count_in m l) (sym (same_bytes bs cs y)) ∙ none in omega arith
      | false ↦ λ e. omega arith
    ] refl
