-- The readers of a machine at their places.
use Rattle.std.proofs.Common.{◌≡◌, ◌≢◌, ℕ, zero, suc, ◌+◌, ◌<◌, Bool, true, false, ◌==◌, if◌then◌else◌, List, [], ◌∷◌, ◌++◌, length, get_or, set, Option, Some, None, append-nil, refl, sym, ap, ◌∙◌, subst, ⊎_elim, arith, eq-eqb}
use Rattle.std.proofs.lemmas.Bool.{cases_Bool, eqb-true}
use Rattle.std.proofs.lemmas.List.{set-set}
use Rattle.std.proofs.Math.ListN.{length-set}
use Rattle.atomic_table.specs.Seated.{TableId}
use Rattle.init_machine.specs.Orderly.{readings_in}
use Rattle.init_machine.specs.State.{Opening}
use Rattle.init_machine.specs.declared.report.Reading.{Reading}
use Rattle.property_area.specs.Seats.{Seated}
use Rattle.init_driver.specs.Machine.{EachSeated, IsSeated, told_by_reader, told_to}

same_some : (r x : Seated) → Some r ≡ Some x → r ≡ x
same_some r x e = cc

none_there : (r : Seated) → Some r ≡ None → ⊥
none_there r e = cc

-- the reader at a place
pub seated_at : (area : TableId) (o : Opening) (id : ℕ) (rs : List (Option Seated)) (k : ℕ) (r : Seated) → EachSeated area o id rs → k < length rs
    → Some r ≡ get_or rs k (Some r) → IsSeated area o (id + k) r
seated_at area o id [] k r each within at = absurd (omega arith)
seated_at area o id (None ∷ rs) k r each within at = absurd each
seated_at area o id (Some x ∷ rs) zero r each within at =
    let here : id ≡ id + 0 = omega arith in
    subst (λ n. IsSeated area o n r) here (subst (λ (y : Seated). IsSeated area o id y) (sym (same_some r x at)) each.0)
seated_at area o id (Some x ∷ rs) (suc k) r each within at =
    let there : id + 1 + k ≡ id + suc k = omega arith in
    subst (λ n. IsSeated area o n r) there (seated_at area o (id + 1) rs k r each.1 (omega arith) at)

-- it is put back
pub seated_put : (area : TableId) (o : Opening) (id : ℕ) (rs : List (Option Seated)) (k : ℕ) (r : Seated) → EachSeated area o id rs → k < length rs
    → IsSeated area o (id + k) r → EachSeated area o id (set rs k (Some r))
seated_put area o id [] k r each within is = absurd (omega arith)
seated_put area o id (None ∷ rs) k r each within is = absurd each
seated_put area o id (Some x ∷ rs) zero r each within is =
    let here : id + 0 ≡ id = omega arith in
    (subst (λ n. IsSeated area o n r) here is, each.1)
seated_put area o id (Some x ∷ rs) (suc k) r each within is =
    let there : id + suc k ≡ id + 1 + k = omega arith in
    (each.0, seated_put area o (id + 1) rs k r each.1 (omega arith) (subst (λ n. IsSeated area o n r) there is))

-- one more enters
pub seated_end : (area : TableId) (o : Opening) (id : ℕ) (rs : List (Option Seated)) (r : Seated) → EachSeated area o id rs → IsSeated area o (id + length rs) r
    → EachSeated area o id (rs ++ Some r ∷ [])
seated_end area o id [] r each is = let here : id + 0 ≡ id = omega arith in (subst (λ n. IsSeated area o n r) here is, tt)
seated_end area o id (None ∷ rs) r each is = absurd each
seated_end area o id (Some x ∷ rs) r each is =
    let there : id + suc (length rs) ≡ id + 1 + length rs = omega arith in
    (each.0, seated_end area o (id + 1) rs r each.1 (subst (λ n. IsSeated area o n r) there is))

pub told_end : (rs : List (Option Seated)) (r : Seated) → ((q : ℕ) → told_to rs q ≡ []) → readings_in r.view.list ≡ [] → (q : ℕ) → told_to (rs ++ Some r ∷ []) q ≡ []
told_end [] r none empty zero = empty
told_end [] r none empty (suc q) = refl
told_end (x ∷ rs) r none empty zero = none 0
told_end (x ∷ rs) r none empty (suc q) = told_end rs r (λ p. none (suc p)) empty q

-- ---- what was told

told_own : (rs : List (Option Seated)) (k : ℕ) (x : Option Seated) → k < length rs → told_to (set rs k x) k ≡ told_by_reader x
told_own [] k x within = absurd (omega arith)
told_own (y ∷ rs) zero x within = refl
told_own (y ∷ rs) (suc k) x within = told_own rs k x (omega arith)

told_else : (rs : List (Option Seated)) (k q : ℕ) (x : Option Seated) → k ≢ q → told_to (set rs k x) q ≡ told_to rs q
told_else [] k q x other = refl
told_else (y ∷ rs) zero zero x other = absurd (other refl)
told_else (y ∷ rs) zero (suc q) x other = refl
told_else (y ∷ rs) (suc k) zero x other = refl
told_else (y ∷ rs) (suc k) (suc q) x other = told_else rs k q x (λ e. other (ap suc e))

told_lent : (rs : List (Option Seated)) (k : ℕ) (r : Seated) → k < length rs → Some r ≡ get_or rs k (Some r) → told_to rs k ≡ readings_in r.view.list
told_lent [] k r within at = absurd (omega arith)
told_lent (x ∷ rs) zero r within at = ap told_by_reader (sym at)
told_lent (x ∷ rs) (suc k) r within at = told_lent rs k r (omega arith) at

-- a reader that was lent comes back, with more
module _ (rs : List (Option Seated)) (k : ℕ) (reader back : Seated) (within : k < length rs) (at : Some reader ≡ get_or rs k (Some reader)) where
  abbrev pub returned : List (Option Seated)
  returned = set (set rs k None) k (Some back)

  pub returned_is : returned ≡ set rs k (Some back)
  returned_is = set-set rs k None (Some back)

  pub returned_many : length returned ≡ length rs
  returned_many = ap (λ (l : List (Option Seated)). length l) returned_is ∙ length-set rs k (Some back)

  pub told_returned : (more : List Reading) → readings_in back.view.list ≡ readings_in reader.view.list ++ more
      → (q : ℕ) → told_to returned q ≡ told_to rs q ++ (if k == q then more else [])
  told_returned more heard q = ⊎_elim
      (λ (same : (k == q) ≡ true).
      let is = eqb-true k q same in
      ap (λ (l : List (Option Seated)). told_to l q) returned_is
      ∙ ap (λ p. told_to (set rs k (Some back)) p) (sym is)
      ∙ told_own rs k (Some back) within ∙ heard
      ∙ ap (λ l. l ++ more) (sym (told_lent rs k reader within at) ∙ ap (told_to rs) is)
      ∙ ap (λ (b : Bool). told_to rs q ++ (if b then more else [])) (sym same))
      (λ (differs : (k == q) ≡ false).
      let other : k ≢ q = λ e. let t = eq-eqb k q e in let f : true ≡ false = sym t ∙ differs in cc in
      ap (λ (l : List (Option Seated)). told_to l q) returned_is
      ∙ told_else rs k q (Some back) other
      ∙ sym (append-nil (told_to rs q))
      ∙ ap (λ (b : Bool). told_to rs q ++ (if b then more else [])) (sym differs))
      (cases_Bool (k == q))

  nothing_more : (b : Bool) (l : List Reading) → l ++ (if b then [] else []) ≡ l
  nothing_more true l = append-nil l
  nothing_more false l = append-nil l

  pub told_still : readings_in back.view.list ≡ readings_in reader.view.list → (q : ℕ) → told_to returned q ≡ told_to rs q
  told_still same q = told_returned [] (same ∙ sym (append-nil (readings_in reader.view.list))) q ∙ nothing_more (k == q) (told_to rs q)
