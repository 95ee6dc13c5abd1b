-- The update that is under way, seen from each name.
use Rattle.std.proofs.Common.{◌≡◌, ◌≢◌, ℕ, zero, suc, ◌<◌, ◌≤◌, ◌⊎◌, List, Option, Some, None, Bool, true, false, refl, ap, sym, inl, inr, subst, ⊎_elim, arith}
use Rattle.std.specs.Prelude.{if◌then◌else◌}
use Rattle.std.specs.Str.{bytes_eq}
use Rattle.std.proofs.lemmas.Bool.{cases_Bool}
use Rattle.std.proofs.lemmas.Slice.Eq.{bytes_eq-Decides}
use Rattle.serial_value.specs.declared.view.Making.{Making}
use Rattle.init_machine.specs.Sets.{Set}
use Rattle.serial_value.specs.Cell.{update, name_of, HasShortCell}
use Rattle.serial_value.specs.One.{done_of}
use Rattle.property_area.specs.Area.{made_on, MayMake}

pub name_eq : (a b : List ℕ) → a ≡ b → bytes_eq a b ≡ true
name_eq a b same = (bytes_eq-Decides a b).1 same

pub name_differs : (a b : List ℕ) → a ≢ b → bytes_eq a b ≡ false
name_differs a b other = ⊎_elim
    (λ (t : bytes_eq a b ≡ true). absurd (other ((bytes_eq-Decides a b).0 t)))
    (λ (f : bytes_eq a b ≡ false). f)
    (cases_Bool (bytes_eq a b))

pub same_or_other : (a b : List ℕ) → (a ≡ b) ⊎ (a ≢ b)
same_or_other a b = ⊎_elim
    (λ (t : bytes_eq a b ≡ true). inl ((bytes_eq-Decides a b).0 t))
    (λ (f : bytes_eq a b ≡ false). inr (λ same. let t : bytes_eq a b ≡ true = (bytes_eq-Decides a b).1 same in absurd (cc)))
    (cases_Bool (bytes_eq a b))

pub made_self : (name value : List ℕ) (place done : ℕ) → made_on name (update name value place done) ≡ update name value place done
made_self name value place zero = refl
made_self name value place (suc done) =
    ap (λ (b : Bool). if b then Some (record { name = name; value = value; place = place; done = suc done }) else None) (name_eq name name refl)

pub made_other : (q name value : List ℕ) (place done : ℕ) → q ≢ name → made_on q (update name value place done) ≡ None
made_other q name value place zero other = refl
made_other q name value place (suc done) other =
    ap (λ (b : Bool). if b then Some (record { name = name; value = value; place = place; done = suc done }) else None)
    (name_differs name q (λ same. other (sym same)))

-- where the update of a name is past its dirty serial, a set of the name is being made
pub made_past : (making : Option Making) (name : List ℕ) → 13 ≤ done_of (made_on name making) → name_of making ≡ Some name
made_past None name done = absurd (omega arith)
made_past (Some making) name done = ⊎_elim
    (λ (t : bytes_eq making.name name ≡ true). ap Some ((bytes_eq-Decides making.name name).0 t))
    (λ (f : bytes_eq making.name name ≡ false).
    let none : done_of (made_on name (Some making)) ≡ 0 = ap (λ (b : Bool). done_of (if b then Some making else None)) f in
    absurd (omega arith))
    (cases_Bool (bytes_eq making.name name))

-- an update makes at most 25 stores before the last one
pub made_few : (sets : List Set) (making : Option Making) (q : List ℕ) → MayMake sets making → done_of (made_on q making) ≤ 25
made_few sets None q may = omega arith
made_few sets (Some making) q may = ⊎_elim
    (λ (t : bytes_eq making.name q ≡ true). let few = may.4 in subst (λ (b : Bool). done_of (if b then Some making else None) ≤ 25) (sym t) few)
    (λ (f : bytes_eq making.name q ≡ false). subst (λ (b : Bool). done_of (if b then Some making else None) ≤ 25) (sym f) (omega arith))
    (cases_Bool (bytes_eq making.name q))

-- the cell of a name that is being updated is short
pub made_short : (sets : List Set) (making : Option Making) (q : List ℕ) → MayMake sets making → 0 < done_of (made_on q making) → HasShortCell sets q
made_short sets None q may some = absurd (omega arith)
made_short sets (Some making) q may some = ⊎_elim
    (λ (t : bytes_eq making.name q ≡ true). subst (HasShortCell sets) ((bytes_eq-Decides making.name q).0 t) may.3)
    (λ (f : bytes_eq making.name q ≡ false).
    let none : done_of (made_on q (Some making)) ≡ 0 = ap (λ (b : Bool). done_of (if b then Some making else None)) f in
    absurd (omega arith))
    (cases_Bool (bytes_eq making.name q))
