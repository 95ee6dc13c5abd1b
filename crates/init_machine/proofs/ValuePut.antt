-- The value that a name has when a property was put.
use Rattle.std.proofs.Common.{◌≡◌, ℕ, Bool, true, false, List, [], ◌∷◌, Option, Some, None, if◌then◌else◌, refl, sym, ap, ◌∙◌}
use Rattle.std.proofs.lemmas.Bool.{false≢true}
use Rattle.std.proofs.lemmas.Slice.Eq.{bytes_eq-Decides}
use Rattle.std.specs.Str.{bytes_eq}
use Rattle.init_base.proofs.ByBytes.{same_bytes}
use Rattle.init_machine.specs.Props.{Property, lookup_in, put_in, value_of}

both_named : (a b name : List ℕ) → bytes_eq a b ≡ false → bytes_eq a name ≡ true → bytes_eq b name ≡ true → ⊥
both_named a b name other first second =
    false≢true (sym other ∙ (bytes_eq-Decides a b).1 (same_bytes a name first ∙ sym (same_bytes b name second)))

-- the property alone
alone : (named : Bool) (new : Property) → value_of (if named then Some new else None) ≡ (if named then Some new.value else None)
alone true new = refl
alone false new = refl

-- the property in the place of the name's old one
replaced : (named : Bool) (new old : Property) (rest : Option Property)
    → value_of (if named then Some new else rest) ≡ (if named then Some new.value else value_of (if named then Some old else rest))
replaced true new old rest = refl
replaced false new old rest = refl

-- the property behind another one
behind : (here named : Bool) (h new : Property) (was now : Option Property) → (here ≡ true → named ≡ true → ⊥)
    → value_of now ≡ (if named then Some new.value else value_of was)
    → value_of (if here then Some h else now) ≡ (if named then Some new.value else value_of (if here then Some h else was))
behind true true h new was now never is = absurd (never refl refl)
behind true false h new was now never is = refl
behind false named h new was now never is = is

pub value_put : (held : List Property) (new : Property) (name : List ℕ)
    → value_of (lookup_in (put_in held new) name) ≡ (if bytes_eq new.name name then Some new.value else value_of (lookup_in held name))
value_put [] new name = alone (bytes_eq new.name name) new
value_put (h ∷ rest) new name =
    elim (bytes_eq h.name new.name) as
    (λ b. bytes_eq h.name new.name ≡ b
    → value_of (lookup_in (if b then new ∷ rest else h ∷ put_in rest new) name)
    ≡ (if bytes_eq new.name name then Some new.value else value_of (lookup_in (h ∷ rest) name))) [
      | true ↦ λ same.
          let e : bytes_eq h.name name ≡ bytes_eq new.name name = ap (λ n. bytes_eq n name) (same_bytes h.name new.name same) in
          rw e (replaced (bytes_eq new.name name) new h (lookup_in rest name))
      | false ↦ λ other.
          behind (bytes_eq h.name name) (bytes_eq new.name name) h new (lookup_in rest name) (lookup_in (put_in rest new) name)
          (both_named h.name new.name name other) (value_put rest new name)
    ] refl
