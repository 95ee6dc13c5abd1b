-- A map from names to values, in the order of names, has the last pair of each name.
use Rattle.std.proofs.Common.{◌≡◌, ℕ, true, false, List, [], ◌∷◌, length, get_or, drop, ◌+◌, ◌<◌, refl, sym, ap, ◌∙◌, arith}
use Rattle.std.specs.BTreeMap.{insert_entry}
use Rattle.std.specs.Cmp.Lexicographic.{slice_cmp}
use Rattle.std.specs.Ordering.{match_ordering, nat_cmp}
use Rattle.std.specs.Str.{bytes_eq}
use Rattle.std.specs.declared.alloc.Global.{Global}
use Rattle.std.specs.declared.cmp.Ordering.{Ordering}
use Rattle.std.specs.declared.cmp.Ordering.TheVariants.{Less, Equal, Greater}
use Rattle.std.specs.declared.vec.Vec.{Vec}
use Rattle.std.proofs.lemmas.Slice.Eq.{bytes_eq-Decides}
use Rattle.std.proofs.lemmas.Bool.Decides.{nat_tests}
use Rattle.init_machine.specs.Pairs.{pair, is_before, with_saved, last_pairs_onto}
use Rattle.init_machine.specs.declared.config.Pair.{Pair}
use Rattle.init_core.proofs.Fronts.{front_is}
use Rattle.init_core.specs.internal.ByName.{pair_of, pairs_in}

-- what an order of two texts says of the tests of `with_saved`
record IsOrder (o : Ordering) (name other : List ℕ) : Type 0 where
  same : bytes_eq other name ≡ match_ordering o false true false
  before : is_before name other ≡ match_ordering o true false false

order : (name other : List ℕ) → IsOrder (slice_cmp nat_cmp name other) name other
order [] [] = record { same = refl; before = refl }
order [] (c ∷ cs) = record { same = refl; before = refl }
order (b ∷ bs) [] = record { same = refl; before = refl }
order (b ∷ bs) (c ∷ cs) =
    let rest = order bs cs in
    record {
      same = grind (arith, nat_tests, rest.same);
      before = grind (arith, nat_tests, rest.before);
    }

abbrev by_bytes : Vec ℕ Global → Vec ℕ Global → Ordering
by_bytes a b = slice_cmp nat_cmp a.items b.items

same_text : (xs ys : List ℕ) → bytes_eq xs ys ≡ true → xs ≡ ys
same_text xs ys = (bytes_eq-Decides xs ys).0

insert_front : (o : Ordering) (e : Vec ℕ Global × List ℕ) (es : List (Vec ℕ Global × List ℕ)) (name : Vec ℕ Global) (value : List ℕ)
    → IsOrder o name.items e.0.items → pairs_in (insert_entry by_bytes es name value) ≡ with_saved (pairs_in es) name.items value
    → pairs_in (match_ordering o ((name, value) ∷ e ∷ es) ((e.0, value) ∷ es) (e ∷ insert_entry by_bytes es name value)) ≡ with_saved (pairs_in (e ∷ es)) name.items value
insert_front Less e es name value is rest = rw (is.same, is.before) refl
insert_front Equal e es name value is rest =
    rw is.same (ap (λ (n : List ℕ). pair n value ∷ pairs_in es) (same_text e.0.items name.items is.same))
insert_front Greater e es name value is rest = rw (is.same, is.before) (ap (λ (ps : List Pair). pair_of e ∷ ps) rest)

pub insert_is : (es : List (Vec ℕ Global × List ℕ)) (name : Vec ℕ Global) (value : List ℕ)
    → pairs_in (insert_entry by_bytes es name value) ≡ with_saved (pairs_in es) name.items value
insert_is [] name value = refl
insert_is (e ∷ es) name value = insert_front (by_bytes name e.0) e es name value (order name.items e.0.items) (insert_is es name value)

-- what is left decides, behind one pair more
pub one_more : (old new : List (Vec ℕ Global × List ℕ)) (name : Vec ℕ Global) (value : List ℕ) (ys pairs all : List Pair) (i : ℕ) (p : Pair)
    → ys ≡ pairs → i < length ys → p ≡ get_or ys i p
    → name.items ≡ p.name → value ≡ p.value → new ≡ insert_entry by_bytes old name value
    → last_pairs_onto (pairs_in old) (drop i pairs) ≡ all → last_pairs_onto (pairs_in new) (drop (i + 1) pairs) ≡ all
one_more old new name value ys pairs all i p same within is named valued inserted left =
    let rest = drop (i + 1) pairs in
    ap (λ (es : List (Vec ℕ Global × List ℕ)). last_pairs_onto (pairs_in es) rest) inserted
    ∙ ap (λ (ps : List Pair). last_pairs_onto ps rest) (insert_is old name value)
    ∙ ap (λ (n : List ℕ). last_pairs_onto (with_saved (pairs_in old) n value) rest) named
    ∙ ap (λ (v : List ℕ). last_pairs_onto (with_saved (pairs_in old) p.name v) rest) valued
    ∙ sym (ap (λ (ps : List Pair). last_pairs_onto (pairs_in old) ps) (front_is ys pairs i p same within is))
    ∙ left
