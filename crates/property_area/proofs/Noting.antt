-- What the writer has noted, after each of its steps.
use Rattle.std.proofs.Common.{◌≡◌, ℕ, suc, IsTrue, Bool, true, false, List, ◌∷◌, Contains, Option, Some, None, sym, refl, ap, ◌∙◌, subst, ⊎_elim, arith}
use Rattle.std.specs.Prelude.{◌==◌, if◌then◌else◌}
use Rattle.std.specs.Str.{bytes_eq}
use Rattle.std.proofs.lemmas.Bool.{cases_Bool}
use Rattle.std.proofs.lemmas.Slice.Eq.{bytes_eq-Decides}
use Rattle.atomic_table.specs.Seated.{TableId}
use Rattle.init_machine.specs.Props.{Property, lookup_in, is_absent, put_in}
use Rattle.serial_value.specs.Steps.{HasCell}
use Rattle.property_area.specs.declared.places.Places.{Places}
use Rattle.property_trie.specs.Parts.{parts_of}
use Rattle.property_trie.specs.Tree.{find}
use Rattle.property_trie.specs.TrieSteps.{knowing, looked_up, tree_of}
use Rattle.property_area.specs.declared.view.AreaView.{AreaView}
use Rattle.property_area.specs.Area.{with_trie}
use Rattle.property_area.specs.Places.{AreNoted, Notes, place_in}
use Rattle.property_area.specs.Seats.{sets_in, store_of}
use Rattle.property_area.proofs.Meaning.{lookup-put}

-- the seat knows more
pub known_more : (known : List (List ℕ × ℕ)) (name : List ℕ) (place : ℕ) (q : List ℕ) (at : ℕ) → Contains known (q, at) → Contains ((name, place) ∷ known) (q, at)
known_more known name place q at t = (suc t.0, (let low = t.1 in omega arith), t.2)

pub known_first : (known : List (List ℕ × ℕ)) (name : List ℕ) (place : ℕ) → Contains ((name, place) ∷ known) (name, place)
known_first known name place = (0, omega arith, refl)

pub still_noted : (table : TableId) (known more : List (List ℕ × ℕ)) (held : List Property) (places : Places)
    → ((q : List ℕ) (at : ℕ) → Contains known (q, at) → Contains more (q, at)) → AreNoted table known held places → AreNoted table more held places
still_noted table known more held places stays noted = record {
  cells = λ q at is. let c = noted.cells q at is in (c.0, stays q at c.1, c.2);
  others = noted.others;
}

-- the writer has looked whether the name has room
pub noted_looked : (table : TableId) (v after : AreaView) (name : List ℕ) (places : Places) → after ≡ looked_up with_trie (tree_of (sets_in v)) v.trie v name
    → AreNoted table v.trie.known (store_of v).held places → AreNoted table after.trie.known (store_of after).held places
noted_looked table v after name places is noted =
    let place = find (tree_of (sets_in v)) (parts_of name) in
    subst (λ (x : AreaView). AreNoted table x.trie.known (store_of x).held places) (sym is)
    (elim (place == 0) as (λ b. let x : AreaView = if b then v else with_trie v (knowing v.trie name place) in AreNoted table x.trie.known (store_of x).held places) [
      | true ↦ noted
      | false ↦ still_noted table v.trie.known ((name, place) ∷ v.trie.known) (store_of v).held places (known_more v.trie.known name place) noted
    ])

taken : (b : Bool) (x : ℕ) (o : Option ℕ) (at : ℕ) → b ≡ true → (if b then Some x else o) ≡ Some at → x ≡ at
taken true x o at t e = cc
taken false x o at t e = absurd (cc)

left : (b : Bool) (x : ℕ) (o : Option ℕ) (r : Option ℕ) → b ≡ false → (if b then Some x else o) ≡ r → o ≡ r
left true x o r f e = absurd (cc)
left false x o r f e = e

not_taken : (b : Bool) (x : ℕ) (o : Option ℕ) → (if b then Some x else o) ≡ None → b ≡ false
not_taken true x o e = absurd (cc)
not_taken false x o e = refl

-- a cell that the seat knows is noted
module _ (table : TableId) (known : List (List ℕ × ℕ)) (held : List Property) (places : Places) (name : List ℕ) (place : ℕ)
    (cell : HasCell table place) (knows : Contains known (name, place)) (there : is_absent (lookup_in held name) ≡ false) where
  pub noted_more : (after : Places) → AreNoted table known held places → Notes places name place after → AreNoted table known held after
  noted_more after noted notes = ⊎_elim
      (λ (t : ((other : List ℕ) → place_in after other ≡ (if bytes_eq name other then Some place else place_in places other)) × (after.whole ≡ places.whole)). record {
        cells = λ q at is. ⊎_elim
            (λ (same : bytes_eq name q ≡ true).
            let q_is : name ≡ q = (bytes_eq-Decides name q).0 same in
            let at_is : place ≡ at = taken (bytes_eq name q) place (place_in places q) at same (sym (t.0 q) ∙ is) in
            subst (λ (x : List ℕ × ℕ). HasCell table x.1 × Contains known x × (is_absent (lookup_in held x.0) ≡ false)) (λ i. (q_is i, at_is i)) (cell, knows, there))
            (λ (other : bytes_eq name q ≡ false). noted.cells q at (left (bytes_eq name q) place (place_in places q) (Some at) other (sym (t.0 q) ∙ is)))
            (cases_Bool (bytes_eq name q));
        others = λ whole q none.
            let apart = not_taken (bytes_eq name q) place (place_in places q) (sym (t.0 q) ∙ none) in
            noted.others (subst IsTrue t.1 whole) q (left (bytes_eq name q) place (place_in places q) None apart (sym (t.0 q) ∙ none));
      })
      (λ (t : ((other : List ℕ) → place_in after other ≡ place_in places other) × (after.whole ≡ false)). record {
        cells = λ q at is. noted.cells q at (sym (t.0 q) ∙ is);
        others = λ whole q none. absurd (cc);
      })
      notes

is_there : (b : Bool) (new : Property) (o : Option Property) → is_absent o ≡ false → is_absent (if b then Some new else o) ≡ false
is_there true new o h = refl
is_there false new o h = h

-- a set of a property leaves what is noted of the names that were held
put_there : (held : List Property) (new : Property) (q : List ℕ) → is_absent (lookup_in held q) ≡ false → is_absent (lookup_in (put_in held new) q) ≡ false
put_there held new q h = ap is_absent (lookup-put held new q) ∙ is_there (bytes_eq new.name q) new (lookup_in held q) h

pub put_new : (held : List Property) (new : Property) → is_absent (lookup_in (put_in held new) new.name) ≡ false
put_new held new =
    ap is_absent (lookup-put held new new.name)
    ∙ ap (λ (b : Bool). is_absent (if b then Some new else lookup_in held new.name)) ((bytes_eq-Decides new.name new.name).1 refl)

-- a name that isn't noted isn't the one that is set, where all are noted
pub noted_set : (table : TableId) (known : List (List ℕ × ℕ)) (held : List Property) (places : Places) (new : Property)
    → is_absent (lookup_in held new.name) ≡ false → AreNoted table known held places → AreNoted table known (put_in held new) places
noted_set table known held places new there noted = record {
  cells = λ q at is. let c = noted.cells q at is in (c.0, c.1, put_there held new q c.2);
  others = λ whole q none. ⊎_elim
      (λ (same : bytes_eq new.name q ≡ true).
      let q_is : new.name ≡ q = (bytes_eq-Decides new.name q).0 same in
      let gone = ap is_absent (noted.others whole q none) in
      let held_q = subst (λ (n : List ℕ). is_absent (lookup_in held n) ≡ false) q_is there in
      absurd (cc))
      (λ (other : bytes_eq new.name q ≡ false).
      lookup-put held new q ∙ ap (λ (b : Bool). if b then Some new else lookup_in held q) other ∙ noted.others whole q none)
      (cases_Bool (bytes_eq new.name q));
}

-- a new name is noted, and its property put
pub noted_new : (table : TableId) (known : List (List ℕ × ℕ)) (held : List Property) (places after : Places) (new : Property) (place : ℕ)
    → HasCell table place → Notes places new.name place after → AreNoted table known held places
    → AreNoted table ((new.name, place) ∷ known) (put_in held new) after
noted_new table known held places after new place cell notes noted = ⊎_elim
    (λ (t : ((other : List ℕ) → place_in after other ≡ (if bytes_eq new.name other then Some place else place_in places other)) × (after.whole ≡ places.whole)). record {
      cells = λ q at is. ⊎_elim
          (λ (same : bytes_eq new.name q ≡ true).
          let q_is : new.name ≡ q = (bytes_eq-Decides new.name q).0 same in
          let at_is : place ≡ at = taken (bytes_eq new.name q) place (place_in places q) at same (sym (t.0 q) ∙ is) in
          subst (λ (x : List ℕ × ℕ). HasCell table x.1 × Contains ((new.name, place) ∷ known) x × (is_absent (lookup_in (put_in held new) x.0) ≡ false)) (λ i. (q_is i, at_is i))
          (cell, known_first known new.name place, put_new held new))
          (λ (other : bytes_eq new.name q ≡ false). kept q at (left (bytes_eq new.name q) place (place_in places q) (Some at) other (sym (t.0 q) ∙ is)))
          (cases_Bool (bytes_eq new.name q));
      others = λ whole q none.
          let apart = not_taken (bytes_eq new.name q) place (place_in places q) (sym (t.0 q) ∙ none) in
          lookup-put held new q ∙ ap (λ (b : Bool). if b then Some new else lookup_in held q) apart
          ∙ noted.others (subst IsTrue t.1 whole) q (left (bytes_eq new.name q) place (place_in places q) None apart (sym (t.0 q) ∙ none));
    })
    (λ (t : ((other : List ℕ) → place_in after other ≡ place_in places other) × (after.whole ≡ false)). record {
      cells = λ q at is. kept q at (sym (t.0 q) ∙ is);
      others = λ whole q none. absurd (cc);
    })
    notes
  where
    kept : (q : List ℕ) (at : ℕ) → place_in places q ≡ Some at
        → HasCell table at × Contains ((new.name, place) ∷ known) (q, at) × (is_absent (lookup_in (put_in held new) q) ≡ false)
    kept q at is = let c = noted.cells q at is in (c.0, known_more known new.name place q at c.1, put_there held new q c.2)
