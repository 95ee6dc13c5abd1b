-- A walk changes the trail of a view alone, so what its last step tells holds of the view that it began with.
use Rattle.std.proofs.Common.{◌≡◌, ℕ, ◌+◌, IsTrue, List, [], ◌∷◌, Option, Some, None, sym, refl, ap, ◌∙◌, subst, inr}
use Rattle.std.specs.declared.cmp.Ordering.{Ordering}
use Rattle.atomic_table.specs.declared.shared.Seat.{Seat}
use Rattle.init_machine.specs.declared.report.Reading.{Reading}
use Rattle.init_machine.specs.declared.report.Reading.TheVariants.{Absent}
use Rattle.serial_value.specs.declared.view.CellView.{CellView}
use Rattle.serial_value.specs.declared.view.CellView.TheVariants.{Writer, Reader}
use Rattle.property_trie.specs.Tree.{by_order}
use Rattle.property_trie.specs.declared.view.Trail.{Trail}
use Rattle.property_trie.specs.declared.view.TrieView.{TrieView}
use Rattle.property_trie.specs.TrieSteps.{LeadsTo, GoesOn, ComesTo, NodeInside, first_of, rested, standing, knowing, Misses}
use Rattle.property_trie.proofs.Orders.{compare_same}

module _ {V : Type 0} (trie : V → TrieView) (with_trie : V → TrieView → V) where
  -- the later view differs from the first in its trail alone
  pub record Walked (v w : V) : Type 0 where
    pub trail : Option Trail
    pub is : w ≡ with_trie v (record (trie v) { trail = trail })

-- between two steps of a walk: it is that seat with its rights
pub record IsOnWalk {S V : Type 0} (trie : V → TrieView) (with_trie : V → TrieView → V) (before after : Seat S V) : Type 0 where
  pub table : after.table_id ≡ before.table_id
  pub id : after.id ≡ before.id
  pub rights : after.me.1 ≡ before.me.1
  pub walked : Walked trie with_trie before.me.0 after.me.0

module _ {V : Type 0} (cell : V → CellView) (trie : V → TrieView) (with_trie : V → TrieView → V) (noted : V → Reading → V)
    (trie_with : (v : V) (t : TrieView) → trie (with_trie v t) ≡ t)
    (trie_twice : (v : V) (t u : TrieView) → with_trie (with_trie v t) u ≡ with_trie v u)
    (cell_beside : (v : V) (t : TrieView) → cell (with_trie v t) ≡ cell v) where
  module _ (v w : V) (h : Walked trie with_trie v w) where
    pub cell_walked : cell w ≡ cell v
    cell_walked = ap cell h.is ∙ cell_beside v (record (trie v) { trail = h.trail })

    pub trie_walked : trie w ≡ record (trie v) { trail = h.trail }
    trie_walked = ap trie h.is ∙ trie_with v (record (trie v) { trail = h.trail })

    -- another trail is put in place of the walk's
    put : (f : TrieView → TrieView) → ((t : TrieView) (o : Option Trail) → f (record t { trail = o }) ≡ f t) → with_trie w (f (trie w)) ≡ with_trie v (f (trie v))
    put f same =
        (λ i. with_trie (h.is i) (f (trie_walked i))) ∙ ap (with_trie (with_trie v (record (trie v) { trail = h.trail }))) (same (trie v) h.trail)
        ∙ trie_twice v (record (trie v) { trail = h.trail }) (f (trie v))

    pub put_rested : with_trie w (rested (trie w)) ≡ with_trie v (rested (trie v))
    put_rested = put rested (λ t o. refl)

    pub put_standing : (name : List ℕ) (rest : List (List ℕ)) (place : ℕ) (part : List ℕ) → with_trie w (standing (trie w) name rest place part) ≡ with_trie v (standing (trie v) name rest place part)
    put_standing name rest place part = put (λ t. standing t name rest place part) (λ t o. refl)

    pub put_knowing : (name : List ℕ) (place : ℕ) → with_trie w (knowing (trie w) name place) ≡ with_trie v (knowing (trie v) name place)
    put_knowing name place = put (λ t. knowing t name place) (λ t o. refl)

    misses_moved : (c : CellView) (name : List ℕ) (after : V) → Misses with_trie noted c (trie w) w name after → Misses with_trie noted c (trie v) v name after
    misses_moved (Writer sets making) name after m = (m.0, m.1 ∙ put_rested)
    misses_moved (Reader number copying) name after m = m ∙ ap (λ (u : V). noted u (Absent name number)) put_rested

    -- a name that the walk finds no cell of
    pub misses_walked : (name : List ℕ) (after : V) → Misses with_trie noted (cell w) (trie w) w name after → Misses with_trie noted (cell v) (trie v) v name after
    misses_walked name after m = misses_moved (cell v) name after (subst (λ (c : CellView). Misses with_trie noted c (trie w) w name after) cell_walked m)

  -- a walk begins with no step
  pub walked_none : ((v : V) → with_trie v (trie v) ≡ v) → (v : V) → Walked trie with_trie v v
  walked_none trie_same v = record { trail = (trie v).trail; is = sym (trie_same v) }

  -- and comes to a node
  pub walked_to : (v w : V) (name : List ℕ) (rest : List (List ℕ)) (place : ℕ) (part : List ℕ) → w ≡ with_trie v (standing (trie v) name rest place part) → Walked trie with_trie v w
  walked_to v w name rest place part is = record { trail = Some (record { name = name; rest = rest; place = place; part = part }); is = is }

  pub trie_standing : (v w : V) (name : List ℕ) (rest : List (List ℕ)) (place : ℕ) (part : List ℕ) → w ≡ with_trie v (standing (trie v) name rest place part) → trie w ≡ standing (trie v) name rest place part
  trie_standing v w name rest place part is = ap trie is ∙ trie_with v (standing (trie v) name rest place part)

-- a view with no walk under way is at rest
pub rested_same : (t : TrieView) → t.trail ≡ None → rested t ≡ t
rested_same t none = λ i. record t { trail = sym none i }

module _ {V : Type 0} (cell : V → CellView) (trie : V → TrieView) (with_trie : V → TrieView → V)
    (trie_with : (v : V) (t : TrieView) → trie (with_trie v t) ≡ t)
    (trie_twice : (v : V) (t u : TrieView) → with_trie (with_trie v t) u ≡ with_trie v u)
    (cell_beside : (v : V) (t : TrieView) → cell (with_trie v t) ≡ cell v)
    (noted : V → Reading → V) where
  -- the node that the walk has come to is that of the first of the parts left
  pub at_first : (v m w : V) (words words' : ℕ) (name : List ℕ) (rest : List (List ℕ)) (place : ℕ) (own p : List ℕ) (ps : List (List ℕ)) → Walked trie with_trie v m
      → w ≡ with_trie m (standing (trie m) name rest place own) → words' ≡ words → NodeInside words' place own → rest ≡ p ∷ ps → p ≡ own
      → NodeInside words place (first_of rest) × (w ≡ with_trie v (standing (trie v) name rest place (first_of rest)))
  at_first v m w words words' name rest place own p ps walked is same inside parts equal =
      let first : own ≡ first_of rest = sym (ap first_of parts ∙ equal) in (
        subst (λ (q : List ℕ). NodeInside words place q) first (subst (λ (n : ℕ). NodeInside n place own) same inside),
        is ∙ (put_standing cell trie with_trie noted trie_with trie_twice cell_beside v m walked name rest place own ∙ ap (λ (q : List ℕ). with_trie v (standing (trie v) name rest place q)) first),
      )

-- from the node of a part that isn't the last the walk goes down
pub child_leads : (t t0 : TrieView) (name : List ℕ) (rest more : List (List ℕ)) (place : ℕ) (p q : List ℕ) (qs : List (List ℕ))
    → t ≡ standing t0 name rest place (first_of rest) → IsTrue t0.live → t0.adding ≡ None → rest ≡ p ∷ more → more ≡ q ∷ qs → LeadsTo t name (place + 3) more
child_leads t t0 name rest more place p q qs is live none parts next =
    subst (λ (u : TrieView). LeadsTo u name (place + 3) more) (sym is) record {
      live = live;
      no_adding = none;
      next = inr (
        refl,
        subst (λ (r : List (List ℕ)). GoesOn place (first_of r) r (place + 3) more) (sym (parts ∙ ap (λ (r : List (List ℕ)). p ∷ r) next))
            (subst (λ (o : Ordering). by_order o ((place + 3 ≡ place + 1) × (more ≡ p ∷ q ∷ qs)) ((place + 3 ≡ place + 3) × (more ≡ q ∷ qs)) ((place + 3 ≡ place + 2) × (more ≡ p ∷ q ∷ qs))) (sym (compare_same p)) (refl, next)),
      );
    }

-- from that of the last part to the link to the cell
pub last_comes : (t t0 : TrieView) (name : List ℕ) (rest : List (List ℕ)) (place : ℕ) (p : List ℕ)
    → t ≡ standing t0 name rest place (first_of rest) → IsTrue t0.live → t0.adding ≡ None → rest ≡ p ∷ [] → ComesTo t name (place + 4)
last_comes t t0 name rest place p is live none parts =
    subst (λ (u : TrieView). ComesTo u name (place + 4)) (sym is) record { live = live; no_adding = none; next = (refl, refl, parts ∙ ap (λ (q : List ℕ). q ∷ []) (sym (ap first_of parts))) }
