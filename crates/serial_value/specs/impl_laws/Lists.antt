-- One more reading at the end of a client's list.
use Rattle.std.proofs.Common.{◌≡◌, ℕ, ◌<◌, ◌≤◌, List, [], ◌∷◌, ◌++◌, length, max, Bool, true, false, sym, refl, subst, ⊎_elim, arith}
use mathlib.Core.Option.{some}
use lib.ListN.{get_elem?}
use Rattle.std.specs.Prelude.{if◌then◌else◌}
use Rattle.std.proofs.Math.Nat.{le-max_left}
use Rattle.std.proofs.lemmas.Bool.{cases_Bool}
use Rattle.init_machine.specs.Serial.{rank, number_in, is_dirty}
use Rattle.init_machine.specs.Sets.{Set}
use Rattle.init_machine.specs.Facts.{Stands}
use Rattle.init_machine.specs.Orderly.{InOrder, SecondsRise, number_of, seen_after, count_before, count_after, seen_through}
use Rattle.init_machine.specs.declared.report.Reading.{Reading}
use Rattle.init_machine.specs.declared.report.Reading.TheVariants.{Found, Absent, Again, Synced, Caught}
use Rattle.init_machine.specs.declared.client.ClientItem.{ClientItem}
use Rattle.init_machine.specs.declared.client.ClientItem.TheVariants.{Told}
use Rattle.serial_value.specs.World.{World, ListHolds}
use Rattle.serial_value.specs.impl_laws.Places.{at_below, at_end}

pub seen_through-end : (seen : ℕ) (list : List ClientItem) (item : ClientItem) → seen_through seen (list ++ item ∷ []) ≡ count_after item
seen_through-end seen [] item = refl
seen_through-end seen (i ∷ list) item = seen_through-end (count_after i) list item

pub in_order-end : (seen : ℕ) (list : List ClientItem) (item : ClientItem) → InOrder seen list → seen_through seen list ≤ count_before item → count_before item ≤ count_after item → InOrder seen (list ++ item ∷ [])
in_order-end seen [] item order next more = (next, more, tt)
in_order-end seen (i ∷ list) item order next more = (order.0, order.1, in_order-end (count_after i) list item order.2 next more)

-- a reading leaves no fewer sets seen than it is about
seen_more : (reading : Reading) → number_of reading ≤ seen_after reading
seen_more (Found name n value) = omega arith
seen_more (Absent name n) = omega arith
seen_more (Again name n first second) = ⊎_elim
    (λ (t : is_dirty second ≡ true). subst (λ (b : Bool). n ≤ (if b then n else (max n (number_in second)))) (sym t) (omega arith))
    (λ (t : is_dirty second ≡ false). subst (λ (b : Bool). n ≤ (if b then n else (max n (number_in second)))) (sym t) (le-max_left n (number_in second)))
    (cases_Bool (is_dirty second))
seen_more (Synced n) = omega arith
seen_more (Caught n) = omega arith

same_told : (r r' : Reading) → Told r ≡ Told r' → r ≡ r'
same_told r r' e = cc

-- what has to be known of a new reading, so that a list goes on being as it should
pub record MayTell (w : World) (began : List Set) (list : List ClientItem) (reading : Reading) : Type 0 where
  pub stands : Stands w.sets w.making reading
  pub after : seen_through (length began) list ≤ number_of reading
  pub seen : seen_after reading ≤ length w.sets
  -- a second serial that was met ranks above those before, and at most as high as the present one
  pub again : (name : List ℕ) (number first second : ℕ) → reading ≡ Again name number first second
      → (rank second ≤ rank (w.serial name)) × ((i number' first' second' : ℕ) → get_elem? list i ≡ some (Told (Again name number' first' second')) → rank second' < rank second)

module _ (w : World) (began : List Set) (list : List ClientItem) (h : ListHolds w began list) (reading : Reading) (may : MayTell w began list reading) where
  abbrev more : List ClientItem
  more = list ++ Told reading ∷ []

  rises : SecondsRise more
  rises i j n n' name first first' second second' less e e' = ⊎_elim
      (λ old'. ⊎_elim
      (λ old. h.stands.orderly.rise i j n n' name first first' second second' less old old')
      (λ (t : (i ≡ length list) × (Told reading ≡ Told (Again name n first second))). let b = at_below list j (Told (Again name n' first' second')) old' in absurd (omega arith))
      (at_end list (Told reading) (Told (Again name n first second)) i e))
      (λ (t' : (j ≡ length list) × (Told reading ≡ Told (Again name n' first' second'))). ⊎_elim
      (λ old. (may.again name n' first' second' (same_told reading (Again name n' first' second') t'.1)).1 i n first second old)
      (λ (t : (i ≡ length list) × (Told reading ≡ Told (Again name n first second))). absurd (omega arith))
      (at_end list (Told reading) (Told (Again name n first second)) i e))
      (at_end list (Told reading) (Told (Again name n' first' second')) j e')

  pub tells : ListHolds w began (list ++ Told reading ∷ [])
  tells = record {
    stands = record {
      begins = h.stands.begins;
      each = λ i r e. ⊎_elim
          (λ old. h.stands.each i r old)
          (λ (t : (i ≡ length list) × (Told reading ≡ Told r)). subst (Stands w.sets w.making) (same_told reading r t.1) may.stands)
          (at_end list (Told reading) (Told r) i e);
      orderly = record {
        order = in_order-end (length began) list (Told reading) h.stands.orderly.order may.after (seen_more reading);
        rise = rises;
      };
    };
    seen = let e = seen_through-end (length began) list (Told reading) in let s = may.seen in omega arith;
    met = λ name i n first second e. ⊎_elim
        (λ old. h.met name i n first second old)
        (λ (t : (i ≡ length list) × (Told reading ≡ Told (Again name n first second))). (may.again name n first second (same_told reading (Again name n first second) t.1)).0)
        (at_end list (Told reading) (Told (Again name n first second)) i e);
  }
