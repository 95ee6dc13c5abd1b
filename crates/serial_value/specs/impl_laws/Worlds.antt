-- What was true at one moment is true at a later one: of serials, of readings, of lists and of readers' views.
use Rattle.std.proofs.Common.{◌≡◌, ◌≢◌, ℕ, ◌≤◌, ◌⊎◌, List, ◌++◌, length, Option, Some, None, false, true, sym, ap, ◌∙◌, subst, inl, inr, ⊎_elim, arith, length-append}
use mathlib.Core.Logic.{dite}
use native.Mathlib.Decide.{ℕ_discrete}
use Rattle.std.proofs.lemmas.List.{append_assoc}
use Rattle.init_machine.specs.Serial.{dirty_serial, top_in, rank, number_in, is_dirty}
use Rattle.init_machine.specs.Sets.{Set, Numbered, NoneBetween, LaterSet, value_at}
use Rattle.init_machine.specs.Facts.{IsSerialOf, Stands}
use Rattle.init_machine.specs.declared.report.Reading.{Reading}
use Rattle.init_machine.specs.declared.report.Reading.TheVariants.{Found, Absent, Again, Synced, Caught}
use Rattle.init_machine.specs.declared.client.ClientItem.{ClientItem}
use Rattle.serial_value.specs.declared.view.Copying.{Copying}
use Rattle.serial_value.specs.Cell.{HasValue}
use Rattle.serial_value.specs.World.{World, Moved, Later, ListHolds, CopyHolds, MayCopy, ReaderHolds}
use Rattle.serial_value.specs.World.Moved.{stays, dirtied, accepted}
use Rattle.serial_value.specs.impl_laws.Serials.{dirtied as dirty_is_dirty, rank_dirtied}
use Rattle.serial_value.specs.impl_laws.Sets.{numbered_within, numbered_longer, none_longer, later_longer, value_longer, value_kept}

module _ (w w' : World) (later : Later w w') where
  abbrev longer : List Set
  longer = w.sets ++ later.more

  back : (P : List Set → Type 0) → P longer → P w'.sets
  back P p = subst P (sym later.grown) p

  pub length_later : length w.sets ≤ length w'.sets
  length_later = let e = ap length later.grown in let f = length-append w.sets later.more in omega arith

  pub later_set : (name : List ℕ) (low : ℕ) → LaterSet w.sets name low → LaterSet w'.sets name low
  later_set name low is = back (λ s. LaterSet s name low) (later_longer w.sets later.more name low is)

  pub serial_later : (name : List ℕ) (word : ℕ) → IsSerialOf w.sets w.making name word → IsSerialOf w'.sets w'.making name word
  serial_later name word is = record {
    value = is.value;
    numbered = back (λ s. Numbered s (number_in word) name is.value) (numbered_longer w.sets later.more (number_in word) name is.value is.numbered);
    top_is = is.top_is;
    later = λ dirty. ⊎_elim
        (λ there. inl (later_set name (number_in word) there))
        (λ made. later.kept name (number_in word) (numbered_within w.sets (number_in word) name is.value is.numbered) made)
        (is.later dirty);
  }

  pub value_later : (number : ℕ) (name : List ℕ) (value : Option (List ℕ)) → number ≤ length w.sets → value_at w.sets number name ≡ value → value_at w'.sets number name ≡ value
  value_later number name value within at = back (λ s. value_at s number name ≡ value) (value_longer w.sets later.more number name within ∙ at)

  pub stands_later : (reading : Reading) → Stands w.sets w.making reading → Stands w'.sets w'.making reading
  stands_later (Found name number value) is =
      (let l = length_later in let e = is.0 in omega arith, value_later number name (Some value) is.0 is.1)
  stands_later (Absent name number) is =
      (let l = length_later in let e = is.0 in omega arith, value_later number name None is.0 is.1)
  stands_later (Again name number first second) is = record {
    early = let l = length_later in let e = is.early in omega arith;
    first_is = serial_later name first is.first_is;
    second_is = serial_later name second is.second_is;
    rises = is.rises;
    clean = is.clean;
    dirty = λ dirty. back (λ s. NoneBetween s name (number_in second) number) (none_longer w.sets later.more name (number_in second) number is.early (is.dirty dirty));
  }
  stands_later (Synced number) is = let l = length_later in omega arith
  stands_later (Caught number) is = let l = length_later in omega arith

  rank_of : (name : List ℕ) → Moved w w' name → rank (w.serial name) ≤ rank (w'.serial name)
  rank_of name (stays same none) = let e = ap rank same in omega arith
  rank_of name (dirtied same clean short) = let e = ap rank same in let r = rank_dirtied (w.serial name) clean in omega arith
  rank_of name (accepted ranks set short) = omega arith

  -- the present serial ranks no lower
  pub rank_later : (name : List ℕ) → rank (w.serial name) ≤ rank (w'.serial name)
  rank_later name = rank_of name (later.moves name)

  pub list_later : (began : List Set) (list : List ClientItem) → ListHolds w began list → ListHolds w' began list
  list_later began list h = record {
    stands = record {
      begins = (h.stands.begins.0 ++ later.more, later.grown ∙ (ap (λ (s : List Set). s ++ later.more) h.stands.begins.1 ∙ append_assoc began h.stands.begins.0 later.more));
      each = λ i reading e. stands_later reading (h.stands.each i reading e);
      orderly = h.stands.orderly;
    };
    seen = let l = length_later in let s = h.seen in omega arith;
    met = λ name i number first second e. let m = h.met name i number first second e in let r = rank_later name in omega arith;
  }

  -- a serial that isn't above the present one, and is the later present one, was the present one already
  unmoved : (name : List ℕ) (first : ℕ) → rank first ≤ rank (w.serial name) → w'.serial name ≡ first → Moved w w' name
      → (w.serial name ≡ first) × NoneBetween w'.sets name (length w.sets) (length w'.sets)
  unmoved name first below same (stays is none) = (sym is ∙ same, none)
  unmoved name first below same (dirtied is clean short) = let e = ap rank (sym is ∙ same) in let r = rank_dirtied (w.serial name) clean in absurd (omega arith)
  unmoved name first below same (accepted ranks set short) = let e = ap rank same in absurd (omega arith)

  value_before : (name value : List ℕ) → NoneBetween w'.sets name (length w.sets) (length w'.sets) → HasValue w'.sets name value → HasValue w.sets name value
  value_before name value none at =
      value_kept w.sets later.more name value
      (subst (λ s. NoneBetween s name (length w.sets) (length s)) later.grown none)
      (subst (λ s. HasValue s name value) later.grown at)

  abbrev HasMoved : World → ℕ → List ℕ → ℕ → Type 0
  HasMoved u number name first = LaterSet u.sets name number ⊎ ((u.serial name ≡ dirty_serial first) × (is_dirty first ≡ false))

  moved_on : (number : ℕ) (name : List ℕ) (first : ℕ) → number ≤ length w.sets → (w.serial name ≢ first → HasMoved w number name first)
      → w'.serial name ≢ first → Moved w w' name → HasMoved w' number name first
  moved_on number name first early before other (stays is none) = ⊎_elim
      (λ there. inl (later_set name number there))
      (λ (t : (w.serial name ≡ dirty_serial first) × (is_dirty first ≡ false)). inr (is ∙ t.0, t.1))
      (before (λ same. other (is ∙ same)))
  moved_on number name first early before other (dirtied is clean short) = dite (ℕ_discrete (w.serial name) first)
      (λ same. inr (is ∙ ap dirty_serial same, ap is_dirty (sym same) ∙ clean))
      (λ differs. ⊎_elim
      (λ there. inl (later_set name number there))
      (λ (t : (w.serial name ≡ dirty_serial first) × (is_dirty first ≡ false)).
      absurd (let odd : is_dirty (dirty_serial first) ≡ true = dirty_is_dirty first t.1 in let f : false ≡ true = sym clean ∙ (ap is_dirty t.0 ∙ odd) in cc))
      (before differs))
  moved_on number name first early before other (accepted ranks set short) = let l = set.2 in inl (set.0, set.1, omega arith, set.3)

  -- the serial of a long cell is still the one that was loaded
  lasts : (name : List ℕ) (first : ℕ) → top_in first ≡ 255 → w.serial name ≡ first → Moved w w' name → w'.serial name ≡ first
  lasts name first top same (stays is none) = is ∙ same
  lasts name first top same (dirtied is clean short) = absurd (short (ap top_in same ∙ top))
  lasts name first top same (accepted ranks set short) = absurd (short (ap top_in same ∙ top))

  copy_later : (number : ℕ) (list : List ClientItem) (copying : Copying) → number ≤ length w.sets → CopyHolds w number list copying → CopyHolds w' number list copying
  copy_later number list copying early h = record {
    serial = serial_later copying.name copying.first h.serial;
    below = let b = h.below in let r = rank_later copying.name in omega arith;
    above = h.above;
    whole = λ same value at.
        let back_then = unmoved copying.name copying.first h.below same (later.moves copying.name) in
        h.whole back_then.0 value (value_before copying.name value back_then.1 at);
    moved = λ other. moved_on number copying.name copying.first early h.moved other (later.moves copying.name);
    lasting = λ top. lasts copying.name copying.first top (h.lasting top) (later.moves copying.name);
  }

  may_copy : (number : ℕ) (list : List ClientItem) (copying : Option Copying) → number ≤ length w.sets → MayCopy w number list copying → MayCopy w' number list copying
  may_copy number list None early h = tt
  may_copy number list (Some copying) early h = copy_later number list copying early h

  pub reader_later : (number : ℕ) (copying : Option Copying) (began : List Set) (list : List ClientItem)
      → ReaderHolds w number copying began list → ReaderHolds w' number copying began list
  reader_later number copying began list h = record {
    early = let l = length_later in let e = h.early in omega arith;
    holds = list_later began list h.holds;
    seen = h.seen;
    copy = may_copy number list copying h.early h.copy;
  }
