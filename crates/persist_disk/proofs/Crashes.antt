-- What a store's text is after each write of a replace, and after a crash in it.
use Rattle.std.proofs.Common.{◌≡◌, ◌⊎◌, inl, inr, ⊎_elim, ℕ, ◌+◌, ◌<◌, ◌≤◌, ◌^◌, List, [], ◌∷◌, ◌++◌, length, take, drop, get_or, refl, sym, ◌∙◌, ap, subst, arith, length-append, length-take, length-drop, append_assoc}
use Rattle.std.proofs.lemmas.List.{take_at, drop_at, take-append-le, drop-drop, get_or-take, get_or-drop, ext_get_or, append-nil}
use Rattle.std.proofs.lemmas.Nat.{from_le_bytes-to_le_bytes_8}
use Rattle.std.specs.Prelude.{replicate}
use Rattle.std.specs.Int.{w64, from_le_bytes}
use Rattle.persist_disk.specs.DiskModel.{written, Torn}
use Rattle.persist_disk.specs.Image.{slot_of, number_of, other_slot, place_of, chosen_slot, chosen_place, chosen_length, eight_bytes, slot_bytes, length_at, text_of, IsBad, IsStore, Opens}
use Rattle.persist_disk.specs.Replacing.{formatted, replaced, with_slot}
use Rattle.persist_disk.specs.declared.layout.Slot.{Slot}
use Rattle.persist_disk.specs.declared.layout.Slot.TheVariants.{Zero, One}
use Rattle.persist_disk.specs.Zeros.{drop-written, length-written, written_is_torn}

-- a slot holds this text
pub record Holds (size : ℕ) (image : List ℕ) (slot : Slot) (text : List ℕ) : Type 0 where
  pub formatted : 16 ≤ length image
  pub fits : length text + 8 ≤ size
  pub whole : place_of size slot + 8 + length text ≤ length image
  pub len_is : length_at image (place_of size slot) ≡ length text
  pub text_is : text ≡ take (length text) (drop (place_of size slot + 8) image)

pub length-eight : (n : ℕ) → length (eight_bytes n) ≡ 8
unfolding eight_bytes
length-eight n = refl

pub length-slot_bytes : (text : List ℕ) → length (slot_bytes text) ≡ 8 + length text
length-slot_bytes text = omega (arith, length-append (eight_bytes (length text)) text, length-eight (length text))

-- a part of two lists is the same where each of its places is
part_same : (xs ys : List ℕ) (at n : ℕ) → at + n ≤ length xs → at + n ≤ length ys → ((k : ℕ) → at ≤ k → k < at + n → get_or xs k 0 ≡ get_or ys k 0) → take n (drop at xs) ≡ take n (drop at ys)
part_same xs ys at n in_xs in_ys same =
    let lx : length (take n (drop at xs)) ≡ n = omega (arith, length-take n (drop at xs), length-drop at xs) in
    let ly : length (take n (drop at ys)) ≡ n = omega (arith, length-take n (drop at ys), length-drop at ys) in
    ext_get_or 0 (take n (drop at xs)) (take n (drop at ys)) (lx ∙ sym ly) (λ i lt.
    let inside : i < n = omega (arith, lx) in
    get_or-take n (drop at xs) i 0 inside ∙ get_or-drop at xs i 0 ∙ same (at + i) (omega arith) (omega arith)
    ∙ sym (get_or-take n (drop at ys) i 0 inside ∙ get_or-drop at ys i 0))

-- the length that stands at a place, of eight bytes that are all there
length_there : (image : List ℕ) (at : ℕ) → at + 8 ≤ length image → length_at image at ≡ from_le_bytes w64 (take 8 (drop at image))
unfolding length_at
length_there image at le = ap (λ bytes. from_le_bytes w64 bytes) (take-append-le 8 (drop at image) (replicate 8 255) (omega (arith, length-drop at image)))

-- the chosen slot's text is the one that opens
pub opens_from_holds : (size : ℕ) (image text : List ℕ) → Holds size image (chosen_slot image) text → Opens size image text
opens_from_holds size image text h = (
  record {
    formatted = h.formatted;
    fits = omega (arith, h.len_is, h.fits);
    whole = omega (arith, h.len_is, h.whole);
  },
  h.text_is ∙ ap (λ n. take n (drop (chosen_place size image + 8) image)) (sym h.len_is),
)

pub length-text_of : (size : ℕ) (image : List ℕ) → IsStore size image → length (text_of size image) ≡ chosen_length size image
length-text_of size image store =
    omega (arith, length-take (chosen_length size image) (drop (chosen_place size image + 8) image), length-drop (chosen_place size image + 8) image, store.whole)

pub holds_from_store : (size : ℕ) (image : List ℕ) → IsStore size image → Holds size image (chosen_slot image) (text_of size image)
holds_from_store size image store =
    let len = length-text_of size image store in
    record {
      formatted = store.formatted;
      fits = omega (arith, len, store.fits);
      whole = omega (arith, len, store.whole);
      len_is = sym len;
      text_is = ap (λ n. take n (drop (chosen_place size image + 8) image)) (sym len);
    }

-- a slot holds its text also in bytes that have each of its places the same
holds_along : (size : ℕ) (image c : List ℕ) (slot : Slot) (text : List ℕ) → Holds size image slot text → length image ≤ length c
    → ((k : ℕ) → place_of size slot ≤ k → k < place_of size slot + 8 + length text → get_or c k 0 ≡ get_or image k 0) → Holds size c slot text
holds_along size image c slot text h longer same =
    let p = place_of size slot in
    let in_image : p + 8 ≤ length image = omega (arith, h.whole) in
    let in_c : p + 8 ≤ length c = omega arith in
    record {
      formatted = omega (arith, h.formatted);
      fits = h.fits;
      whole = omega (arith, h.whole);
      len_is = length_there c p in_c
          ∙ ap (λ bytes. from_le_bytes w64 bytes) (part_same c image p 8 in_c in_image (λ k ge lt. same k ge (omega arith)))
          ∙ sym (length_there image p in_image) ∙ h.len_is;
      text_is = h.text_is ∙ part_same image c (p + 8) (length text) (omega (arith, h.whole)) (omega (arith, h.whole)) (λ k ge lt. sym (same k (omega arith) (omega arith)));
    }

-- a write in the other slot leaves a slot's text, and the gate
pub torn_other : (size n : ℕ) (image c : List ℕ) (slot : Slot) (text : List ℕ) → n ≤ size → Holds size image slot text → Torn (place_of size (other_slot slot)) n image c → Holds size c slot text
torn_other size n image c Zero text le h torn =
    holds_along size image c Zero text h torn.no_shorter (λ k ge lt. torn.outside k (omega (arith, h.whole)) (inl (omega (arith, h.fits))))
torn_other size n image c One text le h torn =
    holds_along size image c One text h torn.no_shorter (λ k ge lt. torn.outside k (omega (arith, h.whole)) (inr (omega arith)))

pub gate_stays : (size n : ℕ) (image c : List ℕ) (slot : Slot) → 16 ≤ length image → Torn (place_of size slot) n image c → chosen_slot c ≡ chosen_slot image
gate_stays size n image c Zero long torn = ap (λ gate. slot_of gate) (torn.outside 0 (omega arith) (inl (omega arith)))
gate_stays size n image c One long torn = ap (λ gate. slot_of gate) (torn.outside 0 (omega arith) (inl (omega arith)))

-- a write of the gate leaves each slot's text
pub torn_gate : (size : ℕ) (image c : List ℕ) (slot : Slot) (text : List ℕ) → Holds size image slot text → Torn 0 1 image c → Holds size c slot text
torn_gate size image c Zero text h torn =
    holds_along size image c Zero text h torn.no_shorter (λ k ge lt. torn.outside k (omega (arith, h.whole)) (inr (omega arith)))
torn_gate size image c One text h torn =
    holds_along size image c One text h torn.no_shorter (λ k ge lt. torn.outside k (omega (arith, h.whole)) (inr (omega arith)))

-- eight bytes give the number that was put into them
length_of_eight : (n : ℕ) (rest : List ℕ) → n < 2 ^ 64 → from_le_bytes w64 (take 8 (eight_bytes n ++ rest)) ≡ n
unfolding eight_bytes
length_of_eight n rest lt = from_le_bytes-to_le_bytes_8 n lt

-- a slot that stands in bytes holds its text
pub holds_there : (size : ℕ) (image : List ℕ) (slot : Slot) (text rest : List ℕ) → 16 ≤ length image → length text + 8 ≤ size → size ≤ 33554440
    → drop (place_of size slot) image ≡ slot_bytes text ++ rest → Holds size image slot text
holds_there size image slot text rest long fits bound there =
    let p = place_of size slot in
    let size_is : length (slot_bytes text ++ rest) ≡ 8 + length text + length rest = omega (arith, length-append (slot_bytes text) rest, length-slot_bytes text) in
    let whole : p + 8 + length text ≤ length image = omega (arith, size_is, ap length there, length-drop p image) in
    let parts : drop p image ≡ eight_bytes (length text) ++ (text ++ rest) = there ∙ append_assoc (eight_bytes (length text)) text rest in
    let behind : drop (p + 8) image ≡ text ++ rest =
    sym (drop-drop 8 p image) ∙ ap (λ (l : List ℕ). drop 8 l) parts ∙ drop_at (eight_bytes (length text)) (text ++ rest) 8 (length-eight (length text)) in
    record {
      formatted = long;
      fits = fits;
      whole = whole;
      len_is = length_there image p (omega arith) ∙ ap (λ (l : List ℕ). from_le_bytes w64 (take 8 l)) parts ∙ length_of_eight (length text) (text ++ rest) (omega arith);
      text_is = sym (ap (λ (l : List ℕ). take (length text) l) behind ∙ take_at text rest (length text) refl);
    }

pub holds_written : (size : ℕ) (image : List ℕ) (slot : Slot) (text : List ℕ) → 16 ≤ length image → length text + 8 ≤ size → size ≤ 33554440 → Holds size (written image (place_of size slot) (slot_bytes text)) slot text
holds_written size image slot text long fits bound =
    let p = place_of size slot in
    holds_there size (written image p (slot_bytes text)) slot text (drop (p + length (slot_bytes text)) image)
    (omega (arith, length-written image p (slot_bytes text))) fits bound (drop-written image p (slot_bytes text))

-- each slot is this one or the other
either : (slot other : Slot) → (other ≡ slot) ⊎ (other ≡ other_slot slot)
either Zero Zero = inl refl
either Zero One = inr refl
either One Zero = inr refl
either One One = inl refl

slot_of-number : (slot : Slot) → slot_of (number_of slot) ≡ slot
slot_of-number Zero = refl
slot_of-number One = refl

module _ (size : ℕ) (image text : List ℕ) (slot : Slot) (store : IsStore size image) (slot_is : slot ≡ chosen_slot image) (fits : length text + 8 ≤ size) (bound : size ≤ 33554440) where
  old_text : Holds size image slot (text_of size image)
  old_text = subst (λ (s : Slot). Holds size image s (text_of size image)) (sym slot_is) (holds_from_store size image store)

  -- a crash while the slot is written leaves the text
  pub slot_crash : (c : List ℕ) → Torn (place_of size (other_slot slot)) (length (slot_bytes text)) image c → Opens size c (text_of size image)
  slot_crash c torn =
      let held = torn_other size (length (slot_bytes text)) image c slot (text_of size image) (omega (arith, length-slot_bytes text)) old_text torn in
      let gate : chosen_slot c ≡ slot = gate_stays size (length (slot_bytes text)) image c (other_slot slot) store.formatted torn ∙ sym slot_is in
      opens_from_holds size c (text_of size image) (subst (λ (s : Slot). Holds size c s (text_of size image)) (sym gate) held)

  slot_torn : Torn (place_of size (other_slot slot)) (length (slot_bytes text)) image (with_slot size slot image text)
  slot_torn = written_is_torn image (place_of size (other_slot slot)) (slot_bytes text)

  old_there : Holds size (with_slot size slot image text) slot (text_of size image)
  old_there = torn_other size (length (slot_bytes text)) image (with_slot size slot image text) slot (text_of size image) (omega (arith, length-slot_bytes text)) old_text slot_torn

  new_there : Holds size (with_slot size slot image text) (other_slot slot) text
  new_there = holds_written size image (other_slot slot) text store.formatted fits bound

  -- a crash while the gate is written leaves the text or the new one
  pub gate_crash : (c : List ℕ) → Torn 0 1 (with_slot size slot image text) c → Opens size c (text_of size image) ⊎ Opens size c text
  gate_crash c torn =
      let old_held = torn_gate size (with_slot size slot image text) c slot (text_of size image) old_there torn in
      let new_held = torn_gate size (with_slot size slot image text) c (other_slot slot) text new_there torn in
      ⊎_elim
      (λ same. inl (opens_from_holds size c (text_of size image) (subst (λ (s : Slot). Holds size c s (text_of size image)) (sym same) old_held)))
      (λ other. inr (opens_from_holds size c text (subst (λ (s : Slot). Holds size c s text) (sym other) new_held)))
      (either slot (chosen_slot c))

  gate_is : chosen_slot (replaced size slot image text) ≡ other_slot slot
  gate_is =
      ap (λ (l : List ℕ). slot_of (get_or l 0 0)) (drop-written (with_slot size slot image text) 0 (number_of (other_slot slot) ∷ []))
      ∙ slot_of-number (other_slot slot)

  -- and in the end the new one
  pub opens_replaced : Opens size (replaced size slot image text) text × (chosen_slot (replaced size slot image text) ≡ other_slot slot)
  opens_replaced =
      let held = torn_gate size (with_slot size slot image text) (replaced size slot image text) (other_slot slot) text new_there (written_is_torn (with_slot size slot image text) 0 (number_of (other_slot slot) ∷ [])) in
      (opens_from_holds size (replaced size slot image text) text (subst (λ (s : Slot). Holds size (replaced size slot image text) s text) (sym gate_is) held), gate_is)

-- a disk that was formatted opens to its text
pub opens_formatted : (size : ℕ) (text : List ℕ) → length text + 8 ≤ size → size ≤ 33554440 → Opens size (formatted text) text
opens_formatted size text fits bound =
    opens_from_holds size (formatted text) text (holds_there size (formatted text) Zero text [] (omega (arith, length-slot_bytes text)) fits bound (sym (append-nil (slot_bytes text))))

-- a disk that opens has no bad slot
pub not_bad : (size number len : ℕ) (image : List ℕ) → IsStore size image → IsBad size image number len → ⊥
not_bad size number len image store bad =
    let is = bad.len_is in
    let fits = store.fits in
    let whole = store.whole in
    ⊎_elim (λ (long : size < len + 8). absurd (omega (arith, is, fits))) (λ (past : length image < chosen_place size image + 8 + len). absurd (omega (arith, is, whole))) bad.unfit
