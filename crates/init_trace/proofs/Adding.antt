-- Texts that are added to a page one after another.
use Rattle.std.proofs.Common.{◌≡◌, ℕ, ◌+◌, ◌<◌, ◌≤◌, List, [], ◌∷◌, ◌++◌, length, get_or, take, drop, Option, Some, None, Result, Ok, Err, append_assoc, append-nil, refl, sym, ap, subst, ◌∙◌, arith}
use Rattle.std.proofs.Math.Seq.{take-add}
use Rattle.std.proofs.lemmas.List.{at_drop_more, take-append-drop}
use Rattle.std.specs.Io.KnownBytes.{append_known}
use Rattle.init_base.specs.Outside.{TakesSome}
use Rattle.init_base.specs.declared.outside.refusal.IoRefusal.{IoRefusal}
use Rattle.init_trace.specs.Written.{TakesFront, Writes, Added, Adds}

append_known-nil : (known : Option (List ℕ)) → known ≡ append_known known []
append_known-nil None = refl
append_known-nil (Some xs) = ap Some (sym (append-nil xs))

append_known-append : (known : Option (List ℕ)) (a b : List ℕ) → append_known (append_known known a) b ≡ append_known known (a ++ b)
append_known-append None a b = refl
append_known-append (Some xs) a b = ap Some (append_assoc xs a b)

-- one piece taken behind another
pub taken_then : (a b c : Option (List ℕ)) (p q : List ℕ) → b ≡ append_known a p → c ≡ append_known b q → c ≡ append_known a (p ++ q)
taken_then a b c p q e f = f ∙ ap (λ known. append_known known q) e ∙ append_known-append a p q

-- nothing was taken yet
pub takes_nothing : (a : Option (List ℕ)) (text : List ℕ) → TakesFront a a text
takes_nothing a text = record { front = []; rest = text; whole = refl; taken = append_known-nil a }

-- a page that nothing was added to
pub added_nothing : (a : Option (List ℕ)) (w : List ℕ) → Added a a w w []
added_nothing a w = record { front = []; whole = sym (append-nil w); taken = append_known-nil a }

-- what was added to the page alone
pub added_to_page : (a : Option (List ℕ)) (w x text : List ℕ) → x ≡ w ++ text → Added a a w x text
added_to_page a w x text e = record { front = []; whole = e; taken = append_known-nil a }

-- a text behind another
pub added_then : (a b c : Option (List ℕ)) (w x y s t : List ℕ) → Added a b w x s → Added b c x y t → Added a c w y (s ++ t)
added_then a b c w x y s t h k = record {
  front = h.front ++ k.front;
  whole =
      append_assoc h.front k.front y ∙ ap (λ z. h.front ++ z) k.whole ∙ sym (append_assoc h.front x t)
      ∙ ap (λ z. z ++ t) h.whole ∙ append_assoc w s t;
  taken = taken_then a b c h.front k.front h.taken k.taken;
}

-- a front of a text behind another
pub front_then : (a b c : Option (List ℕ)) (w x s t : List ℕ) → Added a b w x s → TakesFront b c (x ++ t) → TakesFront a c (w ++ (s ++ t))
front_then a b c w x s t h k = record {
  front = h.front ++ k.front;
  rest = k.rest;
  whole =
      append_assoc h.front k.front k.rest ∙ ap (λ z. h.front ++ z) k.whole ∙ sym (append_assoc h.front x t)
      ∙ ap (λ z. z ++ t) h.whole ∙ append_assoc w s t;
  taken = taken_then a b c h.front k.front h.taken k.taken;
}

-- a front of a text is one of a longer text
pub front_of_more : (a b : Option (List ℕ)) (w s t : List ℕ) → TakesFront a b (w ++ s) → TakesFront a b (w ++ (s ++ t))
front_of_more a b w s t h = record {
  front = h.front;
  rest = h.rest ++ t;
  whole = sym (append_assoc h.front h.rest t) ∙ ap (λ z. z ++ t) h.whole ∙ append_assoc w s t;
  taken = h.taken;
}

-- The text is added but for what is left of it.
pub record Left (old new : Option (List ℕ)) (waited waits text left : List ℕ) : Type 0 where
  pub front : List ℕ
  pub whole : front ++ (waits ++ left) ≡ waited ++ text
  pub taken : new ≡ append_known old front

pub left_all : (a : Option (List ℕ)) (w text : List ℕ) → Left a a w w text text
left_all a w text = record { front = []; whole = refl; taken = append_known-nil a }

-- a part of what is left was added
pub left_less : (a b c : Option (List ℕ)) (w x y text part rest : List ℕ) → Left a b w x text (part ++ rest) → Added b c x y part → Left a c w y text rest
left_less a b c w x y text part rest h k = record {
  front = h.front ++ k.front;
  whole =
      append_assoc h.front k.front (y ++ rest) ∙ ap (λ z. h.front ++ z) (sym (append_assoc k.front y rest) ∙ ap (λ z. z ++ rest) k.whole ∙ append_assoc x part rest)
      ∙ h.whole;
  taken = taken_then a b c h.front k.front h.taken k.taken;
}

-- a write was refused while a part of what is left was added
pub left_front : (a b c : Option (List ℕ)) (w x text part rest : List ℕ) → Left a b w x text (part ++ rest) → TakesFront b c (x ++ part) → TakesFront a c (w ++ text)
left_front a b c w x text part rest h k = record {
  front = h.front ++ k.front;
  rest = k.rest ++ rest;
  whole =
      append_assoc h.front k.front (k.rest ++ rest) ∙ ap (λ z. h.front ++ z) (sym (append_assoc k.front k.rest rest) ∙ ap (λ z. z ++ rest) k.whole ∙ append_assoc x part rest)
      ∙ h.whole;
  taken = taken_then a b c h.front k.front h.taken k.taken;
}

-- nothing is left
pub left_none : (a b : Option (List ℕ)) (w x text : List ℕ) → Left a b w x text [] → Added a b w x text
left_none a b w x text h = record {
  front = h.front;
  whole = ap (λ z. h.front ++ z) (sym (append-nil x)) ∙ h.whole;
  taken = h.taken;
}

-- what is left of a text that has one part for each item, at the item
pub left_at : {X : Type 0} (text : List X → List ℕ) (part : X → List ℕ) → ((x : X) (rest : List X) → text (x ∷ rest) ≡ part x ++ text rest) → (xs : List X) (i : ℕ) (x : X) → i < length xs → x ≡ get_or xs i x → text (drop i xs) ≡ part x ++ text (drop (i + 1) xs)
left_at text part computes xs i x within is =
    at_drop_more text xs i x within ∙ computes (get_or xs i x) (drop (i + 1) xs) ∙ ap (λ y. part y ++ text (drop (i + 1) xs)) (sym is)

-- the first bytes of a text were taken, and the write behind them took nothing
pub stopped : (a b c : Option (List ℕ)) (bytes : List ℕ) (n : ℕ) → b ≡ append_known a (take n bytes) → c ≡ b → TakesFront a c bytes
stopped a b c bytes n e f = record { front = take n bytes; rest = drop n bytes; whole = take-append-drop n bytes; taken = f ∙ e }

-- more bytes of a text were taken
pub went_on : (a b c : Option (List ℕ)) (bytes piece : List ℕ) (n m : ℕ) → piece ≡ drop n bytes → b ≡ append_known a (take n bytes) → c ≡ append_known b (take m piece) → c ≡ append_known a (take (n + m) bytes)
went_on a b c bytes piece n m is e f =
    taken_then a b c (take n bytes) (take m (drop n bytes)) e (f ∙ ap (λ z. append_known b (take m z)) is)
    ∙ ap (λ z. append_known a z) (sym (take-add n m bytes))

-- a write takes no more than the piece
pub takes_at_most : (count : ℕ) (piece : List ℕ) → TakesSome {E = IoRefusal} (Ok count) piece → count ≤ length piece
takes_at_most count [] h = omega arith
takes_at_most count (byte ∷ rest) h = h.1

-- a call that adds a text, and answers what the last call in it does
pub adds_last : {T : Type 0} (r : Result T IoRefusal) (a b c : Option (List ℕ)) (w x y s t : List ℕ) → Added a b w x s → Adds b c r x y t → Adds a c r w y (s ++ t)
adds_last (Ok v) a b c w x y s t h k = added_then a b c w x y s t h k
adds_last (Err e) a b c w x y s t h k = front_then a b c w x s t h k

-- the last page is written, where nothing waited at first
pub writes_last : {T : Type 0} (r : Result T IoRefusal) (a b c : Option (List ℕ)) (w x text : List ℕ) → w ≡ [] → Added a b w x text → Writes b c r x → Writes a c r text
writes_last (Ok v) a b c w x text none h k =
    taken_then a b c h.front x h.taken k ∙ ap (λ z. append_known a z) (h.whole ∙ ap (λ z. z ++ text) none)
writes_last (Err e) a b c w x text none h k = record {
  front = h.front ++ k.front;
  rest = k.rest;
  whole = append_assoc h.front k.front k.rest ∙ ap (λ z. h.front ++ z) k.whole ∙ h.whole ∙ ap (λ z. z ++ text) none;
  taken = taken_then a b c h.front k.front h.taken k.taken;
}

-- the last part of what is left is added, by a call whose answer is handed on
pub left_last : {T : Type 0} (r : Result T IoRefusal) (a b c : Option (List ℕ)) (w x y text part : List ℕ) → Left a b w x text part → Adds b c r x y part → Adds a c r w y text
left_last (Ok v) a b c w x y text part h k =
    left_none a c w y text (left_less a b c w x y text part [] (subst (Left a b w x text) (sym (append-nil part)) h) k)
left_last (Err e) a b c w x y text part h k =
    left_front a b c w x text part [] (subst (Left a b w x text) (sym (append-nil part)) h) k
