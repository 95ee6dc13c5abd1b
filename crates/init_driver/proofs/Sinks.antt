-- The answers of a printer, as those of a run.
use Rattle.std.proofs.Common.{◌≡◌, ℕ, false, List, [], ◌++◌, Option, Result, Ok, Err, append_assoc, refl, sym, ap, ◌∙◌, subst}
use Rattle.std.specs.Result.{OnOk}
use Rattle.init_base.specs.Faults.{Counted, write_failed}
use Rattle.init_base.specs.declared.outside.refusal.IoRefusal.{IoRefusal}
use Rattle.init_base.specs.declared.outside.refusal.IoRefusal.TheVariants as io
use Rattle.init_trace.specs.Written.{Added, Adds, TakesFront, Writes}
use Rattle.init_trace.proofs.Adding.{added_then, front_then}
use Rattle.init_driver.specs.Course.{at_sink, Prints, Unprinted}
use Rattle.init_driver.specs.Run.{keeper_failed, sink_failed}
use Rattle.init_driver.specs.declared.refusal.DriveRefusal.{DriveRefusal}
use Rattle.init_driver.specs.declared.refusal.DriveRefusal.TheVariants as refusal

-- one front behind another
pub two_fronts : (w x y s t f g : List ℕ) → f ++ x ≡ w ++ s → g ++ y ≡ x ++ t → (f ++ g) ++ y ≡ w ++ (s ++ t)
two_fronts w x y s t f g h k =
    append_assoc f g y ∙ ap (λ z. f ++ z) k ∙ sym (append_assoc f x t) ∙ ap (λ z. z ++ t) h ∙ append_assoc w s t

-- a front of a text is one of a longer text
pub front_of : (a b : Option (List ℕ)) (w t : List ℕ) → TakesFront a b w → TakesFront a b (w ++ t)
front_of a b w t h = record {
  front = h.front;
  rest = h.rest ++ t;
  whole = sym (append_assoc h.front h.rest t) ∙ ap (λ z. z ++ t) h.whole;
  taken = h.taken;
}

prints : {T : Type 0} (r : Result T IoRefusal) (a b : Option (List ℕ)) (w x t : List ℕ) → Adds a b r w x t → Prints a b (at_sink r) w x t
prints (Ok v) a b w x t h = h
prints (Err io.Failed) a b w x t h = h
prints (Err io.NoMemory) a b w x t h = h

counts : {T : Type 0} (r : Result T IoRefusal) (n m : ℕ) → Counted (write_failed r) n m → Counted (sink_failed (at_sink r)) n m
counts (Ok v) n m h = h
counts (Err io.Failed) n m h = h
counts (Err io.NoMemory) n m h = h

flushes : {T : Type 0} (r : Result T IoRefusal) (a b : Option (List ℕ)) (w : List ℕ) → Writes a b r w → Prints a b (at_sink r) w [] []
flushes (Ok v) a b w h = record { front = w; whole = refl; taken = h }
flushes (Err io.Failed) a b w h = front_of a b w [] h
flushes (Err io.NoMemory) a b w h = front_of a b w [] h

empties : {T : Type 0} (P : Type 0) (r : Result T IoRefusal) → OnOk r P → OnOk (at_sink r) P
empties P (Ok v) h = h
empties P (Err io.Failed) h = h
empties P (Err io.NoMemory) h = h

-- what a call on the sink answers, as the answer of a run
pub prints_at_sink : {T : Type 0} (r : Result T IoRefusal) (answer : Result T DriveRefusal) (a b : Option (List ℕ)) (w x t : List ℕ) → answer ≡ at_sink r → Adds a b r w x t → Prints a b answer w x t
prints_at_sink r answer a b w x t is h = subst (λ q. Prints a b q w x t) (sym is) (prints r a b w x t h)

pub counts_at_sink : {T : Type 0} (r : Result T IoRefusal) (answer : Result T DriveRefusal) (n m : ℕ) → answer ≡ at_sink r → Counted (write_failed r) n m → Counted (sink_failed answer) n m
counts_at_sink r answer n m is h = subst (λ q. Counted (sink_failed q) n m) (sym is) (counts r n m h)

pub flushes_at_sink : {T : Type 0} (r : Result T IoRefusal) (answer : Result T DriveRefusal) (a b : Option (List ℕ)) (w : List ℕ) → answer ≡ at_sink r → Writes a b r w → Prints a b answer w [] []
flushes_at_sink r answer a b w is h = subst (λ q. Prints a b q w [] []) (sym is) (flushes r a b w h)

pub empties_at_sink : {T : Type 0} (P : Type 0) (r : Result T IoRefusal) (answer : Result T DriveRefusal) → answer ≡ at_sink r → OnOk r P → OnOk answer P
empties_at_sink P r answer is h = subst (λ q. OnOk q P) (sym is) (empties P r h)

-- a printer's answer is no fault of the keeper
pub keeper_is_well : {T : Type 0} (answer : Result T DriveRefusal) (a b : Option (List ℕ)) (w x t : List ℕ) → Prints a b answer w x t → keeper_failed answer ≡ false
keeper_is_well (Ok v) a b w x t h = refl
keeper_is_well (Err refusal.Keeper) a b w x t h = absurd h
keeper_is_well (Err refusal.Write) a b w x t h = refl
keeper_is_well (Err refusal.NoMemory) a b w x t h = refl

-- a refused text behind another
pub unprinted_then : (e : DriveRefusal) (a b c : Option (List ℕ)) (w x s t : List ℕ) → Added a b w x s → Unprinted e b c x t → Unprinted e a c w (s ++ t)
unprinted_then refusal.Keeper a b c w x s t h k = absurd k
unprinted_then refusal.Write a b c w x s t h k = front_then a b c w x s t h k
unprinted_then refusal.NoMemory a b c w x s t h k = front_then a b c w x s t h k

-- a text behind another
pub prints_then : {T : Type 0} (answer : Result T DriveRefusal) (a b c : Option (List ℕ)) (w x y s t : List ℕ) → Added a b w x s → Prints b c answer x y t → Prints a c answer w y (s ++ t)
prints_then (Ok v) a b c w x y s t h k = added_then a b c w x y s t h k
prints_then (Err e) a b c w x y s t h k = unprinted_then e a b c w x s t h k

-- a refused text in front of another
pub unprinted_less : (e : DriveRefusal) (a b : Option (List ℕ)) (w s t : List ℕ) → Unprinted e a b w s → Unprinted e a b w (s ++ t)
unprinted_less refusal.Keeper a b w s t h = h
unprinted_less refusal.Write a b w s t h = subst (TakesFront a b) (append_assoc w s t) (front_of a b (w ++ s) t h)
unprinted_less refusal.NoMemory a b w s t h = subst (TakesFront a b) (append_assoc w s t) (front_of a b (w ++ s) t h)
