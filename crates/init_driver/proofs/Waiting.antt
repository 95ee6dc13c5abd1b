-- An entry that waits behind what waited.
use Rattle.std.proofs.Common.{◌≡◌, ℕ, ◌+◌, ◌≤◌, Bool, false, ◌||◌, List, [], ◌∷◌, ◌++◌, length, take, drop, Option, Result, Ok, Err, append_assoc, append-nil, length-append, refl, sym, ap, ◌∙◌, subst, arith}
use Rattle.std.specs.Result.{OnOk}
use Rattle.std.proofs.lemmas.List.{drop_at, take_at, take-append-drop}
use Rattle.init_base.specs.declared.outside.refusal.IoRefusal.{IoRefusal}
use Rattle.init_base.specs.declared.outside.refusal.IoRefusal.TheVariants as io
use Rattle.init_machine.specs.Stored.{has_stored}
use Rattle.init_machine.specs.declared.report.Entry.{Entry}
use Rattle.init_trace.specs.Fields.{head_fields}
use Rattle.init_trace.specs.Line.{line_text}
use Rattle.init_trace.specs.Report.{EntryText}
use Rattle.init_trace.specs.Waiting.{IsTold, OutputsText, Waiting}
use Rattle.init_trace.specs.Written.{Added, Adds, TakesFront}
use Rattle.init_driver.specs.Course.{Prints, Waits, at_sink, before_in, entry_in}
use Rattle.init_driver.specs.declared.refusal.DriveRefusal.{DriveRefusal}
use Rattle.init_driver.proofs.Sinks.{empties_at_sink, prints_at_sink}

-- the head of an entry was added, and then its outputs were told
module _ (o p q : Waiting) (e : Entry) (head : p.bytes ≡ o.bytes ++ line_text (head_fields e.input)) (begun : p.begun ≡ length o.bytes) (none : p.stores ≡ false)
    (told : IsTold p q e.outputs) where
  entry_behind : q.bytes ≡ o.bytes ++ EntryText e
  entry_behind =
      told.bytes ∙ ap (λ z. z ++ OutputsText e.outputs) head ∙ append_assoc o.bytes (line_text (head_fields e.input)) (OutputsText e.outputs)

  begins_there : length o.bytes ≡ q.begun
  begins_there = sym (told.begun ∙ begun)

  within : q.begun ≤ length q.bytes
  within =
      let there = begins_there in
      let whole = ap length entry_behind in
      let parts = length-append o.bytes (EntryText e) in
      omega arith

  pub entry_waits : Waits o q e
  entry_waits = record {
    begun = within;
    before = ap (take q.begun) entry_behind ∙ take_at o.bytes (EntryText e) q.begun begins_there;
    entry = ap (drop q.begun) entry_behind ∙ drop_at o.bytes (EntryText e) q.begun begins_there;
    stores = told.stores ∙ ap (λ b. b || has_stored e.outputs) none;
  }

-- what waited before the entry is gone
pub before_gone : {T : Type 0} (r : Result T IoRefusal) (answer : Result T DriveRefusal) (o n : Waiting) → answer ≡ at_sink r → OnOk r (n.begun ≡ 0)
    → OnOk answer (before_in n ≡ [])
before_gone (Ok v) answer o n is zero = subst (λ q. OnOk q (before_in n ≡ [])) (sym is) (ap (λ k. take k n.bytes) zero)
before_gone (Err e) answer o n is zero = empties_at_sink (before_in n ≡ []) (Err e) answer is tt

-- and the entry waits on
pub entry_left : {T : Type 0} (r : Result T IoRefusal) (answer : Result T DriveRefusal) (o n : Waiting) → answer ≡ at_sink r → OnOk r (n.bytes ≡ drop o.begun o.bytes)
    → OnOk r (n.begun ≡ 0) → OnOk answer (entry_in n ≡ entry_in o)
entry_left (Ok v) answer o n is left zero = subst (λ q. OnOk q (entry_in n ≡ entry_in o)) (sym is) (ap (λ k. drop k n.bytes) zero ∙ left)
entry_left (Err e) answer o n is left zero = empties_at_sink (entry_in n ≡ entry_in o) (Err e) answer is tt

halves : (w : Waiting) → w.bytes ++ [] ≡ before_in w ++ entry_in w
halves w = append-nil w.bytes ∙ sym (take-append-drop w.begun w.bytes)

ends : {T : Type 0} (r : Result T IoRefusal) (a b : Option (List ℕ)) (w : Waiting) (x : List ℕ) → Adds a b r w.bytes x [] → Adds a b r (before_in w) x (entry_in w)
ends (Ok v) a b w x h = record { front = h.front; whole = h.whole ∙ halves w; taken = h.taken }
ends (Err e) a b w x h = subst (TakesFront a b) (halves w) h

-- the entry ends, and what waits is what waited before it and the entry
pub ends_at_sink : {T : Type 0} (r : Result T IoRefusal) (answer : Result T DriveRefusal) (a b : Option (List ℕ)) (w : Waiting) (x : List ℕ) → answer ≡ at_sink r
    → Adds a b r w.bytes x [] → Prints a b answer (before_in w) x (entry_in w)
ends_at_sink r answer a b w x is h = prints_at_sink r answer a b (before_in w) x (entry_in w) is (ends r a b w x h)
