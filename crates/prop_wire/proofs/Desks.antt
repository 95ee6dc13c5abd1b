-- A message that a desk sets.
use Rattle.std.proofs.Common.{◌≡◌, ℕ, ◌⊎◌, true, false, is_ok, is_some, List, [], ◌∷◌, ◌++◌, Option, Some, None, IsSomeAnd, IfOk, OnOk, OnErr, Result, Ok, Err, option_and_then, refl, sym, ap, subst, ◌∙◌, inl, inr, ⊎_elim}
use Rattle.std.proofs.lemmas.Bool.{both_ways}
use Rattle.std.proofs.lemmas.Result.{IfOk-at_ok}
use Rattle.init_machine.specs.declared.input.Input.{Input}
use Rattle.init_machine.specs.declared.output.Output.{Output}
use Rattle.init_machine.specs.declared.output.SetRefusal.{SetRefusal}
use Rattle.init_machine.specs.declared.output.SetRefusal.TheVariants as why
use Rattle.init_machine.specs.declared.report.Entry.{Entry}
use Rattle.property_area.specs.Readers.{last_of}
use Rattle.property_area.specs.Seats.{Seated}
use Rattle.property_service.specs.Back.{has_entry, is_reached, line_of, ComesBackFrom}
use Rattle.property_service.specs.Service.{next_entry, set_by, ServiceView}
use Rattle.property_service.specs.Settings.{set_entry, HasSet}
use Rattle.property_service.specs.declared.answer.Accepted.{Accepted}
use Rattle.wire_format.specs.declared.message.Message.{Message}
use Rattle.prop_wire.specs.Desk.{IsSameClient, SetsMessage}
use Rattle.prop_wire.specs.Replies.{reply_in}
use Rattle.prop_wire.specs.Reply.{output_reply, refusal_reply}
use Rattle.prop_wire.specs.impl_laws.Last.{last_reply, KeepsLast}
use Rattle.prop_wire.specs.declared.reply.Reply.{Reply}

-- ---- replies

-- a refusal by the machine has a reply
pub reached_reply : (refusal : SetRefusal) → is_reached refusal ≡ is_some (refusal_reply refusal)
reached_reply why.Spent = refl
reached_reply (why.Down target) = refl
reached_reply why.InvalidName = refl
reached_reply why.UnknownControl = refl
reached_reply (why.Denied context) = refl
reached_reply why.NoSuchService = refl
reached_reply why.InvalidType = refl
reached_reply (why.ValueTooLong len) = refl
reached_reply why.NotUtf8 = refl
reached_reply (why.ReadOnly number) = refl
reached_reply (why.AreaFull used need) = refl
reached_reply (why.NumberSpent last) = refl
reached_reply why.NoMemory = refl

-- without an entry the desk was spent, or memory ran out
no_entry : (answer : Result Accepted SetRefusal) → has_entry answer ≡ false → (answer ≡ Err why.Spent) ⊎ (answer ≡ Err why.NoMemory)
no_entry (Ok accepted) none = cc
no_entry (Err why.Spent) none = inl refl
no_entry (Err (why.Down target)) none = cc
no_entry (Err why.InvalidName) none = cc
no_entry (Err why.UnknownControl) none = cc
no_entry (Err (why.Denied context)) none = cc
no_entry (Err why.NoSuchService) none = cc
no_entry (Err why.InvalidType) none = cc
no_entry (Err (why.ValueTooLong len)) none = cc
no_entry (Err why.NotUtf8) none = cc
no_entry (Err (why.ReadOnly number)) none = cc
no_entry (Err (why.AreaFull used need)) none = cc
no_entry (Err (why.NumberSpent last)) none = cc
no_entry (Err why.NoMemory) none = inr refl

-- the reply that is kept is that of the last output
last_kept : (output : Output) (more : List Output) → last_reply (output_reply output) more ≡ option_and_then output_reply (last_of (output ∷ more))
last_kept output [] = refl
last_kept output (next ∷ more) = last_kept next more

last_is : (outputs : List Output) → last_reply None outputs ≡ reply_in outputs
last_is [] = refl
last_is (output ∷ more) = last_kept output more

-- ---- the reader

client_back : (history : List Entry) (e : Entry) (reader : Seated) (back : Option Seated) → IsSomeAnd back (λ now. ComesBackFrom history e reader now)
    → IsSomeAnd back (IsSameClient reader)
client_back history e reader None h = h
client_back history e reader (Some now) h = record { table = h.table; who = h.who; opening = h.opening }

-- ---- a service

pub service_set : {E : Type 0} (r : Result (Option Reply) E) (old new : ServiceView) (reader : Seated) (back : Option Seated) (message : Message) (name value : List ℕ)
    (answer : Result Accepted SetRefusal) → name ≡ message.name → value ≡ message.value → IfOk r (λ reply. reply ≡ output_reply (line_of answer)) → is_ok r ≡ has_entry answer
    → (has_entry answer ≡ true → HasSet old new reader back name value answer) → IfOk r (λ reply. SetsMessage old new reader back message reply)
service_set (Err gone) old new reader back message name value answer name_is value_is reply entry set = tt
service_set (Ok reply) old new reader back message name value answer name_is value_is reply_is entry set =
    let has : HasSet old new reader back message.name message.value answer =
    subst (λ (v : List ℕ). HasSet old new reader back message.name v answer) value_is (subst (λ (n : List ℕ). HasSet old new reader back n value answer) name_is (set (sym entry))) in
    record {
      history = has.history;
      opening = has.opening;
      replied = reply_is ∙ ap (option_and_then output_reply) (sym has.told);
      comes_back = client_back old.history (set_entry old reader message.name message.value) reader back has.comes_back;
      ready = has.ready;
    }

pub service_same : {E : Type 0} (r : Result (Option Reply) E) (old new : ServiceView) (reader : Seated) (back : Option Seated) (answer : Result Accepted SetRefusal)
    → is_ok r ≡ has_entry answer → (answer ≡ Err why.Spent → (new ≡ old) × (back ≡ Some reader)) → (answer ≡ Err why.NoMemory → new.spent ≡ true)
    → OnErr r (new.spent ≡ false → new ≡ old)
service_same (Ok reply) old new reader back answer entry unchanged no_memory = tt
service_same (Err gone) old new reader back answer entry unchanged no_memory =
    λ ready. ⊎_elim (λ (spent : answer ≡ Err why.Spent). (unchanged spent).0) (λ (short : answer ≡ Err why.NoMemory). absurd (both_ways new.spent ready (no_memory short)))
    (no_entry answer (sym entry))

-- ---- a desk

pub desk_set : {T E : Type 0} (r : Result T E) (x : T) (old new : ServiceView) (reader : Seated) (back : Option Seated) (message : Message) (who : ℕ) (name value : List ℕ)
    (before now reply : Option Reply) → r ≡ Ok x → who ≡ reader.view.who → name ≡ message.name → value ≡ message.value
    → OnOk r (KeepsLast before now (next_entry old (set_by who name value)).outputs) → before ≡ None → reply ≡ now
    → OnOk r (new.history ≡ old.history ++ next_entry old (set_by who name value) ∷ []) → OnOk r (new.opening ≡ old.opening)
    → OnOk r (IsSomeAnd back (λ one. ComesBackFrom old.history (next_entry old (set_by who name value)) reader one)) → OnOk r (new.spent ≡ false)
    → SetsMessage old new reader back message reply
desk_set r x old new reader back message who name value before now reply ok who_is name_is value_is kept none reply_is history opening comes ready =
    let input : set_by who name value ≡ set_by reader.view.who message.name message.value =
    ap (λ n. set_by n name value) who_is ∙ ap (λ l. set_by reader.view.who l value) name_is ∙ ap (λ l. set_by reader.view.who message.name l) value_is in
    let entry : next_entry old (set_by who name value) ≡ set_entry old reader message.name message.value = ap (λ (i : Input). next_entry old i) input in
    record {
      history = IfOk-at_ok (λ _. new.history ≡ old.history ++ next_entry old (set_by who name value) ∷ []) ok history ∙ ap (λ (e : Entry). old.history ++ e ∷ []) entry;
      opening = IfOk-at_ok (λ _. new.opening ≡ old.opening) ok opening;
      replied =
          reply_is ∙ IfOk-at_ok (λ _. KeepsLast before now (next_entry old (set_by who name value)).outputs) ok kept
          ∙ ap (λ (kept : Option Reply). last_reply kept (next_entry old (set_by who name value)).outputs) none
          ∙ ap (λ (e : Entry). last_reply None e.outputs) entry ∙ last_is (set_entry old reader message.name message.value).outputs;
      comes_back =
          client_back old.history (next_entry old (set_by who name value)) reader back
          (IfOk-at_ok (λ _. IsSomeAnd back (λ one. ComesBackFrom old.history (next_entry old (set_by who name value)) reader one)) ok comes);
      ready = IfOk-at_ok (λ _. new.spent ≡ false) ok ready;
    }
