-- Messages that are answered one after another.
use Rattle.std.proofs.Common.{◌≡◌, ℕ, ◌+◌, ◌<◌, get_or, take, drop, length, Bool, true, false, cond, is_ok, List, [], ◌∷◌, ◌++◌, map, Option, Some, None, Result, Ok, Err, refl, sym, ap, subst, ◌∙◌, append-nil, append_assoc}
use Rattle.std.specs.Io.KnownBytes.{append_known}
use Rattle.std.proofs.lemmas.List.{map-append, take_more, take-append-drop}
use Rattle.init_base.specs.declared.outside.refusal.IoRefusal.{IoRefusal}
use Rattle.init_machine.specs.History.{after, inputs_of}
use Rattle.init_machine.specs.State.{Opening}
use Rattle.init_machine.specs.Step.{step}
use Rattle.init_machine.specs.declared.input.Input.{Input}
use Rattle.init_machine.specs.declared.report.Entry.{Entry}
use Rattle.init_trace.specs.Written.{Writes}
use Rattle.init_trace.proofs.Adding.{taken_then}
use Rattle.property_area.specs.Seats.{Seated}
use Rattle.property_service.specs.Service.{ServiceView}
use Rattle.property_service.specs.Settings.{set_entry}
use Rattle.wire_format.specs.Wire.{is_open}
use Rattle.wire_format.specs.declared.message.Message.{Message}
use Rattle.wire_format.specs.declared.message.Rest.{Rest}
use Rattle.wire_format.specs.declared.message.Rest.TheVariants as rest
use Rattle.prop_wire.specs.Desk.{SetsMessage}
use Rattle.prop_wire.specs.Replies.{message_replies, reply_for, rest_reply, set_of}
use Rattle.prop_wire.specs.Reply.{reply_bytes}
use Rattle.prop_wire.specs.Serving.{place_of, AddsSets, Answers, IsPart, Place, TakesBytes}
use Rattle.prop_wire.specs.internal.Course.{who_in, SetsFor}
use Rattle.prop_wire.specs.declared.reply.Reply.{Reply}

-- ---- parts

pub part_behind : {X : Type 0} (whole : Bool) (first part more : List X) → IsPart whole part more → IsPart whole (first ++ part) (first ++ more)
part_behind true first part more is = ap (λ l. first ++ l) is
part_behind false first part more is = (is.0, append_assoc first part is.0 ∙ ap (λ l. first ++ l) is.1)

-- a part of a list is a part of a longer one
pub part_of_more : {X : Type 0} (part all more : List X) → IsPart false part all → IsPart false part (all ++ more)
part_of_more part all more is = (is.0 ++ more, sym (append_assoc part is.0 more) ∙ ap (λ l. l ++ more) is.1)

-- all of a list is a part of it
pub all_part : {X : Type 0} (whole : Bool) (all : List X) → IsPart whole all all
all_part true all = refl
all_part false all = ([], append-nil all)

pub part_of_whole : {X : Type 0} (part all : List X) → IsPart true part all → IsPart false part all
part_of_whole part all is = ([], append-nil part ∙ is)

-- nothing more was taken
kept_nil : (known : Option (List ℕ)) → known ≡ append_known known []
kept_nil None = refl
kept_nil (Some xs) = ap Some (sym (append-nil xs))

-- ---- replies

-- the replies to messages behind others
pub replies_then : (o : Opening) (inputs : List Input) (who : ℕ) (first more : List Message)
    → message_replies o inputs who (first ++ more) ≡ message_replies o inputs who first ++ message_replies o (inputs ++ map (set_of who) first) who more
replies_then o inputs who [] more = ap (λ (is : List Input). message_replies o is who more) (sym (append-nil inputs))
replies_then o inputs who (message ∷ first) more =
    let next : List Input = inputs ++ set_of who message ∷ [] in
    let head : List ℕ = reply_bytes (reply_for message (step o.config o.policy (after o inputs) (set_of who message)).lines) in
    ap (λ l. head ++ l) (replies_then o next who first more)
    ∙ sym (append_assoc head (message_replies o next who first) (message_replies o (next ++ map (set_of who) first) who more))
    ∙ ap (λ (is : List Input). (head ++ message_replies o next who first) ++ message_replies o is who more) (append_assoc inputs (set_of who message ∷ []) (map (set_of who) first))

-- what is written for messages, at a place
abbrev pub replies_at : Place → ℕ → List Message → List ℕ
replies_at a who messages = message_replies a.desk.opening (inputs_of a.desk.history) who messages

-- ---- answers

pub answers_none : (who : ℕ) (messages : List Message) (last : Rest) (a : Place) → Answers false who messages last a a
answers_none who messages last a = record {
  sets = λ ready. record {
    set = [];
    part = (messages, refl);
    added = [];
    history = sym (append-nil a.desk.history);
    inputs = refl;
    opening = refl;
  };
  replies = record { written = []; part = (replies_at a who messages ++ rest_reply last, refl); taken = kept_nil a.taken };
}

-- no message is answered by nothing
pub answers_nothing : (who : ℕ) (a : Place) → Answers true who [] rest.End a a
answers_nothing who a = record {
  sets = λ ready. record {
    set = [];
    part = refl;
    added = [];
    history = sym (append-nil a.desk.history);
    inputs = refl;
    opening = refl;
  };
  replies = record { written = []; part = refl; taken = kept_nil a.taken };
}

-- what all of the sets are
pub record AddsAll (who : ℕ) (messages : List Message) (old new : ServiceView) : Type 0 where
  pub inputs : inputs_of new.history ≡ inputs_of old.history ++ map (set_of who) messages
  pub opening : new.opening ≡ old.opening

adds_all : (who : ℕ) (messages : List Message) (old new : ServiceView) → AddsSets true who messages old new → AddsAll who messages old new
adds_all who messages old new h = record {
  inputs =
      ap inputs_of h.history ∙ map-append (λ (e : Entry). e.input) old.history h.added
      ∙ ap (λ (is : List Input). inputs_of old.history ++ is) (h.inputs ∙ ap (λ (ms : List Message). map (set_of who) ms) h.part);
  opening = h.opening;
}

-- the replies to messages behind those that were answered
replies_behind : (who : ℕ) (first more : List Message) (a b : Place) → AddsAll who first a.desk b.desk
    → replies_at a who (first ++ more) ≡ replies_at a who first ++ replies_at b who more
replies_behind who first more a b h =
    replies_then a.desk.opening (inputs_of a.desk.history) who first more
    ∙ ap (λ (is : List Input). replies_at a who first ++ message_replies a.desk.opening is who more) (sym h.inputs)
    ∙ ap (λ (o : Opening). replies_at a who first ++ message_replies o (inputs_of b.desk.history) who more) (sym h.opening)

sets_then : (whole : Bool) (who : ℕ) (first more : List Message) (old mid new : ServiceView) → AddsSets true who first old mid → AddsSets whole who more mid new
    → AddsSets whole who (first ++ more) old new
sets_then whole who first more old mid new h k = record {
  set = first ++ k.set;
  part = part_behind whole first k.set more k.part;
  added = h.added ++ k.added;
  history =
      k.history ∙ ap (λ (es : List Entry). es ++ k.added) h.history ∙ append_assoc old.history h.added k.added;
  inputs =
      map-append (λ (e : Entry). e.input) h.added k.added
      ∙ ap (λ (is : List Input). is ++ inputs_of k.added) (h.inputs ∙ ap (λ (ms : List Message). map (set_of who) ms) h.part)
      ∙ ap (λ (is : List Input). map (set_of who) first ++ is) k.inputs
      ∙ sym (map-append (set_of who) first k.set);
  opening = k.opening ∙ h.opening;
}

pub bytes_then : (whole : Bool) (first more all : List ℕ) (a b c : Option (List ℕ)) → first ++ more ≡ all → TakesBytes true (first ++ []) a b → TakesBytes whole more b c
    → TakesBytes whole all a c
bytes_then whole first more all a b c is h k =
    let first_is : h.written ≡ first = h.part ∙ append-nil first in record {
      written = h.written ++ k.written;
      part = subst (λ (l : List ℕ). IsPart whole (h.written ++ k.written) l) (ap (λ l. l ++ more) first_is ∙ is) (part_behind whole h.written k.written more k.part);
      taken = taken_then a b c h.written k.written h.taken k.taken;
    }

pub answers_then : (whole : Bool) (who : ℕ) (first more : List Message) (last : Rest) (a b c : Place) → Answers true who first rest.End a b → b.desk.spent ≡ false
    → Answers whole who more last b c → Answers whole who (first ++ more) last a c
answers_then whole who first more last a b c h ready k =
    let sets = h.sets ready in
    let all = replies_behind who first more a b (adds_all who first a.desk b.desk sets) in
    let joined : replies_at a who first ++ (replies_at b who more ++ rest_reply last) ≡ replies_at a who (first ++ more) ++ rest_reply last =
    sym (append_assoc (replies_at a who first) (replies_at b who more) (rest_reply last)) ∙ ap (λ l. l ++ rest_reply last) (sym all) in record {
      sets = λ now. sets_then whole who first more a.desk b.desk c.desk sets (k.sets now);
      replies = bytes_then whole (replies_at a who first) (replies_at b who more ++ rest_reply last) (replies_at a who (first ++ more) ++ rest_reply last) a.taken b.taken c.taken joined h.replies k.replies;
    }

-- an answer that was cut off is one to more messages, and to any rest
pub answers_more : (who : ℕ) (first more all : List Message) (last : Rest) (a b : Place) → first ++ more ≡ all → Answers false who first rest.End a b
    → Answers false who all last a b
answers_more who first more all last a b is h = record {
  sets = λ ready. let sets = h.sets ready in record {
    set = sets.set;
    part = subst (λ (ms : List Message). IsPart false sets.set ms) is (part_of_more sets.set first more sets.part);
    added = sets.added;
    history = sets.history;
    inputs = sets.inputs;
    opening = sets.opening;
  };
  replies =
      (let behind = message_replies a.desk.opening (inputs_of a.desk.history ++ map (set_of who) first) who more in
      let each : replies_at a who all ≡ replies_at a who first ++ behind =
      ap (λ (ms : List Message). replies_at a who ms) (sym is) ∙ replies_then a.desk.opening (inputs_of a.desk.history) who first more in
      let joined : (replies_at a who first ++ []) ++ (behind ++ rest_reply last) ≡ replies_at a who all ++ rest_reply last =
      ap (λ l. l ++ (behind ++ rest_reply last)) (append-nil (replies_at a who first)) ∙ sym (append_assoc (replies_at a who first) behind (rest_reply last))
      ∙ ap (λ l. l ++ rest_reply last) (sym each) in record {
        written = h.replies.written;
        part =
            subst (λ (l : List ℕ). IsPart false h.replies.written l) joined
            (part_of_more h.replies.written (replies_at a who first ++ []) (behind ++ rest_reply last) h.replies.part);
        taken = h.replies.taken;
      });
}

-- an answer that is whole is a prefix of itself
pub answers_part : (who : ℕ) (messages : List Message) (last : Rest) (a b : Place) → Answers true who messages last a b → Answers false who messages last a b
answers_part who messages last a b h = record {
  sets = λ ready. let sets = h.sets ready in record {
    set = sets.set;
    part = part_of_whole sets.set messages sets.part;
    added = sets.added;
    history = sets.history;
    inputs = sets.inputs;
    opening = sets.opening;
  };
  replies = record {
    written = h.replies.written;
    part = part_of_whole h.replies.written (replies_at a who messages ++ rest_reply last) h.replies.part;
    taken = h.replies.taken;
  };
}

-- the rest that may become a message has no reply
pub answers_open : (whole : Bool) (who : ℕ) (messages : List Message) (last : Rest) (a b : Place) → is_open last ≡ true → Answers whole who messages last a b
    → Answers whole who messages rest.End a b
answers_open whole who messages rest.End a b may h = h
answers_open whole who messages (rest.Torn have) a b may h = record { sets = h.sets; replies = h.replies }
answers_open whole who messages (rest.BadCommand word) a b may h = cc
answers_open whole who messages (rest.BadLength len) a b may h = cc

pub answers_end : (whole : Bool) (who : ℕ) (messages : List Message) (last : Rest) (a b : Place) → is_open last ≡ true → Answers whole who messages rest.End a b
    → Answers whole who messages last a b
answers_end whole who messages rest.End a b may h = h
answers_end whole who messages (rest.Torn have) a b may h = record { sets = h.sets; replies = h.replies }
answers_end whole who messages (rest.BadCommand word) a b may h = cc
answers_end whole who messages (rest.BadLength len) a b may h = cc

-- a desk that couldn't set a message has set none
pub answers_failed : (who : ℕ) (messages : List Message) (last : Rest) (old new : ServiceView) (taken : Option (List ℕ)) → (new.spent ≡ false → new ≡ old)
    → Answers false who messages last (place_of old taken) (place_of new taken)
answers_failed who messages last old new taken same = record {
  sets = λ ready. subst (λ (s : ServiceView). AddsSets false who messages old s) (sym (same ready)) ((answers_none who messages last (place_of old taken)).sets (subst (λ (s : ServiceView). s.spent ≡ false) (same ready) ready));
  replies = (answers_none who messages last (place_of old taken)).replies;
}

-- ---- one message

pub bytes_written : {T : Type 0} (r : Result T IoRefusal) (old new : Option (List ℕ)) (bytes : List ℕ) → Writes old new r bytes → TakesBytes (is_ok r) bytes old new
bytes_written (Ok value) old new bytes is = record { written = bytes; part = refl; taken = is }
bytes_written (Err why) old new bytes is = record { written = is.front; part = (is.rest, is.whole); taken = is.taken }

sets_one : (whole : Bool) (old new : ServiceView) (reader : Seated) (back : Option Seated) (message : Message) (reply : Option Reply)
    → SetsMessage old new reader back message reply → AddsSets whole reader.view.who (message ∷ []) old new
sets_one whole old new reader back message reply h = record {
  set = message ∷ [];
  part = all_part whole (message ∷ []);
  added = set_entry old reader message.name message.value ∷ [];
  history = h.history;
  inputs = refl;
  opening = h.opening;
}

-- a message was set, and its reply written, or a prefix of it
pub answers_one : {T : Type 0} (r : Result T IoRefusal) (old new : ServiceView) (reader back : Option Seated) (message : Message) (reply word : Option Reply) (before now : Option (List ℕ))
    → SetsFor old new reader back message reply → word ≡ cond message.second reply None → Writes before now r (reply_bytes word)
    → Answers (is_ok r) (who_in reader) (message ∷ []) rest.End (place_of old before) (place_of new now)
answers_one r old new None back message reply word before now h is writes = absurd h
answers_one r old new (Some reader) back message reply word before now h is writes =
    let outputs = (set_entry old reader message.name message.value).outputs in
    let reply_is : word ≡ reply_for message outputs = is ∙ ap (λ (one : Option Reply). cond message.second one None) h.replied in
    let bytes : reply_bytes word ≡ reply_bytes (reply_for message outputs) ++ [] ++ [] =
    ap reply_bytes reply_is ∙ sym (append-nil (reply_bytes (reply_for message outputs))) ∙ sym (append-nil (reply_bytes (reply_for message outputs) ++ [])) in record {
      sets = λ ready. sets_one (is_ok r) old new reader back message reply h;
      replies = subst (λ (l : List ℕ). TakesBytes (is_ok r) l before now) bytes (bytes_written r before now (reply_bytes word) writes);
    }

-- ---- one message behind others

taken_next : (messages : List Message) (i : ℕ) (message : Message) → i < length messages → message ≡ get_or messages i message
    → take (i + 1) messages ≡ take i messages ++ message ∷ []
taken_next messages i message within is = take_more messages i message within ∙ ap (λ (m : Message). take i messages ++ m ∷ []) (sym is)

pub answers_next : (whole : Bool) (who now : ℕ) (messages : List Message) (i : ℕ) (message : Message) (a b c : Place) → i < length messages
    → message ≡ get_or messages i message → now ≡ who → Answers true who (take i messages) rest.End a b → b.desk.spent ≡ false
    → Answers whole now (message ∷ []) rest.End b c → Answers whole who (take (i + 1) messages) rest.End a c
answers_next whole who now messages i message a b c within is same h ready k =
    let one : Answers whole who (message ∷ []) rest.End b c = subst (λ n. Answers whole n (message ∷ []) rest.End b c) same k in
    subst (λ (ms : List Message). Answers whole who ms rest.End a c) (sym (taken_next messages i message within is))
    (answers_then whole who (take i messages) (message ∷ []) rest.End a b c h ready one)

pub answers_cut : (who : ℕ) (messages : List Message) (i : ℕ) (a b : Place) → Answers false who (take i messages) rest.End a b → Answers false who messages rest.End a b
answers_cut who messages i a b h = answers_more who (take i messages) (drop i messages) messages rest.End a b (take-append-drop i messages) h
