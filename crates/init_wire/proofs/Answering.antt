-- What was served is answered.
use Rattle.std.proofs.Common.{◌≡◌, ℕ, List, [], Option, Some, None, Result, Err, refl, sym, ap, subst, append-nil, arith}
use Rattle.std.specs.Io.KnownBytes.{append_known}
use Rattle.init_machine.specs.History.{inputs_of}
use Rattle.init_machine.specs.State.{Opening}
use Rattle.init_machine.specs.declared.input.Input.{Input}
use Rattle.prop_wire.specs.Limit.{stream_of}
use Rattle.prop_wire.specs.Replies.{Replies}
use Rattle.prop_wire.specs.Serving.{is_whole, Place, Serves, TakesBytes, TellsLimit}
use Rattle.prop_wire.specs.declared.refusal.WireRefusal.{WireRefusal}
use Rattle.prop_wire.specs.declared.refusal.WireRefusal.TheVariants as refusal
use Rattle.prop_wire.specs.internal.Streams.{total_len}
use Rattle.wire_format.proofs.Joining.{some_reading}
use Rattle.wire_format.proofs.Readings.{stream_len}
use Rattle.init_wire.specs.Served.{IsAnswered, booted, client}

-- the stream was served at a desk that had taken the boot alone
pub serving_answers : (o : Opening) (held : List ℕ) (who : ℕ) (a b : Place) (r : Result ℕ WireRefusal) → a.desk.opening ≡ o → inputs_of a.desk.history ≡ booted
    → who ≡ client → Serves who 0 (stream_of held) a b r → TellsLimit held r → IsAnswered o held a.taken b.taken r
serving_answers o held who a b r opening inputs is serves limit =
    let h : Serves client 0 (stream_of held) a b r = subst (λ (n : ℕ). Serves n 0 (stream_of held) a b r) is serves in
    let same_opening : TakesBytes (is_whole r) (Replies o (inputs_of a.desk.history) client h.messages h.last) a.taken b.taken
    = subst (λ (x : Opening). TakesBytes (is_whole r) (Replies x (inputs_of a.desk.history) client h.messages h.last) a.taken b.taken) opening h.answers.replies in record {
      messages = h.messages;
      last = h.last;
      wire = h.wire;
      place = h.place;
      place_is = (let at = h.place_is in omega arith);
      end = h.end;
      limit = limit;
      written = subst (λ (is : List Input). TakesBytes (is_whole r) (Replies o is client h.messages h.last) a.taken b.taken) inputs same_opening;
    }

nothing_taken : (known : Option (List ℕ)) → known ≡ append_known known []
nothing_taken None = refl
nothing_taken (Some bytes) = ap Some (sym (append-nil bytes))

-- nothing was served, since memory ran out before
pub nothing_answers : (o : Opening) (held : List ℕ) (known : Option (List ℕ)) → IsAnswered o held known known (Err refusal.NoMemory)
nothing_answers o held known =
    let bytes : List ℕ = stream_of held in
    let reading = some_reading bytes in
    let len = stream_len bytes reading.0 reading.2.left reading.2.begins in
    record {
      messages = reading.0;
      last = reading.1;
      wire = reading.2;
      place = total_len reading.0;
      place_is = sym len;
      end = tt;
      limit = tt;
      written = record {
        written = [];
        part = (Replies o booted client reading.0 reading.1, refl);
        taken = nothing_taken known;
      };
    }
