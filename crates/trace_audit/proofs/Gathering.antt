-- What entries tell, one after another.
use Rattle.std.specs.Result.{OnOk}
use Rattle.std.proofs.Common.{◌≡◌, ◌+◌, ◌<◌, ℕ, Result, Ok, Err, List, [], ◌∷◌, ◌++◌, length, sym, ap, ◌∙◌, append_assoc, append-nil, arith}
use Rattle.std.proofs.lemmas.List.{length-append}
use Rattle.std.proofs.lemmas.List.Concat.{flat_map-append}
use Rattle.init_machine.specs.History.{sets_in, sets_of}
use Rattle.init_machine.specs.Sets.{Set}
use Rattle.init_machine.specs.declared.report.Entry.{Entry}
use Rattle.trace_audit.specs.Lists.{all_requests, request_in}
use Rattle.trace_audit.specs.Taken.{HasGathered}
use Rattle.trace_audit.specs.declared.told.Gathered.{Gathered}
use Rattle.trace_audit.specs.declared.told.Request.{Request}

sets_next : (history : List Entry) (e : Entry) → sets_of (history ++ e ∷ []) ≡ sets_of history ++ sets_in e.outputs
sets_next history e =
    flat_map-append (λ (x : Entry). sets_in x.outputs) history (e ∷ []) ∙ ap (λ (sets : List Set). sets_of history ++ sets) (append-nil (sets_in e.outputs))

requests_next : (before : ℕ) (history : List Entry) (e : Entry) (count : ℕ) → count ≡ before + length (sets_of history)
    → all_requests before (history ++ e ∷ []) ≡ all_requests before history ++ request_in e.input count (count + length (sets_in e.outputs))
requests_next before [] e count counted =
    let same : before ≡ count = omega arith in
    append-nil (request_in e.input before (before + length (sets_in e.outputs))) ∙ ap (λ (n : ℕ). request_in e.input n (n + length (sets_in e.outputs))) same
requests_next before (x ∷ history) e count counted =
    let behind = before + length (sets_in x.outputs) in
    let long : length (sets_of (x ∷ history)) ≡ length (sets_in x.outputs) + length (sets_of history) = length-append (sets_in x.outputs) (sets_of history) in
    let rest = requests_next behind history e count (omega arith) in
    ap (λ (rs : List Request). request_in x.input before behind ++ rs) rest
    ∙ sym (append_assoc (request_in x.input before behind) (all_requests behind history) (request_in e.input count (count + length (sets_in e.outputs))))

told_sets : (history : List Entry) (e : Entry) (old new : Gathered) → new.sets.items ≡ old.sets.items ++ sets_in e.outputs
    → old.sets.items ≡ sets_of history → new.sets.items ≡ sets_of (history ++ e ∷ [])
told_sets history e old new added sets = added ∙ ap (λ (ss : List Set). ss ++ sets_in e.outputs) sets ∙ sym (sets_next history e)

told_requests : (history : List Entry) (e : Entry) (old new : Gathered)
    → new.requests.items ≡ old.requests.items ++ request_in e.input (length old.sets.items) (length old.sets.items + length (sets_in e.outputs))
    → old.sets.items ≡ sets_of history → old.requests.items ≡ all_requests 0 history → new.requests.items ≡ all_requests 0 (history ++ e ∷ [])
told_requests history e old new added sets requests =
    let count : length old.sets.items ≡ length (sets_of history) = ap length sets in
    let counted : length old.sets.items ≡ 0 + length (sets_of history) = omega arith in
    added
    ∙ ap (λ (rs : List Request). rs ++ request_in e.input (length old.sets.items) (length old.sets.items + length (sets_in e.outputs))) requests
    ∙ sym (requests_next 0 history e (length old.sets.items) counted)

gathered_next : (history : List Entry) (e : Entry) (old new : Gathered) → new.sets.items ≡ old.sets.items ++ sets_in e.outputs
    → new.requests.items ≡ old.requests.items ++ request_in e.input (length old.sets.items) (length old.sets.items + length (sets_in e.outputs))
    → HasGathered history old → HasGathered (history ++ e ∷ []) new
gathered_next history e old new sets requests told = record {
  sets = told_sets history e old new sets told.sets;
  requests = told_requests history e old new requests told.sets told.requests;
}

pub gathered_on : {T E : Type 0} (r : Result T E) (clients : ℕ) (e : Entry) (old new : Gathered) → OnOk r (new.sets.items ≡ old.sets.items ++ sets_in e.outputs)
    → OnOk r (new.requests.items ≡ old.requests.items ++ request_in e.input (length old.sets.items) (length old.sets.items + length (sets_in e.outputs)))
    → OnOk r ((history : List Entry) → 0 < clients → HasGathered history old → HasGathered (history ++ e ∷ []) new)
gathered_on (Ok x) clients e old new sets requests = λ history some told. gathered_next history e old new sets requests told
gathered_on (Err why) clients e old new sets requests = tt
