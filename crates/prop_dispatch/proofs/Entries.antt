-- One more entry at the end of a history, and of what is recorded of it.
use Rattle.std.proofs.Common.{◌≡◌, ◌≢◌, ℕ, ◌+◌, ◌==◌, Bool, true, false, cond, if◌then◌else◌, List, [], ◌∷◌, ◌++◌, length, refl, sym, ap, ◌∙◌, arith, append-nil, length-append}
use Rattle.std.proofs.lemmas.List.Elements.{filter-append}
use Rattle.init_machine.specs.History.{sets_in, sets_of}
use Rattle.init_machine.specs.declared.client.ClientRequest.{ClientRequest}
use Rattle.init_machine.specs.declared.report.Entry.{Entry}
use Rattle.property_area.specs.Area.{requests_of}
use Rattle.property_area.specs.Readers.{asker_of}
use Rattle.property_area.specs.declared.view.LogEntry.{LogEntry}
use Rattle.property_service.specs.Back.{request_behind}
use Rattle.property_service.specs.Record.{logged, log_of}
use Rattle.property_service.proofs.Histories.{log-end, sets-end}
use Rattle.prop_dispatch.specs.Relayed.{entries_of}
use Rattle.prop_dispatch.proofs.Clients.{is_test, isnt_test}

-- ---- the entries of a client

pub entries_own : (who : ℕ) (entries : List Entry) (e : Entry) → asker_of e.input ≡ who → entries_of who (entries ++ e ∷ []) ≡ entries_of who entries ++ e ∷ []
entries_own who entries e is =
    filter-append (λ (x : Entry). asker_of x.input == who) entries (e ∷ [])
    ∙ ap (λ (b : Bool). entries_of who entries ++ cond b (e ∷ []) []) (is_test (asker_of e.input) who is)

pub entries_other : (who : ℕ) (entries : List Entry) (e : Entry) → asker_of e.input ≢ who → entries_of who (entries ++ e ∷ []) ≡ entries_of who entries
entries_other who entries e isnt =
    filter-append (λ (x : Entry). asker_of x.input == who) entries (e ∷ [])
    ∙ ap (λ (b : Bool). entries_of who entries ++ cond b (e ∷ []) []) (isnt_test (asker_of e.input) who isnt)
    ∙ append-nil (entries_of who entries)

-- ---- the requests of a client in the record

one_more : (b : Bool) (r : ClientRequest) (xs ys : List ClientRequest) → (if b then r ∷ (xs ++ ys) else xs ++ ys) ≡ (if b then r ∷ xs else xs) ++ ys
one_more true r xs ys = refl
one_more false r xs ys = refl

requests_append : (who : ℕ) (xs ys : List LogEntry) → requests_of who (xs ++ ys) ≡ requests_of who xs ++ requests_of who ys
requests_append who [] ys = refl
requests_append who (x ∷ xs) ys =
    ap (λ (l : List ClientRequest). if x.who == who then x.request ∷ l else l) (requests_append who xs ys)
    ∙ one_more (x.who == who) x.request (requests_of who xs) (requests_of who ys)

chosen : (b : Bool) (r : ClientRequest) → b ≡ true → (if b then r ∷ [] else []) ≡ r ∷ []
chosen true r is = refl
chosen false r is = absurd (grind (arith, is))

left_out : (b : Bool) (r : ClientRequest) → b ≡ false → (if b then r ∷ [] else []) ≡ []
left_out true r is = absurd (grind (arith, is))
left_out false r is = refl

-- the request of an entry that comes next, as it is recorded
logged_is : (history : List Entry) (e : Entry) → (logged (length history) (length (sets_of history)) e).request ≡ request_behind history e
logged_is history e =
    let after : length (sets_of history) + length (sets_in e.outputs) ≡ length (sets_of (history ++ e ∷ [])) =
    sym (ap (λ l. length l) (sets-end history e) ∙ length-append (sets_of history) (sets_in e.outputs)) in
    λ i. record (request_behind history e) { after = after i }

pub log_own : (who : ℕ) (history : List Entry) (e : Entry) → asker_of e.input ≡ who
    → requests_of who (log_of (history ++ e ∷ [])) ≡ requests_of who (log_of history) ++ request_behind history e ∷ []
log_own who history e is =
    let x : LogEntry = logged (length history) (length (sets_of history)) e in
    ap (requests_of who) (log-end history e) ∙ requests_append who (log_of history) (x ∷ [])
    ∙ ap (λ (l : List ClientRequest). requests_of who (log_of history) ++ l) (chosen (x.who == who) x.request (is_test (asker_of e.input) who is))
    ∙ ap (λ (r : ClientRequest). requests_of who (log_of history) ++ r ∷ []) (logged_is history e)

pub log_other : (who : ℕ) (history : List Entry) (e : Entry) → asker_of e.input ≢ who
    → requests_of who (log_of (history ++ e ∷ [])) ≡ requests_of who (log_of history)
log_other who history e isnt =
    let x : LogEntry = logged (length history) (length (sets_of history)) e in
    ap (requests_of who) (log-end history e) ∙ requests_append who (log_of history) (x ∷ [])
    ∙ ap (λ (l : List ClientRequest). requests_of who (log_of history) ++ l) (left_out (x.who == who) x.request (isnt_test (asker_of e.input) who isnt))
    ∙ append-nil (requests_of who (log_of history))
