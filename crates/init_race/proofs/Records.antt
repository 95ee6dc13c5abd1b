-- What the record of a history says of each client's requests.
use Rattle.std.proofs.Common.{◌≡◌, ℕ, suc, ◌+◌, ◌<◌, Bool, true, false, ◌==◌, List, [], ◌∷◌, ◌++◌, length, map, filter, Option, Some, None, if◌then◌else◌, refl, sym, ap, ◌∙◌, arith, ⊎_elim, ne_eqb}
use Rattle.std.specs.List.{cons_option, filter_map}
use Rattle.std.proofs.lemmas.Bool.{cases_Bool}
use Rattle.init_core.specs.Core.{IsDeclared}
use Rattle.init_machine.specs.History.{inputs_of, sets_in}
use Rattle.init_machine.specs.declared.client.ClientRequest.{ClientRequest}
use Rattle.init_machine.specs.declared.config.Config.{Config}
use Rattle.init_machine.specs.declared.config.Pair.{Pair}
use Rattle.init_machine.specs.declared.input.Input.{Input}
use Rattle.init_machine.specs.declared.input.Input.TheVariants as input
use Rattle.init_machine.specs.declared.output.Output.{Output}
use Rattle.init_machine.specs.declared.report.Entry.{Entry}
use Rattle.property_area.specs.Area.{requests_of}
use Rattle.property_area.specs.Readers.{answer_of, asker_of, last_of}
use Rattle.property_service.specs.Record.{log_from}
use Rattle.property_service.specs.Service.{EachDeclared}
use Rattle.script_lang.specs.Laws.{set_by}
use Rattle.script_lang.specs.Merges.{is_main}
use Rattle.trace_audit.specs.Audited.{last_of as last_output, request_at, request_if, requests_from}

last_same : (outputs : List Output) → last_of outputs ≡ last_output outputs
last_same [] = refl
last_same (o ∷ []) = refl
last_same (o ∷ p ∷ outputs) = last_same (p ∷ outputs)

-- an entry as it is recorded
abbrev recorded_at : ℕ → ℕ → Entry → ClientRequest
recorded_at place count e = record {
  input = e.input;
  answer = answer_of e.input e.outputs;
  place = place + 1;
  before = count;
  after = count + length (sets_in e.outputs);
}

-- the same with another answer
abbrev with_answer : ℕ → ℕ → Entry → Option Output → ClientRequest
with_answer place count e answer = record {
  input = e.input;
  answer = answer;
  place = place + 1;
  before = count;
  after = count + length (sets_in e.outputs);
}

-- the request of a set, where it is the client's
set_recorded : (place count : ℕ) (e : Entry) (mine : Bool) (pair : Pair) (rest : List ClientRequest) → answer_of e.input e.outputs ≡ last_of e.outputs
    → (if mine then recorded_at place count e ∷ rest else rest)
    ≡ request_if (if mine then Some pair else None) (request_at (place + 1) count e) ++ rest
set_recorded place count e true pair rest is =
    ap (λ (answer : Option Output). (with_answer place count e answer) ∷ rest) (is ∙ last_same e.outputs)
set_recorded place count e false pair rest is = refl

abbrev entry : Input → List Output → Entry
entry i outputs = record { input = i; outputs = outputs }

-- no input of the main actor is a client's
skipped : (k : ℕ) (own : ClientRequest) (rest : List ClientRequest) → (if 0 == suc k then own ∷ rest else rest) ≡ rest
skipped k own rest = ap (λ (b : Bool). if b then own ∷ rest else rest) (ne_eqb 0 (suc k) (λ is. let e : 0 ≡ suc k = is in absurd (omega arith)))

requests_one : (k place count : ℕ) (i : Input) (outputs : List Output) (history : List Entry)
    → requests_of (suc k) (log_from (place + 1) (count + length (sets_in outputs)) history)
    ≡ requests_from (suc k) (place + 1 + 1) (count + length (sets_in outputs)) history
    → requests_of (suc k) (log_from place count (entry i outputs ∷ history)) ≡ requests_from (suc k) (place + 1) count (entry i outputs ∷ history)
requests_one k place count input.Boot outputs history rest =
    skipped k (recorded_at place count (entry input.Boot outputs)) _ ∙ rest
requests_one k place count input.Next outputs history rest =
    skipped k (recorded_at place count (entry input.Next outputs)) _ ∙ rest
requests_one k place count (input.Tick ms) outputs history rest =
    skipped k (recorded_at place count (entry (input.Tick ms) outputs)) _ ∙ rest
requests_one k place count (input.Exit name status) outputs history rest =
    skipped k (recorded_at place count (entry (input.Exit name status) outputs)) _ ∙ rest
requests_one k place count (input.File path content) outputs history rest =
    skipped k (recorded_at place count (entry (input.File path content) outputs)) _ ∙ rest
requests_one k place count (input.Set who name value) outputs history rest =
    let e : Entry = entry (input.Set who name value) outputs in
    ap (λ more. if who.0 == suc k then recorded_at place count e ∷ more else more) rest
    ∙ set_recorded place count e (who.0 == suc k) (record { name = name; value = value })
    (requests_from (suc k) (place + 1 + 1) (count + length (sets_in outputs)) history) refl

-- the requests of a client in the record are those that the audit looks for in the history
pub requests_are : (k place count : ℕ) (history : List Entry)
    → requests_of (suc k) (log_from place count history) ≡ requests_from (suc k) (place + 1) count history
requests_are k place count [] = refl
requests_are k place count (e ∷ history) =
    requests_one k place count e.input e.outputs history (requests_are k (place + 1) (count + length (sets_in e.outputs)) history)

-- a set, where it is the client's
one_set : (mine : Bool) (k : ℕ) (request : ClientRequest) (pair : Pair) (rest : List ClientRequest)
    → (mine ≡ true → set_by (suc k) request.input ≡ Some pair)
    → filter_map (λ (r : ClientRequest). set_by (suc k) r.input) (if mine then request ∷ rest else rest)
    ≡ cons_option (if mine then Some pair else None) (filter_map (λ (r : ClientRequest). set_by (suc k) r.input) rest)
one_set true k request pair rest is = ap (λ o. cons_option o (filter_map (λ (r : ClientRequest). set_by (suc k) r.input) rest)) (is refl)
one_set false k request pair rest is = refl

sets_one : (k place count : ℕ) (i : Input) (outputs : List Output) (history : List Entry)
    → filter_map (set_by (suc k)) (inputs_of history)
    ≡ filter_map (λ (r : ClientRequest). set_by (suc k) r.input) (requests_of (suc k) (log_from (place + 1) (count + length (sets_in outputs)) history))
    → filter_map (set_by (suc k)) (inputs_of (entry i outputs ∷ history))
    ≡ filter_map (λ (r : ClientRequest). set_by (suc k) r.input) (requests_of (suc k) (log_from place count (entry i outputs ∷ history)))
sets_one k place count input.Boot outputs history rest =
    rest ∙ sym (ap (filter_map (λ (r : ClientRequest). set_by (suc k) r.input)) (skipped k (recorded_at place count (entry input.Boot outputs)) _))
sets_one k place count input.Next outputs history rest =
    rest ∙ sym (ap (filter_map (λ (r : ClientRequest). set_by (suc k) r.input)) (skipped k (recorded_at place count (entry input.Next outputs)) _))
sets_one k place count (input.Tick ms) outputs history rest =
    rest ∙ sym (ap (filter_map (λ (r : ClientRequest). set_by (suc k) r.input)) (skipped k (recorded_at place count (entry (input.Tick ms) outputs)) _))
sets_one k place count (input.Exit name status) outputs history rest =
    rest ∙ sym (ap (filter_map (λ (r : ClientRequest). set_by (suc k) r.input)) (skipped k (recorded_at place count (entry (input.Exit name status) outputs)) _))
sets_one k place count (input.File path content) outputs history rest =
    rest ∙ sym (ap (filter_map (λ (r : ClientRequest). set_by (suc k) r.input)) (skipped k (recorded_at place count (entry (input.File path content) outputs)) _))
sets_one k place count (input.Set who name value) outputs history rest =
    ap (cons_option (if who.0 == suc k then Some (record { name = name; value = value }) else None)) rest
    ∙ sym (one_set (who.0 == suc k) k (recorded_at place count (entry (input.Set who name value) outputs))
    (record { name = name; value = value }) (requests_of (suc k) (log_from (place + 1) (count + length (sets_in outputs)) history))
    (λ mine. ap (λ (b : Bool). if b then Some (record { name = name; value = value }) else None) mine))

-- the sets of a client in the history are those of its requests in the record
pub sets_are : (k place count : ℕ) (history : List Entry)
    → filter_map (set_by (suc k)) (inputs_of history)
    ≡ filter_map (λ (r : ClientRequest). set_by (suc k) r.input) (requests_of (suc k) (log_from place count history))
sets_are k place count [] = refl
sets_are k place count (e ∷ history) =
    sets_one k place count e.input e.outputs history (sets_are k (place + 1) (count + length (sets_in e.outputs)) history)

-- ---- the main actor

inputs_one : (config : Config) (place count : ℕ) (i : Input) (outputs : List Output) (history : List Entry) → IsDeclared config i
    → filter is_main (inputs_of history)
    ≡ map (λ (r : ClientRequest). r.input) (requests_of 0 (log_from (place + 1) (count + length (sets_in outputs)) history))
    → filter is_main (inputs_of (entry i outputs ∷ history))
    ≡ map (λ (r : ClientRequest). r.input) (requests_of 0 (log_from place count (entry i outputs ∷ history)))
inputs_one config place count input.Boot outputs history declared rest = ap (λ more. input.Boot ∷ more) rest
inputs_one config place count input.Next outputs history declared rest = ap (λ more. input.Next ∷ more) rest
inputs_one config place count (input.Tick ms) outputs history declared rest = ap (λ more. input.Tick ms ∷ more) rest
inputs_one config place count (input.Exit name status) outputs history declared rest = ap (λ more. input.Exit name status ∷ more) rest
inputs_one config place count (input.File path content) outputs history declared rest = ap (λ more. input.File path content ∷ more) rest
inputs_one config place count (input.Set who name value) outputs history declared rest =
    let first = declared.0 in
    let other : (who.0 == 0) ≡ false = ne_eqb who.0 0 (λ is. let e : who.0 ≡ 0 = is in absurd (omega arith)) in
    rest ∙ sym (ap (λ (mine : Bool). map (λ (r : ClientRequest). r.input)
    (if mine then recorded_at place count (entry (input.Set who name value) outputs)
    ∷ requests_of 0 (log_from (place + 1) (count + length (sets_in outputs)) history)
    else requests_of 0 (log_from (place + 1) (count + length (sets_in outputs)) history))) other)

-- the inputs of the main actor are those of its requests, where each set is of a declared client
pub inputs_are : (config : Config) (place count : ℕ) (history : List Entry) → EachDeclared config (inputs_of history)
    → filter is_main (inputs_of history)
    ≡ map (λ (r : ClientRequest). r.input) (requests_of 0 (log_from place count history))
inputs_are config place count [] declared = refl
inputs_are config place count (e ∷ history) declared =
    inputs_one config place count e.input e.outputs history declared.0
    (inputs_are config (place + 1) (count + length (sets_in e.outputs)) history declared.1)

-- a request in the record of a history stands behind the place at which the record begins
behind_place : (who place count : ℕ) (history : List Entry) (r : ClientRequest) (rest : List ClientRequest)
    → requests_of who (log_from place count history) ≡ r ∷ rest → place < r.place
behind_place who place count [] r rest is = cc
behind_place who place count (e ∷ history) r rest is = ⊎_elim
    (λ (mine : (asker_of e.input == who) ≡ true).
    let all : recorded_at place count e ∷ requests_of who (log_from (place + 1) (count + length (sets_in e.outputs)) history) ≡ r ∷ rest =
    sym (ap (λ (b : Bool). if b then recorded_at place count e ∷ requests_of who (log_from (place + 1) (count + length (sets_in e.outputs)) history)
    else requests_of who (log_from (place + 1) (count + length (sets_in e.outputs)) history)) mine) ∙ is in
    let same : recorded_at place count e ≡ r = cc in
    let at : place + 1 ≡ r.place = ap (λ (x : ClientRequest). x.place) same in
    omega arith)
    (λ (other : (asker_of e.input == who) ≡ false).
    let all : requests_of who (log_from (place + 1) (count + length (sets_in e.outputs)) history) ≡ r ∷ rest =
    sym (ap (λ (b : Bool). if b then recorded_at place count e ∷ requests_of who (log_from (place + 1) (count + length (sets_in e.outputs)) history)
    else requests_of who (log_from (place + 1) (count + length (sets_in e.outputs)) history)) other) ∙ is in
    let more = behind_place who (place + 1) (count + length (sets_in e.outputs)) history r rest all in
    omega arith)
    (cases_Bool (asker_of e.input == who))

-- a history whose first request of a client has place 1 begins with that request's input
pub first_input : (who : ℕ) (history : List Entry) (r : ClientRequest) (rest : List ClientRequest)
    → requests_of who (log_from 0 0 history) ≡ r ∷ rest → r.place ≡ 1
    → (e : Entry) × (more : List Entry) × (history ≡ e ∷ more) × (e.input ≡ r.input)
first_input who [] r rest is one = let bad : [] ≡ r ∷ rest = is in cc
first_input who (e ∷ history) r rest is one = (
  e,
  history,
  refl,
  ⊎_elim
      (λ (mine : (asker_of e.input == who) ≡ true).
      let all : recorded_at 0 0 e ∷ requests_of who (log_from (0 + 1) (0 + length (sets_in e.outputs)) history) ≡ r ∷ rest =
      sym (ap (λ (b : Bool). if b then recorded_at 0 0 e ∷ requests_of who (log_from (0 + 1) (0 + length (sets_in e.outputs)) history)
      else requests_of who (log_from (0 + 1) (0 + length (sets_in e.outputs)) history)) mine) ∙ is in
      let same : recorded_at 0 0 e ≡ r = cc in
      ap (λ (x : ClientRequest). x.input) same)
      (λ (other : (asker_of e.input == who) ≡ false).
      let all : requests_of who (log_from (0 + 1) (0 + length (sets_in e.outputs)) history) ≡ r ∷ rest =
      sym (ap (λ (b : Bool). if b then recorded_at 0 0 e ∷ requests_of who (log_from (0 + 1) (0 + length (sets_in e.outputs)) history)
      else requests_of who (log_from (0 + 1) (0 + length (sets_in e.outputs)) history)) other) ∙ is in
      let far = behind_place who (0 + 1) (0 + length (sets_in e.outputs)) history r rest all in
      absurd (omega arith))
      (cases_Bool (asker_of e.input == who)),
)
