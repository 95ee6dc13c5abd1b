-- How many entries stand whole in what is written, and which texts the keeper was given up to there.
use Rattle.std.proofs.Common.{◌≡◌, ℕ, zero, suc, ◌+◌, ◌-◌, ◌<◌, ◌≤◌, ◌⊎◌, inl, inr, Bool, true, false, IsTrue, nat_le, if◌then◌else◌, List, [], ◌∷◌, ◌++◌, length, map, take, append_assoc, length-append, refl, sym, ap, ◌∙◌, subst, arith}
use Rattle.std.proofs.lemmas.Grind.{common_steps}
use Rattle.init_machine.specs.Policy.{PolicyLines}
use Rattle.init_machine.specs.State.{State}
use Rattle.init_machine.specs.Changes.{Change}
use Rattle.init_machine.specs.Step.{step}
use Rattle.init_machine.specs.declared.config.Config.{Config}
use Rattle.init_machine.specs.declared.input.Input.{Input}
use Rattle.init_machine.specs.declared.report.Entry.{Entry}
use Rattle.init_trace.specs.Fields.{head_fields}
use Rattle.init_trace.specs.Line.{line_text, lines_text, spaced}
use Rattle.init_trace.specs.Report.{EntriesText, EntryText, output_line}
use Rattle.machine_laws.specs.Histories.{history_from}
use Rattle.persist_file.specs.Store.{store_text}
use Rattle.init_driver.specs.Course.{IsAhead}
use Rattle.init_driver.specs.Run.{whole_in}
use Rattle.init_driver.specs.Stored.{given_at, given_from, has_stored}

line_is_there : (fields : List (List ℕ)) → 0 < length (line_text fields)
line_is_there [] = omega arith
line_is_there (field ∷ rest) =
    let both = length-append (field ++ spaced rest) (10 ∷ []) in
    let there : 0 < length ((field ++ spaced rest) ++ 10 ∷ []) = omega arith in
    there

-- each entry has a text
text_is_there : (e : Entry) → 0 < length (EntryText e)
text_is_there e =
    let head = line_is_there (head_fields e.input) in
    let both = length-append (line_text (head_fields e.input)) (lines_text (map output_line e.outputs)) in
    let there : 0 < length (line_text (head_fields e.input) ++ lines_text (map output_line e.outputs)) = omega arith in
    there

-- nothing is written: no entry stands whole
pub whole_none : (entries : List Entry) (n : ℕ) → n ≡ 0 → whole_in n entries ≡ 0
whole_none [] n none = refl
whole_none (e ∷ rest) n none =
    let there = text_is_there e in
    let past : nat_le (length (EntryText e)) n ≡ false = grind (arith, common_steps) in
    ap (λ (b : Bool). if b then suc (whole_in (n - length (EntryText e)) rest) else 0) past

-- these entries are written, and nothing behind them
pub whole_exact : (entries rest : List Entry) → whole_in (length (EntriesText entries)) (entries ++ rest) ≡ length entries
whole_exact [] rest = whole_none rest 0 refl
whole_exact (e ∷ entries) rest =
    let both = length-append (EntryText e) (EntriesText entries) in
    let within : nat_le (length (EntryText e)) (length (EntryText e ++ EntriesText entries)) ≡ true = grind (arith, common_steps, both) in
    let left : length (EntryText e ++ EntriesText entries) - length (EntryText e) ≡ length (EntriesText entries) = omega arith in
    ap (λ (b : Bool). if b then suc (whole_in (length (EntryText e ++ EntriesText entries) - length (EntryText e)) (entries ++ rest)) else 0) within
    ∙ ap (λ n. suc (whole_in n (entries ++ rest))) left
    ∙ ap suc (whole_exact entries rest)

-- all of them are written, and so much more
pub whole_over : (entries : List Entry) (more : ℕ) → whole_in (length (EntriesText entries) + more) entries ≡ length entries
whole_over [] more = refl
whole_over (e ∷ entries) more =
    let both = length-append (EntryText e) (EntriesText entries) in
    let within : nat_le (length (EntryText e)) (length (EntryText e ++ EntriesText entries) + more) ≡ true = grind (arith, common_steps, both) in
    let left : length (EntryText e ++ EntriesText entries) + more - length (EntryText e) ≡ length (EntriesText entries) + more = omega arith in
    ap (λ (b : Bool). if b then suc (whole_in (length (EntryText e ++ EntriesText entries) + more - length (EntryText e)) entries) else 0) within
    ∙ ap (λ n. suc (whole_in n entries)) left
    ∙ ap suc (whole_over entries more)

-- ---- entries behind which more is written

-- a bit less waits and is written
pub ahead_down : (waiting : ℕ) (entries : List Entry) (written by : ℕ) → IsAhead (waiting + by) entries written → IsAhead waiting entries (written - by)
ahead_down waiting [] written by h = tt
ahead_down waiting (e ∷ rest) written by h = (
  (λ stored. let early = h.0 stored in omega arith),
  (let same : waiting + by + length (EntryText e) ≡ waiting + length (EntryText e) + by = omega arith in
      ahead_down (waiting + length (EntryText e)) rest written by (subst (λ n. IsAhead n rest written) same h.1)),
)

-- what waits isn't written whole: nothing is stored
none_at : (policy : PolicyLines) (c : Change) (waiting written : ℕ) → written < waiting → (IsTrue (has_stored c.lines) → waiting ≤ written) → given_at policy c ≡ []
none_at policy c waiting written less ahead =
    elim (has_stored c.lines) as (λ (b : Bool). (IsTrue b → waiting ≤ written) → (if b then store_text policy c.state.saved ∷ [] else []) ≡ []) [
      | true ↦ λ h. let early = h refl in absurd (omega arith)
      | false ↦ λ h. refl
    ] ahead

none_given : (config : Config) (policy : PolicyLines) (s : State) (inputs : List Input) (waiting written : ℕ) → written < waiting
    → IsAhead waiting (history_from config policy s inputs) written → given_from config policy s inputs ≡ []
none_given config policy s [] waiting written less h = refl
none_given config policy s (i ∷ inputs) waiting written less h =
    let c = step config policy s i in
    let e : Entry = record { input = i; outputs = c.lines } in
    let more : written < waiting + length (EntryText e) = omega arith in
    ap (λ g. g ++ given_from config policy c.state inputs) (none_at policy c waiting written less h.0)
    ∙ none_given config policy c.state inputs (waiting + length (EntryText e)) written more h.1

-- of a run of these inputs the first ones were done, and so much of their text is written: as many texts were given as up to the
-- last entry that stands whole, or up to the next one
pub given_near : (config : Config) (policy : PolicyLines) (s : State) (done left : List Input) (written : ℕ)
    → (left ≡ []) ⊎ (written ≤ length (EntriesText (history_from config policy s done)))
    → IsAhead 0 (history_from config policy s done) written
    → (given_from config policy s done ≡ given_from config policy s (take (whole_in written (history_from config policy s (done ++ left))) (done ++ left)))
    ⊎ (given_from config policy s done ≡ given_from config policy s (take (suc (whole_in written (history_from config policy s (done ++ left)))) (done ++ left)))
given_near config policy s [] left written stop h =
    let none : whole_in written (history_from config policy s left) ≡ 0 =
    elim stop [
      | inl is ↦ ap (λ (is : List Input). whole_in written (history_from config policy s is)) is
      | inr within ↦ whole_none (history_from config policy s left) written (omega arith)
    ] in
    inl (ap (λ n. given_from config policy s (take n left)) (sym none))
given_near config policy s (i ∷ done) left written stop h =
    let c = step config policy s i in
    let e : Entry = record { input = i; outputs = c.lines } in
    let rest = history_from config policy c.state (done ++ left) in
    let size = length (EntryText e) in
    elim (nat_le size written) as (λ (b : Bool). nat_le size written ≡ b
    → (given_from config policy s (i ∷ done) ≡ given_from config policy s (take (if b then suc (whole_in (written - size) rest) else 0) (i ∷ done ++ left)))
    ⊎ (given_from config policy s (i ∷ done) ≡ given_from config policy s (take (suc (if b then suc (whole_in (written - size) rest) else 0)) (i ∷ done ++ left)))) [
      | true ↦ λ within.
          let both = length-append (EntryText e) (EntriesText (history_from config policy c.state done)) in
          let fits : size ≤ written = grind (arith, common_steps, within) in
          let stop' : (left ≡ []) ⊎ (written - size ≤ length (EntriesText (history_from config policy c.state done))) =
          elim stop [ inl is ↦ inl is | inr few ↦ inr (omega arith) ] in
          elim (given_near config policy c.state done left (written - size) stop' (ahead_down 0 (history_from config policy c.state done) written size h.1)) [
            | inl same ↦ inl (ap (λ g. given_at policy c ++ g) same)
            | inr same ↦ inr (ap (λ g. given_at policy c ++ g) same)
          ]
      | false ↦ λ past.
          let less : written < size = grind (arith, common_steps, past) in
          inr (ap (λ g. given_at policy c ++ g) (none_given config policy c.state done (0 + size) written (omega arith) h.1))
    ] refl

-- up to the next entry as many texts are given, or more
pub given_one_more : (config : Config) (policy : PolicyLines) (s : State) (inputs : List Input) (n : ℕ)
    → (more : List (List ℕ)) × (given_from config policy s (take (suc n) inputs) ≡ given_from config policy s (take n inputs) ++ more)
given_one_more config policy s [] zero = ([], refl)
given_one_more config policy s [] (suc n) = ([], refl)
given_one_more config policy s (i ∷ inputs) zero = (given_from config policy s (take 1 (i ∷ inputs)), refl)
given_one_more config policy s (i ∷ inputs) (suc n) =
    let c = step config policy s i in
    let rest = given_one_more config policy c.state inputs n in
    (rest.0, ap (λ g. given_at policy c ++ g) rest.1 ∙ sym (append_assoc (given_at policy c) (given_from config policy c.state (take n inputs)) rest.0))

pub history_length : (config : Config) (policy : PolicyLines) (s : State) (inputs : List Input) → length (history_from config policy s inputs) ≡ length inputs
history_length config policy s [] = refl
history_length config policy s (i ∷ inputs) = ap suc (history_length config policy (step config policy s i).state inputs)

-- the first inputs of all
pub take_all : (done left : List Input) → take (length done) (done ++ left) ≡ done
take_all [] left = refl
take_all (i ∷ done) left = ap (λ (is : List Input). i ∷ is) (take_all done left)

pub take_next : (done : List Input) (i : Input) (left : List Input) → take (suc (length done)) (done ++ i ∷ left) ≡ done ++ i ∷ []
take_next [] i left = refl
take_next (j ∷ done) i left = ap (λ (is : List Input). j ∷ is) (take_next done i left)
