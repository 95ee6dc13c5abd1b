-- How much is written of the texts of entries.
use Rattle.std.proofs.Common.{◌≡◌, ℕ, ◌+◌, ◌≤◌, List, [], ◌∷◌, ◌++◌, length, subst, arith, length-append}
use Rattle.init_machine.specs.declared.report.Entry.{Entry}
use Rattle.init_trace.specs.Report.{EntriesText, EntryText}
use Rattle.init_driver.specs.Course.{IsAhead}

-- more is written
pub ahead_up : (waiting : ℕ) (entries : List Entry) (written more : ℕ) → written ≤ more → IsAhead waiting entries written → IsAhead waiting entries more
ahead_up waiting [] written more up h = tt
ahead_up waiting (e ∷ rest) written more up h =
    ((λ stored. let early = h.0 stored in omega arith), ahead_up (waiting + length (EntryText e)) rest written more up h.1)

-- as many bytes more wait and are written
pub ahead_shift : (waiting : ℕ) (entries : List Entry) (written by : ℕ) → IsAhead waiting entries written → IsAhead (by + waiting) entries (by + written)
ahead_shift waiting [] written by h = tt
ahead_shift waiting (e ∷ rest) written by h = (
  (λ stored. let early = h.0 stored in omega arith),
  (let more = ahead_shift (waiting + length (EntryText e)) rest written by h.1 in
      let same : by + (waiting + length (EntryText e)) ≡ by + waiting + length (EntryText e) = omega arith in
      subst (λ n. IsAhead n rest (by + written)) same more),
)

-- entries behind others
pub ahead_then : (waiting : ℕ) (first more : List Entry) (written : ℕ) → IsAhead waiting first written
    → IsAhead (waiting + length (EntriesText first)) more written → IsAhead waiting (first ++ more) written
ahead_then waiting [] more written h k = let same : waiting + 0 ≡ waiting = omega arith in subst (λ n. IsAhead n more written) same k
ahead_then waiting (e ∷ first) more written h k = (
  h.0,
  (let both = length-append (EntryText e) (EntriesText first) in
      let same : waiting + length (EntriesText (e ∷ first)) ≡ waiting + length (EntryText e) + length (EntriesText first) = omega arith in
      ahead_then (waiting + length (EntryText e)) first more written h.1 (subst (λ n. IsAhead n more written) same k)),
)
