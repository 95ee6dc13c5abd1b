-- Look-ups: a value that was found stands within the buffer.
use Rattle.std.proofs.Common.{◌≡◌, ℕ, ◌≤◌, List, length, take, min, Option, Some, None, sym, ap, ◌∙◌, arith, length-take}
use Rattle.init_machine.specs.Matches.{or_empty}
use Rattle.init_machine.specs.Props.{IsLookUp, Property, value_of}

abbrev len_in : Option (ℕ × ℕ) → ℕ
len_in None = 0
len_in (Some found) = found.0

pub look_up_fits : (found : Option Property) (len number : ℕ) (out : List ℕ) → IsLookUp found (Some (len, number)) out → len ≤ length out
look_up_fits None len number out is = absurd (cc is)
look_up_fits (Some h) len number out (same, value) =
    let size : len ≡ length h.value = ap len_in same in
    let front : min (length h.value) (length out) ≡ length h.value = sym (length-take (length h.value) out) ∙ ap length value in
    omega (arith, size, front)

pub look_up_gives : (found : Option Property) (len number : ℕ) (out : List ℕ) → IsLookUp found (Some (len, number)) out → take len out ≡ or_empty (value_of found)
look_up_gives None len number out is = absurd (cc is)
look_up_gives (Some h) len number out (same, value) =
    let size : len ≡ length h.value = ap len_in same in
    ap (λ n. take n out) size ∙ value
