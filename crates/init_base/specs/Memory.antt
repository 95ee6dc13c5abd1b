-- Objects in memory: what they hold, and which of their calls fail.
use Rattle.std.specs.Prelude.{ℕ, ◌+◌, ◌-◌, ◌^◌, min, Bool, ◌==◌, List, if◌then◌else◌}
use Rattle.std.specs.List.{list_any}

-- the calls of an object: the numbers of those that fail, from 1, how many were made, and how many of them failed
pub record Calls : Type 0 where
  pub fail : List ℕ
  pub made : ℕ
  pub faults : ℕ

-- what an object holds, and its calls
pub record InMemory (X : Type 0) : Type 0 where
  pub content : X
  pub calls : Calls

-- a count that is one higher, or stays at its largest value
abbrev pub one_more : ℕ → ℕ
one_more count = min (count + 1) (2 ^ 64 - 1)

-- whether the next call fails: its number is in the list
abbrev pub fails_next : Calls → Bool
fails_next calls = list_any (λ number. number == one_more calls.made) calls.fail

-- the calls with one more
abbrev pub after_call : Calls → Calls
after_call calls = record {
  fail = calls.fail;
  made = one_more calls.made;
  faults = (if fails_next calls then one_more calls.faults else calls.faults);
}

-- an object of which no call was made yet
abbrev pub fresh : {X : Type 0} → X → List ℕ → InMemory X
fresh content fail = record { content = content; calls = record { fail = fail; made = 0; faults = 0 } }
