-- What the calls answer, by their definitions.
use Rattle.std.specs.Prelude.{◌≡◌, ⊤, Option, Some, None, Result, Ok, Err, Bool, true, false}
use Rattle.init_machine.specs.declared.output.SetRefusal.{SetRefusal}
use Rattle.init_machine.specs.declared.output.SetRefusal.TheVariants as refusal

-- want of memory
abbrev pub is_no_memory : SetRefusal → Bool
is_no_memory refusal.NoMemory = true
is_no_memory _ = false

abbrev pub IsRefusal : Bool → SetRefusal → Option SetRefusal → Type 0
IsRefusal true why answer = ⊤
IsRefusal false why answer = answer ≡ Some why

-- there is no reason against it, or this is the reason; want of memory may come in place of either
abbrev pub IsAnswer : {T : Type 0} → Result T SetRefusal → Option SetRefusal → Type 0
IsAnswer (Ok done) answer = answer ≡ None
IsAnswer (Err why) answer = IsRefusal (is_no_memory why) why answer
