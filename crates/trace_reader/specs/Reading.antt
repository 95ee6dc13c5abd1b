-- What the private functions say of themselves: how a value is read from the fields that are left. No promise of the crate
-- cites these definitions.
use Rattle.std.specs.Prelude.{◌≡◌, ℕ, if◌then◌else◌, List, [], ◌∷◌, Option, Some, None, Result, Ok, Err}
use Rattle.std.specs.Str.{bytes_eq}
use Rattle.script_lang.specs.Statements.{with_two, with_three}
use Rattle.script_lang.specs.declared.fault.Fault.{Fault}
use Rattle.script_lang.specs.declared.fault.Fault.TheVariants as fault

-- an answer of the code is this reading, unless memory ran out
abbrev pub IsReading : {A : Type 0} → Result A Fault → Option A → Type 0
IsReading (Ok value) reading = reading ≡ Some value
IsReading (Err fault.Bad) reading = reading ≡ None
IsReading (Err fault.NoMemory) reading = Unit {0}

-- a fault of the code says that there is no reading, unless memory ran out
abbrev pub IsUnread : {A : Type 0} → Option A → Fault → Type 0
IsUnread reading fault.Bad = reading ≡ None
IsUnread reading fault.NoMemory = Unit {0}

abbrev pub IsBad : Fault → Type 0
IsBad why = why ≡ fault.Bad

abbrev pub bind : {A B : Type 0} → Option A → (A → Option B) → Option B
bind None next = None
bind (Some value) next = next value

-- what stands beside a word in a table
abbrev pub choose : {X : Type 0} → List (List ℕ × X) → List ℕ → Option X
choose [] word = None
choose (row ∷ rows) word = if bytes_eq row.0 word then Some row.1 else choose rows word

-- ---- values of so many fields

abbrev pub lone : {A : Type 0} → A → List (List ℕ) → Option A
lone value [] = Some value
lone value (field ∷ rest) = None

abbrev pub only : {A : Type 0} → (List ℕ → Option A) → List (List ℕ) → Option A
only first (a ∷ []) = first a
only first _ = None

abbrev pub two : {A B C : Type 0} → (A → B → C) → (List ℕ → Option A) → (List ℕ → Option B) → List (List ℕ) → Option C
two make first second (a ∷ b ∷ []) = with_two make (first a) (second b)
two make first second _ = None

abbrev pub pair_of : {A B : Type 0} → (List ℕ → Option A) → (List ℕ → Option B) → List (List ℕ) → Option (A × B)
pair_of first second = two (λ a b. (a, b)) first second

abbrev pub three : {A B C D : Type 0} → (A → B → C → D) → (List ℕ → Option A) → (List ℕ → Option B) → (List ℕ → Option C) → List (List ℕ) → Option D
three make first second third (a ∷ b ∷ c ∷ []) = with_three make (first a) (second b) (third c)
three make first second third _ = None

abbrev pub with_four : {A B C D E : Type 0} → (A → B → C → D → E) → Option A → Option B → Option C → Option D → Option E
with_four make (Some a) b c d = with_three (make a) b c d
with_four make None b c d = None

abbrev pub four : {A B C D E : Type 0} → (A → B → C → D → E) → (List ℕ → Option A) → (List ℕ → Option B) → (List ℕ → Option C) → (List ℕ → Option D) → List (List ℕ) → Option E
four make first second third fourth (a ∷ b ∷ c ∷ d ∷ []) = with_four make (first a) (second b) (third c) (fourth d)
four make first second third fourth _ = None
