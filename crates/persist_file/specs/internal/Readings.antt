-- The reading of a text line by line, which is how the reader goes.
use Rattle.std.specs.Prelude.{◌≡◌, ⊤, ℕ, ◌+◌, List, [], ◌∷◌, ◌++◌, length, drop, Result, Ok, Err}
use Rattle.init_machine.specs.declared.config.Pair.{Pair}
use Rattle.persist_file.specs.Causes.{head_reading, last_name, line_reading, parts_at}
use Rattle.persist_file.specs.declared.refusal.StoreCause.{StoreCause}
use Rattle.persist_file.specs.declared.refusal.StoreCause.TheVariants as cause
use Rattle.persist_file.specs.declared.refusal.StoreRefusal.{StoreRefusal}
use Rattle.persist_file.specs.declared.refusal.StoreRefusal.TheVariants as refusal
use Rattle.persist_file.specs.declared.version.Version.{Version}

-- one line more behind pairs, and then what is left
abbrev pub behind_line : List Pair → Result Pair StoreCause → (List Pair → Result (List Pair) StoreRefusal) → Result (List Pair) StoreRefusal
behind_line read (Ok pair) left = left (read ++ pair ∷ [])
behind_line read (Err why) left = Err (refusal.BadLine (length read + 2) why)

-- the pairs of a whole text of which these were read, and these parts between LFs are left
abbrev pub rest_reading : Version → List Pair → List (List ℕ) → Result (List Pair) StoreRefusal
rest_reading version read [] = Ok read
rest_reading version read ([] ∷ []) = Ok read
rest_reading version read ((b ∷ line) ∷ []) = Err (refusal.BadLine (length read + 2) cause.Shape)
rest_reading version read (line ∷ next ∷ more) =
    behind_line read (line_reading version (last_name read) line) (λ read. rest_reading version read (next ∷ more))

abbrev pub behind_head : Result Version StoreCause → List (List ℕ) → Result (List Pair) StoreRefusal
behind_head (Ok version) parts = rest_reading version [] (drop 1 parts)
behind_head (Err why) parts = Err (refusal.BadLine 1 why)

-- the pairs of a text that isn't empty, or the first line that doesn't fit, and why
abbrev pub text_reading : List ℕ → Result (List Pair) StoreRefusal
text_reading bytes = behind_head (head_reading (parts_at 10 bytes)) (parts_at 10 bytes)

abbrev pub reading : List ℕ → Result (List Pair) StoreRefusal
reading [] = Ok []
reading (b ∷ bytes) = text_reading (b ∷ bytes)

-- an answer is this one, or want of memory
abbrev pub Answers : {A : Type 0} → Result A StoreRefusal → Result A StoreRefusal → Type 0
Answers (Err refusal.NoMemory) answer = ⊤
Answers (Err (refusal.BadLine line why)) answer = answer ≡ Err (refusal.BadLine line why)
Answers (Ok value) answer = answer ≡ Ok value
