-- What a client's set does that the machine answered.
use Rattle.std.specs.Prelude.{◌≡◌, ℕ, false, List, [], ◌∷◌, ◌++◌, length, Option, Some, IsSomeAnd, Result}
use Rattle.init_machine.specs.History.{sets_of}
use Rattle.init_machine.specs.Setting.{is_control}
use Rattle.init_machine.specs.Step.{answer_line}
use Rattle.init_machine.specs.declared.output.SetRefusal.{SetRefusal}
use Rattle.init_machine.specs.declared.report.Entry.{Entry}
use Rattle.property_area.specs.Readers.{last_of}
use Rattle.property_area.specs.Seats.{Seated}
use Rattle.property_service.specs.Back.{ComesBackFrom, line_of}
use Rattle.property_service.specs.Service.{ServiceView, has_seat, next_entry, refusal_now, set_by}
use Rattle.property_service.specs.declared.answer.Accepted.{Accepted}

-- the entry of a reader's set, which comes next
abbrev pub set_entry : ServiceView → Seated → List ℕ → List ℕ → Entry
set_entry s reader name value = next_entry s (set_by reader.view.who name value)

-- The entry stands behind the history, and the answer is the line with which it ends: that of the rules. The reader comes back from it,
-- and the others are where they were.
pub record HasSet (old new : ServiceView) (reader : Seated) (back : Option Seated) (name value : List ℕ) (answer : Result Accepted SetRefusal) : Type 0 where
  pub history : new.history ≡ old.history ++ set_entry old reader name value ∷ []
  pub opening : new.opening ≡ old.opening
  pub told : last_of (set_entry old reader name value).outputs ≡ Some (line_of answer)
  pub judged : line_of answer ≡ answer_line (refusal_now old reader.view.who name value) (is_control name) (length (sets_of new.history))
  pub comes_back : IsSomeAnd back (λ now. ComesBackFrom old.history (set_entry old reader name value) reader now)
  pub seats : (who : ℕ) → has_seat new.seat who ≡ has_seat old.seat who
  pub ready : new.spent ≡ false
