-- How a soak ends, as the sink shows it, and the seat that it gives. No promise cites this definition.
use Rattle.std.specs.Prelude.{◌≡◌, ℕ, ◌⊎◌, List, Option}
use Rattle.std.specs.Io.KnownBytes.{append_known}
use Rattle.init_trace.specs.Written.{TakesFront}
use Rattle.job_reader.specs.Run.{Course, IsCourseOf}
use Rattle.job_reader.specs.declared.grammar.Grammar.TheVariants.{Whole}
use Rattle.job_reader.specs.declared.status.Status.{Status}
use Rattle.job_reader.specs.declared.status.Status.TheVariants as status
use Rattle.property_area.specs.Seats.{Seated}
use Rattle.init_forms.specs.Outcome.{RunRefused, Told}
use Rattle.init_forms.specs.Seats.{RecordsRun}
use Rattle.init_forms.specs.Soaking.{soak_text}

-- a front of the summary is written
abbrev pub CutsSoak : ℕ → Told → Option (List ℕ) → Option (List ℕ) → Type 0
CutsSoak services told old new =
    (course : Course) × IsCourseOf Whole told.script told.world told.held course × TakesFront old new (soak_text services course)

abbrev pub EndsSoak : ℕ → Told → Option (List ℕ) → Option (List ℕ) → Status → Option Seated → Type 0
EndsSoak services told old new status.Done seat =
    (course : Course) × IsCourseOf Whole told.script told.world told.held course × (new ≡ append_known old (soak_text services course)) × RecordsRun course seat
EndsSoak services told old new status.WriteFault seat = CutsSoak services told old new
EndsSoak services told old new status.NoMemory seat = (new ≡ old) ⊎ CutsSoak services told old new
EndsSoak services told old new status.ReadFault seat = ⊥
EndsSoak services told old new status.Usage seat = ⊥
EndsSoak services told old new how seat = RunRefused Whole told how × (new ≡ old)
