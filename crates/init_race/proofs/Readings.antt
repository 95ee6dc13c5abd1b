-- A reading as an item of a client's list.
use Rattle.std.proofs.Common.{◌≡◌, List, [], ◌∷◌, ℕ, true, false, Result, Ok, Err, sym, subst, refl}
use Rattle.std.specs.Prelude.{IfOk, bytes_eq}
use Rattle.std.specs.Cmp.Lexicographic.{other_text}
use Rattle.init_base.specs.declared.memory.NoMemory.{NoMemory}
use Rattle.init_driver.proofs.Learned.{tells_list}
use Rattle.init_driver.specs.Told.{TellsRead}
use Rattle.init_machine.specs.declared.client.ClientItem.TheVariants.{Told}
use Rattle.init_machine.specs.declared.report.Reading.{Reading}
use Rattle.init_machine.specs.declared.report.Reading.TheVariants as reading
use Rattle.init_race.specs.Acting.{GoesOn}
use Rattle.property_area.specs.Seats.{IsSameReader, Seated}
use Rattle.property_area.specs.declared.view.AreaView.{AreaView}
use Rattle.script_lang.specs.declared.script.Ask.TheVariants as ask
use Rattle.trace_audit.specs.Audited.{is_answer}

same_name : (name : List ℕ) → bytes_eq name name ≡ true
same_name name =
    elim (bytes_eq name name) as (λ b. b ≡ bytes_eq name name → b ≡ true) [ true ↦ λ e. refl | false ↦ λ e. absurd (other_text name name e refl) ] refl

other_name : (other name : List ℕ) → other ≡ name → bytes_eq other name ≡ true
other_name other name is = subst (λ (n : List ℕ). bytes_eq n name ≡ true) (sym is) (same_name name)

tells_answer : (v after : AreaView) (name : List ℕ) (told : Reading) → TellsRead v name told after → is_answer (ask.Read name) told ≡ true
tells_answer v after name (reading.Found other number value) h = other_name other name h.0
tells_answer v after name (reading.Absent other number) h = other_name other name h.0
tells_answer v after name (reading.Again other number first second) h = other_name other name h.0
tells_answer v after name (reading.Synced number) h = absurd h
tells_answer v after name (reading.Caught number) h = absurd h

pub read_goes : (r : Result Reading NoMemory) (reader after : Seated) (name : List ℕ) → IfOk r (λ told. TellsRead reader.view name told after.view)
    → IsSameReader reader after → IfOk r (λ told. GoesOn reader after (Told told ∷ []))
read_goes (Ok told) reader after name tells same = record {
  table = same.0;
  who = same.2;
  opening = same.4;
  began = same.3;
  list = tells_list reader.view after.view name told tells;
}
read_goes (Err e) reader after name tells same = tt

pub read_answers : (r : Result Reading NoMemory) (v after : AreaView) (name : List ℕ) → IfOk r (λ told. TellsRead v name told after)
    → IfOk r (λ told. is_answer (ask.Read name) told ≡ true)
read_answers (Ok told) v after name tells = tells_answer v after name told tells
read_answers (Err e) v after name tells = tt
