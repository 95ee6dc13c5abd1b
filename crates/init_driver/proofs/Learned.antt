-- What a client learned by a request, behind a count of the sets.
use Rattle.std.proofs.Common.{◌≡◌, ℕ, ◌≤◌, List, [], ◌∷◌, ◌++◌, length, Option, Some, None, Result, Ok, Err, append-nil, append_assoc, refl, sym, ap, ◌∙◌, subst, arith}
use Rattle.std.specs.Result.{IfOk}
use Rattle.init_base.specs.Value.{max_value_len}
use Rattle.init_machine.specs.History.{Legal, sets_of}
use Rattle.init_machine.specs.Orderly.{ListStands, readings_in, seen_through}
use Rattle.init_machine.specs.Sets.{Set}
use Rattle.init_machine.specs.State.{Opening, State, value_now}
use Rattle.init_machine.specs.declared.client.ClientItem.{ClientItem}
use Rattle.init_machine.specs.declared.client.ClientItem.TheVariants.{Asked, Told}
use Rattle.init_machine.specs.declared.report.Entry.{Entry}
use Rattle.init_machine.specs.declared.report.Reading.{Reading}
use Rattle.init_machine.specs.declared.report.Reading.TheVariants as reading
use Rattle.property_area.specs.Readers.{Catches, Hears, Reads, seen_by}
use Rattle.property_area.specs.Seats.{IsSameReader, Seated}
use Rattle.property_area.specs.declared.reader.ReadAnswer.{ReadAnswer}
use Rattle.property_area.specs.declared.reader.ReadAnswer.TheVariants as answer
use Rattle.property_area.specs.declared.view.AreaView.{AreaView}
use Rattle.property_service.specs.Back.{ComesAgain}
use Rattle.property_service.specs.Service.{Agrees, ServiceView, state_after}
use Rattle.script_lang.specs.declared.script.Ask.TheVariants as ask
use Rattle.init_driver.specs.Learning.{Counts, HasSameHistory, Learns}
use Rattle.init_driver.specs.Readings.{read_as, read_now}
use Rattle.init_driver.specs.Seat.{told_with}
use Rattle.init_driver.specs.Told.{FitsIn, TellsRead, reading_of}
use Rattle.init_driver.proofs.NowRead.{IsWithin, count_now, last_within, now_caught, now_read}

-- ---- a reading of an answer

pub tells_read : (v after : AreaView) (name : List ℕ) (a : ReadAnswer) (before out : List ℕ) → Reads v name a before out after → TellsRead v name (reading_of name a out) after
tells_read v after name (answer.Found len number) before out h =
    (refl, h.5, subst (λ (value : List ℕ). Hears v (reading.Found name number value) number after) (sym h.4) h.6)
tells_read v after name (answer.Absent number) before out h = (refl, h.0, h.2)
tells_read v after name (answer.Again number first second) before out h = (refl, h.0, h.3)

-- ---- the lists

readings_more : (list : List ClientItem) (told : Reading) → readings_in (list ++ Told told ∷ []) ≡ readings_in list ++ told ∷ []
readings_more [] told = refl
readings_more (Told first ∷ list) told = ap (λ rs. first ∷ rs) (readings_more list told)
readings_more (Asked request ∷ list) told = readings_more list told

two_told : (list one all : List ClientItem) (n : ℕ) (told : Reading) → one ≡ list ++ Told (reading.Synced n) ∷ [] → all ≡ one ++ Told told ∷ []
    → readings_in all ≡ readings_in list ++ (reading.Synced n ∷ told ∷ [])
two_told list one all n told first second =
    let a = reading.Synced n in
    let front : readings_in one ≡ readings_in list ++ a ∷ [] = ap readings_in first ∙ readings_more list a in
    ap readings_in second ∙ readings_more one told ∙ ap (λ rs. rs ++ told ∷ []) front ∙ append_assoc (readings_in list) (a ∷ []) (told ∷ [])

pub tells_list : (v after : AreaView) (name : List ℕ) (told : Reading) → TellsRead v name told after → after.list ≡ v.list ++ Told told ∷ []
tells_list v after name (reading.Found other number value) h = ap (λ (x : AreaView). x.list) h.2
tells_list v after name (reading.Absent other number) h = ap (λ (x : AreaView). x.list) h.2
tells_list v after name (reading.Again other number first second) h = ap (λ (x : AreaView). x.list) h.2
tells_list v after name (reading.Synced number) h = absurd h
tells_list v after name (reading.Caught number) h = absurd h

with_read : (name : List ℕ) (count : ℕ) (value : Option (List ℕ)) → told_with (read_as name count value) ≡ reading.Synced count ∷ read_as name count value ∷ []
with_read name count None = refl
with_read name count (Some value) = refl

-- ---- a look-up behind a count, of a reader that comes back

module _ (s t u : ServiceView) (reader one two back : Seated) (n : ℕ) (first : Counts s reader one n) (early : HasSameHistory s t) (kept : IsSameReader one two)
    (last : ComesAgain (sets_of t.history) two back) (late : HasSameHistory t u) (agrees : Agrees u) where
  abbrev now : State
  now = state_after s

  legal : Legal s.opening s.history
  legal = subst (λ (x : Opening × List Entry). Legal x.0 x.1) (λ j. ((late.opening ∙ early.opening) j, (late.history ∙ early.history) j)) agrees.legal

  seen : seen_by one.view.cell ≡ length (sets_of s.history)
  seen = first.comes.number ∙ first.count_is

  within : (told : Reading) → two.view.list ≡ one.view.list ++ Told told ∷ [] → IsWithin (sets_of s.history) told
  within told list =
      let sets = sets_of s.history in
      let began = two.view.began in
      let same : sets_of t.history ≡ sets = ap sets_of early.history in
      last_within sets began one.view.list told
      (subst (λ (x : List Set × List ClientItem). ListStands x.0 None began x.1) (λ j. (same j, list j)) last.stands)
      (subst (λ (x : List Set × List ClientItem). seen_through (length began) x.1 ≤ length x.0) (λ j. (same j, list j)) last.within)

  pub learned_read : (name : List ℕ) (told : Reading) → TellsRead one.view name told two.view → Learns s reader back (ask.Read name) (Some told)
  learned_read name told tells =
      let list = tells_list one.view two.view name told tells in
      let is : told ≡ read_now now name = now_read s.opening s.history legal one.view two.view name told seen tells (within told list) in
      let front : n ≡ now.props.count = count_now s.opening s.history legal n first.count_is in
      record {
        table = last.table ∙ kept.0 ∙ first.comes.table;
        who = last.who ∙ kept.2 ∙ first.comes.who;
        opening = last.opening ∙ kept.4 ∙ first.comes.opening;
        told_is = ap Some is;
        heard =
            ap readings_in last.list
            ∙ two_told reader.view.list one.view.list two.view.list n told first.comes.list list
            ∙ ap (λ rs. readings_in reader.view.list ++ rs)
            ((λ j. reading.Synced (front j) ∷ is j ∷ [])
            ∙ sym (with_read name now.props.count (value_now now name)) ∙ ap told_with (sym is) ∙ sym (append-nil (told_with told)));
      }

  pub learned_serial : (number : ℕ) → Catches one.view number two.view → Learns s reader back ask.Catch (Some (reading.Caught number))
  learned_serial number catches =
      let list : two.view.list ≡ one.view.list ++ Told (reading.Caught number) ∷ [] = ap (λ (x : AreaView). x.list) catches.1 in
      let is : number ≡ now.props.count = now_caught s.opening s.history legal one.view number seen catches.0 (within (reading.Caught number) list) in
      let front : n ≡ number = count_now s.opening s.history legal n first.count_is ∙ sym is in
      record {
        table = last.table ∙ kept.0 ∙ first.comes.table;
        who = last.who ∙ kept.2 ∙ first.comes.who;
        opening = last.opening ∙ kept.4 ∙ first.comes.opening;
        told_is = ap (λ k. Some (reading.Caught k)) is;
        heard =
            ap readings_in last.list
            ∙ two_told reader.view.list one.view.list two.view.list n (reading.Caught number) first.comes.list list
            ∙ ap (λ rs. readings_in reader.view.list ++ rs) (λ j. reading.Synced (front j) ∷ reading.Caught number ∷ []);
      }

-- ---- a count alone

pub learned_count : (s t : ServiceView) (reader back : Seated) (n : ℕ) → Counts s reader back n → HasSameHistory s t → Agrees t → Learns s reader back ask.Sync (Some (reading.Synced n))
learned_count s t reader back n counts same agrees =
    let legal : Legal s.opening s.history = subst (λ (x : Opening × List Entry). Legal x.0 x.1) (λ j. (same.opening j, same.history j)) agrees.legal in
    record {
      table = counts.comes.table;
      who = counts.comes.who;
      opening = counts.comes.opening;
      told_is = ap (λ k. Some (reading.Synced k)) (count_now s.opening s.history legal n counts.count_is);
      heard = ap readings_in counts.comes.list ∙ readings_more reader.view.list (reading.Synced n);
    }

-- the desk twice as it was
pub same_history_then : (s t u : ServiceView) → HasSameHistory s t → HasSameHistory t u → HasSameHistory s u
same_history_then s t u h k = record {
  opening = k.opening ∙ h.opening;
  history = k.history ∙ h.history;
  ready = λ ready. k.ready (h.ready ready);
}

-- ---- what stands in the buffer

pub fits_in : (v after : AreaView) (name : List ℕ) (a : ReadAnswer) (before out : List ℕ) → max_value_len name ≤ length before → length out ≡ length before
    → Reads v name a before out after → FitsIn a out
fits_in v after name (answer.Found len number) before out room same h = let is = h.3 in let most = h.2 in omega arith
fits_in v after name (answer.Absent number) before out room same h = tt
fits_in v after name (answer.Again number first second) before out room same h = tt

pub tells_on_ok : {E : Type 0} (r : Result Reading E) (v after : AreaView) (bytes name : List ℕ) (a : ReadAnswer) (before out : List ℕ) → bytes ≡ name → Reads v bytes a before out after
    → IfOk r (λ told. told ≡ reading_of name a out) → IfOk r (λ told. TellsRead v name told after)
tells_on_ok (Ok told) v after bytes name a before out same reads is =
    subst (λ (x : Reading). TellsRead v name x after) (sym is) (tells_read v after name a before out (subst (λ (text : List ℕ). Reads v text a before out after) same reads))
tells_on_ok (Err e) v after bytes name a before out same reads is = tt
