-- What a desk keeps before its first input.
use Rattle.std.proofs.Common.{◌≡◌, ◌≤◌, ℕ, zero, suc, ◌+◌, nat_lt, nat_le, IsTrue, arith, Bool, false, List, [], length, get_or, refl, sym, ap, ◌∙◌, subst}
use Rattle.std.specs.Prelude.{replicate}
use Rattle.std.proofs.lemmas.Bool.Decides.{nat_tests}
use Rattle.atomic_table.specs.Seated.{TableId}
use Rattle.init_core.specs.Core.{CoreView, opened, opening_of}
use Rattle.init_machine.specs.Policy.{PolicyLines}
use Rattle.init_machine.specs.Sets.{Set}
use Rattle.init_machine.specs.State.{Opening, first_state}
use Rattle.init_machine.specs.declared.config.Config.{Config}
use Rattle.machine_laws.specs.Histories.{history_of}
use Rattle.property_area.specs.Area.{list_in, out_seat}
use Rattle.property_area.specs.Meaning.{props_of}
use Rattle.property_area.specs.Readers.{opening_of as opening_logged, opening_with}
use Rattle.property_area.specs.Seats.{Seated, sets_in, store_of}
use Rattle.property_area.specs.declared.view.AreaView.{AreaView}
use Rattle.property_service.proofs.Openings.{opening_read}
use Rattle.property_service.specs.Desk.{DeskHolds, DeskKeeps}
use Rattle.property_service.specs.Record.{inputs_in}
use Rattle.property_service.specs.Service.{Agrees, ServiceView, recorded_service}

within : (n : ℕ) → IsTrue (nat_le n 64) → n ≤ 64
within n is = grind (arith, nat_tests)

none_noted : (n q : ℕ) → get_or (replicate n false) q false ≡ false
none_noted zero q = refl
none_noted (suc n) zero = refl
none_noted (suc n) (suc q) = none_noted n q

module _ (area : TableId) (config : Config) (policy : PolicyLines) (writer : Seated) (v : AreaView)
    (table : writer.table ≡ area) (sets : sets_in v ≡ []) (log : v.log ≡ []) (out : v.out ≡ []) (idle : (q : ℕ) → list_in v.clients q ≡ [])
    (begun : writer.view ≡ opening_with (opening_logged config policy v.words) v) where
  abbrev o : Opening
  o = opening_of config policy v.words

  abbrev w : AreaView
  w = opening_with (opening_logged config policy v.words) v

  abbrev fresh : ServiceView
  fresh = record { opening = o; history = []; seat = w; spent = false }

  service_fresh : recorded_service w false ≡ fresh
  service_fresh = λ j. record {
    opening = opening_read o j;
    history = history_of (opening_read o j) (inputs_in (log j));
    seat = w;
    spent = false;
  }

  pub shown_fresh : recorded_service writer.view false ≡ (let t : ServiceView = record fresh { seat = writer.view } in t)
  shown_fresh = ap (λ (x : AreaView). recorded_service x false) begun ∙ service_fresh ∙ ap (λ (x : AreaView). let t : ServiceView = record fresh { seat = x } in t) (sym begun)

  props_fresh : store_of w ≡ (first_state o).props
  unfolding first_state
  props_fresh = ap (λ (l : List Set). props_of v.words l) sets

  agrees_fresh : Agrees fresh
  agrees_fresh = record { legal = tt; declared = tt; sets = sets; opened = refl; log = log; props = props_fresh }

  capacity_fresh : (store_of writer.view).capacity ≡ v.words
  capacity_fresh = ap (λ (x : AreaView). (store_of x).capacity) begun ∙ ap (λ (l : List Set). (props_of v.words l).capacity) sets

  pub empty_begun : (store_of writer.view).held ≡ []
  empty_begun = ap (λ (x : AreaView). (store_of x).held) begun ∙ ap (λ (l : List Set). (props_of v.words l).held) sets

  pub count_begun : (store_of writer.view).count ≡ 0
  count_begun = ap (λ (x : AreaView). (store_of x).count) begun ∙ ap (λ (l : List Set). (props_of v.words l).count) sets

  pub keeps_begun : IsTrue (nat_le (length config.domains) 64) → (core : CoreView Seated) → core ≡ opened config policy (store_of writer.view).capacity writer → (seats : List Bool)
      → seats ≡ replicate (length config.domains + 1) false → length seats ≡ length config.domains + 1 → DeskHolds area core seats
  keeps_begun bounded core is seats all wide =
      let few : length config.domains ≤ 64 = within (length config.domains) bounded in
      let made : CoreView Seated = opened config policy v.words writer in
      let core_is : core ≡ made = is ∙ ap (λ (n : ℕ). opened config policy n writer) capacity_fresh in
      let kept : DeskKeeps area fresh made seats = record {
        agrees = agrees_fresh;
        table = table;
        ready = refl;
        config = refl;
        policy = refl;
        state = refl;
        few = few;
        wide = wide;
        seated = λ q. ap (λ (l : List Bool). get_or l q false) all ∙ none_noted (length config.domains + 1) q ∙ sym (ap (λ (l : List (ℕ × ℕ)). nat_lt 0 (out_seat l q)) out);
        idle = idle;
      } in
      subst (λ (c : CoreView Seated). DeskHolds area c seats) (sym core_is)
      (subst (λ (t : ServiceView). DeskKeeps area t made seats) (sym (ap (λ (x : AreaView). recorded_service x false) begun ∙ service_fresh)) kept)
