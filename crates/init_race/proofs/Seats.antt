-- The readers with which the actors begin.
use Rattle.std.proofs.Common.{◌≡◌, ℕ, zero, suc, ◌+◌, ◌≤◌, inl, inr, Bool, false, ◌==◌, ◌||◌, nat_le, All, List, [], ◌∷◌, ◌++◌, length, Option, Some, refl, sym, ap, ◌∙◌, subst, arith}
use Rattle.std.proofs.lemmas.Bool.Decides.{nat_tests}
use Rattle.std.proofs.lemmas.List.{length-append}
use Rattle.std.proofs.lemmas.List.Elements.{All-nil, All-cons, All-append}
use Rattle.atomic_table.specs.Seated.{TableId}
use Rattle.init_machine.specs.State.{Opening}
use Rattle.init_machine.specs.declared.client.ClientItem.{ClientItem}
use Rattle.init_machine.specs.declared.client.ClientItem.TheVariants.{Asked}
use Rattle.init_machine.specs.declared.input.Input.TheVariants as input
use Rattle.init_machine.specs.declared.report.Entry.{Entry}
use Rattle.property_area.specs.Seats.{Seated}
use Rattle.property_area.specs.declared.view.LogOpening.{LogOpening}
use Rattle.property_service.specs.Back.{ComesBackFrom, request_behind}
use Rattle.property_service.specs.Record.{recorded}
use Rattle.property_service.specs.Service.{DeclaredIn, ServiceView, has_seat}
use Rattle.init_race.specs.Seating.{AllSeated, AreSeated, EachSeated, IsBooted, IsSeated}
use Rattle.init_race.specs.Threads.{MayAct}

-- the main actor's reader comes back from the boot, which is the first entry
pub booted : (o : Opening) (history : List Entry) (e : Entry) (reader back : Seated) → history ≡ [] → e.input ≡ input.Boot → reader.view.who ≡ 0
    → reader.view.list ≡ [] → reader.view.opening ≡ Some (recorded o) → ComesBackFrom history e reader back → IsBooted o back.view
booted o history e reader back empty boots who none opening comes = record {
  who = comes.who ∙ who;
  opening = comes.opening ∙ opening;
  boot = request_behind history e;
  list = comes.list ∙ ap (λ (list : List ClientItem). list ++ Asked (request_behind history e) ∷ []) none;
  boots = boots;
  first = ap (λ (h : List Entry). length h + 1) empty;
}

-- so far nobody but the main actor has a reader
only_main : (who : ℕ) → (0 == who) ≡ nat_le who 0
only_main zero = refl
only_main (suc who) = grind (arith, nat_tests)

pub none_seated : (area : TableId) (s : ServiceView) → ((who : ℕ) → has_seat s.seat who ≡ (0 == who)) → AreSeated area s.opening s []
none_seated area s nobody = record { opening = refl; seats = λ who. nobody who ∙ only_main who; each = tt }

one_behind : (who many : ℕ) → (nat_le who many || (many + 1 == who)) ≡ nat_le who (many + 1)
one_behind who many = grind (arith, nat_tests)

pub next_free : (area : TableId) (o : Opening) (s : ServiceView) (readers : List Seated) (who : ℕ) → AreSeated area o s readers → who ≡ length readers + 1
    → has_seat s.seat who ≡ false
next_free area o s readers who seated is =
    let past : nat_le who (length readers) ≡ false = grind (arith, nat_tests) in seated.seats who ∙ past

each_more : (area : TableId) (o : Opening) (k : ℕ) (readers : List Seated) (last : Seated) → EachSeated area o k readers
    → IsSeated area o (k + length readers) last → EachSeated area o k (readers ++ last ∷ [])
each_more area o k [] last each this = (let e : k + 0 ≡ k = omega arith in subst (λ n. IsSeated area o n last) e this, tt)
each_more area o k (r ∷ readers) last each this = (
  each.0,
  each_more area o (k + 1) readers last each.1
      (let e : k + length (r ∷ readers) ≡ k + 1 + length readers = omega arith in subst (λ n. IsSeated area o n last) e this),
)

-- one client more has its reader
pub one_seated : (area : TableId) (s t : ServiceView) (readers readers' : List Seated) (last : Seated) (who : ℕ) → AreSeated area s.opening s readers
    → who ≡ length readers + 1 → t.opening ≡ s.opening → ((q : ℕ) → has_seat t.seat q ≡ (has_seat s.seat q || (who == q)))
    → last.table ≡ area → last.view.who ≡ who → last.view.list ≡ [] → last.view.opening ≡ Some (recorded s.opening)
    → readers' ≡ readers ++ last ∷ [] → AreSeated area s.opening t readers'
one_seated area s t readers readers' last who seated is opening seats table client list known added =
    let many : length readers' ≡ length readers + 1 = ap length added ∙ length-append readers (last ∷ []) in
    let place : who ≡ 1 + length readers = omega arith in
    let this : IsSeated area s.opening (1 + length readers) last = record {
      table = table;
      who = client ∙ place;
      opening = known;
      list = list;
    } in record {
      opening = opening;
      seats = λ q.
          seats q ∙ ap (λ (b : Bool). b || (who == q)) (seated.seats q)
          ∙ ap (λ (n : ℕ). nat_le q (length readers) || (n == q)) is
          ∙ one_behind q (length readers)
          ∙ ap (λ (n : ℕ). nat_le q n) (sym many);
      each = subst (EachSeated area s.opening 1) (sym added) (each_more area s.opening 1 readers last seated.each this);
    }

-- ---- what the actors may do with their readers

declared_by : (opening : Option LogOpening) (o : Opening) (who : ℕ) → opening ≡ Some (recorded o) → 1 ≤ who → who ≤ length o.config.domains
    → DeclaredIn opening who
declared_by opening o who is first last =
    let both : DeclaredIn (Some (recorded o)) who = (first, last) in subst (λ (x : Option LogOpening). DeclaredIn x who) (sym is) both

clients_may : (area : TableId) (o : Opening) (k : ℕ) (readers : List Seated) → 1 ≤ k → k + length readers ≤ length o.config.domains + 1
    → EachSeated area o k readers → All (MayAct area) readers
clients_may area o k [] first last each = All-nil (MayAct area)
clients_may area o k (r ∷ readers) first last each =
    let who : r.view.who ≡ k = each.0.who in
    All-cons (MayAct area) r readers
    (each.0.table, inr (declared_by r.view.opening o r.view.who each.0.opening (omega arith) (omega arith)))
    (clients_may area o (k + 1) readers (omega arith) (omega arith) each.1)

pub all_may : (area : TableId) (o : Opening) (many : ℕ) (readers : List Seated) → many ≤ length o.config.domains → AllSeated area o many readers
    → All (MayAct area) readers
all_may area o many readers few seated =
    let count = seated.many_are in
    let clients = clients_may area o 1 seated.clients (omega arith) (omega arith) seated.each in
    let main : MayAct area seated.main = (seated.table, inl seated.booted.who) in
    subst (All (MayAct area)) (sym seated.all)
    (All-append (MayAct area) seated.clients (seated.main ∷ []) clients (All-cons (MayAct area) seated.main [] main (All-nil (MayAct area))))
