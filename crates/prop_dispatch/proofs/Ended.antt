-- What is left of the worker, once all is served.
use Rattle.std.proofs.Common.{◌≡◌, ℕ, zero, suc, false, List, [], ◌∷◌, map, slice_get, slice_index_or, Some, sym, ap, ◌∙◌, subst}
use Rattle.std.specs.List.{AllZip}
use Rattle.atomic_table.specs.Seated.{TableId}
use Rattle.init_machine.specs.declared.config.Pair.{Pair}
use Rattle.property_area.specs.Seats.{Seated}
use Rattle.property_service.specs.Service.{Agrees, ServiceView}
use Rattle.prop_dispatch.specs.Relayed.{AreServed, HasAsked}
use Rattle.prop_dispatch.specs.internal.Passing.{lists_of}
use Rattle.prop_dispatch.specs.internal.Serving.{AllServed, IsDispatched, IsServed}
use Rattle.prop_dispatch.specs.declared.seat.Seat.{Seat}
use Rattle.prop_dispatch.specs.declared.session.Session.{Session}
use Rattle.prop_dispatch.specs.declared.verdict.Verdict.{Verdict}
use Rattle.prop_dispatch.proofs.Lists.{none_isnt, some_is, zip_found, zip_map, zip_of, zip_then}

requests_at : (sessions : List Session) (k : ℕ) (s : Session) → slice_get sessions k ≡ Some s → slice_index_or (lists_of sessions) k [] ≡ s.requests
requests_at [] k s at = absurd (none_isnt s at)
requests_at (x ∷ sessions) zero s at = ap (λ (t : Session). t.requests) (some_is x s at)
requests_at (x ∷ sessions) (suc k) s at = requests_at sessions k s at

each_served : (area : TableId) (old : ServiceView) (sessions : List Session) (new : ServiceView) (seats : List Seat) (all : AllServed area old sessions new seats)
    → AllZip (λ (s : Session) (x : Seat). IsServed area old new s.who.0 s.requests all.serves.entries x) sessions seats
each_served area old sessions new seats all =
    zip_of (λ (s : Session) (x : Seat). IsServed area old new s.who.0 s.requests all.serves.entries x) sessions seats all.serves.many
    (λ k s x at there. subst (λ (l : List Pair). IsServed area old new s.who.0 l all.serves.entries x) (all.all k ∙ requests_at sessions k s at)
    (all.serves.each k s x at there))

pub dispatched_of : (area : TableId) (old : ServiceView) (sessions : List Session) (new : ServiceView) (seats : List Seat) (readers : List Seated)
    (verdicts : List (List Verdict)) → AllServed area old sessions new seats
    → map (λ (r : Seated). Some r) readers ≡ map (λ (s : Seat). s.reader) seats → verdicts ≡ map (λ (s : Seat). s.verdicts) seats
    → (new.spent ≡ false → Agrees new) → IsDispatched area old sessions new readers verdicts
dispatched_of area old sessions new seats readers verdicts all found told agrees =
    let h = all.serves in
    let Is : Session → Seat → Type 0 = λ s x. IsServed area old new s.who.0 s.requests h.entries x in
    let Tells : Session → List Verdict → Type 0 = λ s v. AreServed s.who.0 s.requests v h.entries in
    let Asks : Session → Seated → Type 0 = λ s r. HasAsked area old new s.who.0 s.requests r in
    let each = each_served area old sessions new seats all in record {
      relayed = record {
        entries = h.entries;
        history = h.history;
        own = h.own;
        each = subst (λ (l : List (List Verdict)). AllZip Tells sessions l) (sym told)
            (zip_map Tells (λ (x : Seat). x.verdicts) sessions seats
            (zip_then Is (λ (s : Session) (x : Seat). Tells s x.verdicts) sessions seats each (λ s x w. w.served)));
      };
      asked = zip_found Asks (λ (x : Seat). x.reader) sessions seats readers found
          (zip_then Is (λ (s : Session) (x : Seat). (r : Seated) → x.reader ≡ Some r → Asks s r) sessions seats each
          (λ s x w r is. subst (λ (y : Seated). Asks s y) (some_is w.reader r (sym w.there ∙ is)) w.asked));
      opening = h.opening;
      entered = h.entered;
      ready = h.ready;
      agrees = agrees h.ready;
    }
