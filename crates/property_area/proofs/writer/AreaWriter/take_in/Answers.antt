use Rattle.std.proofs.Common.{ℕ, suc, sym, ap, ◌∙◌, List}
use Rattle.property_area.specs.declared.view.AreaView.{AreaView}
use Rattle.property_area.specs.Area.{requests_in, requests_of, out_seat}
use Rattle.property_area.specs.Seats.{Seated}
use Rattle.property_area.proofs.Readers.{came_in}
use Rattle.property_area.proofs.writer.AreaWriter.take_in.Goals as goal

pub returns-clause-requests : goal.returns-clause-requests
returns-clause-requests c =
    let v = c.self.inside.seat.me.0 in
    let r = c.reader.inside.seat.me.0 in
    let came = came_in c.reader.inside.seat.id v r c.join_in.new.seat.me.0 (ap (λ (m : AreaView × List (ℕ × Unit {0})). m.0) c.join_in.ensures.view) c.put_in_place.ensures.arrival in
    ap (λ (s : Seated). requests_in s.view.list) (sym c.reader.view_is) ∙ came.0
    ∙ (λ i. requests_of (c.reader.view_is i).view.who (c.self.view_is i).view.log)

pub returns-clause-opening : goal.returns-clause-opening
returns-clause-opening c =
    let v = c.self.inside.seat.me.0 in
    let r = c.reader.inside.seat.me.0 in
    let came = came_in c.reader.inside.seat.id v r c.join_in.new.seat.me.0 (ap (λ (m : AreaView × List (ℕ × Unit {0})). m.0) c.join_in.ensures.view) c.put_in_place.ensures.arrival in
    ap (λ (s : Seated). s.view.opening) (sym c.reader.view_is) ∙ came.1 ∙ ap (λ (s : Seated). s.view.opening) c.self.view_is

pub returns-clause-only : goal.returns-clause-only
returns-clause-only c =
    let v = c.self.inside.seat.me.0 in
    let r = c.reader.inside.seat.me.0 in
    let came = came_in c.reader.inside.seat.id v r c.join_in.new.seat.me.0 (ap (λ (m : AreaView × List (ℕ × Unit {0})). m.0) c.join_in.ensures.view) c.put_in_place.ensures.arrival in
    (λ i. out_seat (sym c.self.view_is i).view.out (sym c.reader.view_is i).view.who) ∙ came.2 ∙ ap (λ (s : Seated). suc s.id) c.reader.view_is
