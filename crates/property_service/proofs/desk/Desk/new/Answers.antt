use Rattle.std.proofs.Common.{◌≡◌, ◌+◌, ℕ, Bool, false, List, length, ap, ◌∙◌}
use Rattle.std.specs.Prelude.{replicate}
use Rattle.std.proofs.lemmas.List.{length-replicate}
use Rattle.init_core.specs.Core.{CoreView}
use Rattle.init_core.proofs.Opened.{of_ok}
use Rattle.property_area.specs.Seats.{Seated}
use Rattle.property_service.proofs.Beginning.{keeps_begun, shown_fresh}
use Rattle.property_service.specs.Record.{opening_in}
use Rattle.property_service.specs.Service.{ServiceView}
use Rattle.property_service.proofs.desk.Desk.new.Goals as goal

pub invariant_of-result : goal.invariant_of-result
invariant_of-result g c ready =
    let made = of_ok _ c.vec-seats.result c.in_ok-core-2.seats c.in_ok-core-2.ensures.pair.1 c.vec-seats.ensures.items_if_clones_equal in
    let all : c.from_vec.result ≡ replicate (length c.args.config.domains + 1) false =
    c.from_vec.ensures ∙ made (λ y is. is) ∙ ap (λ (n : ℕ). replicate (n + 1) false) c.len-count.ensures in
    let core = c.in_ok-core-2.ensures.pair.0 ∙ c.in_ok-core.ensures in
    let wide : length c.from_vec.result ≡ length c.args.config.domains + 1 =
    ap (λ (l : List Bool). length l) all ∙ length-replicate (length c.args.config.domains + 1) false in
    keeps_begun g.N.AreaName.area c.args.config c.args.policy c.begin.new.self c.args.writer.view (c.begin.ensures.writer.0.0 ∙ c.requires.area)
    c.requires.empty.0 c.requires.empty.1 c.requires.nobody.0 c.requires.nobody.1 c.begin.ensures.writer.1 c.requires.config.domains c.in_ok-core-2.core core c.from_vec.result all wide

pub returns-clause-opening : goal.returns-clause-opening
returns-clause-opening g c =
    ap (λ (x : CoreView Seated). opening_in x.store.view.opening) (c.in_ok-core-2.ensures.pair.0 ∙ c.in_ok-core.ensures)
    ∙ ap (λ (t : ServiceView). t.opening) (shown_fresh g.N.AreaName.area c.args.config c.args.policy c.begin.new.self c.args.writer.view (c.begin.ensures.writer.0.0 ∙ c.requires.area)
    c.requires.empty.0 c.requires.empty.1 c.requires.nobody.0 c.requires.nobody.1 c.begin.ensures.writer.1)
