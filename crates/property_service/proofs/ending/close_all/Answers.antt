use Rattle.std.proofs.Common.{◌≡◌, Option, sym, ap, subst, ◌∙◌}
use Rattle.std.specs.Option.{MatchOption}
use Rattle.property_area.specs.declared.view.AreaView.{AreaView}
use Rattle.property_service.proofs.Closing.{first_noted}
use Rattle.property_service.specs.Ending.{taking_all}
use Rattle.property_service.specs.Service.{has_seat}
use Rattle.property_service.proofs.ending.close_all.Goals as goal

match_is : {T : Type 0} (N : Type 0) (P : T → Type 0) {answer other : Option T} → answer ≡ other → MatchOption answer N P → MatchOption other N P
match_is N P is matched = subst (λ option. MatchOption option N P) is matched

pub returns-in-Ok-clause-nobody : goal.returns-in-Ok-clause-nobody
returns-in-Ok-clause-nobody c who =
    ap (λ (x : AreaView). has_seat x who) (sym c.take_in_all.ensures.writer.1) ∙ sym (c.take_in_all.ensures.seated who)
    ∙ match_is _ _ c.in-Ok.ensures.taken c.first_seated.ensures who

pub returns-clause-missing : goal.returns-clause-missing
returns-clause-missing c who is =
    let same : c.in-Err.who ≡ who = cc in
    let first = match_is _ _ c.in-Err.ensures.refused c.first_seated.ensures in
    first_noted c.args.seats c.take_in_all.new.seats (taking_all c.args.ended.store.view c.args.readers) c.in-Err.who who
    (λ q. c.take_in_all.ensures.seated q ∙ ap (λ (x : AreaView). has_seat x q) c.take_in_all.ensures.writer.1) c.take_in_all.ensures.wide first.0 first.1 same
