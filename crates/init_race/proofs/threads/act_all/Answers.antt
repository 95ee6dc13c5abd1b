use Rattle.std.proofs.Common.{◌≡◌, Option, IfSome, length, get_or, sym, ◌∙◌, subst, arith, rules}
use Rattle.property_area.specs.Seats.{Seated}
use Rattle.init_race.specs.Acting.{IsThrough}
use Rattle.init_race.specs.Threads.{EachThrough, somes}
use Rattle.init_race.specs.declared.actors.Acted.{Acted}
use Rattle.init_race.proofs.Gathered.{each_through, if_ok}
use Rattle.init_race.proofs.threads.act_all.Goals as goal

pub returns : goal.returns
returns g c =
    let script = c.args.stage.now.script.now in
    let readers = c.args.readers.items in
    let done = c.in_ok-done.done in
    let many : length done.items ≡ length readers = omega (arith, c.in_ok-done.ensures.len, c.args.readers.ok.0, done.ok.0) in
    if_ok (λ all. somes all.items ≡ done.items) (λ all. EachThrough script readers all.items) c.all_of.result
    (λ all is. each_through script readers all.items done.items is many
    (λ k reader option within at there.
    let given = (c.in_ok-done.ensures.each k option within).1 in
    let same : given.job ≡ reader = sym (given.job_is reader) ∙ sym at in
    let met : IfSome (get_or done.items k option) (λ acted. IsThrough script given.job acted.reader acted.readings) = search (rules, given.call.met) in
    subst (λ (r : Seated). IfSome option (λ acted. IsThrough script r acted.reader acted.readings)) same
    (subst (λ (o : Option Acted). IfSome o (λ acted. IsThrough script given.job acted.reader acted.readings)) (sym there) met)))
    c.all_of.ensures
