use Rattle.std.proofs.Common.{◌≡◌, [], rules, arith}
use Rattle.std.proofs.lemmas.List.{nil_from_length}
use Rattle.rc_parse.specs.Kept.{agains_behind}
use Rattle.rc_parse.proofs.OneMore.{one_merged, all_merged}
use Rattle.rc_parse.proofs.Together.{all_kept, all_agains}
use Rattle.rc_parse.proofs.merging.Merger.merge.Goals as goal

pub loop-service-preserved : goal.loop-service-preserved
loop-service-preserved c =
    let start = c.args.self.services in
    let more = c.args.parsed.services in
    let next = one_merged c.loop-service.services c.in_ok-services.services c.loop-service.service-iterator.rest.items c.next.new.self.rest.items start more
    c.in-Some.service c.loop-service.diagnostics c.add_service.new.diagnostics (agains_behind start more) (search rules)
    c.in_ok-services.ensures.services c.in_ok-services.ensures.diagnostics c.loop-service.invariant.services c.loop-service.invariant.diagnostics in
    record { services = next.0; diagnostics = next.1 }

pub returns-clause-services : goal.returns-clause-services
returns-clause-services c =
    let left = c.loop-service.service-iterator.rest.items in
    let none : left ≡ [] = nil_from_length left (omega (arith, c.in-None.ensures.steps.0)) in
    (all_merged c.loop-service.services left c.args.self.services c.args.parsed.services c.loop-service.diagnostics
    (agains_behind c.args.self.services c.args.parsed.services) none c.loop-service.invariant.services c.loop-service.invariant.diagnostics).0

pub returns-clause-diagnostics : goal.returns-clause-diagnostics
returns-clause-diagnostics c =
    let left = c.loop-service.service-iterator.rest.items in
    let none : left ≡ [] = nil_from_length left (omega (arith, c.in-None.ensures.steps.0)) in
    (all_merged c.loop-service.services left c.args.self.services c.args.parsed.services c.loop-service.diagnostics
    (agains_behind c.args.self.services c.args.parsed.services) none c.loop-service.invariant.services c.loop-service.invariant.diagnostics).1

pub returns-clause-kept : goal.returns-clause-kept
returns-clause-kept c = λ read was. all_kept c.args.self.services c.loop-service.services c.args.parsed.services read (returns-clause-services c) was

pub returns-clause-again : goal.returns-clause-again
returns-clause-again c = λ read was. all_agains c.args.self.services c.args.parsed.services read c.loop-service.diagnostics (returns-clause-diagnostics c) was
