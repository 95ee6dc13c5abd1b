use Rattle.std.proofs.Common.{◌≡◌, ◌+◌, ◌-◌, ◌<◌, ℕ, List, length, sym, subst, arith}
use Rattle.trace_audit.specs.Indexed.{IsListed, SplitsAt}
use Rattle.trace_audit.proofs.Indexing.{last_of_name, none_before}
use Rattle.trace_audit.proofs.sets.Sets.last_before.Goals as goal

pub returns-then-behind-eq0 : goal.returns-then-behind-eq0
returns-then-behind-eq0 c =
    let sets = c.args.self.now.pairs.items in
    let places = c.places_of-places.result.now in
    let l : IsListed sets (length sets) c.args.name.now places =
    subst (λ (ps : List ℕ). IsListed sets (length sets) c.args.name.now ps) (sym c.places_of-places.ensures) (c.args.self.now.indexed.each c.args.name.now) in
    none_before sets (length sets) c.args.name.now places c.args.number l
    (subst (λ (place : ℕ). SplitsAt places c.args.number place) c.if-behind-eq0.true c.split_at-behind.ensures) c.requires

pub returns : goal.returns
returns c =
    let sets = c.args.self.now.pairs.items in
    let places = c.places_of-places.result.now in
    let behind : ℕ = c.split_at-behind.result in
    let l : IsListed sets (length sets) c.args.name.now places =
    subst (λ (ps : List ℕ). IsListed sets (length sets) c.args.name.now ps) (sym c.places_of-places.ensures) (c.args.self.now.indexed.each c.args.name.now) in
    let above : 0 < behind = omega arith in
    let next : behind ≡ behind - 1 + 1 = omega arith in
    last_of_name sets (length sets) c.args.name.now places c.args.number (behind - 1) l
    (subst (λ (place : ℕ). SplitsAt places c.args.number place) next c.split_at-behind.ensures) c.requires
