use Rattle.std.proofs.Common.{◌≡◌, ℕ, Bool, List, Some, ap, ◌∙◌, if◌then◌else◌, subst}
use Rattle.std.specs.Cmp.Lexicographic.{nat_list_eq_equiv}
use Rattle.std.specs.Str.{bytes_eq}
use Rattle.rc_parse.specs.internal.Merging.{IsVacated, place_of}
use Rattle.rc_parse.proofs.Slots.{all_placed}
use Rattle.rc_parse.proofs.standing.Standing.with.Goals as goal

pub invariant_of-self : goal.invariant_of-self
invariant_of-self c =
    let old = c.self.inside in
    let place = c.len-place.result in
    let vacated = subst (λ (name : List ℕ). IsVacated name old.slots c.vacate.new.slots) c.bytes.ensures c.vacate.ensures in
    let put : (other : List ℕ) → place_of c.put_place.new.places other ≡ (if bytes_eq other c.args.service.name then Some place else place_of old.places other) = λ other.
    c.in_ok-put_place.ensures other
    ∙ ap (λ (b : Bool). if b then Some place else place_of old.places other)
    (ap (λ (name : List ℕ). bytes_eq name other) c.bytes-2.ensures ∙ nat_list_eq_equiv.symm c.args.service.name other) in
    rw c.in_ok-push.ensures.ok
    (all_placed old.slots c.vacate.new.slots c.args.service place (place_of old.places) (place_of c.put_place.new.places) vacated c.len-place.ensures c.self.invariant put)
