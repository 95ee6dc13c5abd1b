use Rattle.std.proofs.Common.{◌≡◌, ◌≤◌, ℕ, List, length, ◌+◌, Bor, ap, ◌∙◌, subst, sym, arith}
use Rattle.init_base.specs.Value.{max_value_len}
use Rattle.list_store.specs.internal.ListStore.{stored}
use Rattle.list_store.specs.internal.Stored.{EachFits, properties, property_of}
use Rattle.init_machine.specs.Props.{Property, sizes_of, MayBeSet}
use Rattle.init_machine.specs.Words.{used_of, need_of}
use Rattle.init_machine.proofs.LegalNames.{legal_len}
use Rattle.init_machine.proofs.Sets.{number_left}
use Rattle.list_store.proofs.Puts.{counted_put, fits_put, words_fit}
use Rattle.list_store.proofs.ListStorePropStore.put.Goals as goal

pub invariant_of-self : goal.invariant_of-self
invariant_of-self c =
    let p = (stored c.self.inside).props in
    let name = c.args.name.bytes.now in
    let value = c.args.value.bytes.now in
    let legal = legal_len name value c.requires.legal in
    let name_is : c.bytes.result.now ≡ name = ap (λ (b : Bor (List ℕ)). b.now) c.bytes.ensures.same in
    let new : Property = property_of (c.bytes.result.now, c.new-held.result) in
    let fit : length new.value ≤ max_value_len new.name =
    subst (λ (x : List ℕ × (List ℕ × ℕ)). length x.1.0 ≤ max_value_len x.0) (λ i. (sym name_is i, sym c.new-held.ensures.held i)) legal in
    let once : MayBeSet p new.name = subst (MayBeSet p) (sym name_is) (rw (← c.self.view_is) at c.requires.once) in
    let put = c.set.ensures.put in
    let counted : c.self.inside.used + c.set.result ≡ used_of (sizes_of (properties c.set.new.entries.entries)) =
    counted_put _ _ p _ new c.self.invariant.used put c.self.invariant.fits fit once c.set.ensures.words in
    let left = number_left p name (length value) (rw (← c.self.view_is) at c.requires.room) c.self.invariant.numbers in
    record {
      known = c.set.ensures.known;
      used = omega (arith, counted);
      fits = subst EachFits (sym put) (fits_put p.held new c.self.invariant.fits fit);
      buffer = c.new-held.ensures.buffer;
      numbers = omega (arith, left);
    }

pub overflow_add-self : goal.overflow_add-self
overflow_add-self c =
    let p = (stored c.self.inside).props in
    let name = c.args.name.bytes.now in
    let value = c.args.value.bytes.now in
    let name_is : c.bytes.result.now ≡ name = ap (λ (b : Bor (List ℕ)). b.now) c.bytes.ensures.same in
    let value_is : c.new-held.result.0 ≡ value = ap (λ (x : List ℕ × ℕ). x.0) c.new-held.ensures.held in
    let words = c.set.ensures.words ∙ (λ i. need_of (sizes_of p.held) (name_is i) (length (value_is i))) in
    let ranges = c.self.ranges in
    let low = words_fit p name (length value) c.self.inside.used c.set.result (rw (← c.self.view_is) at c.requires.room) c.self.invariant.used words (omega (arith, ranges)) (omega (arith, ranges)) in
    omega (arith, low)
