use Rattle.std.proofs.Common.{◌-◌, [], ◌∷◌, ◌++◌, length, take, ap, ◌∙◌, append-nil}
use Rattle.prop_rules.specs.View.{view}
use Rattle.prop_rules.proofs.Views.{all_taken, last_taken, nothing_shown}
use Rattle.prop_rules.proofs.view.boot_view.Goals as goal

pub loop-rest-init : goal.loop-rest-init
loop-rest-init c = record {
  taken = [];
  parted = append-nil _ ∙ c.items-rest.ensures;
  shows = nothing_shown _ _ c.new-decided.ensures (ap (λ p. p.held) c.in_ok-view.ensures);
}

pub loop-rest-preserved : goal.loop-rest-preserved
loop-rest-preserved c =
    let rest = c.loop-rest.rest.now in
    let taken = c.loop-rest.invariant.taken in
    record {
      taken = c.pair-item.result ∷ taken;
      parted = ap (λ p. take (length rest - 1) rest ++ p ∷ taken) c.pair-item.is
          ∙ last_taken rest taken _ c.pair-item.result c.in-len1-up.len_at_least c.loop-rest.invariant.parted;
      shows = c.in_ok-take_earlier.ensures taken c.loop-rest.invariant.shows;
    }

pub returns : goal.returns
returns c = λ name. c.loop-rest.invariant.shows.values name
    ∙ ap (λ ps. view ps name) (all_taken c.loop-rest.rest.now c.loop-rest.invariant.taken _ c.in_default.len_below c.loop-rest.invariant.parted)
