use Rattle.std.proofs.Common.{◌≡◌, ◌∙◌}
use Rattle.init_core.specs.Opened.{first_parts, opened_by}
use Rattle.init_core.proofs.Opened.{of_ok, opens, well_formed}
use Rattle.init_core.proofs.machine.Core.new.Goals as goal

pub new-requires : goal.new-requires
new-requires g c = record {
  actions = well_formed c.args.config.actions c.requires.config.actions;
  services = c.requires.config.names;
  paths = c.requires.config.paths;
  ends = c.requires.config.plans;
}

pub of-saved-requires : goal.of-saved-requires
of-saved-requires g c = c.requires.config.saved

pub returns : goal.returns
returns g c =
    let config = c.args.config in
    let opened = of_ok (λ opened. opened ≡ opened_by config.actions config.services config.plans) c.new.result c.in_ok-policy.opened c.in_ok-policy.ensures.pair.1 c.new.ensures in
    opens g.S.PropStore.meaning config c.args.policy c.args.store c.args.outputs c.into_parts-parts.result c.requires.empty c.requires.count
    (c.into_parts-parts.ensures ∙ (λ i. first_parts (opened i) c.args.store (c.in_ok-policy.ensures.pair.0 i) (c.of-saved.ensures i) c.args.outputs))
