-- The counts mean one exit more at that place.
use Rattle.std.proofs.Common.{◌<◌, length, set, sym, subst, ap, ◌∙◌}
use Rattle.std.proofs.lemmas.List.{length-map}
use Rattle.restart_policy.specs.Exits.{counted_of, exits_behind, is_fatal}
use Rattle.restart_policy.proofs.Counts.{one_more, with_more}
use Rattle.restart_policy.proofs.exits.ExitCounts.count.Goals as goal

pub returns-clause-ok : goal.returns-clause-ok
returns-clause-ok c =
    let within = subst (λ n. c.args.at < n) (ap length (sym c.self.view_is) ∙ length-map c.self.inside.counts.items counted_of) c.requires in
    with_more c.self.inside.counts.items c.args.at c.args.window.0 c.args.now.0 c.args.booted c.index_mut-exits.result.now c.add.new.self
    within c.index_mut-exits.ensures.value c.in_ok-add.ensures.ok
    ∙ ap (λ exits. set exits c.args.at (exits_behind exits c.args.at c.args.window.0 c.args.booted c.args.now.0)) c.self.view_is

pub returns-clause-fatal : goal.returns-clause-fatal
returns-clause-fatal c =
    let within = subst (λ n. c.args.at < n) (ap length (sym c.self.view_is) ∙ length-map c.self.inside.counts.items counted_of) c.requires in
    let more = one_more c.self.inside.counts.items c.args.at c.args.window.0 c.args.now.0 c.args.booted c.index_mut-exits.result.now c.add.new.self
    within c.index_mut-exits.ensures.value c.in_ok-add.ensures.ok in
    c.is_fatal.ensures ∙ ap is_fatal (more ∙ ap (λ exits. exits_behind exits c.args.at c.args.window.0 c.args.booted c.args.now.0) c.self.view_is)
