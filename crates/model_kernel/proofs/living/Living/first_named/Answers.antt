-- The first one in memory is the first one.
use Rattle.std.proofs.Common.{◌≡◌, None, rules, ap, sym, ◌∙◌, find}
use Rattle.std.specs.Option.{option_copied, option_map}
use Rattle.std.specs.Str.{bytes_eq}
use Rattle.model_kernel.proofs.Entries.{first_in_memory}
use Rattle.model_kernel.proofs.living.Living.first_named.Goals as goal

pub returns-in_err-process : goal.returns-in_err-process
returns-in_err-process c =
    let none : c.from_residual.result ≡ None = search rules in
    none ∙ ap (λ r. option_map (λ p. p.pid) (option_copied r)) (sym c.in_err-process.was)
    ∙ ap (option_map (λ p. p.pid)) c.first_named.ensures
    ∙ first_in_memory c.args.name.now c.self.inside.processes.entries c.self.invariant.numbered
    ∙ ap (λ ps. option_map (λ p. p.pid) (find (λ p. bytes_eq p.name c.args.name.now) ps)) c.self.view_is

pub returns : goal.returns
returns c =
    ap (λ r. option_map (λ p. p.pid) (option_copied r)) (sym c.in_ok-process.was)
    ∙ ap (option_map (λ p. p.pid)) c.first_named.ensures
    ∙ first_in_memory c.args.name.now c.self.inside.processes.entries c.self.invariant.numbered
    ∙ ap (λ ps. option_map (λ p. p.pid) (find (λ p. bytes_eq p.name c.args.name.now) ps)) c.self.view_is
