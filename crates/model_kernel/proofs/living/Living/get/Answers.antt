-- What stands at a pid is the process with it.
use Rattle.std.proofs.Common.{ap, ◌∙◌}
use Rattle.std.specs.Option.{option_map}
use Rattle.model_kernel.proofs.Listed.{got}
use Rattle.model_kernel.specs.Living.{with_pid}
use Rattle.model_kernel.specs.Parts.{process_of}
use Rattle.model_kernel.proofs.living.Living.get.Goals as goal

pub returns : goal.returns
returns c =
    ap (option_map process_of) c.get.ensures.value ∙ got c.args.pid c.self.inside.processes.entries c.self.invariant.numbered
    ∙ ap (λ ps. with_pid ps c.args.pid) c.self.view_is
