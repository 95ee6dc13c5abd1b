use Rattle.std.proofs.Common.{[], None, ap}
use Rattle.std.specs.Option.{option_map_or}
use Rattle.action_queue.proofs.ByBytes.{others_stay}
use Rattle.action_queue.proofs.by_name.take.Goals as goal

pub returns-in-Some-clause-others : goal.returns-in-Some-clause-others
returns-in-Some-clause-others c = λ other apart.
    ap (λ found. option_map_or (λ places. places.items) found [])
    (others_stay (λ key. key) c.args.name.now c.args.places.now.map c.swap_remove.new.self None c.swap_remove.ensures.updates other apart)
