use Rattle.std.proofs.Common.{◌≡◌, drop}
use Rattle.std.specs.List.{filter_map}
use Rattle.script_lang.specs.Inputs.{ask_by}
use Rattle.trace_audit.specs.Lists.{ascending, bounds_list}
use Rattle.trace_audit.proofs.order.is_in_order.Given as goal

-- what is left decides
abbrev pub invariant-loop-act : goal.invariant-loop-act
invariant-loop-act l =
    ascending l.seen (bounds_list (filter_map (ask_by l.who) (drop l.act-index l.acts)) l.requests l.readings)
    ≡ ascending 0 (bounds_list (filter_map (ask_by l.who) l.acts) l.fn.requests l.fn.readings)
