use Rattle.std.proofs.Common.{◌≡◌, ◌++◌, drop, map}
use Rattle.init_trace.specs.Line.{spaced}
use Rattle.init_trace.specs.Quoted.{quoted}
use Rattle.init_trace.proofs.field.texts.Given as goal

-- what is left decides
abbrev pub invariant-loop-item : goal.invariant-loop-item
invariant-loop-item l =
    l.page.items ++ spaced (map quoted (drop l.item-index l.items))
    ≡ l.initial.page.items ++ spaced (map quoted l.items)
