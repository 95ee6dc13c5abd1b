-- Lines by their names.
use Rattle.std.specs.Prelude.{ℕ, Bool, List, Option, find, map}
use Rattle.std.specs.List.{list_any}
use Rattle.std.specs.Option.{option_map}
use Rattle.init_machine.specs.Policy.{ContextLine, is_line_for}
use Rattle.init_machine.specs.declared.policy.Context.{Context}
use Rattle.indexmap.specs.IndexMap.{IndexMap}

abbrev pub named : List ℕ → Context → ContextLine
named name context = record { name = name; context = context }

abbrev pub lines_in : {S : Type 0} → IndexMap (List ℕ) Context S → List ContextLine
lines_in names = map (λ entry. named entry.0 entry.1) names.entries

abbrev pub has_name : List ContextLine → List ℕ → Bool
has_name lines name = list_any (is_line_for name) lines

-- the context of the line for a name
abbrev pub context_in : List ContextLine → List ℕ → Option Context
context_in lines name = option_map (λ line. line.context) (find (is_line_for name) lines)
