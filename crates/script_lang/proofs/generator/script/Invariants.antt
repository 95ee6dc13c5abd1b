use Rattle.std.proofs.Common.{◌≡◌, ◌++◌, string_bytes}
use Rattle.script_lang.specs.Generated.{each_to, ask_lines}
use Rattle.script_lang.proofs.generator.script.Given as goal

abbrev pub invariant-loop-before : goal.invariant-loop-before
invariant-loop-before l = string_bytes l.page ≡ string_bytes l.initial.page ++ each_to ask_lines l.before
