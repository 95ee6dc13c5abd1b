-- What is told of a diagnostic.
use Rattle.std.specs.Prelude.{◌&&◌, nat_eq, if◌then◌else◌, List, [], ◌∷◌}
use Rattle.std.specs.List.{list_any}
use Rattle.init_machine.specs.declared.diagnostic.Diagnostic.{Diagnostic}
use Rattle.lint_sources.specs.Excused.{is_excusable}
use Rattle.lint_sources.specs.declared.source.Source.{Source}

-- the diagnostic, where the lines of its file don't excuse it
abbrev pub told_by : Source → Diagnostic → List Diagnostic
told_by source diagnostic =
    if is_excusable diagnostic.kind && list_any (nat_eq diagnostic.line) source.taken.keys then [] else diagnostic ∷ []
