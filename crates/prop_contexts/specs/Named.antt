-- What a line that was read says.
use Rattle.prop_contexts.specs.Contexts.{ScopedLine}
use Rattle.prop_contexts.specs.declared.line.Reading.{Reading}
use Rattle.prop_contexts.specs.declared.line.Reading.TheVariants.{Skipped, Bad, Read}
use Rattle.prop_contexts.specs.declared.context_line.NamedLine.{NamedLine}

abbrev pub scoped : NamedLine → ScopedLine
scoped line = record { scope = line.scope; line = record { name = line.name.items; context = line.context } }

abbrev pub seen : Reading NamedLine → Reading ScopedLine
seen Skipped = Skipped
seen Bad = Bad
seen (Read line) = Read (scoped line)
