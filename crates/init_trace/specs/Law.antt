-- Laws of a report's text.
use Rattle.std.specs.Prelude.{◌≡◌, ◌++◌}
use Rattle.init_machine.specs.declared.report.Report.{Report}
use Rattle.init_trace.specs.InRange.{InRange}
use Rattle.init_trace.specs.Report.{EntriesText, HeadText, TailText, TextOf}

-- different reports have different texts
abbrev pub TextDeterminesReport : Type 0
TextDeterminesReport = (a b : Report) → InRange a → InRange b → TextOf a ≡ TextOf b → a ≡ b

-- a text is its head, its entries, and its tail
abbrev pub TextIsItsParts : Type 0
TextIsItsParts =
    (report : Report) → TextOf report ≡ HeadText report.diagnostics ++ (EntriesText report.history ++ TailText report.clients)
