use Rattle.std.proofs.Common.{sym, ap, ◌∙◌}
use Rattle.std.specs.Option.{option_copied}
use Rattle.std.specs.Str.{bytes_eq}
use Rattle.lint_sources.proofs.Placed.{has_source}
use Rattle.lint_sources.proofs.source.Sources.place.Goals as goal

pub returns-then-is : goal.returns-then-is
returns-then-is c =
    has_source c.args.self.now.sources c.args.file.now c.in_ok-place.place c.in_ok-source.source.now
    (sym c.at.ensures ∙ ap option_copied c.in_ok-source.was)
    (ap (bytes_eq c.in_ok-source.source.now.file) (sym c.bytes-2.ensures) ∙ sym c.is.ensures ∙ c.if-is.true)
