-- What the bytes of a file mean.
use Rattle.std.specs.Prelude.{ℕ, List, Option}
use Rattle.rc_tokens.specs.Lines.{Line, Lines}
use Rattle.rc_parse.specs.Sections.{Sections}
use Rattle.rc_parse.specs.declared.parsed.Parsed.{Parsed}

-- a file of these bytes has these sections: those of the lines that the bytes spell
pub record Reads (file : List ℕ) (content : List ℕ) (parsed : Parsed) : Type 0 where
  pub lines : List Line
  pub dropped : Option ℕ
  pub spelled : Lines content lines dropped
  pub sections : Sections file (record { lines = lines; dropped = dropped }) parsed
