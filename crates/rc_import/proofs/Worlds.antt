-- Each tree has a world, since the bytes of each file have a meaning.
use Rattle.std.proofs.Common.{ℕ, List, ◌++◌, Option, Some, refl}
use Rattle.std.specs.List.{flat_map}
use Rattle.rc_tokens.specs.Lines.{Line, Tokens, Lines}
use Rattle.rc_parse.specs.Files.{Reads}
use Rattle.rc_parse.specs.Lines.{lines_before_header, sections}
use Rattle.rc_parse.specs.Sections.{Sections, actions_of, cut, diagnostics_of, imports_of, orphan_diagnostics, services_of}
use Rattle.rc_parse.specs.declared.parsed.Parsed.{Parsed}
use Rattle.rc_import.specs.World.{IsWorld, World}

abbrev parsed_of : List ℕ → Tokens → Parsed
parsed_of file tokens = record {
  actions = flat_map (actions_of file) (sections tokens.lines);
  services = flat_map (services_of file) (sections tokens.lines);
  imports = flat_map imports_of (sections tokens.lines);
  diagnostics = orphan_diagnostics file (lines_before_header tokens.lines) ++ flat_map (diagnostics_of file) (sections tokens.lines) ++ cut file tokens.dropped;
}

parsed_sections : (file : List ℕ) (tokens : Tokens) → Sections file tokens (parsed_of file tokens)
parsed_sections file tokens = record { actions_are = refl; services_are = refl; imports_are = refl; diagnostics_are = refl }

abbrev HasLines : List ℕ → Type 0
HasLines bytes = (lines : List Line) × (dropped : Option ℕ) × Lines bytes lines dropped

abbrev tokens_in : (bytes : List ℕ) → HasLines bytes → Tokens
tokens_in bytes has = record { lines = has.0; dropped = has.1 }

reads_of : (file bytes : List ℕ) (has : HasLines bytes) → Reads file bytes (parsed_of file (tokens_in bytes has))
reads_of file bytes has = record { lines = has.0; dropped = has.1; spelled = has.2; sections = parsed_sections file (tokens_in bytes has) }

pub world_of : ((bytes : List ℕ) → (lines : List Line) × (dropped : Option ℕ) × Lines bytes lines dropped)
    → (tree : List (List ℕ × List ℕ)) (look_up : List ℕ → Option (List ℕ)) → (world : World) × IsWorld (Some tree) look_up world
world_of has tree look_up = (
  record { tree = tree; look_up = look_up; means = λ file bytes. parsed_of file (tokens_in bytes (has bytes)) },
  record { tree_is = refl; look_up_is = λ name. refl; means_are = λ file bytes. reads_of file bytes (has bytes) },
)
