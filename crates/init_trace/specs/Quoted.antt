-- How numbers and texts are spelled in a trace, this project's own format: texts in q form, serials in hexadecimal.
pub use Rattle.init_base.specs.Quoted.{is_plain, hex_byte, quoted_byte}
unfoldable pub use Rattle.init_base.specs.Quoted.{quoted}
use Rattle.std.specs.Prelude.{ℕ, false, List}
use Rattle.std.specs.Int.{w64, to_be_bytes}
use Rattle.std.specs.List.{flat_map}

-- a serial: its eight bytes, the highest first, each as two lower-case hexadecimal digits
unfoldable pub hex16 : ℕ → List ℕ
hex16 number = flat_map (hex_byte false) (to_be_bytes w64 number)
