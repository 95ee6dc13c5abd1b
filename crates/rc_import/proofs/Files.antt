-- One file more, within the limits.
use Rattle.std.proofs.Common.{◌≡◌, ℕ, ◌+◌, ◌^◌, ◌<◌, ◌≤◌, false, nat_lt, List, length, Some, Ok, refl, ap, ◌∙◌, arith}
use Rattle.std.proofs.lemmas.Grind.{common_steps}
use Rattle.rc_parse.specs.Files.{Reads}
use Rattle.rc_parse.specs.declared.parsed.Import.{Import}
use Rattle.rc_parse.specs.declared.parsed.Parsed.{Parsed}
use Rattle.rc_import.specs.Limits.{SoFar, with_bytes, with_file}
use Rattle.rc_import.specs.World.{World}
use Rattle.rc_import.specs.internal.Steps.{Holds, MeansFiles, ReachesImports, Stands}
use Rattle.rc_import.specs.declared.loading.Loading.{Loading}

is_not_below : (a b : ℕ) → b ≤ a → nat_lt a b ≡ false
is_not_below a b h = grind (arith, common_steps)

pub content_taken : (world : World) (sofar : SoFar) (path content : List ℕ) → length content ≤ 1048576 → sofar.bytes + length content ≤ 33554432
    → with_bytes world sofar path (Some content) ≡ Ok (with_file sofar (length content) (world.means path content))
content_taken world sofar path content short few =
    rw (is_not_below 1048576 (length content) short, is_not_below 33554432 (sofar.bytes + length content) few) refl

pub content_reached : {G : Type 0} (holds : Holds G) (path content : List ℕ) (loading next : Loading G) (bytes : ℕ) (imports : List Import) → length content ≤ 1048576
    → (loading.bytes + length content < 2 ^ 64 → bytes ≡ loading.bytes + length content) → bytes ≤ 33554432
    → ((sofar : SoFar) (size : ℕ) (parsed : Parsed) → Stands holds loading sofar → Reads path content parsed → bytes ≡ sofar.bytes + size → bytes ≤ 33554432 → Stands holds next (with_file sofar size parsed))
    → ((parsed : Parsed) → Reads path content parsed → imports ≡ parsed.imports) → (world : World) → MeansFiles world → (sofar : SoFar) → Stands holds loading sofar
    → ReachesImports holds (Ok (next, Some imports)) (with_bytes world sofar path (Some content)) (Some (world.means path content).imports)
content_reached holds path content loading next bytes imports short sum within taken imports_are world means sofar stands =
    let all : bytes ≡ sofar.bytes + length content = sum (omega (arith, short, stands.bytes, stands.within)) ∙ ap (λ n. n + length content) stands.bytes in (
      with_file sofar (length content) (world.means path content),
      content_taken world sofar path content short (omega (arith, all, within)),
      taken sofar (length content) (world.means path content) stands (means path content) all within,
      ap (λ is. Some is) (imports_are (world.means path content) (means path content)),
    )
