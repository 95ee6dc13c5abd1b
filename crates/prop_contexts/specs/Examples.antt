-- Worked examples of the definitions, on closed texts.
use Rattle.std.specs.Prelude.{◌≡◌, ℕ, true, false, List, [], ◌∷◌, ◌++◌, codes, map}
use Rattle.init_machine.specs.Policy.{PolicyLines, ContextLine, context_of, is_allowed}
use Rattle.init_machine.specs.Typed.{is_typed}
use Rattle.init_machine.specs.declared.policy.Context.{Context}
use Rattle.init_machine.specs.declared.type_kind.TypeKind.{TypeKind}
use Rattle.init_machine.specs.declared.type_kind.TypeKind.TheVariants as kind
use Rattle.prop_contexts.specs.Grammar.{IsPolicy}

unfoldable pub computing : Unit {0}
unfolding context_of is_allowed is_typed
computing = tt

abbrev pub text_of : List (List ℕ) → List ℕ
text_of [] = []
text_of (line ∷ lines) = line ++ 10 ∷ text_of lines

abbrev pub four_lines : List ℕ
four_lines =
    text_of (codes "* d" ∷ codes "ro. r prefix" ∷ codes "ro.build. b prefix string" ∷ codes "ro.build.x e exact enum on off" ∷ [])

abbrev pub plain : List ℕ → Context
plain label = record { label = label; kind = kind.Any }

abbrev pub line_for : List ℕ → Context → ContextLine
line_for name context = record { name = name; context = context }

abbrev pub on_off : TypeKind
on_off = kind.Enum (codes "on" ∷ codes "off" ∷ [])

abbrev pub four : PolicyLines
four = record {
  default = plain (codes "d");
  exact = line_for (codes "ro.build.x") (record { label = codes "e"; kind = on_off }) ∷ [];
  prefixes = line_for (codes "ro.") (plain (codes "r")) ∷ line_for (codes "ro.build.") (plain (codes "b")) ∷ [];
  allows = record { domain = codes "shell"; label = codes "d" } ∷ [];
}

abbrev pub FourLinesAreRead : Type 0
FourLinesAreRead = IsPolicy four_lines (codes "allow shell d") four

abbrev pub Looks : Type 0
Looks = map (λ name. (context_of four name).label) (codes "ro.build.x" ∷ codes "ro.build.y" ∷ codes "ro.z" ∷ codes "a" ∷ [])
    ≡ codes "e" ∷ codes "b" ∷ codes "r" ∷ codes "d" ∷ []

abbrev pub Types : Type 0
Types = map (is_typed (context_of four (codes "ro.build.x")).kind) (codes "on" ∷ codes "On" ∷ [] ∷ []) ≡ true ∷ false ∷ true ∷ []
