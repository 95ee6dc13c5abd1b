-- No command is shorter than the shortest one.
use Rattle.std.proofs.Common.{◌≡◌, ℕ, ◌<◌, ◌≤◌, ◌&&◌, Bool, true, false, List, [], ◌∷◌, length, refl, sym, arith}
use Rattle.std.specs.Prelude.{◌||◌, nat_le}
use Rattle.std.specs.List.{list_all, list_any}
use Rattle.std.specs.Str.{bytes_eq}
use Rattle.std.proofs.lemmas.Bool.Decides.{nat_tests}
use Rattle.rc_parse.proofs.Firsts.{other_length}
use Rattle.lint_sources.specs.NotModelled.{is_command_not_modelled}
use Rattle.lint_sources.specs.declared.not_modelled.TheConstants.{COMMANDS}
use Rattle.std.proofs.lemmas.Bool.{and_parts}

-- ---- the shortest command has 7 bytes

neither : (one other : Bool) → one ≡ false → other ≡ false → (one || other) ≡ false
neither false false first second = refl
neither false true first second = cc
neither true other first second = cc

longer : (word known : List ℕ) → length word < 7 → nat_le 7 (length known) ≡ true → bytes_eq known word ≡ false
longer word known short long =
    sym (other_length known word (λ same. let least : 7 ≤ length known = grind (arith, nat_tests) in absurd (omega (arith, same, short, least))))

none_of_longer : {A : Type 0} (text : A → List ℕ) (word : List ℕ) (known : List A) → length word < 7
    → list_all (λ k. nat_le 7 (length (text k))) known ≡ true → list_any (λ k. bytes_eq (text k) word) known ≡ false
none_of_longer text word [] short long = refl
none_of_longer text word (k ∷ known) short long =
    let parts = and_parts (nat_le 7 (length (text k))) (list_all (λ k. nat_le 7 (length (text k))) known) long in
    neither (bytes_eq (text k) word) (list_any (λ k. bytes_eq (text k) word) known)
    (longer word (text k) short parts.0) (none_of_longer text word known short parts.1)

pub short_is_none : (word : List ℕ) → length word < 7 → false ≡ is_command_not_modelled word
short_is_none word short = sym (none_of_longer (λ known. known.now) word COMMANDS short refl)
