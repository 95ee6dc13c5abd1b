-- What is allowed, as the look-up keeps it: the pairs of the lines, each once.
use Rattle.std.specs.Prelude.{◌≡◌, ℕ, Bool, true, ◌&&◌, List}
use Rattle.std.specs.Cmp.{first_so, second_so}
use Rattle.std.specs.Cmp.Lexicographic.{bytes_decides}
use Rattle.std.specs.List.{list_any}
use Rattle.std.specs.Str.{bytes_eq}
use Rattle.init_machine.specs.declared.policy.AllowLine.{AllowLine}
use Rattle.prop_contexts.specs.declared.allowances.Pair.{Pair}

-- the line is for this domain and this label
abbrev pub is_pair_for : List ℕ → List ℕ → AllowLine → Bool
is_pair_for domain label line = bytes_eq line.domain domain && bytes_eq line.label label

-- the pair is that of this domain and this label
abbrev pub is_pair_of : List ℕ → List ℕ → Pair → Bool
is_pair_of domain label pair = bytes_eq domain pair.domain && bytes_eq label pair.label

-- what is made of the two words is what is made of the pair's
pub same_words : {A : Type 0} (f : List ℕ → List ℕ → A) (domain label : List ℕ) (pair : Pair) → is_pair_of domain label pair ≡ true → f domain label ≡ f pair.domain pair.label
same_words f domain label pair is =
    λ i. f ((bytes_decides domain pair.domain).0 (first_so _ _ is) i) ((bytes_decides label pair.label).0 (second_so _ _ is) i)

-- the pairs that are there are those of the lines
abbrev pub AreFound : List Pair → List AllowLine → Type 0
AreFound pairs lines = (domain label : List ℕ) → list_any (is_pair_of domain label) pairs ≡ list_any (is_pair_for domain label) lines
