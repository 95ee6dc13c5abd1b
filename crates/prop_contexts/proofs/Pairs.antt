-- The pairs that are there, when a pair more is, and the lines in turn.
use Rattle.std.proofs.Common.{◌≡◌, ℕ, ◌<◌, ◌≤◌, Bool, true, false, ◌&&◌, ◌||◌, List, [], ◌∷◌, ◌++◌, length, get_or, drop, suc, ◌+◌, refl, sym, ap, ◌∙◌, subst, if◌then◌else◌, arith}
use Rattle.std.proofs.Math.Seq.{drop-cons}
use Rattle.std.proofs.lemmas.List.{drop_all}
use Rattle.std.proofs.lemmas.List.Folds.{list_any-append}
use Rattle.std.specs.List.{list_any}
use Rattle.std.specs.Str.{bytes_eq}
use Rattle.indexmap.specs.IndexSet.{insert_key}
use Rattle.init_machine.proofs.DistinctSums.{bytes_eq-sym}
use Rattle.init_machine.specs.declared.policy.AllowLine.{AllowLine}
use Rattle.prop_contexts.specs.Allowances.{is_pair_for, is_pair_of, same_words, AreFound}
use Rattle.prop_contexts.specs.declared.allowances.Pair.{Pair}

-- ---- a pair more

abbrev same_pair : Pair → Pair → Bool
same_pair pair other = is_pair_of pair.domain pair.label other

turned : (a b : Bool) → (a || (b || false)) ≡ (b || a)
turned true true = refl
turned true false = refl
turned false true = refl
turned false false = refl

any_inserted : (pairs : List Pair) (pair : Pair) (domain label : List ℕ)
    → list_any (is_pair_of domain label) (insert_key same_pair pairs pair) ≡ (is_pair_of domain label pair || list_any (is_pair_of domain label) pairs)
any_inserted pairs pair domain label = by (list_any (same_pair pair) pairs) refl (is_pair_of domain label pair) refl
  where
    by : (b : Bool) → list_any (same_pair pair) pairs ≡ b → (s : Bool) → is_pair_of domain label pair ≡ s
        → list_any (is_pair_of domain label) (if b then pairs else pairs ++ pair ∷ []) ≡ (s || list_any (is_pair_of domain label) pairs)
    by true there true same = same_words (λ d l. list_any (is_pair_of d l) pairs) domain label pair same ∙ there
    by true there false differ = refl
    by false absent s is =
        list_any-append (is_pair_of domain label) pairs (pair ∷ [])
        ∙ (λ i. list_any (is_pair_of domain label) pairs || (is i || false))
        ∙ turned (list_any (is_pair_of domain label) pairs) s

-- the pair of a line is there
pub line_added : (pairs more : List Pair) (pair : Pair) (line : AllowLine) (domain label : List ℕ) → pair.domain ≡ line.domain → pair.label ≡ line.label
    → more ≡ insert_key same_pair pairs pair
    → list_any (is_pair_of domain label) more ≡ (is_pair_for domain label line || list_any (is_pair_of domain label) pairs)
line_added pairs more pair line domain label domain_is label_is is =
    ap (list_any (is_pair_of domain label)) is
    ∙ any_inserted pairs pair domain label
    ∙ (λ i. (bytes_eq domain (domain_is i) && bytes_eq label (label_is i)) || list_any (is_pair_of domain label) pairs)
    ∙ (λ i. (bytes_eq-sym domain line.domain i && bytes_eq-sym label line.label i) || list_any (is_pair_of domain label) pairs)

-- ---- the lines in turn

-- with the lines that are left it is what the lines say
abbrev pub IsLeft : List Pair → List AllowLine → List AllowLine → Type 0
IsLeft pairs rest lines =
    (domain label : List ℕ) → (list_any (is_pair_for domain label) rest || list_any (is_pair_of domain label) pairs) ≡ list_any (is_pair_for domain label) lines

or_false : (b : Bool) → (b || false) ≡ b
or_false true = refl
or_false false = refl

pub all_left : (pairs : List Pair) (lines : List AllowLine) → pairs ≡ [] → IsLeft pairs lines lines
all_left pairs lines none domain label =
    ap (λ ps. list_any (is_pair_for domain label) lines || list_any (is_pair_of domain label) ps) none ∙ or_false (list_any (is_pair_for domain label) lines)

moved : (p rest has : Bool) → (rest || (p || has)) ≡ ((p || rest) || has)
moved true true has = refl
moved true false has = refl
moved false rest has = refl

pub one_line : (pairs more : List Pair) (seen lines : List AllowLine) (i : ℕ) (line : AllowLine) → seen ≡ lines → i < length seen → line ≡ get_or seen i line
    → ((domain label : List ℕ) → list_any (is_pair_of domain label) more ≡ (is_pair_for domain label line || list_any (is_pair_of domain label) pairs))
    → IsLeft pairs (drop i lines) lines → IsLeft more (drop (i + 1) lines) lines
one_line pairs more seen lines i line same within is added left domain label =
    let next : drop i lines ≡ line ∷ drop (i + 1) lines =
    ap (drop i) (sym same) ∙ drop-cons seen i line within ∙ (λ k. sym is k ∷ drop (one i k) (same k)) in
    ap (λ b. list_any (is_pair_for domain label) (drop (i + 1) lines) || b) (added domain label)
    ∙ moved (is_pair_for domain label line) (list_any (is_pair_for domain label) (drop (i + 1) lines)) (list_any (is_pair_of domain label) pairs)
    ∙ ap (λ ls. list_any (is_pair_for domain label) ls || list_any (is_pair_of domain label) pairs) (sym next)
    ∙ left domain label
  where
    one : (i : ℕ) → suc i ≡ i + 1
    one i = omega arith

pub none_left : (pairs : List Pair) (seen lines : List AllowLine) (i : ℕ) → seen ≡ lines → length seen ≤ i → IsLeft pairs (drop i lines) lines → AreFound pairs lines
none_left pairs seen lines i same past left domain label =
    ap (λ rest. list_any (is_pair_for domain label) rest || list_any (is_pair_of domain label) pairs) (sym (drop_all i lines (subst (λ ls. length ls ≤ i) same past))) ∙ left domain label
