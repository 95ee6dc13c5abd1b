-- The baseline of findings is a baseline.
use Rattle.std.proofs.Common.{◌≡◌, ℕ, Bool, true, false, not, ◌&&◌, ◌==◌, cond, List, [], ◌∷◌, ◌++◌, length, map, append_assoc, refl, ap, ◌∙◌, IsTrue, arith}
use Rattle.std.specs.Prelude.{is_some}
use Rattle.std.specs.List.{flat_map, list_all, position_or_len}
use Rattle.std.proofs.lemmas.Bool.{and_parts}
use Rattle.std.proofs.lemmas.Bool.Decides.{nat_tests}
use Rattle.std.proofs.Math.Seq.{take-append_seam, drop-append-add}
use Rattle.std.proofs.lemmas.List.Folds.{list_all-append}
use Rattle.std.proofs.lemmas.List.Sums.{AllPass-from_list_all, list_all-from_AllPass}
use Rattle.std.proofs.lemmas.List.Sorted.{All-permutation}
use Rattle.init_base.specs.Quoted.{hex_byte, is_byte, is_plain, quoted, quoted_byte, unquoted}
use Rattle.init_base.proofs.QForms.{unquoted-quoted}
use Rattle.init_machine.specs.declared.diagnostic.DiagKind.{DiagKind}
use Rattle.init_machine.specs.declared.diagnostic.DiagKind.TheVariants as kind
use Rattle.init_trace.specs.Words.{kind_text}
use Rattle.lint_findings.specs.Names.{about_in, about_text, hint_text, warning_text}
use Rattle.lint_findings.specs.declared.finding.About.{About}
use Rattle.lint_findings.specs.declared.finding.About.TheVariants as about
use Rattle.lint_findings.specs.declared.finding.Finding.{Finding}
use Rattle.lint_findings.specs.declared.finding.HintKind.{HintKind}
use Rattle.lint_findings.specs.declared.finding.HintKind.TheVariants as hint
use Rattle.lint_findings.specs.declared.finding.WarningKind.{WarningKind}
use Rattle.lint_findings.specs.declared.finding.WarningKind.TheVariants as warning
use Rattle.lint_findings.proofs.Called.{found}
use Rattle.lint_findings.specs.Baseline.{IsBaseline, IsBaselineOf, are_bytes, ascend, baseline_text, behind_word, is_row, lacks, row_of, word_of}
use Rattle.lint_findings.proofs.Fronts.{join}

-- ---- which bytes stand in a line

-- neither a space nor an LF
abbrev is_inner : ℕ → Bool
is_inner byte = not (byte == 10) && not (byte == 32)

abbrev is_word : List ℕ → Bool
is_word text = list_all is_inner text

plain_inner : (b : ℕ) → is_plain b ≡ true → is_inner b ≡ true
plain_inner b h = grind (arith, nat_tests)

hex_inner : (b : ℕ) → is_word (hex_byte true b) ≡ true
hex_inner b = grind (arith, nat_tests)

spelled_inner : (plain : Bool) (b : ℕ) → is_plain b ≡ plain → is_word (cond plain (b ∷ []) (37 ∷ hex_byte true b)) ≡ true
spelled_inner true b h = rw (plain_inner b h) refl
spelled_inner false b h = hex_inner b

bytes_inner : (text : List ℕ) → is_word (flat_map quoted_byte text) ≡ true
bytes_inner [] = refl
bytes_inner (b ∷ rest) =
    list_all-append is_inner (quoted_byte b) (flat_map quoted_byte rest)
    ∙ join (is_word (quoted_byte b)) (is_word (flat_map quoted_byte rest)) (spelled_inner (is_plain b) b refl) (bytes_inner rest)

quoted_inner : (text : List ℕ) → is_word (quoted text) ≡ true
unfolding quoted
quoted_inner [] = refl
quoted_inner (b ∷ rest) = bytes_inner (b ∷ rest)

kind_inner : (k : DiagKind) → is_word (kind_text k) ≡ true
unfolding kind_text
kind_inner kind.Cut = refl
kind_inner kind.Orphan = refl
kind_inner kind.NoTrigger = refl
kind_inner kind.BadTrigger = refl
kind_inner kind.TwiceProp = refl
kind_inner kind.BadWord = refl
kind_inner kind.BadArity = refl
kind_inner kind.BadOption = refl
kind_inner kind.BadService = refl
kind_inner kind.ServiceAgain = refl
kind_inner kind.BadImport = refl
kind_inner kind.NoFile = refl
kind_inner kind.Loop = refl
kind_inner kind.TooDeep = refl
kind_inner kind.BadExpand = refl
kind_inner kind.BadProp = refl

warning_inner : (k : WarningKind) → is_word (warning_text k) ≡ true
warning_inner warning.NotModelled = refl
warning_inner warning.NoService = refl
warning_inner warning.NoClass = refl
warning_inner warning.UnheardEvent = refl
warning_inner warning.UnsentEvent = refl

hint_inner : (k : HintKind) → is_word (hint_text k) ≡ true
hint_inner hint.ByteOrderMark = refl
hint_inner hint.SpannedLines = refl
hint_inner hint.CapitalHeader = refl

about_inner : (a : About) → is_word (about_text a) ≡ true
about_inner (about.Error k) = kind_inner k
about_inner (about.Warning k) = warning_inner k
about_inner (about.Hint k) = hint_inner k

no_end : (text : List ℕ) → is_word text ≡ true → lacks 10 text ≡ true
no_end [] h = refl
no_end (b ∷ rest) h =
    let p = and_parts (is_inner b) (is_word rest) h in
    join (not (b == 10)) (lacks 10 rest) (and_parts (not (b == 10)) (not (b == 32)) p.0).0 (no_end rest p.1)

-- ---- the words of a line

word_ends : (text rest : List ℕ) → is_word text ≡ true → position_or_len (λ b. b == 32) (text ++ 32 ∷ rest) ≡ length text
word_ends [] rest h = refl
word_ends (b ∷ text) rest h =
    let p = and_parts (is_inner b) (is_word text) h in
    let other : not (b == 32) ≡ true = (and_parts (not (b == 10)) (not (b == 32)) p.0).1 in
    let more = word_ends text rest p.1 in
    rw other (omega (arith, more))

word_is : (text rest : List ℕ) → is_word text ≡ true → word_of (text ++ 32 ∷ rest) ≡ text
word_is text rest h = rw (word_ends text rest h) (take-append_seam text (32 ∷ rest))

behind_is : (text rest : List ℕ) → is_word text ≡ true → behind_word (text ++ 32 ∷ rest) ≡ rest
behind_is text rest h = rw (word_ends text rest h) (drop-append-add text (32 ∷ rest) 1)

parted : (a b c : List ℕ) → a ++ 32 ∷ [] ++ b ++ 32 ∷ [] ++ c ≡ a ++ 32 ∷ (b ++ 32 ∷ c)
parted a b c =
    append_assoc ((a ++ 32 ∷ []) ++ b) (32 ∷ []) c ∙ append_assoc (a ++ 32 ∷ []) b (32 ∷ c) ∙ append_assoc a (32 ∷ []) (b ++ 32 ∷ c)

spelled : (text : List ℕ) → list_all is_byte text ≡ true → is_some (unquoted (quoted text)) ≡ true
spelled text h = ap is_some (unquoted-quoted text h)

lacks_both : (a b : List ℕ) → lacks 10 a ≡ true → lacks 10 b ≡ true → lacks 10 (a ++ 32 ∷ b) ≡ true
lacks_both a b h i = list_all-append (λ x. not (x == 10)) a (32 ∷ b) ∙ join (lacks 10 a) (lacks 10 b) h i

line_is : (a f m : List ℕ) → is_word a ≡ true → is_word f ≡ true → is_word m ≡ true
    → is_some (about_in a) ≡ true → is_some (unquoted f) ≡ true → is_some (unquoted m) ≡ true → is_row (a ++ 32 ∷ (f ++ 32 ∷ m)) ≡ true
line_is a f m ha hf hm sa sf sm =
    let first : word_of (a ++ 32 ∷ (f ++ 32 ∷ m)) ≡ a = word_is a (f ++ 32 ∷ m) ha in
    let behind : behind_word (a ++ 32 ∷ (f ++ 32 ∷ m)) ≡ f ++ 32 ∷ m = behind_is a (f ++ 32 ∷ m) ha in
    let second : word_of (behind_word (a ++ 32 ∷ (f ++ 32 ∷ m))) ≡ f = ap word_of behind ∙ word_is f m hf in
    let third : behind_word (behind_word (a ++ 32 ∷ (f ++ 32 ∷ m))) ≡ m = ap behind_word behind ∙ behind_is f m hf in
    join (lacks 10 (a ++ 32 ∷ (f ++ 32 ∷ m))) _ (lacks_both a (f ++ 32 ∷ m) (no_end a ha) (lacks_both f m (no_end f hf) (no_end m hm)))
    (join (is_some (about_in (word_of (a ++ 32 ∷ (f ++ 32 ∷ m)))) && is_some (unquoted (word_of (behind_word (a ++ 32 ∷ (f ++ 32 ∷ m))))))
    (is_some (unquoted (behind_word (behind_word (a ++ 32 ∷ (f ++ 32 ∷ m))))))
    (join (is_some (about_in (word_of (a ++ 32 ∷ (f ++ 32 ∷ m))))) (is_some (unquoted (word_of (behind_word (a ++ 32 ∷ (f ++ 32 ∷ m))))))
    (ap (λ t. is_some (about_in t)) first ∙ sa) (ap (λ t. is_some (unquoted t)) second ∙ sf))
    (ap (λ t. is_some (unquoted t)) third ∙ sm))

row_is : (f : Finding) → are_bytes f ≡ true → is_row (row_of f) ≡ true
row_is f h =
    let p = and_parts (list_all is_byte f.file) (list_all is_byte f.message) h in
    ap is_row (parted (about_text f.about) (quoted f.file) (quoted f.message))
    ∙ line_is (about_text f.about) (quoted f.file) (quoted f.message) (about_inner f.about) (quoted_inner f.file) (quoted_inner f.message)
    (ap is_some (found f.about)) (spelled f.file p.0) (spelled f.message p.1)

rows_are : (findings : List Finding) → list_all are_bytes findings ≡ true → list_all is_row (map row_of findings) ≡ true
rows_are [] h = refl
rows_are (f ∷ rest) h =
    let p = and_parts (are_bytes f) (list_all are_bytes rest) h in
    join (is_row (row_of f)) (list_all is_row (map row_of rest)) (row_is f p.0) (rows_are rest p.1)

pub printed_is_one : (findings : List Finding) (rows : List (List ℕ)) → IsTrue (list_all are_bytes findings) → IsBaselineOf findings rows
    → IsBaseline (baseline_text rows) rows
printed_is_one findings rows h is =
    let all : list_all is_row rows ≡ true =
    list_all-from_AllPass is_row rows (All-permutation (λ row. IsTrue (is_row row)) (map row_of findings) rows is.rows_are
    (AllPass-from_list_all is_row (map row_of findings) (rows_are findings h))) in
    record { rows_are = join (list_all is_row rows) (ascend rows) all is.ascending; text = refl }
