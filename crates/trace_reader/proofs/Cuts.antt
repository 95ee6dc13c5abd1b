-- How a text is cut into lines, and a line into fields: the parts of what was joined, and what is joined of the parts.
use Rattle.std.proofs.Common.{◌≡◌, ◌≢◌, ℕ, ◌+◌, ◌≤◌, Bool, true, false, not, ◌==◌, List, [], ◌∷◌, ◌++◌, length, take, drop, map, cond, Some, None, append_assoc, append-nil, refl, sym, ap, ◌∙◌, arith}
use Rattle.std.specs.List.{AllByRecursion, list_all, onto_first, position, position_or_len, slice_split}
use Rattle.std.proofs.lemmas.Bool.Decides.{nat_tests}
use Rattle.std.proofs.lemmas.List.Elements.{All-from_get_or}
use Rattle.std.proofs.lemmas.List.Splits.{slice_split_none, slice_split_first}
use Rattle.std.proofs.lemmas.List.Sums.{fails_before_first}
use Rattle.init_trace.specs.Line.{line_text, lines_text, spaced}
use Rattle.init_trace.proofs.Splitting.{are_fields, is_field, is_inner, IsLine}
use Rattle.script_lang.proofs.LineWords.{at_position, nowhere}
use Rattle.trace_reader.specs.Split.{is_line_feed, is_space}
use Rattle.trace_reader.proofs.Choices.{both}

-- ---- a cut at the first place

pub cut_nowhere : {X : Type 0} (p : X → Bool) (xs : List X) (d : X) → None ≡ position p xs → slice_split p xs ≡ xs ∷ []
cut_nowhere p xs d none =
    let high : length xs ≤ position_or_len p xs = nowhere p xs (sym none) in
    slice_split_none p xs (All-from_get_or (λ x. p x ≡ false) xs d (λ i low. fails_before_first p xs i d (omega arith)))

pub cut_first : {X : Type 0} (p : X → Bool) (xs : List X) (d : X) (place : ℕ) → Some place ≡ position p xs
    → slice_split p xs ≡ take place xs ∷ slice_split p (drop (place + 1) xs)
cut_first p xs d place some =
    let at = at_position p xs place (sym some) in
    slice_split_first p xs d (omega (arith, at.0, at.1)) ∙ ap (λ k. take k xs ∷ slice_split p (drop (k + 1) xs)) at.0

-- there is a first part
pub no_parts : {X : Type 0} (p : X → Bool) (xs : List X) → slice_split p xs ≢ []
no_parts p [] e = cc
no_parts p (x ∷ xs) e = elim (p x) as (λ b. cond b ([] ∷ slice_split p xs) (onto_first x (slice_split p xs)) ≡ [] → ⊥) [
  | true ↦ λ e. cc
  | false ↦ onto_some x (slice_split p xs)
] e
  where
    onto_some : {X : Type 0} (x : X) (parts : List (List X)) → onto_first x parts ≡ [] → ⊥
    onto_some x [] e = cc
    onto_some x (part ∷ parts) e = cc

-- ---- the parts of what was joined

is_false : (a : Bool) → not a ≡ true → a ≡ false
is_false true h = cc
is_false false h = refl

-- what stands before the place where the list is cut goes onto the first part
onto_parts : (p : ℕ → Bool) (front rest first : List ℕ) (parts : List (List ℕ)) → list_all (λ b. not (p b)) front ≡ true → slice_split p rest ≡ first ∷ parts
    → slice_split p (front ++ rest) ≡ (front ++ first) ∷ parts
onto_parts p [] rest first parts h e = e
onto_parts p (b ∷ front) rest first parts h e =
    let q = both (not (p b)) (list_all (λ b. not (p b)) front) h in
    let other : p b ≡ false = is_false (p b) q.0 in
    rw other (ap (onto_first b) (onto_parts p front rest first parts q.1 e))

-- no space stands in a field, and no LF in a line
no_space : (field : List ℕ) → is_field field ≡ true → list_all (λ b. not (is_space b)) field ≡ true
no_space [] h = refl
no_space (b ∷ field) h =
    let p = both (is_inner b) (is_field field) h in
    let q = both (not (b == 10)) (not (b == 32)) p.0 in
    let inner : not (b == 32) ≡ true = q.1 in
    rw inner (no_space field p.1)

no_feed : (field : List ℕ) → is_field field ≡ true → list_all (λ b. not (is_line_feed b)) field ≡ true
no_feed [] h = refl
no_feed (b ∷ field) h =
    let p = both (is_inner b) (is_field field) h in
    let q = both (not (b == 10)) (not (b == 32)) p.0 in
    let inner : not (b == 10) ≡ true = q.0 in
    rw inner (no_feed field p.1)

all_append : (p : ℕ → Bool) (a b : List ℕ) → list_all p a ≡ true → list_all p b ≡ true → list_all p (a ++ b) ≡ true
all_append p [] b h k = k
all_append p (x ∷ a) b h k =
    let q = both (p x) (list_all p a) h in
    let first : p x ≡ true = q.0 in
    rw first (all_append p a b q.1 k)

spaced_no_feed : (fields : List (List ℕ)) → are_fields fields ≡ true → list_all (λ b. not (is_line_feed b)) (spaced fields) ≡ true
spaced_no_feed [] h = refl
spaced_no_feed (field ∷ fields) h =
    let q = both (is_field field) (are_fields fields) h in
    all_append (λ b. not (is_line_feed b)) field (spaced fields) (no_feed field q.0) (spaced_no_feed fields q.1)

-- the bytes of a line without its LF
abbrev pub bytes_of : List (List ℕ) → List ℕ
bytes_of [] = []
bytes_of (field ∷ rest) = field ++ spaced rest

pub fields_back : (line : List (List ℕ)) → IsLine line → slice_split is_space (bytes_of line) ≡ line
fields_back [] h = absurd h
fields_back (field ∷ rest) h = fields_parts field rest h
  where
    fields_parts : (field : List ℕ) (rest : List (List ℕ)) → are_fields (field ∷ rest) ≡ true → slice_split is_space (field ++ spaced rest) ≡ field ∷ rest
    fields_parts field [] h =
        let q = both (is_field field) (are_fields []) h in
        onto_parts is_space field [] [] [] (no_space field q.0) refl ∙ ap (λ f. f ∷ []) (append-nil field)
    fields_parts field (next ∷ more) h =
        let q = both (is_field field) (are_fields (next ∷ more)) h in
        onto_parts is_space field (32 ∷ next ++ spaced more) [] (next ∷ more) (no_space field q.0) (ap (λ ps. [] ∷ ps) (fields_parts next more q.1))
        ∙ ap (λ f. f ∷ next ∷ more) (append-nil field)

line_no_feed : (line : List (List ℕ)) → IsLine line → list_all (λ b. not (is_line_feed b)) (bytes_of line) ≡ true
line_no_feed [] h = absurd h
line_no_feed (field ∷ rest) h =
    let q = both (is_field field) (are_fields rest) h in
    all_append (λ b. not (is_line_feed b)) field (spaced rest) (no_feed field q.0) (spaced_no_feed rest q.1)

-- the parts of a text of such lines
abbrev pub parts_of : List (List (List ℕ)) → List (List ℕ)
parts_of lines = map bytes_of lines ++ [] ∷ []

line_text_is : (line : List (List ℕ)) → line_text line ≡ bytes_of line ++ 10 ∷ []
line_text_is [] = refl
line_text_is (field ∷ rest) = refl

pub lines_back : (lines : List (List (List ℕ))) → AllByRecursion IsLine lines → slice_split is_line_feed (lines_text lines) ≡ parts_of lines
lines_back [] h = refl
lines_back (line ∷ lines) h =
    ap (λ t. slice_split is_line_feed (t ++ lines_text lines)) (line_text_is line)
    ∙ ap (slice_split is_line_feed) (append_assoc (bytes_of line) (10 ∷ []) (lines_text lines))
    ∙ onto_parts is_line_feed (bytes_of line) (10 ∷ lines_text lines) [] (parts_of lines) (line_no_feed line h.0) (ap (λ ps. [] ∷ ps) (lines_back lines h.1))
    ∙ ap (λ b. b ∷ parts_of lines) (append-nil (bytes_of line))

-- ---- what is joined of the parts

-- a list of parts, joined by a byte
abbrev pub joined : ℕ → List (List ℕ) → List ℕ
joined byte [] = []
joined byte (part ∷ []) = part
joined byte (part ∷ next ∷ rest) = part ++ byte ∷ joined byte (next ∷ rest)

joined_onto : (byte b : ℕ) (parts : List (List ℕ)) → joined byte (onto_first b parts) ≡ b ∷ joined byte parts
joined_onto byte b [] = refl
joined_onto byte b (part ∷ []) = refl
joined_onto byte b (part ∷ next ∷ rest) = refl

joined_nil : (byte : ℕ) (parts : List (List ℕ)) → parts ≢ [] → joined byte ([] ∷ parts) ≡ byte ∷ joined byte parts
joined_nil byte [] some = absurd (some refl)
joined_nil byte (part ∷ rest) some = refl

pub joined_split : (byte : ℕ) (xs : List ℕ) → joined byte (slice_split (λ b. b == byte) xs) ≡ xs
joined_split byte [] = refl
joined_split byte (x ∷ xs) =
    elim (x == byte) as
    (λ t. (x == byte) ≡ t → joined byte (cond t ([] ∷ slice_split (λ b. b == byte) xs) (onto_first x (slice_split (λ b. b == byte) xs))) ≡ x ∷ xs) [
      | true ↦ λ is.
          let same : byte ≡ x = grind (arith, nat_tests) in
          joined_nil byte (slice_split (λ b. b == byte) xs) (no_parts (λ b. b == byte) xs)
          ∙ ap (λ ys. byte ∷ ys) (joined_split byte xs) ∙ ap (λ y. y ∷ xs) same
      | false ↦ λ other.
          joined_onto byte x (slice_split (λ b. b == byte) xs) ∙ ap (λ ys. x ∷ ys) (joined_split byte xs)
    ] refl

joined_spaced : (fields : List (List ℕ)) → joined 32 fields ≡ bytes_of fields
joined_spaced [] = refl
joined_spaced (field ∷ []) = sym (append-nil field)
joined_spaced (field ∷ next ∷ rest) = ap (λ bytes. field ++ 32 ∷ bytes) (joined_spaced (next ∷ rest))

-- the line of the fields of bytes
pub line_of_bytes : (bytes : List ℕ) → line_text (slice_split is_space bytes) ≡ bytes ++ 10 ∷ []
line_of_bytes bytes =
    line_text_is (slice_split is_space bytes)
    ∙ ap (λ b. b ++ 10 ∷ []) (sym (joined_spaced (slice_split is_space bytes)) ∙ joined_split 32 bytes)
