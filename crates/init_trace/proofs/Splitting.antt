-- The lines of a text, and their fields: what a text of lines is split into again.
use Rattle.std.proofs.Common.{◌≡◌, ℕ, Bool, true, false, not, ◌&&◌, ◌==◌, cond, List, [], ◌∷◌, ◌++◌, append_assoc, refl, ap, ◌∙◌}
use Rattle.std.specs.List.{list_all, AllByRecursion}
use Rattle.std.proofs.lemmas.Bool.{false≢true, and_parts}
use Rattle.init_trace.specs.Line.{spaced, line_text, lines_text}

-- a byte of a field: neither a space nor an LF
abbrev pub is_inner : ℕ → Bool
is_inner byte = not (byte == 10) && not (byte == 32)

abbrev pub is_field : List ℕ → Bool
is_field field = list_all is_inner field

abbrev pub are_fields : List (List ℕ) → Bool
are_fields fields = list_all is_field fields

-- a line has a field
abbrev pub IsLine : List (List ℕ) → Type 0
IsLine [] = ⊥
IsLine (field ∷ rest) = are_fields (field ∷ rest) ≡ true

-- an empty field in front of the first line
abbrev new_field : List (List (List ℕ)) → List (List (List ℕ))
new_field [] = []
new_field (line ∷ lines) = ([] ∷ line) ∷ lines

-- a byte in front of the first field of the first line
abbrev onto_field : ℕ → List (List (List ℕ)) → List (List (List ℕ))
onto_field byte [] = []
onto_field byte ([] ∷ lines) = [] ∷ lines
onto_field byte ((field ∷ line) ∷ lines) = ((byte ∷ field) ∷ line) ∷ lines

abbrev onto : ℕ → List (List (List ℕ)) → List (List (List ℕ))
onto byte lines = cond (byte == 10) (([] ∷ []) ∷ lines) (cond (byte == 32) (new_field lines) (onto_field byte lines))

abbrev pub split : List ℕ → List (List (List ℕ))
split [] = []
split (byte ∷ rest) = onto byte (split rest)

is_false : (a : Bool) → not a ≡ true → a ≡ false
is_false true h = absurd (false≢true h)
is_false false h = refl

onto_inner : (byte : ℕ) (field : List ℕ) (line : List (List ℕ)) (lines : List (List (List ℕ))) → is_inner byte ≡ true → onto byte ((field ∷ line) ∷ lines) ≡ ((byte ∷ field) ∷ line) ∷ lines
onto_inner byte field line lines h =
    let p = and_parts (not (byte == 10)) (not (byte == 32)) h in
    let lf : (byte == 10) ≡ false = is_false (byte == 10) p.0 in
    let space : (byte == 32) ≡ false = is_false (byte == 32) p.1 in
    rw (lf, space) refl

split_field : (field rest : List ℕ) (line : List (List ℕ)) (lines : List (List (List ℕ))) → is_field field ≡ true → split rest ≡ ([] ∷ line) ∷ lines → split (field ++ rest) ≡ (field ∷ line) ∷ lines
split_field [] rest line lines h e = e
split_field (byte ∷ field) rest line lines h e =
    let p = and_parts (is_inner byte) (is_field field) h in
    ap (onto byte) (split_field field rest line lines p.1 e) ∙ onto_inner byte field line lines p.0

split_spaced : (fields : List (List ℕ)) (rest : List ℕ) → are_fields fields ≡ true → split (spaced fields ++ 10 ∷ rest) ≡ ([] ∷ fields) ∷ split rest
split_spaced [] rest h = refl
split_spaced (field ∷ fields) rest h =
    let p = and_parts (is_field field) (are_fields fields) h in
    ap (λ t. new_field (split t)) (append_assoc field (spaced fields) (10 ∷ rest))
    ∙ ap new_field (split_field field (spaced fields ++ 10 ∷ rest) fields (split rest) p.0 (split_spaced fields rest p.1))

split_line : (line : List (List ℕ)) (rest : List ℕ) → IsLine line → split (line_text line ++ rest) ≡ line ∷ split rest
split_line [] rest h = absurd h
split_line (field ∷ fields) rest h =
    let p = and_parts (is_field field) (are_fields fields) h in
    ap split (append_assoc (field ++ spaced fields) (10 ∷ []) rest ∙ append_assoc field (spaced fields) (10 ∷ rest))
    ∙ split_field field (spaced fields ++ 10 ∷ rest) fields (split rest) p.0 (split_spaced fields rest p.1)

-- a text of lines is split into these lines
pub split-lines_text : (lines : List (List (List ℕ))) → AllByRecursion IsLine lines → split (lines_text lines) ≡ lines
split-lines_text [] h = refl
split-lines_text (line ∷ lines) h =
    split_line line (lines_text lines) h.0 ∙ ap (λ ls. line ∷ ls) (split-lines_text lines h.1)
