-- The first words of a list.
use Rattle.std.proofs.Common.{◌≡◌, ℕ, ◌-◌, ◌≤◌, ◌&&◌, nat_le, Bool, true, false, not, ◌==◌, List, [], ◌∷◌, length, get_or, nat_eq, Some, None, take, drop, refl, sym, ap, ◌∙◌, arith}
use Rattle.std.proofs.lemmas.Bool.{and_parts, leb-true}
use Rattle.std.proofs.lemmas.List.{length-take, take_rest}
use Rattle.std.proofs.lemmas.Slice.Eq.{bytes_eq-Decides}
use Rattle.std.specs.List.{slice_get, slice_range, starts_with}
use Rattle.std.specs.Str.{bytes_eq}
use Rattle.rc_parse.specs.Lines.{first_word, arguments}
use Rattle.rc_parse.specs.Services.{is_service_header, is_service_name}

-- the words of a header of a good form are two or more
pub has_two : (words : List (List ℕ)) → is_service_header words ≡ true → 2 ≤ length words
has_two words good =
    let front = and_parts (nat_le 2 (length words) && is_service_name (first_word words)) (not (length (first_word (arguments words)) == 0)) good in
    leb-true 2 (length words) (and_parts (nat_le 2 (length words)) (is_service_name (first_word words)) front.0).0

-- words by their places
pub first_at : (words : List (List ℕ)) (word : List ℕ) → 1 ≤ length words → word ≡ get_or words 0 word → word ≡ first_word words
first_at [] word some is = absurd (omega arith)
first_at (first ∷ words) word some is = is

pub second_at : (words : List (List ℕ)) (word : List ℕ) → 2 ≤ length words → word ≡ get_or words 1 word → word ≡ first_word (arguments words)
second_at [] word some is = absurd (omega arith)
second_at (first ∷ []) word some is = absurd (omega arith)
second_at (first ∷ second ∷ words) word some is = is

pub behind_two : (words : List (List ℕ)) → drop 2 words ≡ arguments (arguments words)
behind_two [] = refl
behind_two (first ∷ []) = refl
behind_two (first ∷ second ∷ words) = refl

-- all behind a place
pub all_behind : (text : List ℕ) (from len : ℕ) → len ≡ length text → slice_range text from len ≡ drop from text
all_behind text from len end = ap (λ (n : ℕ). take (n - from) (drop from text)) end ∙ take_rest text from

-- a text that begins with another one is as long
pub prefix_fits : (text front : List ℕ) → starts_with nat_eq text front ≡ true → length front ≤ length text
prefix_fits text front starts =
    let same : front ≡ take (length front) text = (bytes_eq-Decides front (take (length front) text)).0 starts in
    omega (arith, ap length same, length-take (length front) text)

-- ---- words at their places

pub first_got : (words : List (List ℕ)) (word : List ℕ) → Some word ≡ slice_get words 0 → word ≡ first_word words
first_got [] word is = cc
first_got (first ∷ words) word is = cc

pub none_got : (words : List (List ℕ)) → None ≡ slice_get words 0 → [] ≡ first_word words
none_got [] is = refl
none_got (first ∷ words) is = cc

pub second_got : (words : List (List ℕ)) (word : List ℕ) → Some word ≡ slice_get words 1 → word ≡ first_word (arguments words)
second_got [] word is = cc
second_got (first ∷ []) word is = cc
second_got (first ∷ second ∷ words) word is = cc

pub no_second : (words : List (List ℕ)) → None ≡ slice_get words 1 → [] ≡ first_word (arguments words)
no_second [] is = refl
no_second (first ∷ []) is = refl
no_second (first ∷ second ∷ words) is = cc

pub args_count : (words : List (List ℕ)) → length (arguments words) ≡ length words - 1
args_count [] = refl
args_count (word ∷ words) = omega arith

pub args_args_count : (words : List (List ℕ)) → length (arguments (arguments words)) ≡ length words - 2
args_args_count [] = refl
args_args_count (word ∷ []) = omega arith
args_args_count (word ∷ other ∷ words) = omega arith

-- texts of other lengths differ
pub other_length : (word text : List ℕ) → ¬ (length word ≡ length text) → false ≡ bytes_eq word text
other_length word text apart = by (bytes_eq word text) refl
  where
    by : (b : Bool) → bytes_eq word text ≡ b → false ≡ bytes_eq word text
    by true same = absurd (apart (ap length ((bytes_eq-Decides word text).0 same)))
    by false differ = sym differ
