-- The text of a path, by that of its front.
use Rattle.std.proofs.Common.{◌≡◌, ℕ, Bool, true, false, not, ◌&&◌, ◌||◌, ◌==◌, ◌-◌, ◌<◌, ◌≤◌, nat_le, List, [], ◌∷◌, ◌++◌, length, take, drop, refl, sym, ap, ◌∙◌, arith, length-drop}
use Rattle.std.proofs.Math.Seq.{take-length}
use Rattle.std.proofs.lemmas.List.{take-append-drop}
use Rattle.std.proofs.lemmas.List.Folds.{list_any-append}
use Rattle.std.specs.List.{list_any}
use Rattle.init_machine.specs.FileTree.{begins_with_slash, is_dots, is_path, parts_of}
use Rattle.init_machine.proofs.Paths.{both_true}

not_true : (b : Bool) → not b ≡ true → b ≡ false
not_true true is = absurd (cc)
not_true false is = refl

begins_before : (front rest : List ℕ) → begins_with_slash front ≡ true → begins_with_slash (front ++ rest) ≡ true
begins_before [] rest begins = absurd (cc)
begins_before (byte ∷ front) rest begins = begins

or_nothing : (b : Bool) → (b || false) ≡ b
or_nothing true = refl
or_nothing false = refl

is_path_by_front : (text front part : List ℕ) → parts_of text ≡ parts_of front ++ part ∷ [] → front ≡ take (length front) text → is_path front ≡ true
    → is_path text ≡ (nat_le (length text) 4096 && not (list_any (λ byte. byte == 0) (drop (length front) text)) && not (is_dots part))
is_path_by_front text front part cut is known =
    let rest = drop (length front) text in
    let whole : text ≡ front ++ rest = sym (take-append-drop (length front) text) ∙ ap (λ xs. xs ++ rest) (sym is) in
    let zero : ℕ → Bool = λ byte. byte == 0 in
    let one = both_true (begins_with_slash front && nat_le (length front) 4096 && not (list_any zero front)) (not (list_any is_dots (parts_of front))) known in
    let two = both_true (begins_with_slash front && nat_le (length front) 4096) (not (list_any zero front)) one.0 in
    let three = both_true (begins_with_slash front) (nat_le (length front) 4096) two.0 in
    let begins : begins_with_slash text ≡ true = ap begins_with_slash whole ∙ begins_before front rest three.0 in
    let zeros : list_any zero text ≡ list_any zero rest =
    ap (list_any zero) whole ∙ list_any-append zero front rest ∙ ap (λ b. b || list_any zero rest) (not_true (list_any zero front) two.1) in
    let dots : list_any is_dots (parts_of text) ≡ is_dots part =
    ap (list_any is_dots) cut ∙ list_any-append is_dots (parts_of front) (part ∷ [])
    ∙ ap (λ b. b || (is_dots part || false)) (not_true (list_any is_dots (parts_of front)) one.1) ∙ or_nothing (is_dots part) in
    (λ i. begins i && nat_le (length text) 4096 && not (zeros i) && not (dots i))

pub long_no_path : (text front part : List ℕ) → parts_of text ≡ parts_of front ++ part ∷ [] → front ≡ take (length front) text → is_path front ≡ true → 4096 < length text → false ≡ is_path text
long_no_path text front part cut is known long =
    let e : nat_le (length text) 4096 ≡ false = grind arith in
    sym (is_path_by_front text front part cut is known
    ∙ ap (λ b. b && not (list_any (λ byte. byte == 0) (drop (length front) text)) && not (is_dots part)) e)

second_no : (a b d : Bool) → b ≡ true → (a && not b && not d) ≡ false
second_no true b d is = ap (λ b. not b && not d) is
second_no false b d is = refl

pub zero_no_path : (text front part : List ℕ) → parts_of text ≡ parts_of front ++ part ∷ [] → front ≡ take (length front) text → is_path front ≡ true
    → list_any (λ byte. byte == 0) (drop (length front) text) ≡ true → false ≡ is_path text
zero_no_path text front part cut is known zero =
    sym (is_path_by_front text front part cut is known
    ∙ second_no (nat_le (length text) 4096) (list_any (λ byte. byte == 0) (drop (length front) text)) (is_dots part) zero)

pub path_by_part : (text front part : List ℕ) → parts_of text ≡ parts_of front ++ part ∷ [] → front ≡ take (length front) text → is_path front ≡ true → length text ≤ 4096
    → list_any (λ byte. byte == 0) (drop (length front) text) ≡ false → not (is_dots part) ≡ is_path text
path_by_part text front part cut is known short zero =
    let e : nat_le (length text) 4096 ≡ true = grind arith in
    sym (is_path_by_front text front part cut is known ∙ (λ i. e i && not (zero i) && not (is_dots part)))

-- what is read behind the front
pub rest_of : (text : List ℕ) (n : ℕ) → take (length text - n) (drop n text) ≡ drop n text
rest_of text n = ap (λ m. take m (drop n text)) (sym (length-drop n text)) ∙ take-length (drop n text)
