-- The nodes of a name, one dotted prefix after another, as its bytes are passed.
use Rattle.std.proofs.Common.{◌≡◌, ℕ, suc, ◌+◌, ◌/◌, ◌<◌, ◌≤◌, Bool, true, false, not, ◌||◌, ◌==◌, List, [], ◌∷◌, ◌++◌, take, drop, length, get_or, refl, sym, ap, ◌∙◌, arith, add-one, length-append, if◌then◌else◌}
use Rattle.std.proofs.lemmas.List.{drop_all, take_all, take_more}
use Rattle.std.specs.List.{list_any}
use Rattle.std.specs.Str.{bytes_eq}
use Rattle.std.proofs.Math.Seq.{drop-cons}
use Rattle.std.proofs.lemmas.Bool.Decides.{nat_tests}
use Rattle.indexmap.specs.IndexSet.{insert_key}
use Rattle.init_machine.specs.internal.Nodes.{SameMembers, total_beyond, words_beyond}
use Rattle.init_machine.specs.Words.{is_among, last_part_from, node_words, prefixes_from}
use Rattle.init_machine.proofs.DistinctSums.{among-append, bytes_eq-sym, same_bytes, there_already}

-- the prefixes that end at a place or behind it
abbrev pub prefixes_at : List ℕ → ℕ → List (List ℕ)
prefixes_at name at = prefixes_from (take at name) (drop at name)

pub part-append : (n : ℕ) (front : List ℕ) (b : ℕ) → last_part_from n (front ++ b ∷ []) ≡ (if b == 46 then 0 else last_part_from n front + 1)
part-append n [] b = refl
part-append n (c ∷ front) b = grind (arith, part-append 0 front b, part-append (n + 1) front b)

-- past one byte more
pub part-turn : (name : List ℕ) (at : ℕ) → at < length name
    → last_part_from 0 (take (at + 1) name) ≡ (if get_or name at 0 == 46 then 0 else last_part_from 0 (take at name) + 1)
part-turn name at below = ap (last_part_from 0) (take_more name at 0 below) ∙ part-append 0 (take at name) (get_or name at 0)

pub prefixes-turn : (name : List ℕ) (at : ℕ) → at < length name
    → prefixes_at name at ≡ (if get_or name at 0 == 46 then take at name ∷ prefixes_at name (at + 1) else prefixes_at name (at + 1))
prefixes-turn name at below =
    let front : take at name ++ get_or name at 0 ∷ [] ≡ take (at + 1) name = sym (take_more name at 0 below) in
    let rest : drop (suc at) name ≡ drop (at + 1) name = ap (λ n. drop n name) (sym (add-one at)) in
    ap (prefixes_from (take at name)) (drop-cons name at 0 below)
    ∙ ap (λ longer. if get_or name at 0 == 46 then take at name ∷ longer else longer) (λ i. prefixes_from (front i) (rest i))

-- which a prefix that a set takes in adds to its members
pub among_any : (xs : List (List ℕ)) (x : List ℕ) → list_any (bytes_eq x) xs ≡ is_among xs x
among_any [] x = refl
among_any (y ∷ ys) x = ap (λ b. b || list_any (bytes_eq x) ys) (bytes_eq-sym x y) ∙ ap (λ b. bytes_eq y x || b) (among_any ys x)

or-at_end : (a b : Bool) → (a || (b || false)) ≡ (b || a)
or-at_end true true = refl
or-at_end true false = refl
or-at_end false true = refl
or-at_end false false = refl

among-insert_key : (known : List (List ℕ)) (x z : List ℕ) → is_among (insert_key bytes_eq known x) z ≡ (bytes_eq x z || is_among known z)
among-insert_key known x z =
    elim (list_any (bytes_eq x) known) as (λ b. list_any (bytes_eq x) known ≡ b → is_among (if b then known else known ++ x ∷ []) z ≡ (bytes_eq x z || is_among known z)) [
      | true ↦ λ t. there_already x known z (sym (among_any known x) ∙ t)
      | false ↦ λ f. among-append known (x ∷ []) z ∙ or-at_end (is_among known z) (bytes_eq x z)
    ] refl

-- a prefix that is taken in, and isn't among the others, adds nothing to them
left_false : (a b : Bool) → (a || b) ≡ false → a ≡ false
left_false true b h = absurd cc
left_false false b h = refl

right_false : (a b : Bool) → (a || b) ≡ false → b ≡ false
right_false true b h = absurd cc
right_false false b h = h

pub beyond-insert_key : (w : List ℕ → ℕ) (known : List (List ℕ)) (x : List ℕ) (ps : List (List ℕ)) → is_among ps x ≡ false
    → total_beyond w (insert_key bytes_eq known x) ps ≡ total_beyond w known ps
beyond-insert_key w known x [] apart = refl
beyond-insert_key w known x (p ∷ ps) apart =
    let other : bytes_eq x p ≡ false = bytes_eq-sym x p ∙ left_false (bytes_eq p x) (is_among ps x) apart in
    let same : is_among (insert_key bytes_eq known x) p ≡ is_among known p = among-insert_key known x p ∙ ap (λ b. b || is_among known p) other in
    ap (λ b. (if b then 0 else w p) + total_beyond w (insert_key bytes_eq known x) ps) same
    ∙ ap (λ n. (if is_among known p then 0 else w p) + n) (beyond-insert_key w known x ps (right_false (bytes_eq p x) (is_among ps x) apart))

-- longer prefixes are others
other_length : (x y : List ℕ) → length y < length x → bytes_eq x y ≡ false
other_length x y shorter =
    elim (bytes_eq x y) as (λ b. bytes_eq x y ≡ b → b ≡ false) [
      | true ↦ λ t. let same : length x ≡ length y = ap length (same_bytes x y t) in absurd (omega arith)
      | false ↦ λ f. refl
    ] refl

longer_others : (longer rest front : List ℕ) → length front < length longer → is_among (prefixes_from longer rest) front ≡ false
longer_others longer [] front shorter = ap (λ b. b || false) (other_length longer front shorter)
longer_others longer (b ∷ rest) front shorter =
    let more : length front < length (longer ++ b ∷ []) = omega (arith, length-append longer (b ∷ [])) in
    let behind = longer_others (longer ++ b ∷ []) rest front more in
    elim (b == 46) as (λ t. is_among (if t then longer ∷ prefixes_from (longer ++ b ∷ []) rest else prefixes_from (longer ++ b ∷ []) rest) front ≡ false) [
      | true ↦ ap (λ c. c || is_among (prefixes_from (longer ++ b ∷ []) rest) front) (other_length longer front shorter) ∙ behind
      | false ↦ behind
    ]

pub others_behind : (name : List ℕ) (at : ℕ) → at < length name → is_among (prefixes_at name (at + 1)) (take at name) ≡ false
others_behind name at below =
    let longer : length (take at name) < length (take (at + 1) name) =
    omega (arith, ap length (take_more name at 0 below), length-append (take at name) (get_or name at 0 ∷ [])) in
    longer_others (take (at + 1) name) (drop (at + 1) name) (take at name) longer

or-swap : (a b c : Bool) → (a || (b || c)) ≡ (b || (a || c))
or-swap true true c = refl
or-swap true false c = refl
or-swap false true c = refl
or-swap false false c = refl

pub members-insert_key : (known : List (List ℕ)) (x : List ℕ) (ps all : List (List ℕ)) → SameMembers ((x ∷ ps) ++ known) all
    → SameMembers (ps ++ insert_key bytes_eq known x) all
members-insert_key known x ps all same z =
    among-append ps (insert_key bytes_eq known x) z
    ∙ ap (λ b. is_among ps z || b) (among-insert_key known x z)
    ∙ or-swap (is_among ps z) (bytes_eq x z) (is_among known z)
    ∙ ap (λ b. bytes_eq x z || b) (sym (among-append ps known z))
    ∙ same z

-- the words of a prefix's node, where a set says whether it has it
pub words_of_known : (known : List (List ℕ)) (prefix : List ℕ) → list_any (bytes_eq prefix) known ≡ true
    → 0 ≡ (if is_among known prefix then 0 else node_words prefix)
words_of_known known prefix there = sym (ap (λ b. if b then 0 else node_words prefix) (sym (among_any known prefix) ∙ there))

pub words_of_new : (known : List (List ℕ)) (prefix : List ℕ) (part words : ℕ) → list_any (bytes_eq prefix) known ≡ false
    → part ≡ last_part_from 0 prefix → words ≡ 5 + (part + 7) / 8 → words ≡ (if is_among known prefix then 0 else node_words prefix)
words_of_new known prefix part words absent is of_part =
    of_part ∙ ap (λ n. 5 + (n + 7) / 8) is ∙ sym (ap (λ b. if b then 0 else node_words prefix) (sym (among_any known prefix) ∙ absent))

pub not_true : (b : Bool) → true ≡ not b → b ≡ false
not_true true h = absurd cc
not_true false h = refl

pub not_false : (b : Bool) → false ≡ not b → b ≡ true
not_false true h = refl
not_false false h = absurd cc

-- at the end of a name its last prefix is left, which is the name
pub prefixes-end : (name : List ℕ) (at : ℕ) → length name ≤ at → prefixes_at name at ≡ name ∷ []
prefixes-end name at past = λ i. prefixes_from (take_all at name past i) (drop_all at name past i)

-- past a dot, and past another byte
pub dot-part : (name : List ℕ) (at : ℕ) → at < length name → (get_or name at 0 == 46) ≡ true → 0 ≡ last_part_from 0 (take (at + 1) name)
dot-part name at below dot = sym (part-turn name at below ∙ ap (λ b. if b then 0 else last_part_from 0 (take at name) + 1) dot)

pub byte-part : (name : List ℕ) (at part : ℕ) → at < length name → (get_or name at 0 == 46) ≡ false → part ≡ last_part_from 0 (take at name)
    → part + 1 ≡ last_part_from 0 (take (at + 1) name)
byte-part name at part below other is =
    ap (λ n. n + 1) is ∙ sym (part-turn name at below ∙ ap (λ b. if b then 0 else last_part_from 0 (take at name) + 1) other)

pub dot-prefixes : (name : List ℕ) (at : ℕ) → at < length name → (get_or name at 0 == 46) ≡ true
    → prefixes_at name at ≡ take at name ∷ prefixes_at name (at + 1)
dot-prefixes name at below dot =
    prefixes-turn name at below ∙ ap (λ b. if b then take at name ∷ prefixes_at name (at + 1) else prefixes_at name (at + 1)) dot

pub byte-prefixes : (name : List ℕ) (at : ℕ) → at < length name → (get_or name at 0 == 46) ≡ false
    → prefixes_at name at ≡ prefixes_at name (at + 1)
byte-prefixes name at below other =
    prefixes-turn name at below ∙ ap (λ b. if b then take at name ∷ prefixes_at name (at + 1) else prefixes_at name (at + 1)) other

pub dot-left : (known : List (List ℕ)) (name : List ℕ) (at words more all : ℕ) → at < length name → (get_or name at 0 == 46) ≡ true
    → more ≡ (if is_among known (take at name) then 0 else node_words (take at name))
    → words + words_beyond known (prefixes_at name at) ≡ all
    → words + more + words_beyond known (prefixes_at name (at + 1)) ≡ all
dot-left known name at words more all below dot is h =
    let turn : words_beyond known (prefixes_at name at) ≡ (if is_among known (take at name) then 0 else node_words (take at name)) + words_beyond known (prefixes_at name (at + 1)) =
    ap (words_beyond known) (dot-prefixes name at below dot) in
    omega (arith, turn, is, h)

pub byte-left : (known : List (List ℕ)) (name : List ℕ) (at words all : ℕ) → at < length name → (get_or name at 0 == 46) ≡ false
    → words + words_beyond known (prefixes_at name at) ≡ all → words + words_beyond known (prefixes_at name (at + 1)) ≡ all
byte-left known name at words all below other h = ap (λ ps. words + words_beyond known ps) (sym (byte-prefixes name at below other)) ∙ h

-- the same, where the set takes the prefix in
pub dot-added : (known more_known : List (List ℕ)) (name : List ℕ) (at words more all : ℕ) → at < length name → (get_or name at 0 == 46) ≡ true
    → more ≡ (if is_among known (take at name) then 0 else node_words (take at name))
    → more_known ≡ insert_key bytes_eq known (take at name)
    → words + words_beyond known (prefixes_at name at) ≡ all
    → words + more + words_beyond more_known (prefixes_at name (at + 1)) ≡ all
dot-added known more_known name at words more all below dot is taken h =
    ap (λ ks. words + more + words_beyond ks (prefixes_at name (at + 1))) taken
    ∙ ap (λ n. words + more + n) (beyond-insert_key node_words known (take at name) (prefixes_at name (at + 1)) (others_behind name at below))
    ∙ dot-left known name at words more all below dot is h

pub dot-members : (known more_known : List (List ℕ)) (name : List ℕ) (at : ℕ) (all : List (List ℕ)) → at < length name → (get_or name at 0 == 46) ≡ true
    → more_known ≡ insert_key bytes_eq known (take at name)
    → SameMembers (prefixes_at name at ++ known) all → SameMembers (prefixes_at name (at + 1) ++ more_known) all
dot-members known more_known name at all below dot taken same =
    let turned : SameMembers ((take at name ∷ prefixes_at name (at + 1)) ++ known) all =
    λ z. ap (λ ps. is_among (ps ++ known) z) (sym (dot-prefixes name at below dot)) ∙ same z in
    λ z. ap (λ ks. is_among (prefixes_at name (at + 1) ++ ks) z) taken ∙ members-insert_key known (take at name) (prefixes_at name (at + 1)) all turned z

pub byte-members : (known : List (List ℕ)) (name : List ℕ) (at : ℕ) (all : List (List ℕ)) → at < length name → (get_or name at 0 == 46) ≡ false
    → SameMembers (prefixes_at name at ++ known) all → SameMembers (prefixes_at name (at + 1) ++ known) all
byte-members known name at all below other same z =
    ap (λ ps. is_among (ps ++ known) z) (sym (byte-prefixes name at below other)) ∙ same z

pub end-members : (known more_known : List (List ℕ)) (name : List ℕ) (at : ℕ) (all : List (List ℕ)) → length name ≤ at
    → more_known ≡ insert_key bytes_eq known name
    → SameMembers (prefixes_at name at ++ known) all → SameMembers more_known all
end-members known more_known name at all past taken same =
    let turned : SameMembers ((name ∷ []) ++ known) all = λ z. ap (λ ps. is_among (ps ++ known) z) (sym (prefixes-end name at past)) ∙ same z in
    λ z. ap (λ ks. is_among ks z) taken ∙ members-insert_key known name [] all turned z

pub is_dot : (b : ℕ) → b ≡ 46 → (b == 46) ≡ true
is_dot b e = grind (arith, nat_tests)

pub is_no_dot : (b : ℕ) → (b ≡ 46 → ⊥) → (b == 46) ≡ false
is_no_dot b other = grind (arith, nat_tests)
