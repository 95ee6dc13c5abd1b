-- The check of a name in one pass over a table.
use Rattle.std.proofs.Common.{◌≡◌, ℕ, zero, suc, ◌+◌, ◌<◌, ◌≤◌, Bool, true, false, not, ◌&&◌, ◌==◌, nat_lt, cond, List, [], ◌∷◌, length, drop, map, get_or, refl, sym, ap, ◌∙◌, arith, add-one}
use Rattle.std.specs.Prelude.{bit_or}
use Rattle.std.specs.List.{list_all, range_with_len}
use Rattle.std.proofs.Math.Seq.{drop-cons}
use Rattle.std.proofs.lemmas.Bool.Decides.{nat_tests}
use Rattle.std.proofs.lemmas.List.FromFn.{get_or-map-range_with_len}
use Rattle.std.proofs.lemmas.Nat.{le_or_l, le_or_r}
use Rattle.init_base.specs.Name.{dots_are_followed, is_name_byte, kind_of_byte}
use Rattle.init_base.specs.declared.name.TheConstants.{KINDS}

-- the table is the kind of each byte, by computation
table : KINDS ≡ map kind_of_byte (range_with_len 0 256)
table = refl

pub kind_in_table : (byte : ℕ) (d : ℕ) → byte < 256 → get_or KINDS byte d ≡ kind_of_byte byte
kind_in_table byte d small =
    ap (λ kinds. get_or kinds byte d) table ∙ get_or-map-range_with_len kind_of_byte 0 256 byte byte d small (omega arith)

pub kind_small : (byte : ℕ) → kind_of_byte byte ≤ 2
kind_small byte = grind (arith, nat_tests)

kind_of_name : (byte : ℕ) → nat_lt (kind_of_byte byte) 2 ≡ is_name_byte byte
kind_of_name byte = grind (arith, nat_tests)

kind_of_dot : (byte : ℕ) → (kind_of_byte byte == 1) ≡ (byte == 46)
kind_of_dot byte = grind (arith, nat_tests)

-- ---- marks

big : (n : ℕ) → 2 ≤ n → nat_lt n 2 ≡ false
big n h = grind (arith, nat_tests)

below : (n : ℕ) → nat_lt n 2 ≡ true → n < 2
below n e = grind (arith, nat_tests)

at_least : (n : ℕ) → nat_lt n 2 ≡ false → 2 ≤ n
at_least n e = grind (arith, nat_tests)

and_false : (b : Bool) → (b && false) ≡ false
and_false true = refl
and_false false = refl

or_small : (a b : ℕ) → nat_lt (bit_or a b) 2 ≡ (nat_lt a 2 && nat_lt b 2)
or_small zero b = refl
or_small (suc zero) zero = refl
or_small (suc zero) (suc zero) = refl
or_small (suc zero) (suc (suc b)) =
    let high : 2 ≤ bit_or 1 (suc (suc b)) = omega (arith, le_or_r 1 (suc (suc b))) in
    let other : 2 ≤ suc (suc b) = omega arith in
    big (bit_or 1 (suc (suc b))) high ∙ sym (big (suc (suc b)) other)
or_small (suc (suc a)) b =
    let high : 2 ≤ bit_or (suc (suc a)) b = omega (arith, le_or_l (suc (suc a)) b) in
    let other : 2 ≤ suc (suc a) = omega arith in
    big (bit_or (suc (suc a)) b) high ∙ rw (big (suc (suc a)) other) refl

-- ---- the bytes that are left

-- whether each dot is followed, also one that stands before the bytes where this is its kind
abbrev pub dots_behind : ℕ → List ℕ → Bool
dots_behind before rest = dots_are_followed (cond (before == 1) 46 0 ∷ rest)

before_dot : (before : ℕ) → (cond (before == 1) 46 0 == 46) ≡ (before == 1)
before_dot before = elim (before == 1) as (λ v. (cond v 46 0 == 46) ≡ v) [ true ↦ refl | false ↦ refl ]

same_dots : (b c : ℕ) (rest : List ℕ) → (b == 46) ≡ (c == 46) → dots_are_followed (b ∷ rest) ≡ dots_are_followed (c ∷ rest)
same_dots b c [] e = ap not e
same_dots b c (x ∷ rest) e = ap (λ v. not (v && x == 46) && dots_are_followed (x ∷ rest)) e

behind_kind : (byte : ℕ) (rest : List ℕ) → dots_behind (kind_of_byte byte) rest ≡ dots_are_followed (byte ∷ rest)
behind_kind byte rest =
    same_dots (cond (kind_of_byte byte == 1) 46 0) byte rest (before_dot (kind_of_byte byte) ∙ kind_of_dot byte)

shuffled : (seen name all apart dots : Bool) → (seen && (name && apart)) && (all && dots) ≡ seen && ((name && all) && (apart && dots))
shuffled false name all apart dots = refl
shuffled true false all apart dots = refl
shuffled true true false true dots = refl
shuffled true true false false dots = refl
shuffled true true true true dots = refl
shuffled true true true false dots = refl

byte_met : (byte : ℕ) (rest : List ℕ) (seen mark before kind : ℕ) → kind ≡ kind_of_byte byte
    → nat_lt mark 2 ≡ (nat_lt kind 2 && not (before == 1 && kind == 1))
    → (nat_lt (bit_or seen mark) 2 && (list_all is_name_byte rest && dots_behind kind rest))
    ≡ (nat_lt seen 2 && (list_all is_name_byte (byte ∷ rest) && dots_behind before (byte ∷ rest)))
byte_met byte rest seen mark before kind is noted =
    let name : nat_lt kind 2 ≡ is_name_byte byte = ap (λ k. nat_lt k 2) is ∙ kind_of_name byte in
    let dot : (kind == 1) ≡ (byte == 46) = ap (λ k. k == 1) is ∙ kind_of_dot byte in
    let behind : dots_behind kind rest ≡ dots_are_followed (byte ∷ rest) = ap (λ k. dots_behind k rest) is ∙ behind_kind byte rest in
    ap (λ v. v && (list_all is_name_byte rest && dots_behind kind rest)) (or_small seen mark ∙ ap (λ v. nat_lt seen 2 && v) noted)
    ∙ ap (λ v. (nat_lt seen 2 && (v && not (before == 1 && kind == 1))) && (list_all is_name_byte rest && dots_behind kind rest)) name
    ∙ ap (λ v. (nat_lt seen 2 && (is_name_byte byte && not (before == 1 && v))) && (list_all is_name_byte rest && dots_behind kind rest)) dot
    ∙ ap (λ v. (nat_lt seen 2 && (is_name_byte byte && not (before == 1 && byte == 46))) && (list_all is_name_byte rest && v)) behind
    ∙ shuffled (nat_lt seen 2) (is_name_byte byte) (list_all is_name_byte rest) (not (before == 1 && byte == 46)) (dots_are_followed (byte ∷ rest))
    ∙ ap (λ v. nat_lt seen 2 && ((is_name_byte byte && list_all is_name_byte rest) && (not (v && byte == 46) && dots_are_followed (byte ∷ rest)))) (sym (before_dot before))

-- what is noted of a byte, where the one before it is one of names
noted_small : (before kind : ℕ) → before < 2 → nat_lt (before + kind) 2 ≡ (nat_lt kind 2 && not (before == 1 && kind == 1))
noted_small before kind h = grind (arith, nat_tests)

-- the same where the one before it isn't
byte_past : (seen before kind : ℕ) (rest more : Bool) → (nat_lt before 2 ≡ false → nat_lt seen 2 ≡ false) → nat_lt before 2 ≡ false
    → (nat_lt (bit_or seen (before + kind)) 2 && more) ≡ (nat_lt seen 2 && rest)
byte_past seen before kind rest more h e =
    ap (λ v. v && more) (or_small seen (before + kind) ∙ ap (λ v. v && nat_lt (before + kind) 2) (h e))
    ∙ sym (ap (λ v. v && rest) (h e))

byte_either : (low : Bool) (byte : ℕ) (rest : List ℕ) (seen before kind : ℕ) → nat_lt before 2 ≡ low → kind ≡ kind_of_byte byte
    → (nat_lt before 2 ≡ false → nat_lt seen 2 ≡ false)
    → (nat_lt (bit_or seen (before + kind)) 2 && (list_all is_name_byte rest && dots_behind kind rest))
    ≡ (nat_lt seen 2 && (list_all is_name_byte (byte ∷ rest) && dots_behind before (byte ∷ rest)))
byte_either true byte rest seen before kind e is past =
    byte_met byte rest seen (before + kind) before kind is (noted_small before kind (below before e))
byte_either false byte rest seen before kind e is past = byte_past seen before kind _ _ past e

-- a byte that no name has was noted
pub past_more : (seen before kind : ℕ) → nat_lt kind 2 ≡ false → nat_lt (bit_or seen (before + kind)) 2 ≡ false
past_more seen before kind e =
    or_small seen (before + kind) ∙ ap (λ v. nat_lt seen 2 && v) (big (before + kind) (omega (arith, at_least kind e))) ∙ and_false (nat_lt seen 2)

-- one turn of the loop over the bytes
pub byte_more : (bytes : List ℕ) (i seen before kind : ℕ) (whole : Bool) → i < length bytes → kind ≡ kind_of_byte (get_or bytes i 0)
    → (nat_lt before 2 ≡ false → nat_lt seen 2 ≡ false)
    → (nat_lt seen 2 && (list_all is_name_byte (drop i bytes) && dots_behind before (drop i bytes))) ≡ whole
    → (nat_lt (bit_or seen (before + kind)) 2 && (list_all is_name_byte (drop (i + 1) bytes) && dots_behind kind (drop (i + 1) bytes))) ≡ whole
byte_more bytes i seen before kind whole below is past h =
    rw add-one (
    byte_either (nat_lt before 2) (get_or bytes i 0) (drop (suc i) bytes) seen before kind refl is past
    ∙ ap (λ (rest : List ℕ). nat_lt seen 2 && (list_all is_name_byte rest && dots_behind before rest)) (sym (drop-cons bytes i 0 below)) ∙ h
    )
