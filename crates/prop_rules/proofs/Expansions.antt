-- A text that is expanded piece by piece: what is left decides.
use Rattle.std.proofs.Common.{◌≡◌, ℕ, zero, suc, ◌+◌, ◌-◌, ◌<◌, ◌≤◌, List, [], ◌∷◌, ◌++◌, length, drop, slice_index, true, false, not, ◌&&◌, ◌||◌, if◌then◌else◌, ◌==◌, nat_lt, position, Option, Some, None, Result, Ok, Err, refl, sym, ap, ◌∙◌, append_assoc, arith}
use Rattle.std.specs.List.{list_all, list_any}
use Rattle.std.proofs.Math.Seq.{drop-cons}
use Rattle.std.proofs.lemmas.Bool.{false_from_ne_true, ltb-true}
use Rattle.std.proofs.lemmas.List.{drop-drop}
use Rattle.init_machine.specs.Expand.{Plain, Bad, Written, up_to, behind_brace, behind_dollar, expand, joined, pieces_from, values_of, piece_value, first_piece, within_limit}
use Rattle.init_machine.specs.Props.{Props, value_in}
use Rattle.init_machine.specs.declared.output.Cause.{Cause}
use Rattle.prop_rules.specs.Answers.{IsRefusal}
use Rattle.prop_rules.specs.Pieces.{piece_at}
use Rattle.prop_rules.specs.declared.expansion.ExpandRefusal.{ExpandRefusal}
use Rattle.prop_rules.specs.declared.expansion.ExpandRefusal.TheVariants.{BadForm, Absent, TooLong, NoMemory}

-- bytes that belong to the piece before are passed over
passed : (written place : ℕ) (text : List ℕ) → pieces_from written place text ≡ pieces_from 0 (place + written) (drop written text)
passed zero place text = ap (λ n. pieces_from 0 n text) (let same : place ≡ place + 0 = omega arith in same)
passed (suc written) place [] = refl
passed (suc written) place (b ∷ rest) =
    passed written (place + 1) rest ∙ ap (λ n. pieces_from 0 n (drop written rest)) (let same : (place + 1) + written ≡ place + suc written = omega arith in same)

-- the first piece at a place, and those behind it
first_and_rest : (text : List ℕ) (place written : ℕ) → place < length text → 1 ≤ written → written ≡ (piece_at text place).length
    → pieces_from 0 place (drop place text)
    ≡ (record { place = place; piece = (piece_at text place).piece }) ∷ pieces_from 0 (place + written) (drop (place + written) text)
first_and_rest text place written below some is =
    let rest = drop (place + 1) text in
    let front : drop place text ≡ slice_index text place ∷ rest = drop-cons text place 0 below ∙ ap (λ n. slice_index text place ∷ drop n text) (let same : suc place ≡ place + 1 = omega arith in same) in
    let behind : pieces_from (written - 1) (place + 1) rest ≡ pieces_from 0 (place + written) (drop (place + written) text) =
    passed (written - 1) (place + 1) rest
    ∙ ap (pieces_from 0 ((place + 1) + (written - 1))) (drop-drop (written - 1) (place + 1) text)
    ∙ ap (λ n. pieces_from 0 n (drop n text)) (let same : (place + 1) + (written - 1) ≡ place + written = omega arith in same) in
    ap (pieces_from 0 place) front
    ∙ ap (λ n. record { place = place; piece = (piece_at text place).piece } ∷ pieces_from (n - 1) (place + 1) rest) (sym is)
    ∙ ap (λ ps. record { place = place; piece = (piece_at text place).piece } ∷ ps) behind

join_more : (old new : List ℕ) (value rest : Result (List ℕ) Cause) → joined (Ok old) value ≡ Ok new → joined (Ok old) (joined value rest) ≡ joined (Ok new) rest
join_more old new (Ok v) (Ok vs) is =
    let same : old ++ v ≡ new = cc in
    let moved : old ++ (v ++ vs) ≡ new ++ vs = sym (append_assoc old v vs) ∙ ap (λ ns. ns ++ vs) same in
    ap (λ ns. Ok ns) moved
join_more old new (Ok v) (Err why) is = refl
join_more old new (Err why) rest is = cc

pub left_after : (props now : Props) (text : List ℕ) (place written : ℕ) (old new : List ℕ) (all : Result (List ℕ) Cause)
    → now ≡ props
    → place < length text → 1 ≤ written → written ≡ (piece_at text place).length
    → joined (Ok old) (piece_value (value_in props) place (piece_at text place).piece) ≡ Ok new
    → joined (Ok old) (values_of (value_in props) (pieces_from 0 place (drop place text))) ≡ all
    → joined (Ok new) (values_of (value_in now) (pieces_from 0 (place + written) (drop (place + written) text))) ≡ all
left_after props now text place written old new all same below some is grown left =
    let look_up = value_in props in
    ap (λ p. joined (Ok new) (values_of (value_in p) (pieces_from 0 (place + written) (drop (place + written) text)))) same
    ∙ sym (join_more old new (piece_value look_up place (piece_at text place).piece) (values_of look_up (pieces_from 0 (place + written) (drop (place + written) text))) grown)
    ∙ ap (λ ps. joined (Ok old) (values_of look_up ps)) (sym (first_and_rest text place written below some is))
    ∙ left

-- what fails decides
failed : (why : Cause) (old : List ℕ) (value rest all : Result (List ℕ) Cause)
    → joined (Ok old) value ≡ Err why → joined (Ok old) (joined value rest) ≡ all → all ≡ Err why
failed why old (Ok v) rest all is left = cc
failed why old (Err other) rest all is left = sym left ∙ is

by_refusal : (why : ExpandRefusal) (old : List ℕ) (value rest all : Result (List ℕ) Cause)
    → IsRefusal why (joined (Ok old) value) → joined (Ok old) (joined value rest) ≡ all → IsRefusal why all
by_refusal (BadForm place) old value rest all is left = failed _ old value rest all is left
by_refusal (Absent name) old value rest all is left = failed _ old value rest all is left
by_refusal TooLong old value rest all is left = failed _ old value rest all is left
by_refusal NoMemory old value rest all is left = tt

pub fails_at : (why : ExpandRefusal) (props : Props) (text : List ℕ) (place : ℕ) (old : List ℕ) (all : Result (List ℕ) Cause)
    → place < length text → 1 ≤ (piece_at text place).length
    → IsRefusal why (joined (Ok old) (piece_value (value_in props) place (piece_at text place).piece))
    → joined (Ok old) (values_of (value_in props) (pieces_from 0 place (drop place text))) ≡ all
    → IsRefusal why all
fails_at why props text place old all below some is left =
    let written = (piece_at text place).length in
    by_refusal why old (piece_value (value_in props) place (piece_at text place).piece)
    (values_of (value_in props) (pieces_from 0 (place + written) (drop (place + written) text))) all is
    (ap (λ ps. joined (Ok old) (values_of (value_in props) ps)) (sym (first_and_rest text place written below some refl)) ∙ left)

-- each piece is written with a byte at least
abbrev two_bytes : Written
two_bytes = record { piece = Plain (36 ∷ []); length = 2 }

abbrev one_byte : Written
one_byte = record { piece = Bad; length = 1 }

abbrev plain : ℕ → Written
plain b = record { piece = Plain (b ∷ []); length = 1 }

up_to_some : (end : Option ℕ) (text : List ℕ) → 1 ≤ (up_to end text).length
up_to_some None text = omega arith
up_to_some (Some end) text = omega arith

dollar_some : (text : List ℕ) → 1 ≤ (behind_dollar text).length
dollar_some [] = omega arith
dollar_some (b ∷ rest) =
    elim (b == 36) as (λ t. 1 ≤ (if t then two_bytes else if b == 123 then behind_brace rest else one_byte).length) [
      | true ↦ omega arith
      | false ↦ elim (b == 123) as (λ t. 1 ≤ (if t then behind_brace rest else one_byte).length) [ true ↦ up_to_some (position (λ c. c == 125) rest) rest | false ↦ omega arith ]
    ]

pub first_some : (b : ℕ) (rest : List ℕ) → 1 ≤ (first_piece b rest).length
first_some b rest = elim (b == 36) as (λ t. 1 ≤ (if t then behind_dollar rest else plain b).length) [ true ↦ dollar_some rest | false ↦ omega arith ]

-- a text without `$` stands for itself
pub plain_values : (look_up : List ℕ → Option (List ℕ)) (place : ℕ) (text : List ℕ) → list_all (λ b. not (b == 36)) text ≡ true
    → values_of look_up (pieces_from 0 place text) ≡ Ok text
plain_values look_up place [] is = refl
plain_values look_up place (b ∷ rest) is =
    elim (b == 36) as
    (λ t. (not t && list_all (λ c. not (c == 36)) rest) ≡ true
    → (let first = (if t then behind_dollar rest else plain b) in
    joined (piece_value look_up place first.piece) (values_of look_up (pieces_from (first.length - 1) (place + 1) rest)) ≡ Ok (b ∷ rest))) [
      | true ↦ λ h. cc
      | false ↦ λ h. ap (joined (Ok (b ∷ []))) (plain_values look_up (place + 1) rest h)
    ] is

-- a text without `$` that isn't too long is its own expansion
pub own_expansion : (look_up : List ℕ → Option (List ℕ)) (text : List ℕ) → length text ≤ 4096 → list_all (λ b. not (b == 36)) text ≡ true → expand look_up text ≡ Ok text
unfolding expand
own_expansion look_up text few is =
    ap within_limit (plain_values look_up 0 text is)
    ∙ rw (false_from_ne_true (nat_lt 4096 (length text)) (λ more. absurd (omega (arith, ltb-true _ _ more, few)))) refl

-- no byte is one exactly where none is found
pub none_is : (byte : ℕ) (text : List ℕ) → not (list_any (λ b. b == byte) text) ≡ list_all (λ b. not (b == byte)) text
none_is byte [] = refl
none_is byte (b ∷ text) =
    elim (b == byte) as (λ v. not (v || list_any (λ b. b == byte) text) ≡ not v && list_all (λ b. not (b == byte)) text) [
      | true ↦ refl
      | false ↦ none_is byte text
    ]
