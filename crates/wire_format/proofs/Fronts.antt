-- What bytes that are added change of a front.
use Rattle.std.proofs.Common.{◌≡◌, ℕ, ◌+◌, ◌<◌, ◌≤◌, true, false, nat_lt, List, [], ◌++◌, length, take, drop, slice_range, ◌-◌, ◌==◌, refl, ap, sym, subst, ◌∙◌, inl, inr, arith, length-append}
use Rattle.std.proofs.lemmas.Bool.{cases_Bool, cond_both, ltb-true, ltb-false}
use Rattle.std.proofs.lemmas.List.{append_assoc, drop-append-le, drop_all, length-take, take-append-drop, take_rest}
use Rattle.wire_format.specs.Format.{first, second, word_from}
use Rattle.wire_format.specs.Wire.{first_message, first_shape, front_by, front_of, second_message, second_shape, shape_by, shape_of, value_shape, waits, whole, no_message, Front, IsThere}
use Rattle.wire_format.specs.declared.message.Message.{Message}
use Rattle.wire_format.specs.declared.shape.Shape.{Shape}
use Rattle.wire_format.specs.declared.shape.Shape.TheVariants as shape
use Rattle.wire_format.proofs.Shapes.{shape_stays, shape_takes, size_of, wanted}
use Rattle.wire_format.proofs.Words.{range_stays, word_stays}

-- ---- a whole message is there

value_there : (have name value : ℕ) → name ≤ 1024 → IsThere have (value_shape have name value)
value_there have name value small =
    cond_both (nat_lt have (12 + name)) _ _ (λ s. IsThere have s) (λ short. let lt = ltb-true _ _ short in (lt, omega arith))
    (λ long. cond_both (nat_lt 8192 value) _ _ (λ s. IsThere have s) (λ _. tt)
    (λ fits. let le = ltb-false _ _ fits in cond_both (nat_lt have (12 + name + value)) _ _ (λ s. IsThere have s) (λ short. let lt = ltb-true _ _ short in (lt, omega arith))
    (λ all. ltb-false _ _ all)))

second_there : (have name value : ℕ) → IsThere have (second_shape have name value)
second_there have name value =
    cond_both (nat_lt have 8) _ _ (λ s. IsThere have s) (λ short. let lt = ltb-true _ _ short in (lt, omega arith))
    (λ long. cond_both (nat_lt 1024 name) _ _ (λ s. IsThere have s) (λ _. tt) (λ fits. value_there have name value (ltb-false _ _ fits)))

first_there : (have : ℕ) → IsThere have (first_shape have)
first_there have = cond_both (nat_lt have 128) _ _ (λ s. IsThere have s) (λ short. let lt = ltb-true _ _ short in (lt, omega arith)) (λ all. ltb-false _ _ all)

pub shape_there : (have command name value : ℕ) → IsThere have (shape_by have command name value)
shape_there have command name value =
    cond_both (nat_lt have 4) _ _ (λ s. IsThere have s) (λ short. let lt = ltb-true _ _ short in (lt, omega arith))
    (λ _. cond_both (command == first) _ _ (λ s. IsThere have s) (λ _. first_there have)
    (λ _. cond_both (command == second) _ _ (λ s. IsThere have s) (λ _. second_there have name value) (λ _. tt)))

-- ---- bytes that are added

pub shape_of_stays : (bytes more : List ℕ) → waits (shape_of bytes) ≡ false → shape_of (bytes ++ more) ≡ shape_of bytes
shape_of_stays bytes more told =
    let name_stays : 8 ≤ length bytes → word_from (bytes ++ more) 4 ≡ word_from bytes 4 = λ le. word_stays bytes more 4 le in
    let value_stays : 8 ≤ length bytes → 12 + word_from bytes 4 ≤ length bytes
    → word_from (bytes ++ more) (8 + word_from (bytes ++ more) 4) ≡ word_from bytes (8 + word_from bytes 4)
    = λ le there. ap (λ name. word_from (bytes ++ more) (8 + name)) (name_stays le) ∙ word_stays bytes more (8 + word_from bytes 4) (omega arith) in
    ap (λ have. shape_by have (word_from (bytes ++ more) 0) (word_from (bytes ++ more) 4) (word_from (bytes ++ more) (8 + word_from (bytes ++ more) 4))) (length-append bytes more)
    ∙ shape_stays (length bytes) (length more) (word_from bytes 0) (word_from bytes 4) (word_from bytes (8 + word_from bytes 4)) _ _ _
    (λ le. word_stays bytes more 0 le) name_stays value_stays told

-- a front to whose end bytes are added
abbrev pub added : List ℕ → Front → Front
added more (whole message left) = whole message (left ++ more)
added more (no_message rest) = no_message rest

first_stays : (bytes more : List ℕ) → 128 ≤ length bytes → first_message (bytes ++ more) ≡ first_message bytes
first_stays bytes more there =
    let name : slice_range (bytes ++ more) 4 36 ≡ slice_range bytes 4 36 = range_stays bytes more 4 36 (omega arith) in
    let value : slice_range (bytes ++ more) 36 128 ≡ slice_range bytes 36 128 = range_stays bytes more 36 128 there in
    rw name (rw value refl)

second_stays : (bytes more : List ℕ) (name value : ℕ) → 12 + name + value ≤ length bytes
    → second_message (bytes ++ more) name value ≡ second_message bytes name value
second_stays bytes more name value there =
    let of_name : slice_range (bytes ++ more) 8 (8 + name) ≡ slice_range bytes 8 (8 + name) = range_stays bytes more 8 (8 + name) (omega arith) in
    let of_value : slice_range (bytes ++ more) (12 + name) (12 + name + value) ≡ slice_range bytes (12 + name) (12 + name + value)
    = range_stays bytes more (12 + name) (12 + name + value) there in
    rw of_name (rw of_value refl)

front_by_stays : (s : Shape) (bytes more : List ℕ) → IsThere (length bytes) s → waits s ≡ false
    → front_by s (bytes ++ more) ≡ added more (front_by s bytes)
front_by_stays shape.First bytes more there told = cc (first_stays bytes more there, drop-append-le 128 bytes more there)
front_by_stays (shape.Second name value) bytes more there told =
    cc (second_stays bytes more name value there, drop-append-le (12 + name + value) bytes more there)
front_by_stays (shape.Wants len) bytes more there told = cc
front_by_stays (shape.BadCommand word) bytes more there told = refl
front_by_stays (shape.BadLength len) bytes more there told = refl

pub front_stays : (bytes more : List ℕ) → waits (shape_of bytes) ≡ false → front_of (bytes ++ more) ≡ added more (front_of bytes)
unfolding front_of
front_stays bytes more told = ap (λ s. front_by s (bytes ++ more)) (shape_of_stays bytes more told)
    ∙ front_by_stays (shape_of bytes) bytes more (shape_there (length bytes) (word_from bytes 0) (word_from bytes 4) (word_from bytes (8 + word_from bytes 4))) told

-- ---- a front that waits

none_whole : (s : Shape) (bytes : List ℕ) (message : Message) (left : List ℕ) → waits s ≡ true → front_by s bytes ≡ whole message left → ⊥
none_whole shape.First bytes message left waiting is = cc
none_whole (shape.Second name value) bytes message left waiting is = cc
none_whole (shape.Wants len) bytes message left waiting is = cc
none_whole (shape.BadCommand word) bytes message left waiting is = cc
none_whole (shape.BadLength len) bytes message left waiting is = cc

-- no message is whole of which more is waited for
pub waiting_is_not_whole : (bytes : List ℕ) (message : Message) (left : List ℕ) → waits (shape_of bytes) ≡ true → front_of bytes ≡ whole message left → ⊥
unfolding front_of
waiting_is_not_whole bytes message left = none_whole (shape_of bytes) bytes message left

none_behind : (s : Shape) (bytes : List ℕ) (message : Message) (left : List ℕ) → length bytes ≤ size_of s → front_by s bytes ≡ whole message left → left ≡ []
none_behind shape.First bytes message left le is = cc (drop_all 128 bytes le)
none_behind (shape.Second name value) bytes message left le is = cc (drop_all (12 + name + value) bytes le)
none_behind (shape.Wants len) bytes message left le is = cc
none_behind (shape.BadCommand word) bytes message left le is = cc
none_behind (shape.BadLength len) bytes message left le is = cc

-- what completes a message, if no more is added than was waited for, ends with it
pub completed : (bytes more : List ℕ) (len : ℕ) → shape_of bytes ≡ shape.Wants len → length (bytes ++ more) ≤ len
    → (message : Message) (left : List ℕ) → front_of (bytes ++ more) ≡ whole message left → left ≡ []
unfolding front_of
completed bytes more len is few message left front =
    let name_stays : 8 ≤ length bytes → word_from (bytes ++ more) 4 ≡ word_from bytes 4 = λ le. word_stays bytes more 4 le in
    let value_stays : 8 ≤ length bytes → 12 + word_from bytes 4 ≤ length bytes
    → word_from (bytes ++ more) (8 + word_from (bytes ++ more) 4) ≡ word_from bytes (8 + word_from bytes 4)
    = λ le there. ap (λ name. word_from (bytes ++ more) (8 + name)) (name_stays le) ∙ word_stays bytes more (8 + word_from bytes 4) (omega arith) in
    let takes : wanted (shape_of bytes) ≤ size_of (shape_by (length bytes + length more) (word_from (bytes ++ more) 0) (word_from (bytes ++ more) 4)
    (word_from (bytes ++ more) (8 + word_from (bytes ++ more) 4)))
    = shape_takes (length bytes) (length more) (word_from bytes 0) (word_from bytes 4) (word_from bytes (8 + word_from bytes 4)) _ _ _
    (λ le. word_stays bytes more 0 le) name_stays value_stays in
    let both : length (bytes ++ more) ≡ length bytes + length more = length-append bytes more in
    let of_all : wanted (shape_of bytes) ≤ size_of (shape_of (bytes ++ more)) = rw both takes in
    let same : wanted (shape_of bytes) ≡ len = ap wanted is in
    none_behind (shape_of (bytes ++ more)) (bytes ++ more) message left (omega arith) front

-- the same, of a tail with the front of a piece behind it
pub filled : (tail after left : List ℕ) (count len : ℕ) → shape_of tail ≡ shape.Wants len → after ≡ tail ++ take count left → count ≤ len - length tail
    → (message : Message) (behind : List ℕ) → front_of after ≡ whole message behind → behind ≡ []
filled tail after left count len is is_after few message behind front =
    let lt : (length tail < len) × (len ≤ 9228) = subst (λ s. IsThere (length tail) s) is (shape_there (length tail) (word_from tail 0) (word_from tail 4) (word_from tail (8 + word_from tail 4))) in
    let below : length tail < len = lt.0 in
    let all : length (tail ++ take count left) ≤ len = omega (arith, length-append tail (take count left), length-take count left) in
    completed tail (take count left) len is all message behind (ap front_of (sym is_after) ∙ front)

-- what is moved from the piece to the tail leaves both together
pub moved_on : (stream tail after left : List ℕ) (count : ℕ) → stream ≡ tail ++ left → after ≡ tail ++ take count left
    → stream ≡ after ++ take (length left - count) (drop count left)
moved_on stream tail after left count is is_after =
    is ∙ ap (λ l. tail ++ l) (sym (take-append-drop count left)) ∙ sym (append_assoc tail (take count left) (drop count left))
    ∙ (rw is_after (ap (λ l. tail ++ take count left ++ l) (sym (take_rest left count))))

-- bytes that are added behind a whole message stand behind what is left
pub whole_stays : (bytes more : List ℕ) (message : Message) (left : List ℕ) → front_of bytes ≡ whole message left → front_of (bytes ++ more) ≡ whole message (left ++ more)
whole_stays bytes more message left front = elim (cases_Bool (waits (shape_of bytes))) [
  | inl waiting ↦ absurd (waiting_is_not_whole bytes message left waiting front)
  | inr told ↦ front_stays bytes more told ∙ ap (added more) front
]
