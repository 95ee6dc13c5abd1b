-- The longest name that is a front of another, by looking up each front.
use Rattle.std.proofs.Common.{◌≡◌, ℕ, suc, zero, ◌+◌, ◌-◌, ◌<◌, ◌≤◌, inl, inr, ◌⊎◌, ◌||◌, Bool, true, false, cond, nat_lt, Option, Some, None, List, [], ◌∷◌, ◌++◌, length, length-append, take, take-take, refl, ap, sym, ◌∙◌, subst, find, filter, arith}
use Rattle.std.proofs.Math.Seq.{take-append_seam}
use Rattle.std.proofs.lemmas.Bool.{cases_lt, ltb-true, lt-ltb, false_from_ne_true}
use Rattle.std.proofs.lemmas.List.{length-take}
use Rattle.std.specs.Cmp.Lexicographic.{same_text, other_text}
use Rattle.std.specs.Map.{lookup}
use Rattle.std.specs.Option.{option_map}
use Rattle.std.specs.Str.{bytes_eq}
use Rattle.init_machine.specs.Policy.{ContextLine, is_line_for, is_prefix_for, longest, longer}
use Rattle.init_machine.specs.declared.policy.Context.{Context}
use Rattle.prop_contexts.specs.NameLines.{context_in, named, has_name}
use Rattle.prop_contexts.specs.Walks.{IsWalked}
use Rattle.prop_contexts.specs.declared.names.Front.{Front}
use Rattle.prop_contexts.proofs.Entries.{entry_lines}

abbrev pub or_else : {A : Type 0} → Option A → Option A → Option A
or_else (Some x) other = Some x
or_else None other = other

-- the line for the first n bytes of a name, else for one byte less, and so on
abbrev pub down : List ℕ → List ContextLine → ℕ → Option ContextLine
down name lines zero = find (is_line_for []) lines
down name lines (suc n) = or_else (find (is_line_for (take (suc n) name)) lines) (down name lines n)

-- no longer front has a line
pub record IsLeft (name : List ℕ) (lines : List ContextLine) (front : List ℕ) : Type 0 where
  pub is : front ≡ take (length front) name
  pub decides : down name lines (length front) ≡ down name lines (length name)

-- ---- texts

same : (xs ys : List ℕ) → bytes_eq xs ys ≡ true → xs ≡ ys
same xs ys h = same_text xs ys (sym h)

-- a line for a front, and its length
front_length : (name : List ℕ) (n : ℕ) (line : ContextLine) → n ≤ length name → is_line_for (take n name) line ≡ true → length line.name ≡ n
front_length name n line fits h = sym (ap length (same (take n name) line.name h)) ∙ omega (arith, length-take n name)

prefix_is : (name : List ℕ) (line : ContextLine) → is_prefix_for name line ≡ true → (line.name ≡ take (length line.name) name) × (length line.name ≤ length name)
prefix_is name line h =
    let is : line.name ≡ take (length line.name) name = same line.name (take (length line.name) name) h in
    (is, omega (arith, ap length is, length-take (length line.name) name))

-- the same text
itself : (xs : List ℕ) → bytes_eq xs xs ≡ true
itself xs = elim (bytes_eq xs xs) as (λ v. bytes_eq xs xs ≡ v → bytes_eq xs xs ≡ true) [ true ↦ λ h. h | false ↦ λ h. absurd (other_text xs xs (sym h) refl) ] refl

no_line : (name : List ℕ) (n : ℕ) (line : ContextLine) → n ≤ length name → (length line.name ≡ n → ⊥) → is_line_for (take n name) line ≡ false
no_line name n line fits other = false_from_ne_true _ (λ h. other (front_length name n line fits h))

no_prefix : (name : List ℕ) (n : ℕ) (line : ContextLine) → n ≤ length name → is_prefix_for name line ≡ false → is_line_for (take n name) line ≡ false
no_prefix name n line fits other = false_from_ne_true _ (λ h.
    let is : take n name ≡ line.name = same (take n name) line.name h in
    let long : length line.name ≡ n = front_length name n line fits h in
    other_text line.name (take (length line.name) name) (sym other) (sym is ∙ ap (λ k. take k name) (sym long)))

-- ---- a line that no front of so many bytes and less is for

pub other_head : (name : List ℕ) (lines : List ContextLine) (line : ContextLine) (n : ℕ)
    → ((k : ℕ) → k ≤ n → is_line_for (take k name) line ≡ false) → down name (line ∷ lines) n ≡ down name lines n
other_head name lines line zero other = rw (other zero (omega arith)) refl
other_head name lines line (suc n) other =
    rw (other (suc n) (omega arith)) (ap (or_else (find (is_line_for (take (suc n) name)) lines)) (other_head name lines line n (λ k h. other k (omega arith))))

-- ---- a line whose name is a front

-- what is found has so many bytes, or at most so many

abbrev IsOf : ℕ → Option ContextLine → Type 0
IsOf n None = Unit {0}
IsOf n (Some line) = length line.name ≡ n

abbrev IsUpTo : ℕ → Option ContextLine → Type 0
IsUpTo n None = Unit {0}
IsUpTo n (Some line) = length line.name ≤ n

find_of : (name : List ℕ) (n : ℕ) (lines : List ContextLine) → n ≤ length name → IsOf n (find (is_line_for (take n name)) lines)
find_of name n [] fits = tt
find_of name n (line ∷ lines) fits = by (is_line_for (take n name) line) refl (find_of name n lines fits)
  where
    by : (v : Bool) → is_line_for (take n name) line ≡ v → IsOf n (find (is_line_for (take n name)) lines)
        → IsOf n (cond v (Some line) (find (is_line_for (take n name)) lines))
    by true h more = front_length name n line fits h
    by false h more = more

up_to_from : (n m : ℕ) (found : Option ContextLine) → m ≤ n → IsOf m found → IsUpTo n found
up_to_from n m None low h = tt
up_to_from n m (Some line) low h = omega (arith, h)

up_to_more : (n : ℕ) (found : Option ContextLine) → IsUpTo n found → IsUpTo (suc n) found
up_to_more n None h = tt
up_to_more n (Some line) h = omega (arith, h)

up_to_either : (n : ℕ) (one other : Option ContextLine) → IsUpTo n one → IsUpTo n other → IsUpTo n (or_else one other)
up_to_either n None other h i = i
up_to_either n (Some line) other h i = h

down_up_to : (name : List ℕ) (lines : List ContextLine) (n : ℕ) → n ≤ length name → IsUpTo n (down name lines n)
down_up_to name lines zero fits = up_to_from zero zero (find (is_line_for []) lines) (omega arith) (find_of name zero lines fits)
down_up_to name lines (suc n) fits =
    up_to_either (suc n) (find (is_line_for (take (suc n) name)) lines) (down name lines n)
    (up_to_from (suc n) (suc n) (find (is_line_for (take (suc n) name)) lines) (omega arith) (find_of name (suc n) lines fits))
    (up_to_more n (down name lines n) (down_up_to name lines n (omega arith)))

-- a line that is no shorter than what is found stands in front of it
first_longest : (line : ContextLine) (n : ℕ) (found : Option ContextLine) → n ≤ length line.name → IsUpTo n found → longer line found ≡ line
first_longest line n None fits up = refl
first_longest line n (Some other) fits up = rw (false_from_ne_true (nat_lt (length line.name) (length other.name)) (λ h. absurd (omega (arith, ltb-true _ _ h, up)))) refl

-- what is found at a longer front is longer
found_longer : (line : ContextLine) (n : ℕ) (found rest other : Option ContextLine) → length line.name < n → IsOf n found → other ≡ Some (longer line rest)
    → or_else found other ≡ Some (longer line (or_else found rest))
found_longer line n None rest other short long is = is
found_longer line n (Some found) rest other short long is = ap Some (sym (rw (lt-ltb (length line.name) (length found.name) (omega (arith, long))) refl))

own_front : (name : List ℕ) (n : ℕ) (line : ContextLine) → is_prefix_for name line ≡ true → length line.name ≡ n → is_line_for (take n name) line ≡ true
own_front name n line front long =
    let is : line.name ≡ take n name = (prefix_is name line front).0 ∙ ap (λ k. take k name) long in
    ap (λ xs. bytes_eq xs line.name) (sym is) ∙ itself line.name

head_found : (name : List ℕ) (lines : List ContextLine) (line : ContextLine) (n : ℕ) → is_prefix_for name line ≡ true → length line.name ≤ n → n ≤ length name
    → down name (line ∷ lines) n ≡ Some (longer line (down name lines n))
head_found name lines line zero front short fits =
    rw (own_front name zero line front (omega arith)) (ap Some (sym (first_longest line zero (down name lines zero) (omega arith) (down_up_to name lines zero fits))))
head_found name lines line (suc n) front short fits =
    elim (cases_lt (length line.name) (suc n)) [
      | inl less ↦
          rw (no_line name (suc n) line fits (λ same. absurd (omega (arith, same))))
          (found_longer line (suc n) (find (is_line_for (take (suc n) name)) lines) (down name lines n) (down name (line ∷ lines) n) less (find_of name (suc n) lines fits)
          (head_found name lines line n front (omega arith) (omega arith)))
      | inr same ↦
          rw (own_front name (suc n) line front (omega arith)) (ap Some (sym (first_longest line (suc n) (down name lines (suc n)) (omega arith) (down_up_to name lines (suc n) fits))))
    ]

-- ---- all fronts

none_down : (name : List ℕ) (n : ℕ) → down name [] n ≡ None
none_down name zero = refl
none_down name (suc n) = none_down name n

pub down-is : (name : List ℕ) (lines : List ContextLine) → down name lines (length name) ≡ longest (filter (is_prefix_for name) lines)
down-is name [] = none_down name (length name)
down-is name (line ∷ lines) = by (is_prefix_for name line) refl (down-is name lines)
  where
    by : (v : Bool) → is_prefix_for name line ≡ v → down name lines (length name) ≡ longest (filter (is_prefix_for name) lines)
        → down name (line ∷ lines) (length name) ≡ longest (cond v (line ∷ filter (is_prefix_for name) lines) (filter (is_prefix_for name) lines))
    by true h more = head_found name lines line (length name) h (prefix_is name line h).1 (omega arith) ∙ ap (λ l. Some (longer line l)) more
    by false h more = other_head name lines line (length name) (λ k low. no_prefix name k line low h) ∙ more

-- ---- one front

below : List ℕ → List ContextLine → ℕ → Option ContextLine
below name lines zero = None
below name lines (suc n) = down name lines n

below-is : (name : List ℕ) (lines : List ContextLine) (n : ℕ) → 0 < n → below name lines n ≡ down name lines (n - 1)
unfolding below
below-is name lines zero some = absurd (omega arith)
below-is name lines (suc n) some = ap (down name lines) (omega arith)

or_none : {A : Type 0} (found : Option A) → found ≡ or_else found None
or_none None = refl
or_none (Some x) = refl

down-here : (name : List ℕ) (lines : List ContextLine) (n : ℕ) → down name lines n ≡ or_else (find (is_line_for (take n name)) lines) (below name lines n)
unfolding below
down-here name lines zero = or_none (find (is_line_for []) lines)
down-here name lines (suc n) = refl

pub lookup-is : (entries : List (List ℕ × Context)) (name : List ℕ)
    → lookup (λ k. bytes_eq name k) entries ≡ option_map (λ line. line.context) (find (is_line_for name) (entry_lines entries))
lookup-is [] name = refl
lookup-is (entry ∷ entries) name =
    elim (bytes_eq name entry.0) as (λ v. cond v (Some entry.1) (lookup (λ k. bytes_eq name k) entries)
    ≡ option_map (λ line. line.context) (cond v (Some (named entry.0 entry.1)) (find (is_line_for name) (entry_lines entries)))) [
      | true ↦ refl
      | false ↦ lookup-is entries name
    ]

-- the line at a place, where its name is the one that is asked for
pub found_at : (entries : List (List ℕ × Context)) (key bytes name : List ℕ) (context : Context) (equal : Bool)
    → lookup (λ k. bytes_eq key k) entries ≡ Some context → bytes ≡ key → equal ≡ bytes_eq bytes name → equal ≡ true → Some context ≡ context_in (entry_lines entries) name
found_at entries key bytes name context equal there bytes_are is equals =
    sym there
    ∙ ap (λ (k : List ℕ). lookup (bytes_eq k) entries) (sym bytes_are ∙ same bytes name (sym is ∙ equals))
    ∙ lookup-is entries name

-- what a front decides
decided : (name front : List ℕ) (lines : List ContextLine) → IsLeft name lines front
    → longest (filter (is_prefix_for name) lines) ≡ or_else (find (is_line_for front) lines) (below name lines (length front))
decided name front lines left =
    sym (down-is name lines)
    ∙ sym left.decides
    ∙ down-here name lines (length front)
    ∙ ap (λ f. or_else (find (is_line_for f) lines) (below name lines (length front))) (sym left.is)

first_found : (context : Context) (found other : Option ContextLine) → Some context ≡ option_map (λ line. line.context) found
    → Some context ≡ option_map (λ line. line.context) (or_else found other)
first_found context None other h = cc
first_found context (Some line) other h = h

none_found : (found : Option ContextLine) → option_map (λ line. line.context) found ≡ None → found ≡ None
none_found None h = refl
none_found (Some line) h = absurd (cc h)

pub found_here : (name front : List ℕ) (lines : List ContextLine) (context : Context) → IsLeft name lines front
    → Some context ≡ option_map (λ line. line.context) (find (is_line_for front) lines)
    → Some context ≡ option_map (λ line. line.context) (longest (filter (is_prefix_for name) lines))
found_here name front lines context left there =
    first_found context (find (is_line_for front) lines) (below name lines (length front)) there
    ∙ ap (option_map (λ line. line.context)) (sym (decided name front lines left))

pub none_left : (name front : List ℕ) (lines : List ContextLine) → IsLeft name lines front
    → option_map (λ line. line.context) (find (is_line_for front) lines) ≡ None → length front ≡ 0
    → None ≡ option_map (λ line. line.context) (longest (filter (is_prefix_for name) lines))
unfolding below
none_left name [] lines left none short =
    ap (option_map (λ line. line.context))
    (sym (decided name [] lines left ∙ ap (λ f. or_else f None) (none_found (find (is_line_for []) lines) none)))
none_left name (b ∷ front) lines left none short = absurd (omega arith)

pub one_less : (name front shorter : List ℕ) (last : ℕ) (lines : List ContextLine) → IsLeft name lines front
    → option_map (λ line. line.context) (find (is_line_for front) lines) ≡ None → front ≡ shorter ++ last ∷ []
    → IsLeft name lines shorter
one_less name front shorter last lines left none is =
    let long : length front ≡ length shorter + 1 = omega (arith, ap length is, length-append shorter (last ∷ [])) in
    let front_none : find (is_line_for front) lines ≡ None = none_found (find (is_line_for front) lines) none in
    let whole : take (length shorter) front ≡ take (length shorter) name =
    ap (take (length shorter)) left.is ∙ take-take (length shorter) (length front) name (omega (arith, long)) in
    let here : down name lines (length front) ≡ below name lines (length front) =
    down-here name lines (length front)
    ∙ ap (λ f. or_else (find (is_line_for f) lines) (below name lines (length front))) (sym left.is)
    ∙ ap (λ f. or_else f (below name lines (length front))) front_none in
    let one : length shorter ≡ length front - 1 = omega (arith, long) in
    record {
      is = sym (take-append_seam shorter (last ∷ [])) ∙ ap (take (length shorter)) (sym is) ∙ whole;
      decides = ap (down name lines) one ∙ sym (below-is name lines (length front) (omega (arith, long))) ∙ sym here ∙ left.decides;
    }

-- a name without a line is for none
pub none_for : (lines : List ContextLine) (name : List ℕ) → has_name lines name ≡ false → find (is_line_for name) lines ≡ None
none_for [] name none = refl
none_for (line ∷ lines) name none = by (is_line_for name line) none (λ rest. none_for lines name rest)
  where
    by : (v : Bool) → (v || has_name lines name) ≡ false → (has_name lines name ≡ false → find (is_line_for name) lines ≡ None) → cond v (Some line) (find (is_line_for name) lines) ≡ None
    by true h more = absurd (cc h)
    by false h more = more h

-- where no longer front has a line, the front decides
decides_down : (name : List ℕ) (lines : List ContextLine) (known n : ℕ) → known ≤ n → ((m : ℕ) → known < m → m ≤ n → find (is_line_for (take m name)) lines ≡ None)
    → down name lines known ≡ down name lines n
decides_down name lines known zero less none =
    let is : known ≡ zero = omega (arith, less) in
    ap (down name lines) is
decides_down name lines known (suc n) less none = by (cases_lt n known)
    (λ low. decides_down name lines known n low (λ m more fits. none m more (omega (arith, fits))))
  where
    by : (n < known) ⊎ (known ≤ n) → (known ≤ n → down name lines known ≡ down name lines n) → down name lines known ≡ down name lines (suc n)
    by (inl high) rest =
        let is : known ≡ suc n = omega (arith, high, less) in
        ap (down name lines) is
    by (inr low) rest = rest low ∙ ap (λ f. or_else f (down name lines n)) (sym (none (suc n) (omega (arith, low)) (omega arith)))

-- the same fronts of a front
down_front : (name shorter : List ℕ) (lines : List ContextLine) (n : ℕ) → shorter ≡ take (length shorter) name → n ≤ length shorter → down shorter lines n ≡ down name lines n
down_front name shorter lines zero is less = refl
down_front name shorter lines (suc n) is less =
    let same : take (suc n) shorter ≡ take (suc n) name = ap (take (suc n)) is ∙ take-take (suc n) (length shorter) name less in
    ap (λ front. or_else (find (is_line_for front) lines) (down shorter lines n)) same
    ∙ ap (or_else (find (is_line_for (take (suc n) name)) lines)) (down_front name shorter lines n is (omega (arith, less)))

-- the longest line for a front is that for the name
pub left_is : (name shorter : List ℕ) (lines : List ContextLine) → IsLeft name lines shorter
    → longest (filter (is_prefix_for shorter) lines) ≡ longest (filter (is_prefix_for name) lines)
left_is name shorter lines left =
    sym (down-is shorter lines) ∙ down_front name shorter lines (length shorter) left.is (omega arith) ∙ left.decides ∙ down-is name lines

pub known_first : (name front : List ℕ) (lines : List ContextLine) → front ≡ take (length front) name
    → ((n : ℕ) → length front < n → n ≤ length name → has_name lines (take n name) ≡ false) → IsLeft name lines front
known_first name front lines is none = record {
  is = is;
  decides = decides_down name lines (length front) (length name) (omega (arith, ap length is, length-take (length front) name))
      (λ m more less. none_for lines (take m name) (none m more less));
}

-- the front that a walk tells of
pub walked_first : (name : List ℕ) (digest : ℕ) (rest : List ℕ) (front : Front) (lines : List ContextLine) → IsWalked lines name digest rest front → IsLeft name lines (take front.len name)
walked_first name digest rest front lines walked =
    let long : length (take front.len name) ≡ front.len = omega (arith, length-take front.len name, walked.within) in
    known_first name (take front.len name) lines (ap (λ n. take n name) (sym long)) (λ n more less. walked.longer n (omega (arith, long, more)) less)

pub nothing_known : (name : List ℕ) (digest : ℕ) (rest : List ℕ) (front : Front) (lines : List ContextLine) → IsWalked lines name digest rest front → front.place ≡ None
    → None ≡ option_map (λ line. line.context) (longest (filter (is_prefix_for name) lines))
nothing_known name digest rest front lines walked none =
    let nothing = walked.none none in
    let left : IsLeft name lines [] = subst (λ n. IsLeft name lines (take n name)) nothing.0 (walked_first name digest rest front lines walked) in
    none_left name [] lines left (ap (option_map (λ line. line.context)) (none_for lines [] nothing.1)) refl
