-- The digests of texts and of the fronts of a text, and which names have a line.
use Rattle.std.proofs.Common.{◌≡◌, ℕ, ◌+◌, ◌%◌, ◌<◌, ◌≤◌, Bool, length, slice_set, subst, Option, Some, None, is_some, Result, Ok, Err, OnOk, OnErr, true, false, ◌||◌, nat_eq, List, [], ◌∷◌, ◌++◌, take, refl, ap, sym, ◌∙◌, if◌then◌else◌, arith}
use Rattle.std.proofs.lemmas.Grind.{common_steps}
use Rattle.std.proofs.lemmas.Bool.{eqb-true, eq-eqb, false_from_ne_true, true≢false}
use Rattle.std.proofs.lemmas.List.{get_or-set_same, get_or-set_other}
use Rattle.std.proofs.lemmas.List.Folds.{list_any-append}
use Rattle.std.proofs.lemmas.Option.{none-some}
use Rattle.std.specs.Cmp.Lexicographic.{bytes_decides}
use Rattle.std.specs.List.{list_any, slice_index_or}
use Rattle.std.specs.Option.{option_map}
use Rattle.std.specs.Str.{bytes_eq}
use Rattle.indexmap.specs.IndexMap.{insert_entry}
use Rattle.indexmap.specs.IndexSet.{insert_key}
use Rattle.init_machine.specs.Policy.{ContextLine}
use Rattle.init_machine.specs.declared.policy.Context.{Context}
use Rattle.prop_contexts.specs.Digests.{digest_of, AreMarked, HaveDigests}
use Rattle.prop_contexts.specs.NameLines.{context_in, has_name}
use Rattle.prop_contexts.specs.declared.names.Front.{Front}
use Rattle.prop_contexts.proofs.Entries.{entry_lines}
use Rattle.prop_contexts.proofs.Fronts.{none_for}

-- ---- names

same_name : (xs ys : List ℕ) → bytes_eq xs ys ≡ true → xs ≡ ys
same_name xs ys same = (bytes_decides xs ys).0 same

shuffled : (e k rest : Bool) → (e || (k || rest)) ≡ (k || (e || rest))
shuffled true true rest = refl
shuffled true false rest = refl
shuffled false k rest = refl

twice : (k rest : Bool) → (k || rest) ≡ (k || (k || rest))
twice true rest = refl
twice false rest = refl

-- the names that have a line, when a line more is put
pub names_put : (entries : List (List ℕ × Context)) (key : List ℕ) (context : Context) (other : List ℕ)
    → has_name (entry_lines (insert_entry (λ x y. bytes_eq x y) entries key context)) other ≡ (bytes_eq other key || has_name (entry_lines entries) other)
names_put [] key context other = refl
names_put (entry ∷ entries) key context other = by (bytes_eq key entry.0) refl (names_put entries key context other)
  where
    rest : List (List ℕ × Context)
    rest = insert_entry (λ x y. bytes_eq x y) entries key context

    by : (v : Bool) → bytes_eq key entry.0 ≡ v → has_name (entry_lines rest) other ≡ (bytes_eq other key || has_name (entry_lines entries) other)
        → has_name (entry_lines (if v then (entry.0, context) ∷ entries else entry ∷ rest)) other ≡ (bytes_eq other key || has_name (entry_lines (entry ∷ entries)) other)
    by true same more =
        let key_is : bytes_eq other key ≡ bytes_eq other entry.0 = ap (bytes_eq other) (same_name key entry.0 same) in
        twice (bytes_eq other entry.0) (has_name (entry_lines entries) other)
        ∙ ap (λ b. b || (bytes_eq other entry.0 || has_name (entry_lines entries) other)) (sym key_is)
    by false differ more =
        ap (λ b. bytes_eq other entry.0 || b) more
        ∙ shuffled (bytes_eq other entry.0) (bytes_eq other key) (has_name (entry_lines entries) other)

-- ---- digests

still_there : (digests : List ℕ) (digest other : ℕ) → list_any (nat_eq other) digests ≡ true → list_any (nat_eq other) (insert_key nat_eq digests digest) ≡ true
still_there digests digest other there =
    elim (list_any (nat_eq digest) digests) as (λ b. list_any (nat_eq other) (if b then digests else digests ++ digest ∷ []) ≡ true) [
      | true ↦ there
      | false ↦ list_any-append (nat_eq other) digests (digest ∷ []) ∙ ap (λ b. b || (nat_eq other digest || false)) there
    ]

swapped : (a b : Bool) → (a || b) ≡ (b || (a || false))
swapped true true = refl
swapped true false = refl
swapped false true = refl
swapped false false = refl

or_true : (b : Bool) → (b || true) ≡ true
or_true true = refl
or_true false = refl

now_there : (digests : List ℕ) (digest : ℕ) → list_any (nat_eq digest) (insert_key nat_eq digests digest) ≡ true
now_there digests digest = by (list_any (nat_eq digest) digests) refl
  where
    by : (v : Bool) → list_any (nat_eq digest) digests ≡ v → list_any (nat_eq digest) (if v then digests else digests ++ digest ∷ []) ≡ true
    by true there = there
    by false absent =
        list_any-append (nat_eq digest) digests (digest ∷ [])
        ∙ ap (λ b. list_any (nat_eq digest) digests || (b || false)) (eq-eqb digest digest refl)
        ∙ or_true (list_any (nat_eq digest) digests)

-- a digest more does no harm
pub digest_more : (lines : List ContextLine) (digests more : List ℕ) (digest : ℕ) → more ≡ insert_key nat_eq digests digest → HaveDigests lines digests → HaveDigests lines more
digest_more lines digests more digest is have name there =
    ap (list_any (nat_eq (digest_of name))) is ∙ still_there digests digest (digest_of name) (have name there)

-- a line more, whose digest is there
pub line_more : (lines new : List ContextLine) (digests more : List ℕ) (key : List ℕ) → HaveDigests lines digests → more ≡ insert_key nat_eq digests (digest_of key)
    → ((other : List ℕ) → has_name new other ≡ (bytes_eq other key || has_name lines other)) → HaveDigests new more
line_more lines new digests more key have is names name there = by (bytes_eq name key) refl (sym (names name) ∙ there)
  where
    by : (v : Bool) → bytes_eq name key ≡ v → (v || has_name lines name) ≡ true → list_any (nat_eq (digest_of name)) more ≡ true
    by true same h =
        ap (list_any (nat_eq (digest_of name))) is
        ∙ ap (λ t. list_any (nat_eq (digest_of t)) (insert_key nat_eq digests (digest_of key))) (same_name name key same)
        ∙ now_there digests (digest_of key)
    by false differ h = digest_more lines digests more (digest_of key) is have name h

-- a line is put, or memory runs out
pub line_put : {A E : Type 0} (result : Result A E) (lines new : List ContextLine) (digests more : List ℕ) (key : List ℕ) → HaveDigests lines digests
    → more ≡ insert_key nat_eq digests (digest_of key) → OnOk result ((other : List ℕ) → has_name new other ≡ (bytes_eq other key || has_name lines other))
    → OnErr result (new ≡ lines) → HaveDigests new more
line_put (Ok fresh) lines new digests more key have is names same = line_more lines new digests more key have is names
line_put (Err why) lines new digests more key have is names same =
    subst (λ these. HaveDigests these more) (sym same) (digest_more lines digests more (digest_of key) is have)

-- a name whose digest isn't there has no line
no_line : (lines : List ContextLine) (digests : List ℕ) (name : List ℕ) (digest : ℕ) → HaveDigests lines digests → digest ≡ digest_of name
    → list_any (nat_eq digest) digests ≡ false → has_name lines name ≡ false
no_line lines digests name digest have is none = false_from_ne_true (has_name lines name) (λ there.
    true≢false (sym (have name there) ∙ ap (λ d. list_any (nat_eq d) digests) (sym is) ∙ none))

-- and no context
pub no_context : (lines : List ContextLine) (digests : List ℕ) (name : List ℕ) (digest : ℕ) → HaveDigests lines digests → digest ≡ digest_of name
    → list_any (nat_eq digest) digests ≡ false → None ≡ context_in lines name
no_context lines digests name digest have is none =
    ap (option_map (λ line. line.context)) (sym (none_for lines name (no_line lines digests name digest have is none)))

-- ---- fronts

-- of the fronts of at most so many bytes, none that is longer has a line
abbrev pub IsLongest : List ContextLine → List ℕ → ℕ → ℕ → Type 0
IsLongest lines name known i = (n : ℕ) → known < n → n ≤ i → has_name lines (take n name) ≡ false

below_last : (n i : ℕ) → nat_eq n (i + 1) ≡ false → n ≤ i + 1 → n ≤ i
below_last n i differ less = grind (arith, common_steps)

-- where the front has no place, no front has a line
abbrev pub IsNone : List ContextLine → Front → Type 0
IsNone lines front = front.place ≡ None → (front.len ≡ 0) × (has_name lines [] ≡ false)

-- no byte was walked over yet
pub front_first : (lines : List ContextLine) (digests : List ℕ) (place : Option ℕ) (front : Front) → HaveDigests lines digests → is_some place ≡ list_any (nat_eq 0) digests
    → front ≡ (if is_some place then record { len = 0; place = place } else record { len = 0; place = None }) → (front.len ≡ 0) × IsNone lines front
front_first lines digests None front have at is = (ap (λ f. f.len) is, λ none. (ap (λ f. f.len) is, no_line lines digests [] 0 have refl (sym at)))
front_first lines digests (Some place) front have at is = (ap (λ f. f.len) is, λ none. absurd (none-some place (sym none ∙ ap (λ f. f.place) is)))

-- one byte more
pub front_more : (lines : List ContextLine) (digests : List ℕ) (name : List ℕ) (i digest : ℕ) (known front : Front) (place : Option ℕ)
    → HaveDigests lines digests → digest ≡ digest_of (take (i + 1) name) → is_some place ≡ list_any (nat_eq digest) digests
    → front ≡ (if is_some place then record { len = i + 1; place = place } else known) → known.len ≤ i → IsLongest lines name known.len i → IsNone lines known
    → (front.len ≤ i + 1) × IsLongest lines name front.len (i + 1) × IsNone lines front
front_more lines digests name i digest known front (Some place) have digest_is at is within longest none =
    let long : front.len ≡ i + 1 = ap (λ f. f.len) is in
    (omega (arith, long), λ n more less. absurd (omega (arith, long, more, less)), λ is_none. absurd (none-some place (sym is_none ∙ ap (λ f. f.place) is)))
front_more lines digests name i digest known front None have digest_is at is within longest none =
    let same : front.len ≡ known.len = ap (λ f. f.len) is in (
      omega (arith, same, within),
      λ n more less. last n (nat_eq n (i + 1)) refl (omega (arith, same, more)) less,
      λ is_none. let these = none (sym (ap (λ f. f.place) is) ∙ is_none) in (same ∙ these.0, these.1),
    )
  where
    last : (n : ℕ) (v : Bool) → nat_eq n (i + 1) ≡ v → known.len < n → n ≤ i + 1 → has_name lines (take n name) ≡ false
    last n true equal more less =
        ap (λ k. has_name lines (take k name)) (eqb-true n (i + 1) equal) ∙ no_line lines digests (take (i + 1) name) digest have digest_is (sym at)
    last n false differ more less = longest n more (below_last n i differ less)

-- ---- marks

one_of : (digests : List ℕ) (digest other : ℕ) → list_any (nat_eq other) (insert_key nat_eq digests digest) ≡ true
    → (nat_eq other digest || list_any (nat_eq other) digests) ≡ true
one_of digests digest other there = by (list_any (nat_eq digest) digests) there
  where
    by : (v : Bool) → list_any (nat_eq other) (if v then digests else digests ++ digest ∷ []) ≡ true → (nat_eq other digest || list_any (nat_eq other) digests) ≡ true
    by true h = ap (λ b. nat_eq other digest || b) h ∙ or_true (nat_eq other digest)
    by false h =
        swapped (nat_eq other digest) (list_any (nat_eq other) digests)
        ∙ sym (list_any-append (nat_eq other) digests (digest ∷ []))
        ∙ h

-- no digest is there
pub none_marked : (marks : List Bool) → AreMarked [] marks
none_marked marks digest there = absurd (true≢false (sym there))

set_here : (marks : List Bool) (at : ℕ) → at < length marks → slice_index_or (slice_set marks at true) at false ≡ true
set_here marks at within = get_or-set_same marks at true false within

set_elsewhere : (marks : List Bool) (at k : ℕ) → at < length marks → slice_index_or marks k false ≡ true
    → slice_index_or (slice_set marks at true) k false ≡ true
set_elsewhere marks at k within there = by (nat_eq k at) refl
  where
    by : (v : Bool) → nat_eq k at ≡ v → slice_index_or (slice_set marks at true) k false ≡ true
    by true same = ap (λ n. slice_index_or (slice_set marks at true) n false) (eqb-true k at same) ∙ set_here marks at within
    by false differ =
        get_or-set_other marks at k true false (λ same. true≢false (sym (eq-eqb k at same) ∙ differ)) ∙ there

-- a digest more, whose last byte is marked
pub marked_more : (digests more : List ℕ) (marks after : List Bool) (digest : ℕ) → length marks ≡ 256 → AreMarked digests marks
    → more ≡ insert_key nat_eq digests digest → after ≡ slice_set marks (digest % 256) true → AreMarked more after
marked_more digests more marks after digest wide marked is set other there =
    let here : list_any (nat_eq other) (insert_key nat_eq digests digest) ≡ true = ap (list_any (nat_eq other)) (sym is) ∙ there in
    subst (λ these. slice_index_or these (other % 256) false ≡ true) (sym set) (by (nat_eq other digest) refl (one_of digests digest other here))
  where
    by : (v : Bool) → nat_eq other digest ≡ v → (v || list_any (nat_eq other) digests) ≡ true → slice_index_or (slice_set marks (digest % 256) true) (other % 256) false ≡ true
    by true same h =
        subst (λ d. slice_index_or (slice_set marks (digest % 256) true) (d % 256) false ≡ true) (sym (eqb-true other digest same))
        (set_here marks (digest % 256) (omega (arith, wide)))
    by false differ h = set_elsewhere marks (digest % 256) (other % 256) (omega (arith, wide)) (marked other h)

-- a digest whose last byte isn't marked isn't there
pub unmarked : (digests : List ℕ) (marks : List Bool) (digest : ℕ) → AreMarked digests marks → slice_index_or marks (digest % 256) false ≡ false
    → list_any (nat_eq digest) digests ≡ false
unmarked digests marks digest marked is =
    false_from_ne_true (list_any (nat_eq digest) digests) (λ there. true≢false (sym (marked digest there) ∙ is))
