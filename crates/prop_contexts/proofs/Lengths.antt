-- The lengths of the names of lines, and a walk that ends where no name is longer.
use Rattle.std.proofs.Common.{◌≡◌, ℕ, ◌<◌, ◌≤◌, ◌⊎◌, inl, inr, Bool, true, false, ◌||◌, None, Result, Ok, Err, OnOk, OnErr, List, [], ◌++◌, fold, length, length-append, take, refl, ap, sym, ◌∙◌, subst, arith}
use Rattle.std.proofs.lemmas.Bool.{cases_lt, false_from_ne_true, true≢false}
use Rattle.std.proofs.lemmas.List.{length-take, take-append-le}
use Rattle.std.proofs.lemmas.List.Sums.{fold-append}
use Rattle.std.specs.Cmp.Lexicographic.{bytes_decides}
use Rattle.std.specs.Option.{option_map}
use Rattle.std.specs.Str.{bytes_eq}
use Rattle.init_machine.specs.Policy.{ContextLine}
use Rattle.prop_contexts.specs.Digests.{with_byte}
use Rattle.prop_contexts.specs.Lengths.{may_have, HaveLengths}
use Rattle.prop_contexts.specs.NameLines.{context_in, has_name}
use Rattle.prop_contexts.specs.Walks.{IsWalked}
use Rattle.prop_contexts.specs.declared.name_lengths.NameLengths.{NameLengths}
use Rattle.prop_contexts.specs.declared.names.Front.{Front}
use Rattle.prop_contexts.proofs.Fronts.{none_for}

-- the length of one name more is there
pub record IsAdded (old after : NameLengths) (len : ℕ) : Type 0 where
  pub here : may_have after len ≡ true
  pub others : (other : ℕ) → may_have old other ≡ true → may_have after other ≡ true
  pub fits : len ≤ after.most
  pub grows : old.most ≤ after.most

-- a length more does no harm
length_more : (lines : List ContextLine) (old after : NameLengths) (len : ℕ) → IsAdded old after len → HaveLengths lines old → HaveLengths lines after
length_more lines old after len added have name there =
    let known = have name there in
    (added.others (length name) known.0, omega (arith, known.1, added.grows))

-- a line more, whose length is there
line_more : (lines new : List ContextLine) (old after : NameLengths) (key : List ℕ) → IsAdded old after (length key) → HaveLengths lines old
    → ((other : List ℕ) → has_name new other ≡ (bytes_eq other key || has_name lines other)) → HaveLengths new after
line_more lines new old after key added have names name there = by (bytes_eq name key) refl (sym (names name) ∙ there)
  where
    by : (v : Bool) → bytes_eq name key ≡ v → (v || has_name lines name) ≡ true → (may_have after (length name) ≡ true) × (length name ≤ after.most)
    by true same h =
        let is : name ≡ key = (bytes_decides name key).0 same in
        (ap (λ n. may_have after (length n)) is ∙ added.here, omega (arith, ap length is, added.fits))
    by false differ h = length_more lines old after (length key) added have name h

-- a line is put, or memory runs out
pub length_put : {A E : Type 0} (result : Result A E) (lines new : List ContextLine) (old after : NameLengths) (key : List ℕ) → IsAdded old after (length key)
    → HaveLengths lines old → OnOk result ((other : List ℕ) → has_name new other ≡ (bytes_eq other key || has_name lines other)) → OnErr result (new ≡ lines)
    → HaveLengths new after
length_put (Ok fresh) lines new old after key added have names same = line_more lines new old after key added have names
length_put (Err why) lines new old after key added have names same =
    subst (λ these. HaveLengths these after) (sym same) (length_more lines old after (length key) added have)

-- a name whose length isn't there has no context
pub no_length : (lines : List ContextLine) (lengths : NameLengths) (name : List ℕ) → HaveLengths lines lengths → may_have lengths (length name) ≡ false
    → None ≡ context_in lines name
no_length lines lengths name have none =
    let absent : has_name lines name ≡ false = false_from_ne_true (has_name lines name) (λ there.
    true≢false (sym (have name there).0 ∙ none)) in
    ap (option_map (λ line. line.context)) (sym (none_for lines name absent))

-- no longer front of a name has a line
none_longer : (lines : List ContextLine) (lengths : NameLengths) (name : List ℕ) (n : ℕ) → HaveLengths lines lengths → lengths.most < n → n ≤ length name
    → has_name lines (take n name) ≡ false
none_longer lines lengths name n have past fits = false_from_ne_true (has_name lines (take n name)) (λ there.
    absurd (omega (arith, (have (take n name) there).1, length-take n name, past, fits)))

-- a walk over the front of a name, past which no name has a line
pub walked_on : (lines : List ContextLine) (lengths : NameLengths) (name seen rest : List ℕ) (digest : ℕ) (front : Front) → HaveLengths lines lengths
    → name ≡ seen ++ rest → length seen ≡ lengths.most → IsWalked lines seen digest [] front → IsWalked lines name digest rest front
walked_on lines lengths name seen rest digest front have is most walked = subst (λ these. IsWalked lines these digest rest front) (sym is) (record {
  digest_is = ap (λ d. fold with_byte d rest) walked.digest_is ∙ sym (fold-append with_byte 0 seen rest);
  within = omega (arith, walked.within, length-append seen rest);
  longer = λ n more less. longer n more less (cases_lt (length seen) n);
  none = walked.none;
})
  where
    longer : (n : ℕ) → front.len < n → n ≤ length (seen ++ rest) → (length seen < n) ⊎ (n ≤ length seen) → has_name lines (take n (seen ++ rest)) ≡ false
    longer n more less (inl past) = none_longer lines lengths (seen ++ rest) n have (omega (arith, past, most)) less
    longer n more less (inr within) = ap (has_name lines) (take-append-le n seen rest within) ∙ walked.longer n more within
