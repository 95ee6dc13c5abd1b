-- What the bytes of a store determine, by their reading.
use Rattle.std.proofs.Common.{◌≡◌, ◌≢◌, ℕ, ◌+◌, Bool, true, false, ◌⊎◌, cond, inl, inr, Option, Some, None, Result, Ok, Err, List, [], ◌∷◌, ◌++◌, length, append_assoc, append-nil, refl, ap, sym, ◌∙◌, subst, IsTrue, codes, arith}
use Rattle.std.specs.List.{join_with_byte, list_all}
use Rattle.std.specs.Str.{bytes_eq}
use Rattle.std.specs.Cmp.Lexicographic.{same_text}
use Rattle.std.proofs.lemmas.Bool.{and_parts}
use Rattle.std.proofs.lemmas.List.Splits.{join_with_byte-slice_split}
use Rattle.init_machine.specs.declared.config.Pair.{Pair}
use Rattle.persist_file.specs.Causes.{head_reading, of_version, parts_at, version_of, IsRefused, IsUnfitAt}
use Rattle.persist_file.specs.internal.Readings.{behind_head, reading, rest_reading, text_reading, Answers}
use Rattle.persist_file.specs.Store.{Entry, are_entries, are_saved, ended, head_line, is_fit, lines_text, pairs_of, text_of, IsStore}
use Rattle.persist_file.specs.declared.refusal.StoreCause.{StoreCause}
use Rattle.persist_file.specs.declared.refusal.StoreRefusal.{StoreRefusal}
use Rattle.persist_file.specs.declared.refusal.StoreRefusal.TheVariants as refusal
use Rattle.persist_file.specs.declared.version.Version.{Version}
use Rattle.persist_file.specs.declared.version.Version.TheVariants.{First, Second}
use Rattle.persist_file.proofs.Cuts.{some_parts}
use Rattle.persist_file.proofs.Values.{join}
use Rattle.persist_file.proofs.Whole.{line_unfit, lines_read, outcome, Outcome}

-- ---- first lines

-- a text behind a version's first line
headed : (version : Version) (rest : List ℕ) → text_reading (ended (head_line version) ++ rest) ≡ rest_reading version [] (parts_at 10 rest)
headed First rest = of_parts (parts_at 10 rest) (some_parts 10 rest)
  where
    of_parts : (parts : List (List ℕ)) → parts ≢ [] → behind_head (of_version (Some First) parts) (head_line First ∷ parts) ≡ rest_reading First [] parts
    of_parts [] some = absurd (some refl)
    of_parts (next ∷ more) some = refl
headed Second rest = of_parts (parts_at 10 rest) (some_parts 10 rest)
  where
    of_parts : (parts : List (List ℕ)) → parts ≢ [] → behind_head (of_version (Some Second) parts) (head_line Second ∷ parts) ≡ rest_reading Second [] parts
    of_parts [] some = absurd (some refl)
    of_parts (next ∷ more) some = refl

-- what the reader makes of the first line
pub head_read : (bytes line rest : List ℕ) (version : Version) → parts_at 10 bytes ≡ line ∷ parts_at 10 rest → Some version ≡ version_of line
    → text_reading bytes ≡ rest_reading version [] (parts_at 10 rest)
head_read bytes line rest version parts is =
    ap (λ ps. behind_head (head_reading ps) ps) parts
    ∙ ap (λ v. behind_head (of_version v (parts_at 10 rest)) (line ∷ parts_at 10 rest)) (sym is)
    ∙ of_parts (parts_at 10 rest) (some_parts 10 rest)
  where
    of_parts : (parts : List (List ℕ)) → parts ≢ [] → behind_head (of_version (Some version) parts) (line ∷ parts) ≡ rest_reading version [] parts
    of_parts [] some = absurd (some refl)
    of_parts (next ∷ more) some = refl

text_read : (version : Version) (entries : List Entry) (rest : List ℕ) → IsTrue (are_entries version entries)
    → reading (text_of version entries ++ rest) ≡ rest_reading version (pairs_of entries) (parts_at 10 rest)
text_read version entries rest h =
    let parts = and_parts (are_saved (pairs_of entries)) (list_all (is_fit version) entries) h in
    first version ∙ headed version (lines_text version entries ++ rest) ∙ lines_read version [] entries rest parts.0 parts.1
  where
    first : (version : Version) → reading (text_of version entries ++ rest) ≡ text_reading (ended (head_line version) ++ (lines_text version entries ++ rest))
    first First = refl
    first Second = refl

-- ---- stores and bad lines are read as such

pub store_read : (bytes : List ℕ) (pairs : List Pair) → IsStore bytes pairs → reading bytes ≡ Ok pairs
store_read bytes pairs (inl (none, no_pairs)) = ap reading none ∙ ap (λ ps. Ok ps) (sym no_pairs)
store_read bytes pairs (inr text) =
    ap reading (text.text ∙ sym (append-nil (text_of text.version text.entries))) ∙ text_read text.version text.entries [] text.are_fit ∙ ap (λ ps. Ok ps) (sym text.are)

head_unfit : (bytes : List ℕ) (why : StoreCause) → bytes ≢ [] → head_reading (parts_at 10 bytes) ≡ Err why → reading bytes ≡ Err (refusal.BadLine 1 why)
head_unfit [] why some h = absurd (some refl)
head_unfit (b ∷ bytes) why some h = ap (λ r. behind_head r (parts_at 10 (b ∷ bytes))) h

length_pairs : (entries : List Entry) → length (pairs_of entries) ≡ length entries
length_pairs [] = refl
length_pairs (e ∷ entries) = omega (arith, length_pairs entries)

pub unfit_read : (bytes : List ℕ) (line : ℕ) (why : StoreCause) → IsUnfitAt bytes line why → reading bytes ≡ Err (refusal.BadLine line why)
unfit_read bytes line why (inl bad) = head_unfit bytes why bad.some bad.cause_is ∙ ap (λ n. Err (refusal.BadLine n why)) (sym bad.number_is)
unfit_read bytes line why (inr bad) =
    let number : length (pairs_of bad.entries) + 2 ≡ line = omega (arith, length_pairs bad.entries, bad.number_is) in
    ap reading bad.text
    ∙ text_read bad.version bad.entries bad.rest bad.are_fit
    ∙ line_unfit bad.version (pairs_of bad.entries) bad.rest why bad.some bad.cause_is
    ∙ ap (λ n. Err (refusal.BadLine n why)) number

-- ---- bytes are a store, or have a first line that doesn't fit

abbrev StoreOrUnfit : List ℕ → Type 0
StoreOrUnfit bytes = ((pairs : List Pair) × IsStore bytes pairs) ⊎ ((line : ℕ) × (why : StoreCause) × IsUnfitAt bytes line why)

of_outcome : (version : Version) (bytes rest : List ℕ) → bytes ≡ ended (head_line version) ++ rest → Outcome version [] rest → StoreOrUnfit bytes
of_outcome version bytes rest is (inl (pairs, reads)) = inl (
  pairs,
  inr (record {
    version = version;
    entries = reads.entries;
    are_fit = join (are_saved (pairs_of reads.entries)) (list_all (is_fit version) reads.entries) reads.saved reads.fit;
    are = reads.are;
    text = is ∙ ap (λ t. ended (head_line version) ++ t) reads.text;
  }),
)
of_outcome version bytes rest is (inr (line, why, misfits)) = inr (
  line,
  why,
  inr (record {
    version = version;
    entries = misfits.entries;
    rest = misfits.rest;
    are_fit = join (are_saved (pairs_of misfits.entries)) (list_all (is_fit version) misfits.entries) misfits.saved misfits.fit;
    text = is ∙ ap (λ t. ended (head_line version) ++ t) misfits.text ∙ sym (append_assoc (ended (head_line version)) (lines_text version misfits.entries) misfits.rest);
    some = misfits.some;
    cause_is = misfits.cause_is;
    number_is = omega (arith, misfits.number_is);
  }),
)

-- a first line that a version has
record Headed (bytes : List ℕ) (version : Version) : Type 0 where
  rest : List ℕ
  text : bytes ≡ ended (head_line version) ++ rest

version_is : (line : List ℕ) (version : Version) → version_of line ≡ Some version → line ≡ head_line version
version_is line version h = by (bytes_eq line (codes "persist 1")) (bytes_eq line (codes "persist 2")) refl refl h
  where
    by : (first second : Bool) → bytes_eq line (codes "persist 1") ≡ first → bytes_eq line (codes "persist 2") ≡ second
        → cond first (Some First) (cond second (Some Second) None) ≡ Some version → line ≡ head_line version
    by true second e f i = let same : First ≡ version = cc i in same_text line (codes "persist 1") (sym e) ∙ ap head_line same
    by false true e f i = let same : Second ≡ version = cc i in same_text line (codes "persist 2") (sym f) ∙ ap head_line same
    by false false e f i = absurd (cc i)

of_head : (bytes line : List ℕ) (more : List (List ℕ)) (found : Option Version) (version : Version) → version_of line ≡ found → of_version found more ≡ Ok version
    → join_with_byte 10 (line ∷ more) ≡ bytes → Headed bytes version
of_head bytes line more None version e h is = absurd (cc h)
of_head bytes line [] (Some found) version e h is = absurd (cc h)
of_head bytes line (next ∷ more) (Some found) version e h is =
    let same : found ≡ version = cc h in
    record {
      rest = join_with_byte 10 (next ∷ more);
      text =
          sym is
          ∙ ap (λ l. l ++ 10 ∷ join_with_byte 10 (next ∷ more)) (version_is line found e ∙ ap head_line same)
          ∙ sym (append_assoc (head_line version) (10 ∷ []) (join_with_byte 10 (next ∷ more)));
    }

headed_by : (bytes : List ℕ) (parts : List (List ℕ)) (version : Version) → join_with_byte 10 parts ≡ bytes → head_reading parts ≡ Ok version → Headed bytes version
headed_by bytes [] version is h = absurd (cc h)
headed_by bytes (line ∷ more) version is h = of_head bytes line more (version_of line) version refl h is

pub store_or_unfit : (bytes : List ℕ) → StoreOrUnfit bytes
store_or_unfit [] = inl ([], inl (refl, refl))
store_or_unfit (b ∷ bytes) = by (head_reading (parts_at 10 (b ∷ bytes))) refl
  where
    by : (head : Result Version StoreCause) → head_reading (parts_at 10 (b ∷ bytes)) ≡ head → StoreOrUnfit (b ∷ bytes)
    by (Err why) e = inr (1, why, inl (record { some = λ nil. cc nil; cause_is = e; number_is = refl }))
    by (Ok version) e =
        let front = headed_by (b ∷ bytes) (parts_at 10 (b ∷ bytes)) version (join_with_byte-slice_split 10 (b ∷ bytes)) e in
        of_outcome version (b ∷ bytes) front.rest front.text (outcome (length front.rest) version [] front.rest (omega arith) refl)

-- ---- what a reading says

pub store_of : (bytes : List ℕ) (pairs : List Pair) → reading bytes ≡ Ok pairs → IsStore bytes pairs
store_of bytes pairs h = by (store_or_unfit bytes)
  where
    by : StoreOrUnfit bytes → IsStore bytes pairs
    by (inl (found, store)) = let same : found ≡ pairs = cc (sym (store_read bytes found store) ∙ h) in subst (IsStore bytes) same store
    by (inr (line, why, unfit)) = absurd (cc (sym (unfit_read bytes line why unfit) ∙ h))

pub unfit_of : (bytes : List ℕ) (line : ℕ) (why : StoreCause) → reading bytes ≡ Err (refusal.BadLine line why) → IsUnfitAt bytes line why
unfit_of bytes line why h = by (store_or_unfit bytes)
  where
    by : StoreOrUnfit bytes → IsUnfitAt bytes line why
    by (inl (found, store)) = absurd (cc (sym (store_read bytes found store) ∙ h))
    by (inr (other, cause, unfit)) =
        let is : Err (refusal.BadLine other cause) ≡ Err (refusal.BadLine line why) = sym (unfit_read bytes other cause unfit) ∙ h in
        let number : other ≡ line = cc is in
        let same : cause ≡ why = cc is in
        subst (λ n. IsUnfitAt bytes n why) number (subst (λ c. IsUnfitAt bytes other c) same unfit)

pub refusal_of : (bytes : List ℕ) (why : StoreRefusal) → Answers {A = List Pair} (Err why) (reading bytes) → IsRefused bytes why
refusal_of bytes refusal.NoMemory h = tt
refusal_of bytes (refusal.BadLine line why) h = unfit_of bytes line why h

pub not_both : (bytes : List ℕ) (pairs : List Pair) (line : ℕ) (why : StoreCause) → IsStore bytes pairs → IsUnfitAt bytes line why → ⊥
not_both bytes pairs line why store unfit = absurd (cc (sym (store_read bytes pairs store) ∙ unfit_read bytes line why unfit))
