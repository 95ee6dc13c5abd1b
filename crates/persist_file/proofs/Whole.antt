-- A text that is written is read, and what is read of a text is written so.
use Rattle.std.proofs.Common.{◌≡◌, ◌≢◌, ℕ, suc, zero, ◌+◌, ◌≤◌, true, ◌&&◌, ◌==◌, ◌⊎◌, inl, inr, Option, Some, None, Result, Ok, Err, List, [], ◌∷◌, ◌++◌, length, length-append, length-drop, append_assoc, append-nil, position, take, drop, refl, ap, sym, ◌∙◌, IsTrue, arith}
use Rattle.std.specs.List.{join_with_byte, list_all}
use Rattle.std.proofs.lemmas.Bool.{and_parts}
use Rattle.std.proofs.lemmas.List.{take_rest}
use Rattle.std.proofs.lemmas.List.Folds.{list_all-append}
use Rattle.std.proofs.lemmas.List.Splits.{join_with_byte-slice_split}
use Rattle.init_machine.specs.Pairs.{is_before}
use Rattle.init_machine.specs.declared.config.Pair.{Pair}
use Rattle.persist_file.specs.Causes.{is_above, last_name, line_reading, next_reading, parts_at}
use Rattle.persist_file.specs.internal.Readings.{behind_line, rest_reading}
use Rattle.persist_file.specs.Store.{Entry, are_saved, ended, entry, is_fit, is_saved, line_text, lines_text, names_ascend, pairs_of}
use Rattle.persist_file.specs.declared.refusal.StoreCause.{StoreCause}
use Rattle.persist_file.specs.declared.refusal.StoreCause.TheVariants as cause
use Rattle.persist_file.specs.declared.refusal.StoreRefusal.TheVariants as refusal
use Rattle.persist_file.specs.declared.version.Version.{Version}
use Rattle.persist_file.proofs.Cuts.{cut_at, none_at, parts_first, some_at, some_parts}
use Rattle.persist_file.proofs.Order.{ascends_behind}
use Rattle.persist_file.proofs.LinesRead.{line_is}
use Rattle.persist_file.proofs.Values.{join}
use Rattle.persist_file.proofs.Written.{line_lacks, line_read}

-- ---- one line

-- a first line behind which parts stand
pub line_more : (version : Version) (read : List Pair) (line : List ℕ) (parts : List (List ℕ)) → parts ≢ []
    → rest_reading version read (line ∷ parts) ≡ behind_line read (line_reading version (last_name read) line) (λ more. rest_reading version more parts)
line_more version read line [] some = absurd (some refl)
line_more version read line (next ∷ more) some = refl

pub next_more : (version : Version) (before : Option (List ℕ)) (line : List ℕ) (parts : List (List ℕ)) → parts ≢ [] → next_reading version before (line ∷ parts) ≡ line_reading version before line
next_more version before line [] some = absurd (some refl)
next_more version before line (next ∷ more) some = refl

-- a first line that doesn't fit
pub line_unfit : (version : Version) (read : List Pair) (rest : List ℕ) (why : StoreCause) → rest ≢ [] → next_reading version (last_name read) (parts_at 10 rest) ≡ Err why
    → rest_reading version read (parts_at 10 rest) ≡ Err (refusal.BadLine (length read + 2) why)
line_unfit version read rest why some h = by (parts_at 10 rest) (join_with_byte-slice_split 10 rest) (some_parts 10 rest) h
  where
    by : (parts : List (List ℕ)) → join_with_byte 10 parts ≡ rest → parts ≢ [] → next_reading version (last_name read) parts ≡ Err why
        → rest_reading version read parts ≡ Err (refusal.BadLine (length read + 2) why)
    by [] is are e = absurd (are refl)
    by ([] ∷ []) is are e = absurd (some (sym is))
    by ((b ∷ line) ∷ []) is are e =
        let same : cause.Shape ≡ why = cc e in
        ap (λ c. Err (refusal.BadLine (length read + 2) c)) same
    by (line ∷ next ∷ more) is are e = ap (λ r. behind_line read r (λ ps. rest_reading version ps (next ∷ more))) e

-- what the reader makes of a line
pub line_taken : (version : Version) (old new : List Pair) (bytes line behind : List ℕ) (p : Pair) → parts_at 10 bytes ≡ line ∷ parts_at 10 behind
    → Ok p ≡ line_reading version (last_name old) line → new ≡ old ++ p ∷ [] → rest_reading version old (parts_at 10 bytes) ≡ rest_reading version new (parts_at 10 behind)
line_taken version old new bytes line behind p parts is more =
    ap (rest_reading version old) parts
    ∙ line_more version old line (parts_at 10 behind) (some_parts 10 behind)
    ∙ ap (λ r. behind_line old r (λ ps. rest_reading version ps (parts_at 10 behind))) (sym is)
    ∙ ap (λ ps. rest_reading version ps (parts_at 10 behind)) (sym more)

pub line_refused : (version : Version) (old : List Pair) (bytes line behind : List ℕ) (why : StoreCause) → parts_at 10 bytes ≡ line ∷ parts_at 10 behind
    → Err why ≡ line_reading version (last_name old) line → rest_reading version old (parts_at 10 bytes) ≡ Err (refusal.BadLine (length old + 2) why)
line_refused version old bytes line behind why parts is =
    ap (rest_reading version old) parts
    ∙ line_more version old line (parts_at 10 behind) (some_parts 10 behind)
    ∙ ap (λ r. behind_line old r (λ ps. rest_reading version ps (parts_at 10 behind))) (sym is)

-- ---- pairs that may be saved

pub all_saved : (pairs : List Pair) → IsTrue (are_saved pairs) → list_all is_saved pairs ≡ true
all_saved pairs h = (and_parts (list_all is_saved pairs) (names_ascend pairs) h).0

pub ascends : (pairs : List Pair) → IsTrue (are_saved pairs) → names_ascend pairs ≡ true
ascends pairs h = (and_parts (list_all is_saved pairs) (names_ascend pairs) h).1

ascend_front : (xs ys : List Pair) → names_ascend (xs ++ ys) ≡ true → names_ascend xs ≡ true
ascend_front [] ys h = refl
ascend_front (x ∷ []) ys h = refl
ascend_front (x ∷ y ∷ xs) ys h =
    let parts = and_parts (is_before x.name y.name) (names_ascend (y ∷ (xs ++ ys))) h in
    join (is_before x.name y.name) (names_ascend (y ∷ xs)) parts.0 (ascend_front (y ∷ xs) ys parts.1)

pub saved_front : (xs ys : List Pair) → IsTrue (are_saved (xs ++ ys)) → IsTrue (are_saved xs)
saved_front xs ys h =
    join (list_all is_saved xs) (names_ascend xs) (and_parts (list_all is_saved xs) (list_all is_saved ys) (sym (list_all-append is_saved xs ys) ∙ all_saved (xs ++ ys) h)).0
    (ascend_front xs ys (ascends (xs ++ ys) h))

-- the last of pairs that may be saved
record Last (pairs : List Pair) (p : Pair) : Type 0 where
  saved : is_saved p ≡ true
  above : is_above (last_name pairs) p.name ≡ true

last_of : (pairs : List Pair) (p : Pair) → IsTrue (are_saved (pairs ++ p ∷ [])) → Last pairs p
last_of pairs p h = record {
  saved = (and_parts (is_saved p) true (and_parts (list_all is_saved pairs) (is_saved p && true) (sym (list_all-append is_saved pairs (p ∷ [])) ∙ all_saved (pairs ++ p ∷ []) h)).1).0;
  above = (and_parts (names_ascend pairs) (is_above (last_name pairs) p.name) (sym (ascends_behind pairs p) ∙ ascends (pairs ++ p ∷ []) h)).1;
}

saved_more : (pairs : List Pair) (p : Pair) → IsTrue (are_saved pairs) → is_saved p ≡ true → is_above (last_name pairs) p.name ≡ true → IsTrue (are_saved (pairs ++ p ∷ []))
saved_more pairs p h saved above =
    join (list_all is_saved (pairs ++ p ∷ [])) (names_ascend (pairs ++ p ∷ []))
    (list_all-append is_saved pairs (p ∷ []) ∙ join (list_all is_saved pairs) (is_saved p && true) (all_saved pairs h) (join (is_saved p) true saved refl))
    (ascends_behind pairs p ∙ join (names_ascend pairs) (is_above (last_name pairs) p.name) (ascends pairs h) above)

-- ---- what is written is read

pub lines_read : (version : Version) (read : List Pair) (entries : List Entry) (rest : List ℕ) → IsTrue (are_saved (read ++ pairs_of entries)) → list_all (is_fit version) entries ≡ true
    → rest_reading version read (parts_at 10 (lines_text version entries ++ rest)) ≡ rest_reading version (read ++ pairs_of entries) (parts_at 10 rest)
lines_read version read [] rest saved fit = ap (λ ps. rest_reading version ps (parts_at 10 rest)) (sym (append-nil read))
lines_read version read (e ∷ entries) rest saved fit =
    let moved : (read ++ e.pair ∷ []) ++ pairs_of entries ≡ read ++ e.pair ∷ pairs_of entries = append_assoc read (e.pair ∷ []) (pairs_of entries) in
    let saved' : IsTrue (are_saved ((read ++ e.pair ∷ []) ++ pairs_of entries)) = ap are_saved moved ∙ saved in
    let last = last_of read e.pair (saved_front (read ++ e.pair ∷ []) (pairs_of entries) saved') in
    let fits = and_parts (is_fit version e) (list_all (is_fit version) entries) fit in
    let more : List ℕ = lines_text version entries ++ rest in
    let text : lines_text version (e ∷ entries) ++ rest ≡ line_text version e ++ 10 ∷ more =
    append_assoc (ended (line_text version e)) (lines_text version entries) rest ∙ append_assoc (line_text version e) (10 ∷ []) more in
    ap (λ t. rest_reading version read (parts_at 10 t)) text
    ∙ ap (rest_reading version read) (parts_first 10 (line_text version e) more (line_lacks version e last.saved))
    ∙ line_more version read (line_text version e) (parts_at 10 more) (some_parts 10 more)
    ∙ ap (λ r. behind_line read r (λ ps. rest_reading version ps (parts_at 10 more))) (line_read version (last_name read) e last.saved fits.0 last.above)
    ∙ lines_read version (read ++ e.pair ∷ []) entries rest saved' fits.1
    ∙ ap (λ ps. rest_reading version ps (parts_at 10 rest)) moved

-- ---- what is read is written so

pub record Reads (version : Version) (read : List Pair) (bytes : List ℕ) (pairs : List Pair) : Type 0 where
  pub entries : List Entry
  pub answer : rest_reading version read (parts_at 10 bytes) ≡ Ok pairs
  pub are : pairs ≡ read ++ pairs_of entries
  pub saved : IsTrue (are_saved (read ++ pairs_of entries))
  pub fit : list_all (is_fit version) entries ≡ true
  pub text : bytes ≡ lines_text version entries

pub record Misfits (version : Version) (read : List Pair) (bytes : List ℕ) (line : ℕ) (why : StoreCause) : Type 0 where
  pub entries : List Entry
  pub rest : List ℕ
  pub answer : rest_reading version read (parts_at 10 bytes) ≡ Err (refusal.BadLine line why)
  pub saved : IsTrue (are_saved (read ++ pairs_of entries))
  pub fit : list_all (is_fit version) entries ≡ true
  pub text : bytes ≡ lines_text version entries ++ rest
  pub some : rest ≢ []
  pub cause_is : next_reading version (last_name (read ++ pairs_of entries)) (parts_at 10 rest) ≡ Err why
  pub number_is : line ≡ length read + length entries + 2

abbrev pub Outcome : Version → List Pair → List ℕ → Type 0
Outcome version read bytes = ((pairs : List Pair) × Reads version read bytes pairs) ⊎ ((line : ℕ) × (why : StoreCause) × Misfits version read bytes line why)

-- the first line doesn't fit
misfit : (version : Version) (read : List Pair) (bytes : List ℕ) (why : StoreCause) → IsTrue (are_saved read) → bytes ≢ [] → next_reading version (last_name read) (parts_at 10 bytes) ≡ Err why
    → Outcome version read bytes
misfit version read bytes why saved some is = inr (
  length read + 2,
  why,
  record {
    entries = [];
    rest = bytes;
    answer = line_unfit version read bytes why some is;
    saved = ap are_saved (append-nil read) ∙ saved;
    fit = refl;
    text = refl;
    some = some;
    cause_is = ap (λ ps. next_reading version (last_name ps) (parts_at 10 bytes)) (append-nil read) ∙ is;
    number_is = omega arith;
  },
)

-- a line more in front
record Front (version : Version) (read : List Pair) (bytes behind : List ℕ) (p : Pair) (e : Entry) : Type 0 where
  pair_is : e.pair ≡ p
  fits : is_fit version e ≡ true
  text : bytes ≡ ended (line_text version e) ++ behind
  answer : rest_reading version read (parts_at 10 bytes) ≡ rest_reading version (read ++ p ∷ []) (parts_at 10 behind)

moved : (read : List Pair) (p : Pair) (e : Entry) (entries : List Entry) → e.pair ≡ p → (read ++ p ∷ []) ++ pairs_of entries ≡ read ++ pairs_of (e ∷ entries)
moved read p e entries is = append_assoc read (p ∷ []) (pairs_of entries) ∙ ap (λ (q : Pair). read ++ q ∷ pairs_of entries) (sym is)

front_reads : (version : Version) (read : List Pair) (bytes behind : List ℕ) (p : Pair) (e : Entry) → Front version read bytes behind p e → Outcome version (read ++ p ∷ []) behind → Outcome version read bytes
front_reads version read bytes behind p e front (inl (pairs, reads)) = inl (
  pairs,
  record {
    entries = e ∷ reads.entries;
    answer = front.answer ∙ reads.answer;
    are = reads.are ∙ moved read p e reads.entries front.pair_is;
    saved = ap are_saved (sym (moved read p e reads.entries front.pair_is)) ∙ reads.saved;
    fit = join (is_fit version e) (list_all (is_fit version) reads.entries) front.fits reads.fit;
    text = front.text ∙ ap (λ t. ended (line_text version e) ++ t) reads.text;
  },
)
front_reads version read bytes behind p e front (inr (line, why, misfits)) = inr (
  line,
  why,
  record {
    entries = e ∷ misfits.entries;
    rest = misfits.rest;
    answer = front.answer ∙ misfits.answer;
    saved = ap are_saved (sym (moved read p e misfits.entries front.pair_is)) ∙ misfits.saved;
    fit = join (is_fit version e) (list_all (is_fit version) misfits.entries) front.fits misfits.fit;
    text = front.text ∙ ap (λ t. ended (line_text version e) ++ t) misfits.text ∙ sym (append_assoc (ended (line_text version e)) (lines_text version misfits.entries) misfits.rest);
    some = misfits.some;
    cause_is = ap (λ ps. next_reading version (last_name ps) (parts_at 10 misfits.rest)) (sym (moved read p e misfits.entries front.pair_is)) ∙ misfits.cause_is;
    number_is = omega (arith, misfits.number_is, length-append read (p ∷ []));
  },
)

-- a line in front, by its reading
of_line : (version : Version) (read : List Pair) (bytes line behind : List ℕ) → IsTrue (are_saved read) → bytes ≢ [] → parts_at 10 bytes ≡ line ∷ parts_at 10 behind → bytes ≡ line ++ 10 ∷ behind
    → ((p : Pair) → IsTrue (are_saved (read ++ p ∷ [])) → Outcome version (read ++ p ∷ []) behind)
    → (result : Result Pair StoreCause) → line_reading version (last_name read) line ≡ result → Outcome version read bytes
of_line version read bytes line behind saved some parts is left (Err why) e =
    misfit version read bytes why saved some (ap (next_reading version (last_name read)) parts ∙ next_more version (last_name read) line (parts_at 10 behind) (some_parts 10 behind) ∙ e)
of_line version read bytes line behind saved some parts is left (Ok p) e =
    let of = line_is version (last_name read) line p e in
    let front : Front version read bytes behind p (entry p of.kind) = record {
      pair_is = refl;
      fits = of.fit;
      text = is ∙ ap (λ l. l ++ 10 ∷ behind) of.text ∙ sym (append_assoc (line_text version (entry p of.kind)) (10 ∷ []) behind);
      answer =
          ap (rest_reading version read) parts
          ∙ line_more version read line (parts_at 10 behind) (some_parts 10 behind)
          ∙ ap (λ r. behind_line read r (λ ps. rest_reading version ps (parts_at 10 behind))) e;
    } in
    front_reads version read bytes behind p (entry p of.kind) front (left p (saved_more read p saved of.saved of.above))

pub outcome : (bound : ℕ) (version : Version) (read : List Pair) (bytes : List ℕ) → length bytes ≤ bound → IsTrue (are_saved read) → Outcome version read bytes
outcome bound version read [] enough saved = inl (
  read,
  record {
    entries = [];
    answer = refl;
    are = sym (append-nil read);
    saved = ap are_saved (append-nil read) ∙ saved;
    fit = refl;
    text = refl;
  },
)
outcome zero version read (b ∷ bytes) enough saved = absurd (omega (arith, enough))
outcome (suc bound) version read (b ∷ bytes) enough saved =
    by (position (λ c. c == 10) (b ∷ bytes)) refl (λ behind few p ok. outcome bound version (read ++ p ∷ []) behind few ok)
  where
    by : (place : Option ℕ) → position (λ c. c == 10) (b ∷ bytes) ≡ place
        → ((behind : List ℕ) → length behind ≤ bound → (p : Pair) → IsTrue (are_saved (read ++ p ∷ [])) → Outcome version (read ++ p ∷ []) behind) → Outcome version read (b ∷ bytes)
    by None e left = misfit version read (b ∷ bytes) cause.Shape saved (λ nil. cc nil) (ap (next_reading version (last_name read)) (none_at 10 (b ∷ bytes) e))
    by (Some at) e left =
        let is = cut_at 10 (b ∷ bytes) at e in
        let few : length (drop (at + 1) (b ∷ bytes)) ≤ bound = omega (arith, length-drop (at + 1) (b ∷ bytes), enough) in
        of_line version read (b ∷ bytes) (take at (b ∷ bytes)) (drop (at + 1) (b ∷ bytes)) saved (λ nil. cc nil) (some_at 10 (b ∷ bytes) at e ∙ ap (λ rest. take at (b ∷ bytes) ∷ parts_at 10 rest) (take_rest (b ∷ bytes) (at + 1))) is
        (left (drop (at + 1) (b ∷ bytes)) few) (line_reading version (last_name read) (take at (b ∷ bytes))) refl
