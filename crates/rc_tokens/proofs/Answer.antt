-- What the reader answers is what the text spells, and nothing else is.
use Rattle.std.proofs.Common.{◌≡◌, ℕ, List, [], ◌∷◌, Option, refl, sym, ap, subst, ◌∙◌}
use Rattle.rc_tokens.specs.Grammar.{Item, Ending, IsReading}
use Rattle.rc_tokens.specs.Lines.{Line, Tokens, lines_of, dropped_of, Lines}
use Rattle.rc_tokens.specs.internal.Steps.{start}
use Rattle.rc_tokens.proofs.Pieces.{outcome}
use Rattle.rc_tokens.proofs.Stretches.{line_parts, kept_lines, dropped_line, lines_same, dropped_same}
use Rattle.rc_tokens.proofs.Items.{items_run, joined, some_stretch}
use Rattle.rc_tokens.proofs.Existence.{reads}
use Rattle.rc_tokens.proofs.Uniqueness.{reading_unique}

abbrev spelled_by : List Item → Ending → Tokens
spelled_by items ending = record { lines = lines_of items ending; dropped = dropped_of items ending }

parts_spell : (items : List Item) (ending : Ending)
    → (let t : Tokens = record { lines = kept_lines (line_parts [] items ending) ending; dropped = dropped_line (line_parts [] items ending) ending } in t) ≡ spelled_by items ending
parts_spell items ending = λ i. record { lines = lines_same items ending i; dropped = dropped_same items ending i }

joined_none : (lines : List Line) (line : Line) (rest : List Line) → lines ≡ line ∷ rest → joined 1 [] lines ≡ lines
joined_none lines line rest e = rw e refl

-- the reader on any reading of the text
answers : (bytes : List ℕ) (items : List Item) (ending : Ending) → IsReading bytes items ending → outcome start bytes ≡ spelled_by items ending
answers bytes items ending r =
    let some = some_stretch [] items ending in
    ap (λ (u : List ℕ). outcome start u) r.text
    ∙ items_run items ending start [] _ r.items_fit r.ending_fits
    ∙ ap (λ (ls : List Line). (let t : Tokens = record { lines = kept_lines ls ending; dropped = dropped_line ls ending } in t)) (joined_none (line_parts [] items ending) some.0 some.1 some.2)
    ∙ parts_spell items ending

-- ---- laws

pub some_reading : (bytes : List ℕ) → (items : List Item) × (ending : Ending) × IsReading bytes items ending
some_reading bytes = let b = (reads bytes).between in (b.items, b.ending, b.reading)

pub one_reading : (bytes : List ℕ) (items others : List Item) (ending other : Ending) → IsReading bytes items ending → IsReading bytes others other → (items ≡ others) × (ending ≡ other)
one_reading bytes items others ending other a b = reading_unique bytes items others ending other a b

pub some_lines : (bytes : List ℕ) → (lines : List Line) × (dropped : Option ℕ) × Lines bytes lines dropped
some_lines bytes =
    let b = (reads bytes).between in
    (lines_of b.items b.ending, dropped_of b.items b.ending, record { items = b.items; ending = b.ending; reading = b.reading; lines_are = refl; dropped_is = refl })

same_lines : (items others : List Item) (ending other : Ending) → items ≡ others → ending ≡ other → spelled_by items ending ≡ spelled_by others other
same_lines items others ending other e f = rw (e, f) refl

pub one_answer : (bytes : List ℕ) (lines others : List Line) (dropped other : Option ℕ) → Lines bytes lines dropped → Lines bytes others other → (lines ≡ others) × (dropped ≡ other)
one_answer bytes lines others dropped other a b =
    let same = reading_unique bytes a.items b.items a.ending b.ending a.reading b.reading in
    let all = same_lines a.items b.items a.ending b.ending same.0 same.1 in (
      a.lines_are ∙ ap (λ (t : Tokens). t.lines) all ∙ sym b.lines_are,
      a.dropped_is ∙ ap (λ (t : Tokens). t.dropped) all ∙ sym b.dropped_is,
    )

-- ---- the answer of the reader

pub outcome_spelled : (bytes : List ℕ) → Lines bytes (outcome start bytes).lines (outcome start bytes).dropped
outcome_spelled bytes =
    let b = (reads bytes).between in
    let e = answers bytes b.items b.ending b.reading in
    record { items = b.items; ending = b.ending; reading = b.reading; lines_are = ap (λ (t : Tokens). t.lines) e; dropped_is = ap (λ (t : Tokens). t.dropped) e }

pub outcome_only : (bytes : List ℕ) (tokens : Tokens) → tokens ≡ outcome start bytes → (lines : List Line) (dropped : Option ℕ) → Lines bytes lines dropped
    → (tokens.lines ≡ lines) × (tokens.dropped ≡ dropped)
outcome_only bytes tokens e lines dropped l =
    one_answer bytes tokens.lines lines tokens.dropped dropped (subst (λ (t : Tokens). Lines bytes t.lines t.dropped) (sym e) (outcome_spelled bytes)) l
