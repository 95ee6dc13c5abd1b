-- A text of contexts, read up to some line.
use Rattle.std.proofs.Common.{◌≡◌, ℕ, suc, zero, ◌+◌, ◌<◌, ◌≤◌, List, [], ◌∷◌, ◌++◌, length, take, drop, ap, sym, ◌∙◌, subst, IsTrue, add-one, arith}
use Rattle.std.proofs.Math.Seq.{take-length}
use Rattle.std.proofs.lemmas.List.{length-drop, length-take, take-append-drop}
use Rattle.init_base.specs.Lines.{lines_of}
use Rattle.prop_contexts.specs.Contexts.{reading_of}
use Rattle.prop_contexts.specs.Grammar.{contexts_fit}
use Rattle.prop_contexts.specs.Given.{Given, given, given_by, Takes, IsLineRefusal, IsTextRefusal, AreGiven}
use Rattle.prop_contexts.specs.declared.contexts.Contexts.{Contexts}
use Rattle.prop_contexts.specs.declared.refusal.PolicyRefusal.{PolicyRefusal}
use Rattle.prop_contexts.proofs.Steps.{takes, refuses}

-- so many lines of the text were taken, and these bytes are left
pub record HasRead (text : List ℕ) (count : ℕ) (given : Given) (rest : List ℕ) : Type 0 where
  pub few : count + length rest ≤ length text
  pub within : count ≤ length (lines_of text)
  pub left : drop count (lines_of text) ≡ lines_of rest
  pub fit : IsTrue (contexts_fit (take count (lines_of text)))
  pub are : given ≡ given_by (take count (lines_of text))

pub record Stands (lines : List (List ℕ)) (n : ℕ) (line : List ℕ) (behind : List (List ℕ)) : Type 0 where
  pub front : take (suc n) lines ≡ take n lines ++ line ∷ []
  pub rest : drop (suc n) lines ≡ behind
  pub inside : n < length lines

-- the line that stands at a place
pub stands : (lines : List (List ℕ)) (n : ℕ) (line : List ℕ) (behind : List (List ℕ)) → drop n lines ≡ line ∷ behind → Stands lines n line behind
stands [] zero line behind h = absurd (cc h)
stands [] (suc n) line behind h = absurd (cc h)
stands (x ∷ lines) zero line behind h =
    let first : x ≡ line = cc h in
    record { front = ap (λ l. l ∷ []) first; rest = cc h; inside = omega arith }
stands (x ∷ lines) (suc n) line behind h =
    let more = stands lines n line behind h in
    record { front = ap (λ ls. x ∷ ls) more.front; rest = more.rest; inside = omega (arith, more.inside) }

pub read_more : (text : List ℕ) (count : ℕ) (old new : Given) (rest line behind : List ℕ) → HasRead text count old rest
    → lines_of rest ≡ line ∷ lines_of behind → length behind < length rest → Takes old (reading_of line) new → HasRead text (count + 1) new behind
read_more text count old new rest line behind read first shorter taken =
    let place = stands (lines_of text) count line (lines_of behind) (read.left ∙ first) in
    let more = takes (take count (lines_of text)) line new read.fit (subst (λ g. Takes g (reading_of line) new) read.are taken) in
    rw add-one (record {
      few = omega (arith, read.few);
      within = place.inside;
      left = place.rest;
      fit = ap contexts_fit place.front ∙ more.0;
      are = more.1 ∙ sym (ap given_by place.front);
    })

pub read_refused : (text : List ℕ) (count : ℕ) (old : Given) (rest line behind : List ℕ) (why : PolicyRefusal) → HasRead text count old rest
    → lines_of rest ≡ line ∷ lines_of behind → IsLineRefusal old (reading_of line) (count + 1) why → IsTextRefusal text why
read_refused text count old rest line behind why read first refused =
    let front : List (List ℕ) = take count (lines_of text) in
    let long : length front ≡ count = omega (arith, length-take count (lines_of text), read.within) in
    let whole : lines_of text ≡ front ++ line ∷ lines_of behind = sym (take-append-drop count (lines_of text)) ∙ ap (λ ls. front ++ ls) (read.left ∙ first) in
    let there : IsLineRefusal (given_by front) (reading_of line) (length front + 1) why =
    subst (λ n. IsLineRefusal (given_by front) (reading_of line) (n + 1) why) (sym long) (subst (λ g. IsLineRefusal g (reading_of line) (count + 1) why) read.are refused) in
    refuses text front (lines_of behind) line why whole read.fit there

pub read_all : (text : List ℕ) (contexts : Contexts) (rest : List ℕ) → HasRead text contexts.lines (given contexts) rest → length rest ≡ 0 → AreGiven text contexts
read_all text contexts [] read none =
    let nothing : length (drop contexts.lines (lines_of text)) ≡ 0 = ap length read.left in
    let all : contexts.lines ≡ length (lines_of text) = omega (arith, length-drop contexts.lines (lines_of text), read.within) in
    let whole : take contexts.lines (lines_of text) ≡ lines_of text = ap (λ n. take n (lines_of text)) all ∙ take-length (lines_of text) in
    record { fit = sym (ap contexts_fit whole) ∙ read.fit; are = read.are ∙ ap given_by whole; count = all; few = omega (arith, read.few) }
read_all text contexts (b ∷ rest) read none = absurd (omega arith)
