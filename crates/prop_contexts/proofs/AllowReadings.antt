-- An allow text, read up to some line.
use Rattle.std.proofs.Common.{◌≡◌, ℕ, suc, ◌+◌, ◌-◌, ◌<◌, ◌≤◌, true, false, ◌&&◌, List, [], ◌∷◌, ◌++◌, length, take, drop, refl, ap, sym, ◌∙◌, subst, IsTrue, arith}
use Rattle.std.proofs.Math.Seq.{take-length}
use Rattle.std.proofs.lemmas.Bool.{false≢true, false_from_ne_true}
use Rattle.std.proofs.lemmas.Grind.{flat_map-append}
use Rattle.std.proofs.lemmas.List.{append-nil, length-drop, length-take, take-append-drop}
use Rattle.std.proofs.lemmas.List.Folds.{list_all-append}
use Rattle.init_machine.specs.declared.policy.AllowLine.{AllowLine}
use Rattle.prop_contexts.specs.Allowed.{AreAllowed, IsAllowRefusal, IsPairRefusal, TakesPair}
use Rattle.prop_contexts.specs.Allows.{allow_of, allow_lines}
use Rattle.prop_contexts.specs.Contexts.{read_in}
use Rattle.prop_contexts.specs.Grammar.{allows_fit, is_formed}
use Rattle.init_base.specs.Lines.{lines_of}
use Rattle.prop_contexts.specs.declared.line.Reading.{Reading}
use Rattle.prop_contexts.specs.declared.line.Reading.TheVariants.{Skipped, Bad, Read}
use Rattle.prop_contexts.specs.declared.refusal.PolicyRefusal.{PolicyRefusal}
use Rattle.prop_contexts.specs.declared.refusal.PolicyRefusal.TheVariants as refusal
use Rattle.prop_contexts.proofs.Steps.{both, join}
use Rattle.prop_contexts.proofs.Readings.{stands}

-- the lines in front of this number were taken, and these bytes are left
pub record HasReadPairs (text : List ℕ) (number : ℕ) (allows : List AllowLine) (rest : List ℕ) : Type 0 where
  pub first : 1 ≤ number
  pub few : number + length rest ≤ length text + 1
  pub within : number - 1 ≤ length (lines_of text)
  pub left : drop (number - 1) (lines_of text) ≡ lines_of rest
  pub fit : IsTrue (allows_fit (take (number - 1) (lines_of text)))
  pub are : allows ≡ allow_lines (take (number - 1) (lines_of text))

-- one line behind others

pairs_more : (front : List (List ℕ)) (line : List ℕ) → allow_lines (front ++ line ∷ []) ≡ allow_lines front ++ read_in (allow_of line)
pairs_more front line =
    flat_map-append (λ l. read_in (allow_of l)) front (line ∷ []) ∙ ap (λ ls. allow_lines front ++ ls) (append-nil (read_in (allow_of line)))

fit_more : (front : List (List ℕ)) (line : List ℕ) → allows_fit (front ++ line ∷ []) ≡ (allows_fit front && (is_formed (allow_of line) && true))
fit_more front line = list_all-append (λ l. is_formed (allow_of l)) front (line ∷ [])

taken : (front : List (List ℕ)) (line : List ℕ) (r : Reading AllowLine) (new : List AllowLine) → allow_of line ≡ r → IsTrue (allows_fit front) → TakesPair (allow_lines front) r new
    → IsTrue (allows_fit (front ++ line ∷ [])) × (new ≡ allow_lines (front ++ line ∷ []))
taken front line Skipped new reads fit same =
    (fit_more front line ∙ rw reads (join (allows_fit front) true fit refl), same ∙ sym (pairs_more front line ∙ rw reads (append-nil (allow_lines front))))
taken front line Bad new reads fit none = absurd none
taken front line (Read pair) new reads fit is =
    (fit_more front line ∙ rw reads (join (allows_fit front) true fit refl), is ∙ sym (pairs_more front line ∙ rw reads refl))

unfit : (front : List (List ℕ)) (line : List ℕ) → allow_of line ≡ Bad → allows_fit (front ++ line ∷ []) ≡ false
unfit front line bad = false_from_ne_true (allows_fit (front ++ line ∷ [])) (λ h.
    let formed = both (is_formed (allow_of line)) true (both (allows_fit front) (is_formed (allow_of line) && true) (sym (fit_more front line) ∙ h)).1 in
    false≢true (sym (ap is_formed bad) ∙ formed.0))

pub pairs_read_more : (text : List ℕ) (number : ℕ) (old new : List AllowLine) (rest line behind : List ℕ) → HasReadPairs text number old rest
    → lines_of rest ≡ line ∷ lines_of behind → length behind < length rest → TakesPair old (allow_of line) new → HasReadPairs text (number + 1) new behind
pairs_read_more text number old new rest line behind read first shorter takes =
    let place = stands (lines_of text) (number - 1) line (lines_of behind) (read.left ∙ first) in
    let more = taken (take (number - 1) (lines_of text)) line (allow_of line) new refl read.fit (subst (λ g. TakesPair g (allow_of line) new) read.are takes) in
    let next : number + 1 - 1 ≡ suc (number - 1) = omega (arith, read.first) in
    record {
      first = omega arith;
      few = omega (arith, read.few);
      within = rw next place.inside;
      left = rw next place.rest;
      fit = rw next (ap allows_fit place.front ∙ more.0);
      are = rw next (more.1 ∙ sym (ap allow_lines place.front));
    }

pub pairs_refused : (text : List ℕ) (number : ℕ) (old : List AllowLine) (rest line behind : List ℕ) (why : PolicyRefusal) → HasReadPairs text number old rest
    → lines_of rest ≡ line ∷ lines_of behind → IsPairRefusal (allow_of line) number why → IsAllowRefusal text why
pairs_refused text number old rest line behind (refusal.BadLine true at) read first (is, bad) =
    let front : List (List ℕ) = take (number - 1) (lines_of text) in
    let long : number ≡ length front + 1 = omega (arith, length-take (number - 1) (lines_of text), read.within, read.first) in
    let whole : lines_of text ≡ front ++ line ∷ lines_of behind = sym (take-append-drop (number - 1) (lines_of text)) ∙ ap (λ ls. front ++ ls) (read.left ∙ first) in
    (line, record { front = front; behind = lines_of behind; place = whole; number_is = is ∙ long; front_fits = read.fit; unfit = unfit front line bad })
pairs_refused text number old rest line behind (refusal.BadLine false at) read first none = none
pairs_refused text number old rest line behind (refusal.Twice at) read first none = none
pairs_refused text number old rest line behind (refusal.NoDefault at) read first none = none
pairs_refused text number old rest line behind refusal.NoMemory read first h = tt

pub pairs_read_all : (text : List ℕ) (number : ℕ) (allows : List AllowLine) (rest : List ℕ) → HasReadPairs text number allows rest → length rest ≡ 0 → AreAllowed text allows
pairs_read_all text number allows [] read none =
    let nothing : length (drop (number - 1) (lines_of text)) ≡ 0 = ap length read.left in
    let all : number - 1 ≡ length (lines_of text) = omega (arith, length-drop (number - 1) (lines_of text), read.within) in
    let whole : take (number - 1) (lines_of text) ≡ lines_of text = ap (λ n. take n (lines_of text)) all ∙ take-length (lines_of text) in
    record { fit = sym (ap allows_fit whole) ∙ read.fit; are = read.are ∙ ap allow_lines whole }
pairs_read_all text number allows (b ∷ rest) read none = absurd (omega arith)
