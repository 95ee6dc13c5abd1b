-- A text has at most one fault.
use Rattle.std.proofs.Common.{◌≡◌, ℕ, ◌<◌, List, [], ◌++◌, length, inl, inr, refl, sym, ap, subst, ◌∙◌, arith}
use Rattle.std.proofs.lemmas.Bool.{cases_lt}
use Rattle.init_base.specs.Lines.{lines_of}
use Rattle.trace_reader.specs.Drafts.{end_line}
use Rattle.trace_causes.specs.Faults.{ended_front, HasBad, inner_count, IsFirstBad, IsReports, LacksEnd, LacksLineFeed, OneFault, Says, told_number}
use Rattle.trace_causes.specs.declared.fault.LineFault.{LineFault}
use Rattle.trace_causes.specs.declared.fault.LineFault.TheVariants as fault
use Rattle.trace_causes.specs.declared.fault.TextFault.{TextFault}
use Rattle.trace_causes.proofs.Ends.{inner_few, inner_good, inner_some}
use Rattle.trace_causes.proofs.Fronts.{whole_front}
use Rattle.trace_causes.proofs.Readings.{not_both}
use Rattle.trace_causes.proofs.Shorter.{shorter}

not_below : (lines : List (List ℕ)) (count a b : ℕ) → IsFirstBad lines count a → IsFirstBad lines count b → a < b → ⊥
not_below lines count a b h k less = not_both (ended_front lines a) (k.before a h.some less) (h.bad [])

one_bad : (lines : List (List ℕ)) (count a b : ℕ) → IsFirstBad lines count a → IsFirstBad lines count b → a ≡ b
one_bad lines count a b h k = elim (cases_lt a b) [
  | inl less ↦ absurd (not_below lines count a b h k less)
  | inr more ↦ elim (cases_lt b a) [
    | inl less ↦ absurd (not_below lines count b a k h less)
    | inr most ↦ omega arith
  ]
]

-- no line is bad where the end is
good_before_end : (text : List ℕ) (number : ℕ) → LacksEnd text number → IsReports (ended_front (lines_of text) (inner_count (lines_of text)))
good_before_end text number h =
    let lines = lines_of text in
    shorter text (inner_count lines) (length lines) [] h.title (inner_some lines h.title) (inner_few lines)
    (subst IsReports (ap (λ t. t ++ end_line) (sym (whole_front text h.line_end))) h.good)

not_bad : (text : List ℕ) (number : ℕ) → HasBad text number → IsReports (ended_front (lines_of text) (inner_count (lines_of text))) → ⊥
not_bad text number h good =
    let lines = lines_of text in
    not_both (ended_front lines h.bad) (shorter text h.bad (inner_count lines) [] h.title h.is.some h.is.among good) (h.is.bad [])

not_bad_end : (text : List ℕ) (m n : ℕ) → HasBad text m → LacksEnd text n → ⊥
not_bad_end text m n h k = not_bad text m h (good_before_end text n k)

not_bad_open : (text : List ℕ) (m n : ℕ) → HasBad text m → LacksLineFeed text n → ⊥
not_bad_open text m n h k = not_bad text m h (inner_good text k.title k.line_end k.good)

bad_line : (text : List ℕ) (m n : ℕ) → HasBad text m → HasBad text n → m ≡ n
bad_line text m n h k =
    h.line ∙ ap (told_number (lines_of text)) (one_bad (lines_of text) (inner_count (lines_of text)) h.bad k.bad h.is k.is) ∙ sym k.line

same : (text : List ℕ) (a b : LineFault) (m n : ℕ) → Says a text m → Says b text n → (a ≡ b) × (m ≡ n)
same text fault.NoTitle fault.NoTitle m n h k = (refl, h.line ∙ sym k.line)
same text fault.NoTitle fault.NoForm m n h k = let no = h.title in let yes = k.title in cc
same text fault.NoTitle fault.NoEnd m n h k = let no = h.title in let yes = k.title in cc
same text fault.NoTitle fault.NoLineFeed m n h k = let no = h.title in let yes = k.title in cc
same text fault.NoForm fault.NoTitle m n h k = let no = k.title in let yes = h.title in cc
same text fault.NoForm fault.NoForm m n h k = (refl, bad_line text m n h k)
same text fault.NoForm fault.NoEnd m n h k = absurd (not_bad_end text m n h k)
same text fault.NoForm fault.NoLineFeed m n h k = absurd (not_bad_open text m n h k)
same text fault.NoEnd fault.NoTitle m n h k = let no = k.title in let yes = h.title in cc
same text fault.NoEnd fault.NoForm m n h k = absurd (not_bad_end text n m k h)
same text fault.NoEnd fault.NoEnd m n h k = (refl, h.line ∙ sym k.line)
same text fault.NoEnd fault.NoLineFeed m n h k = let no = k.line_end in let yes = h.line_end in cc
same text fault.NoLineFeed fault.NoTitle m n h k = let no = k.title in let yes = h.title in cc
same text fault.NoLineFeed fault.NoForm m n h k = absurd (not_bad_open text n m k h)
same text fault.NoLineFeed fault.NoEnd m n h k = let no = h.line_end in let yes = k.line_end in cc
same text fault.NoLineFeed fault.NoLineFeed m n h k = (refl, h.line ∙ sym k.line)

pub one_fault : OneFault
one_fault text a b h k =
    let p = same text a.what b.what a.line b.line h.says k.says in
    let made : ℕ → LineFault → TextFault = λ line what. record { line = line; what = what } in
    ap (λ n. made n a.what) p.1 ∙ ap (λ w. made b.line w) p.0
