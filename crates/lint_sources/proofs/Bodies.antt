-- The lines of sections that another init takes.
use Rattle.std.proofs.Common.{◌≡◌, ℕ, true, false, List, [], ◌∷◌, ◌++◌, sym, ap, ◌∙◌, append_assoc}
use Rattle.std.proofs.lemmas.Bool.{cond-true, cond-false}
use Rattle.std.specs.List.{flat_map}
use Rattle.rc_parse.specs.Lines.{Section, is_header, lines_before_header, sections}
use Rattle.rc_tokens.specs.Lines.{Line}
use Rattle.rc_parse.specs.Lines.{is_on, is_service}
use Rattle.lint_sources.specs.internal.Steps.{is_excused_at}
use Rattle.lint_sources.specs.Excused.{all_taken_elsewhere, good_header, numbers_of, taken_elsewhere}
use Rattle.lint_sources.specs.declared.excuse.Part.TheVariants as part

section_of : Line → List Line → Section
section_of header behind = record { header = header; body = lines_before_header behind }

one_section : (header : Line) (behind : List Line) → is_header header ≡ true
    → sections (header ∷ behind) ≡ section_of header behind ∷ sections behind
unfolding section_of
one_section header behind is = cond-true _ _ _ is

no_section : (line : Line) (behind : List Line) → is_header line ≡ false → sections (line ∷ behind) ≡ sections behind
no_section line behind is = cond-false _ _ _ is

-- a header, and what stands behind it
pub section_more : (allowed : List (List ℕ)) (old new : List ℕ) (header : Line) (behind : List Line)
    → is_header header ≡ true
    → new ≡ old ++ taken_elsewhere allowed (record { header = header; body = lines_before_header behind })
    → new ++ all_taken_elsewhere allowed behind ≡ old ++ all_taken_elsewhere allowed (header ∷ behind)
unfolding section_of
section_more allowed old new header behind is added =
    ap (λ (n : List ℕ). n ++ all_taken_elsewhere allowed behind) added
    ∙ append_assoc old (taken_elsewhere allowed (section_of header behind)) (all_taken_elsewhere allowed behind)
    ∙ ap (λ (all : List Section). old ++ flat_map (taken_elsewhere allowed) all) (sym (one_section header behind is))

pub section_same : (allowed : List (List ℕ)) (old : List ℕ) (header : Line) (behind : List Line)
    → is_header header ≡ false → old ++ all_taken_elsewhere allowed behind ≡ old ++ all_taken_elsewhere allowed (header ∷ behind)
section_same allowed old header behind is =
    ap (λ (all : List Section). old ++ flat_map (taken_elsewhere allowed) all) (sym (no_section header behind is))

-- ---- one section

pub in_action : (allowed : List (List ℕ)) (header : Line) (old mid new : List ℕ) (body behind : List Line)
    → is_on header ≡ true → body ≡ lines_before_header behind
    → mid ≡ old ++ good_header (record { header = header; body = [] }) → new ≡ mid ++ numbers_of (is_excused_at part.Action allowed) body
    → new ≡ old ++ taken_elsewhere allowed (record { header = header; body = lines_before_header behind })
unfolding section_of
in_action allowed header old mid new body behind on body_is first added =
    let good : List ℕ = good_header (section_of header behind) in
    let numbers : List ℕ = numbers_of (is_excused_at part.Action allowed) (lines_before_header behind) in
    let whole : taken_elsewhere allowed (section_of header behind) ≡ good ++ numbers = cond-true _ _ _ on in
    added ∙ ap (λ (ls : List Line). mid ++ numbers_of (is_excused_at part.Action allowed) ls) body_is
    ∙ ap (λ (n : List ℕ). n ++ numbers) first ∙ append_assoc old good numbers
    ∙ ap (λ (n : List ℕ). old ++ n) (sym whole)

pub in_service : (allowed : List (List ℕ)) (header : Line) (old new : List ℕ) (body behind : List Line)
    → is_on header ≡ false → is_service header ≡ true → body ≡ lines_before_header behind
    → new ≡ old ++ numbers_of (is_excused_at part.Service allowed) body
    → new ≡ old ++ taken_elsewhere allowed (record { header = header; body = lines_before_header behind })
unfolding section_of
in_service allowed header old new body behind off service body_is added =
    let numbers : List ℕ = numbers_of (is_excused_at part.Service allowed) (lines_before_header behind) in
    let whole : taken_elsewhere allowed (section_of header behind) ≡ numbers = cond-false _ _ _ off ∙ cond-true _ _ _ service in
    added ∙ ap (λ (ls : List Line). old ++ numbers_of (is_excused_at part.Service allowed) ls) body_is
    ∙ ap (λ (n : List ℕ). old ++ n) (sym whole)
