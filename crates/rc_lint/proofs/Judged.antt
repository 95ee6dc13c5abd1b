-- What is told of a diagnostic, by the lines of its file.
use Rattle.std.proofs.Common.{◌≡◌, ℕ, suc, ◌+◌, ◌<◌, ◌≤◌, Bool, true, false, not, ◌&&◌, List, [], ◌∷◌, ◌++◌, Some, refl, sym, ap, subst, ◌∙◌, append_assoc, append-nil, length, get_or, drop, drop-cons, add-one}
use Rattle.std.specs.Prelude.{if◌then◌else◌, nat_eq}
use Rattle.std.specs.List.{list_any}
use Rattle.std.proofs.lemmas.List.{drop_all}
use Rattle.std.proofs.lemmas.List.Elements.{All-get_or}
use Rattle.std.proofs.lemmas.Option.{slice_get-get_or}
use Rattle.init_machine.specs.declared.diagnostic.Diagnostic.{Diagnostic}
use Rattle.rc_lint.specs.internal.Judged.{told_by}
use Rattle.lint_sources.specs.Sources.{AreSourcesOf, HasSourceAt, IsSourceOf}
use Rattle.lint_sources.specs.Excused.{all_taken_elsewhere, errors_among, is_excusable, is_excused}
use Rattle.lint_sources.specs.Told.{Told, lines_at}
use Rattle.lint_sources.specs.declared.source.Source.{Source}

-- a diagnostic that is excused is left out
by_excuse : (b : Bool) (d : Diagnostic) (rest : List Diagnostic)
    → (if not b then d ∷ rest else rest) ≡ (if b then [] else d ∷ []) ++ rest
by_excuse true d rest = refl
by_excuse false d rest = refl

pub first_told : (allowed : List (List ℕ)) (told : Told) (source : Source) (d : Diagnostic) (rest : List Diagnostic)
    → IsSourceOf allowed told source → source.file ≡ d.file
    → errors_among allowed told (d ∷ rest) ≡ told_by source d ++ errors_among allowed told rest
first_told allowed told source d rest is same =
    let lines : all_taken_elsewhere allowed (lines_at told source.file) ≡ all_taken_elsewhere allowed (lines_at told d.file) =
    ap (λ (f : List ℕ). all_taken_elsewhere allowed (lines_at told f)) same in
    let excused : is_excused allowed told d ≡ (is_excusable d.kind && list_any (nat_eq d.line) source.taken.keys) =
    ap (λ (b : Bool). is_excusable d.kind && b) (ap (list_any (nat_eq d.line)) (sym lines) ∙ sym (is d.line)) in
    by_excuse (is_excused allowed told d) d (errors_among allowed told rest)
    ∙ ap (λ (b : Bool). (if b then [] else d ∷ []) ++ errors_among allowed told rest) excused

-- a step of the loop over the diagnostics
pub told_more : (allowed : List (List ℕ)) (told : Told) (source : Source) (d : Diagnostic) (rest left old new all : List Diagnostic)
    → left ≡ d ∷ rest → IsSourceOf allowed told source → source.file ≡ d.file
    → new ≡ old ++ told_by source d → old ++ errors_among allowed told left ≡ all
    → new ++ errors_among allowed told rest ≡ all
told_more allowed told source d rest left old new all first is same added so_far =
    ap (λ (ds : List Diagnostic). ds ++ errors_among allowed told rest) added
    ∙ append_assoc old (told_by source d) (errors_among allowed told rest)
    ∙ ap (λ (ds : List Diagnostic). old ++ ds) (sym (ap (errors_among allowed told) first ∙ first_told allowed told source d rest is same))
    ∙ so_far

some_same : (one other : Source) → Some one ≡ Some other → one ≡ other
some_same one other is = cc

-- the same, where what is left begins at an index, and the source stands at a place
pub told_at : (allowed : List (List ℕ)) (told : Told) (sources : List Source) (place : ℕ) (source : Source) (d : Diagnostic)
    (ds old new all : List Diagnostic) (i : ℕ)
    → i < length ds → d ≡ get_or ds i d → AreSourcesOf allowed told sources → HasSourceAt sources d.file place → source ≡ get_or sources place source
    → new ≡ old ++ told_by source d → old ++ errors_among allowed told (drop i ds) ≡ all
    → new ++ errors_among allowed told (drop (i + 1) ds) ≡ all
told_at allowed told sources place source d ds old new all i below there are stands is added so_far =
    let left : drop i ds ≡ d ∷ drop (i + 1) ds = rw add-one (drop-cons ds i d below ∙ ap (λ (x : Diagnostic). x ∷ drop (suc i) ds) (sym there)) in
    let found : Some stands.source ≡ Some (get_or sources place source) = sym stands.is_there ∙ slice_get-get_or sources place source stands.within in
    let one : stands.source ≡ source = some_same _ _ found ∙ sym is in
    told_more allowed told source d (drop (i + 1) ds) (drop i ds) old new all left
    (subst (IsSourceOf allowed told) (sym is) (All-get_or (IsSourceOf allowed told) sources place source stands.within are))
    (ap (λ (s : Source). s.file) (sym one) ∙ stands.file_is) added so_far

-- where none is left, all are told
pub told_all : (allowed : List (List ℕ)) (told : Told) (ds old : List Diagnostic) (i : ℕ) → length ds ≤ i
    → old ++ errors_among allowed told (drop i ds) ≡ errors_among allowed told ds → old ≡ errors_among allowed told ds
told_all allowed told ds old i past so_far =
    sym (append-nil old) ∙ ap (λ (rest : List Diagnostic). old ++ errors_among allowed told rest) (sym (drop_all i ds past)) ∙ so_far
