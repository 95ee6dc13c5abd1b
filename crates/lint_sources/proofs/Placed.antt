-- The places of files among those that were read.
use Rattle.std.proofs.Common.{◌≡◌, ℕ, List, [], ◌∷◌, ◌++◌, length, Some, true, sym, ap, subst, refl, ◌∙◌, arith}
use Rattle.std.specs.Prelude.{All, nat_eq, slice_get}
use Rattle.std.specs.List.{list_any}
use Rattle.std.specs.Str.{bytes_eq}
use Rattle.std.proofs.lemmas.Option.{slice_get_within}
use Rattle.std.proofs.lemmas.List.Elements.{All-append, All-cons}
use Rattle.std.proofs.lemmas.Slice.Eq.{bytes_eq-Decides}
use Rattle.rc_tokens.specs.Lines.{Line}
use Rattle.lint_sources.specs.Sources.{AreSourcesOf, HasNumbers, HasSourceAt, IsSourceOf}
use Rattle.lint_sources.specs.Excused.{all_taken_elsewhere}
use Rattle.lint_sources.specs.Told.{Told, lines_at}
use Rattle.lint_sources.specs.declared.source.Source.{Source}

same_text : (one other : List ℕ) → bytes_eq one other ≡ true → one ≡ other
same_text one other is = (bytes_eq-Decides one other).0 is

pub has_source : (sources : List Source) (file : List ℕ) (place : ℕ) (source : Source)
    → slice_get sources place ≡ Some source → bytes_eq source.file file ≡ true → HasSourceAt sources file place
has_source sources file place source there same = record {
  within = slice_get_within sources place source there;
  source = source;
  is_there = there;
  file_is = same_text source.file file same;
}

all_of_one : (P : Source → Type 0) (source : Source) → P source → All P (source ∷ [])
all_of_one P source holds = All-cons P source [] holds (λ k d below. absurd (omega (arith, below)))

slice_get-append_last : (sources : List Source) (source : Source) → slice_get (sources ++ source ∷ []) (length sources) ≡ Some source
slice_get-append_last [] source = refl
slice_get-append_last (first ∷ rest) source = slice_get-append_last rest source

pub pushed_source : (sources all : List Source) (file : List ℕ) (source : Source) (place : ℕ)
    → all ≡ sources ++ source ∷ [] → place ≡ length sources → source.file ≡ file → HasSourceAt all file place
pushed_source sources all file source place added last same =
    let there : slice_get (sources ++ source ∷ []) (length sources) ≡ Some source = slice_get-append_last sources source in
    let here : slice_get all place ≡ Some source = ap (λ (s : List Source). slice_get s place) added ∙ ap (λ (n : ℕ). slice_get (sources ++ source ∷ []) n) last ∙ there in
    record { within = slice_get_within all place source here; source = source; is_there = here; file_is = same }

pub sources_more : (allowed : List (List ℕ)) (told : Told) (sources all : List Source) (source : Source)
    → AreSourcesOf allowed told sources → IsSourceOf allowed told source → all ≡ sources ++ source ∷ [] → AreSourcesOf allowed told all
sources_more allowed told sources all source are is added =
    subst (λ (s : List Source). AreSourcesOf allowed told s) (sym added)
    (All-append (IsSourceOf allowed told) sources (source ∷ []) are (all_of_one (IsSourceOf allowed told) source is))

pub source_read : (allowed : List (List ℕ)) (told : Told) (file : List ℕ) (lines : List Line) (source : Source)
    → lines ≡ lines_at told file → HasNumbers source.taken.keys (all_taken_elsewhere allowed lines) → source.file ≡ file
    → IsSourceOf allowed told source
source_read allowed told file lines source lines_are has same = λ number.
    has number ∙ ap (λ (ls : List Line). list_any (nat_eq number) (all_taken_elsewhere allowed ls)) (lines_are ∙ ap (lines_at told) (sym same))
