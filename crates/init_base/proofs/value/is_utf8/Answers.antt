use Rattle.std.proofs.Common.{◌≡◌, true, false, List, ℕ, Result, Ok, Err, refl, sym, ◌∙◌}
use Rattle.std.specs.Result.{MatchResult, is_ok}
use Rattle.std.specs.Str.{IsUtf8, is_utf8}
use Rattle.std.proofs.lemmas.Str.{IsUtf8-from_is_utf8, is_utf8-from_IsUtf8}
use Rattle.init_base.proofs.value.is_utf8.Goals as goal

isnt_text : (bs : List ℕ) → (IsUtf8 bs → ⊥) → false ≡ is_utf8 bs
isnt_text bs none =
    elim (is_utf8 bs) as (λ b. is_utf8 bs ≡ b → false ≡ b) [ true ↦ λ e. absurd (none (IsUtf8-from_is_utf8 bs e)) | false ↦ λ e. refl ] refl

ok_is_text : {T E : Type 0} (P : T → Type 0) (Q : E → Type 0) (r : Result T E) (bs : List ℕ)
    → MatchResult r (λ s. P s × IsUtf8 bs) (λ e. (IsUtf8 bs → ⊥) × Q e) → is_ok r ≡ is_utf8 bs
ok_is_text P Q (Ok s) bs h = sym (is_utf8-from_IsUtf8 bs h.1)
ok_is_text P Q (Err e) bs h = isnt_text bs h.0

pub returns : goal.returns
returns c = c.is_ok.ensures.value ∙ ok_is_text _ _ c.from_utf8.result c.args.bytes.now c.from_utf8.ensures.cases
