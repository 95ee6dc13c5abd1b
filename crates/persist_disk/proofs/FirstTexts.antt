-- The text of a store that is formatted late.
use Rattle.std.proofs.Common.{◌≡◌, ℕ, ◌<◌, Bool, true, false, List, length, Option, Some, None, Result, Ok, Err, IfSome, refl, arith}
use Rattle.std.proofs.lemmas.Bool.Decides.{nat_tests}
use Rattle.std.specs.Prelude.{⊤, nat_le, if◌then◌else◌}
use Rattle.init_base.specs.Keeping.{HoldsNew, LoadsHeld}
use Rattle.init_base.specs.declared.outside.refusal.IoRefusal.{IoRefusal}
use Rattle.init_base.specs.declared.outside.refusal.ReadRefusal.{ReadRefusal}
use Rattle.persist_disk.specs.Keeping.{first_text, told_text}

loads_by : (b : Bool) (image : List ℕ) (told old : Option (List ℕ)) (limit : ℕ) (result : Result (List ℕ) ReadRefusal) → nat_le 16 (length image) ≡ b → LoadsHeld told limit result → (length image < 16 → LoadsHeld old limit result)
    → LoadsHeld (if b then told else old) limit result
loads_by true image told old limit result is long few = long
loads_by false image told old limit result is long few = few (grind (arith, nat_tests))

-- what is loaded is what is told
pub loads_first : (silent : Bool) (size limit : ℕ) (content old : Option (List ℕ)) (result : Result (List ℕ) ReadRefusal) → LoadsHeld (told_text silent size content) limit result
    → IfSome content (λ image. length image < 16 → LoadsHeld old limit result) → LoadsHeld (first_text silent size content old) limit result
loads_first silent size limit None old result long few = tt
loads_first silent size limit (Some image) old result long few = loads_by (nat_le 16 (length image)) image (told_text silent size (Some image)) old limit result refl long few

is_told : (b : Bool) (image : List ℕ) (size : ℕ) (text : List ℕ) → nat_le 16 (length image) ≡ b → told_text false size (Some image) ≡ Some text → (if b then told_text false size (Some image) else None) ≡ Some text
is_told true image size text long is = is
is_told false image size text long is = rw long at is

told_by : (b : Bool) (told old : Option (List ℕ)) (text : List ℕ) → (if b then told else None) ≡ Some text → (if b then told else old) ≡ Some text
told_by true told old text is = is
told_by false told old text is = cc

-- a text that is told of the disk is the text that is told
first_told : (silent : Bool) (size : ℕ) (content old : Option (List ℕ)) (text : List ℕ) → told_text silent size content ≡ Some text → first_text silent size content old ≡ Some text
first_told true size content old text is = cc
first_told false size None old text is = cc
first_told false size (Some image) old text is = told_by (nat_le 16 (length image)) (told_text false size (Some image)) old text (is_told (nat_le 16 (length image)) image size text refl is)

holds_told : (silent : Bool) (size : ℕ) (now former : Option (List ℕ)) (held : Option (List ℕ)) (result : Result ⊤ IoRefusal) (text : List ℕ) → HoldsNew held (told_text silent size now) result text → HoldsNew held (first_text silent size now former) result text
holds_told silent size now former None result text holds = tt
holds_told silent size now former (Some held) (Ok done) text holds = first_told silent size now former text holds
holds_told silent size now former (Some held) (Err refusal) text holds = tt

holds_by : (b : Bool) (image : List ℕ) (told old now : Option (List ℕ)) (result : Result ⊤ IoRefusal) (text : List ℕ) → nat_le 16 (length image) ≡ b → HoldsNew told now result text → (length image < 16 → HoldsNew old now result text)
    → HoldsNew (if b then told else old) now result text
holds_by true image told old now result text is long few = long
holds_by false image told old now result text is long few = few (grind (arith, nat_tests))

-- a replace that is done leaves the new text
pub holds_first : (was silent : Bool) (was_size size : ℕ) (content now old former : Option (List ℕ)) (result : Result ⊤ IoRefusal) (text : List ℕ) → HoldsNew (told_text was was_size content) (told_text silent size now) result text
    → IfSome content (λ image. length image < 16 → HoldsNew old (told_text silent size now) result text)
    → HoldsNew (first_text was was_size content old) (first_text silent size now former) result text
holds_first was silent was_size size None now old former result text long few = tt
holds_first was silent was_size size (Some image) now old former result text long few =
    holds_by (nat_le 16 (length image)) image (told_text was was_size (Some image)) old (first_text silent size now former) result text refl
    (holds_told silent size now former (told_text was was_size (Some image)) result text long)
    (λ lt. holds_told silent size now former old result text (few lt))
