-- What a replace leaves of the text that is told, and of the texts that a crash may leave.
use Rattle.std.proofs.Common.{◌≡◌, ◌⊎◌, inl, inr, ⊎_elim, ℕ, ◌+◌, ◌<◌, ◌≤◌, Bool, true, false, List, length, Option, Some, None, Result, Ok, Err, IfSome, OnOk, refl, sym, ◌∙◌, ap, subst, arith}
use Rattle.std.proofs.lemmas.Bool.Decides.{nat_tests}
use Rattle.std.specs.Prelude.{⊤, nat_le, if◌then◌else◌}
use Rattle.init_base.specs.Crash.{LeavesAlone, LeavesNoOther, ReachesBack}
use Rattle.init_base.specs.Keeping.{HoldsNew}
use Rattle.init_base.specs.declared.outside.refusal.IoRefusal.{IoRefusal}
use Rattle.persist_disk.specs.DiskModel.{LeavesRead, MayLeaveRead}
use Rattle.persist_disk.specs.Image.{text_of, IsChosen, IsStore, Opens, Reopens}
use Rattle.persist_disk.specs.Keeping.{opened_text, told_text, FormatsAs, IsFormatted}
use Rattle.persist_disk.specs.Replacing.{formatted, replaced, LeavesEither, Puts}
use Rattle.persist_disk.specs.declared.layout.Chosen.{Chosen}
use Rattle.persist_disk.proofs.Crashes.{opens_formatted, opens_replaced}

-- what is told of a disk that opens
pub told_is : (size : ℕ) (image text : List ℕ) → Opens size image text → told_text false size (Some image) ≡ Some text
told_is size image text opens =
    let long : nat_le 16 (length image) ≡ true = let formatted = opens.0.formatted in grind (arith, nat_tests) in
    rw long (ap (λ (l : List ℕ). Some l) (sym opens.1))

-- nothing is told of a disk that isn't
pub told_none : (silent : Bool) (size : ℕ) (content held : Option (List ℕ)) → told_text silent size content ≡ held → content ≡ None → held ≡ None
told_none true size content held is none = sym is
told_none false size content held is none = sym is ∙ ap (λ (o : Option (List ℕ)). told_text false size o) none

told_put : (silent : Bool) (size now_size : ℕ) (image text : List ℕ) (now : Option (List ℕ)) → silent ≡ false → now_size ≡ size → now ≡ Some image → Opens size image text → told_text silent now_size now ≡ Some text
told_put silent size now_size image text now silent_is size_is now_is opens =
    ap (λ b. told_text b now_size now) silent_is ∙ ap (λ n. told_text false n now) size_is ∙ ap (λ (o : Option (List ℕ)). told_text false size o) now_is ∙ told_is size image text opens

pub held_put : (held content now : Option (List ℕ)) (silent : Bool) (size now_size : ℕ) (chosen : Chosen) (result : Result ⊤ IoRefusal) (text : List ℕ) → IfSome content (λ image. IsChosen size image chosen) → Puts size chosen.slot content now result text
    → length text + 8 ≤ size → size ≤ 33554440 → OnOk result (silent ≡ false) → now_size ≡ size → (content ≡ None → held ≡ None) → HoldsNew held (told_text silent now_size now) result text
held_put None content now silent size now_size chosen result text stands puts fits bound silent_is size_is none = tt
held_put (Some held) content now silent size now_size chosen (Err refusal) text stands puts fits bound silent_is size_is none = tt
held_put (Some held) None now silent size now_size chosen (Ok done) text stands puts fits bound silent_is size_is none = absurd (cc (none refl))
held_put (Some held) (Some image) now silent size now_size chosen (Ok done) text stands puts fits bound silent_is size_is none =
    told_put silent size now_size (replaced size chosen.slot image text) text now silent_is size_is puts (opens_replaced size image text chosen.slot stands.store stands.slot_is fits bound).0

-- so does one behind a first opening
pub first_put : (content mid now old : Option (List ℕ)) (silent : Bool) (was_size size now_size : ℕ) (opened chosen : Chosen) (result : Result ⊤ IoRefusal) (text : List ℕ) → IfSome content (λ image. length image < 16 → FormatsAs was_size content mid old (Ok opened))
    → IfSome mid (λ image. IsChosen size image chosen) → Puts size chosen.slot mid now result text → length text + 8 ≤ size → size ≤ 33554440 → OnOk result (silent ≡ false) → now_size ≡ size
    → IfSome content (λ image. length image < 16 → HoldsNew old (told_text silent now_size now) result text)
first_put None mid now old silent was_size size now_size opened chosen result text formats stands puts fits bound silent_is size_is = tt
first_put (Some image) mid now None silent was_size size now_size opened chosen result text formats stands puts fits bound silent_is size_is = λ few. tt
first_put (Some image) mid now (Some held) silent was_size size now_size opened chosen result text formats stands puts fits bound silent_is size_is =
    λ few. let is = (formats few).1 in held_put (Some held) mid now silent size now_size chosen result text stands puts fits bound silent_is size_is (λ none. cc (is, none))

-- a text that a crash in a replace leaves is one that a crash could leave before, or the new one
pub either_text : (content : Option (List ℕ)) (began later size : ℕ) (chosen : Chosen) (before middle after : ℕ → List ℕ → Type 0) (text : List ℕ) → began ≤ later → LeavesNoOther began before middle → ReachesBack middle
    → MayLeaveRead content (middle later) → IfSome content (λ image. IsChosen size image chosen) → IfSome content (λ image. LeavesEither size later middle after image text)
    → (m : ℕ) (left bytes : List ℕ) → m ≤ began → after m bytes → Reopens size bytes left → ((image : List ℕ) × before m image × Reopens size image left) ⊎ (left ≡ text)
either_text None began later size chosen before middle after text le_later no_other earlier read stands leaves m left bytes le at reopens = absurd read
either_text (Some image) began later size chosen before middle after text le_later no_other earlier read stands leaves m left bytes le at reopens =
    let le_middle : m ≤ later = omega arith in
    let was_there : before m image = no_other m image le (earlier m later image le_middle read) in
    ⊎_elim
    (λ was. inl (bytes, no_other m bytes le was, reopens))
    (λ opens. ⊎_elim
    (λ old. inl (image, was_there, λ store. reopens old.0 ∙ sym old.1))
    (λ new. inr (reopens new.0 ∙ sym new.1))
    opens)
    (leaves m bytes le_middle at)

-- and from the end of the replace on it leaves the new one
pub alone_put : (content now : Option (List ℕ)) (size : ℕ) (chosen : Chosen) (result : Result ⊤ IoRefusal) (before after : List ℕ → Type 0) (text : List ℕ) → MayLeaveRead content before → IfSome content (λ image. IsChosen size image chosen)
    → Puts size chosen.slot content now result text → length text + 8 ≤ size → size ≤ 33554440 → OnOk result (LeavesRead now after) → OnOk result (LeavesAlone (λ left. (image : List ℕ) × after image × Reopens size image left) text)
alone_put None now size chosen result before after text read stands puts fits bound safe = absurd read
alone_put (Some image) now size chosen (Err refusal) before after text read stands puts fits bound safe = tt
alone_put (Some image) now size chosen (Ok done) before after text read stands puts fits bound safe =
    let final = replaced size chosen.slot image text in
    let opens = (opens_replaced size image text chosen.slot stands.store stands.slot_is fits bound).0 in
    let alone : LeavesAlone after final = subst (λ (o : Option (List ℕ)). LeavesRead o after) puts safe in
    λ left. (
      λ there.
          let is : there.0 ≡ final = (alone there.0).0 there.1 in
          there.2 (subst (λ (l : List ℕ). IsStore size l) (sym is) opens.0) ∙ ap (λ (l : List ℕ). text_of size l) is ∙ sym opens.1,
      λ is. (final, (alone final).1 refl, λ store. is ∙ opens.1),
    )

told_image : (size now_size : ℕ) (image : List ℕ) (now : Option (List ℕ)) → nat_le 16 (length image) ≡ true → now_size ≡ size → now ≡ Some image → told_text false now_size now ≡ Some (text_of size image)
told_image size now_size image now long size_is now_is =
    let told : told_text false size (Some image) ≡ Some (text_of size image) = rw long refl in
    ap (λ n. told_text false n now) size_is ∙ ap (λ (o : Option (List ℕ)). told_text false size o) now_is ∙ told

opened_as : (b : Bool) (image : List ℕ) (now old : Option (List ℕ)) (size now_size : ℕ) → nat_le 16 (length image) ≡ b → (16 ≤ length image → now ≡ Some image)
    → (length image < 16 → IfSome old (λ text. (length text + 8 ≤ size) × (now ≡ Some (formatted text)))) → now_size ≡ size → size ≤ 33554440
    → IfSome (if b then Some (text_of size image) else old) (λ text. told_text false now_size now ≡ Some text)
opened_as true image now old size now_size is kept formats size_is bound =
    let long : 16 ≤ length image = grind (arith, nat_tests) in
    told_image size now_size image now is size_is (kept long)
opened_as false image now None size now_size is kept formats size_is bound = tt
opened_as false image now (Some text) size now_size is kept formats size_is bound =
    let few : length image < 16 = grind (arith, nat_tests) in
    let f = formats few in
    told_put false size now_size (formatted text) text now refl size_is f.1 (opens_formatted size text f.0 bound)

-- what is told after opening
pub opened_told : (content now old : Option (List ℕ)) (size now_size : ℕ) (chosen : Chosen) → (IsFormatted content → now ≡ content)
    → IfSome content (λ image. length image < 16 → FormatsAs size content now old (Ok chosen)) → now_size ≡ size → size ≤ 33554440
    → IfSome content (λ image. IfSome (opened_text size image old) (λ text. told_text false now_size now ≡ Some text))
opened_told None now old size now_size chosen kept formats size_is bound = tt
opened_told (Some image) now old size now_size chosen kept formats size_is bound =
    opened_as (nat_le 16 (length image)) image now old size now_size refl kept formats size_is bound

-- a count that a read of a told disk leaves is left by a read behind opening it
pub own_left : (content mid : Option (List ℕ)) (size before opened read : ℕ) → (IsFormatted content → mid ≡ content) → opened ≡ before → IfSome mid (λ _. read ≡ opened) → IfSome content (λ image. IsStore size image → read ≡ before)
own_left None mid size before opened read kept same told = tt
own_left (Some image) mid size before opened read kept same told = λ store. subst (λ (o : Option (List ℕ)). IfSome o (λ _. read ≡ opened)) (kept store.formatted) told ∙ same
