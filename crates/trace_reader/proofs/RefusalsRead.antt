-- Refusals, causes and ends of processes are read as they are written.
use Rattle.std.proofs.Common.{◌≡◌, ℕ, List, [], ◌∷◌, map, codes, Some, refl, sym, ap, subst, inl, inr}
use Rattle.std.specs.Option.{option_map}
use Rattle.std.specs.Str.{bytes_eq}
use Rattle.init_machine.specs.HasText.{CauseHasText, RefusalHasText}
use Rattle.init_machine.specs.declared.output.Cause.{Cause}
use Rattle.init_machine.specs.declared.output.Cause.TheVariants as cause
use Rattle.init_machine.specs.declared.output.How.{How}
use Rattle.init_machine.specs.declared.output.How.TheVariants as how
use Rattle.init_machine.specs.declared.output.SetRefusal.{SetRefusal}
use Rattle.init_machine.specs.declared.output.SetRefusal.TheVariants as refusal
use Rattle.init_machine.proofs.DistinctSums.{same_bytes}
use Rattle.init_trace.specs.Fields.{cause_fields, how_fields, refusal_fields}
use Rattle.trace_reader.specs.Held.{CauseIsHeld, HowIsHeld, RefusalIsHeld}
use Rattle.script_lang.specs.Statements.{status_in}
use Rattle.trace_reader.specs.Reading.{lone, only}
use Rattle.trace_reader.specs.Refusals.{cause_in, cause_named, cause_of, how_of, refusal_in, refusal_named, refusal_of}
use Rattle.trace_reader.specs.declared.cause.CauseWord.{CauseWord}
use Rattle.trace_reader.specs.declared.cause.CauseWord.TheVariants as cause_word
use Rattle.trace_reader.specs.declared.cause.TheConstants.{CAUSES}
use Rattle.trace_reader.specs.declared.refusal.RefusalWord.{RefusalWord}
use Rattle.trace_reader.specs.declared.refusal.RefusalWord.TheVariants as refusal_word
use Rattle.trace_reader.specs.declared.refusal.TheConstants.{REFUSALS}
use Rattle.trace_reader.proofs.Choices.{bind_some, choose_named, if_some, map_some}
use Rattle.trace_reader.proofs.Spells.{IsWritten, by_lone, by_one, by_two, large, mapped, status, text, tree_spells, two_complete, written_as}

abbrev pub RefusalIsGood : SetRefusal → Type 0
RefusalIsGood r = RefusalIsHeld r × RefusalHasText r

abbrev pub RefusalIsWritten : List (List ℕ) → SetRefusal → Type 0
RefusalIsWritten words r = IsWritten SetRefusal refusal_fields RefusalIsGood words r

refusal_name : RefusalWord → List ℕ
refusal_name refusal_word.Down = codes "Down"
refusal_name refusal_word.InvalidName = codes "InvalidName"
refusal_name refusal_word.UnknownControl = codes "UnknownControl"
refusal_name refusal_word.Denied = codes "Denied"
refusal_name refusal_word.NoSuchService = codes "NoSuchService"
refusal_name refusal_word.InvalidType = codes "InvalidType"
refusal_name refusal_word.ValueTooLong = codes "ValueTooLong"
refusal_name refusal_word.NotUtf8 = codes "NotUtf8"
refusal_name refusal_word.ReadOnly = codes "ReadOnly"
refusal_name refusal_word.AreaFull = codes "AreaFull"
refusal_name refusal_word.NumberSpent = codes "NumberSpent"

refusal_in_written : (k : RefusalWord) (args : List (List ℕ)) (r : SetRefusal) → refusal_in k args ≡ Some r → RefusalIsWritten (refusal_name k ∷ args) r
unfolding refusal_name refusal_fields
refusal_in_written refusal_word.Down = by_one refusal_fields RefusalIsGood (codes "Down") (λ target. refusal.Down target) text (λ a h. (h, tt)) (λ a. refl)
refusal_in_written refusal_word.InvalidName = by_lone refusal_fields RefusalIsGood (codes "InvalidName") refusal.InvalidName (tt, tt) refl
refusal_in_written refusal_word.UnknownControl = by_lone refusal_fields RefusalIsGood (codes "UnknownControl") refusal.UnknownControl (tt, tt) refl
refusal_in_written refusal_word.Denied = by_one refusal_fields RefusalIsGood (codes "Denied") (λ context. refusal.Denied context) text (λ a h. (h, tt)) (λ a. refl)
refusal_in_written refusal_word.NoSuchService = by_lone refusal_fields RefusalIsGood (codes "NoSuchService") refusal.NoSuchService (tt, tt) refl
refusal_in_written refusal_word.InvalidType = by_lone refusal_fields RefusalIsGood (codes "InvalidType") refusal.InvalidType (tt, tt) refl
refusal_in_written refusal_word.ValueTooLong = by_one refusal_fields RefusalIsGood (codes "ValueTooLong") (λ len. refusal.ValueTooLong len) large (λ a h. (h, tt)) (λ a. refl)
refusal_in_written refusal_word.NotUtf8 = by_lone refusal_fields RefusalIsGood (codes "NotUtf8") refusal.NotUtf8 (tt, tt) refl
refusal_in_written refusal_word.ReadOnly = by_one refusal_fields RefusalIsGood (codes "ReadOnly") (λ number. refusal.ReadOnly number) large (λ a h. (h, tt)) (λ a. refl)
refusal_in_written refusal_word.AreaFull = by_two refusal_fields RefusalIsGood (codes "AreaFull") (λ used need. refusal.AreaFull used need) large large (λ a b h k. ((h, k), tt)) (λ a b. refl)
refusal_in_written refusal_word.NumberSpent = by_one refusal_fields RefusalIsGood (codes "NumberSpent") (λ last. refusal.NumberSpent last) large (λ a h. (h, tt)) (λ a. refl)

refusal_word_is : (word : List ℕ) (k : RefusalWord) → refusal_named word ≡ Some k → word ≡ refusal_name k
unfolding refusal_name
refusal_word_is word k e = choose_named refusal_name (map (λ row. (row.0.now, row.1)) REFUSALS) word k refl e

pub refusal_sound : (words : List (List ℕ)) (r : SetRefusal) → refusal_of words ≡ Some r → RefusalIsWritten words r
refusal_sound [] r e = cc
refusal_sound (word ∷ args) r e =
    let got = bind_some (refusal_named word) (λ known. refusal_in known args) r e in
    subst (λ w. RefusalIsWritten (w ∷ args) r) (sym (refusal_word_is word got.0 got.1)) (refusal_in_written got.0 args r got.2)

pub refusal_complete : (r : SetRefusal) → RefusalIsGood r → refusal_of (refusal_fields r) ≡ Some r
unfolding refusal_fields
refusal_complete refusal.Spent h = absurd h.1
refusal_complete (refusal.Down target) h = mapped (λ target. refusal.Down target) (text.complete target h.0)
refusal_complete refusal.InvalidName h = refl
refusal_complete refusal.UnknownControl h = refl
refusal_complete (refusal.Denied context) h = mapped (λ context. refusal.Denied context) (text.complete context h.0)
refusal_complete refusal.NoSuchService h = refl
refusal_complete refusal.InvalidType h = refl
refusal_complete (refusal.ValueTooLong len) h = mapped (λ len. refusal.ValueTooLong len) (large.complete len h.0)
refusal_complete refusal.NotUtf8 h = refl
refusal_complete (refusal.ReadOnly number) h = mapped (λ number. refusal.ReadOnly number) (large.complete number h.0)
refusal_complete (refusal.AreaFull used need) h = two_complete (λ used need. refusal.AreaFull used need) large large used need h.0.0 h.0.1
refusal_complete (refusal.NumberSpent last) h = mapped (λ last. refusal.NumberSpent last) (large.complete last h.0)
refusal_complete refusal.NoMemory h = absurd h.1

-- ---- causes

abbrev pub CauseIsGood : Cause → Type 0
CauseIsGood c = CauseIsHeld c × CauseHasText c

abbrev pub CauseIsWritten : List (List ℕ) → Cause → Type 0
CauseIsWritten words c = IsWritten Cause cause_fields CauseIsGood words c

cause_name : CauseWord → List ℕ
cause_name cause_word.Absent = codes "Absent"
cause_name cause_word.BadForm = codes "BadForm"
cause_name cause_word.TooLong = codes "TooLong"
cause_name cause_word.NoSuchService = codes "NoSuchService"
cause_name cause_word.AlreadyRunning = codes "AlreadyRunning"
cause_name cause_word.NoPid = codes "NoPid"
cause_name cause_word.BadArgument = codes "BadArgument"
cause_name cause_word.Tree = codes "Tree"
cause_name cause_word.Set = codes "Set"

set_written : (args : List (List ℕ)) (c : Cause) → option_map (λ refusal. cause.Set refusal) (refusal_of args) ≡ Some c → CauseIsWritten (codes "Set" ∷ args) c
unfolding cause_fields
set_written args c e =
    let m = map_some (λ refusal. cause.Set refusal) (refusal_of args) c e in
    let got = refusal_sound args m.0 m.1 in
    written_as cause_fields CauseIsGood (codes "Set" ∷ args) (cause.Set m.0) c m.2 (ap (λ ws. codes "Set" ∷ ws) got.spelled) got.holds

cause_in_written : (k : CauseWord) (args : List (List ℕ)) (c : Cause) → cause_in k args ≡ Some c → CauseIsWritten (cause_name k ∷ args) c
unfolding cause_name cause_fields
cause_in_written cause_word.Absent = by_one cause_fields CauseIsGood (codes "Absent") (λ name. cause.Absent name) text (λ a h. (h, tt)) (λ a. refl)
cause_in_written cause_word.BadForm = by_one cause_fields CauseIsGood (codes "BadForm") (λ place. cause.BadForm place) large (λ a h. (h, tt)) (λ a. refl)
cause_in_written cause_word.TooLong = by_lone cause_fields CauseIsGood (codes "TooLong") cause.TooLong (tt, tt) refl
cause_in_written cause_word.NoSuchService = by_one cause_fields CauseIsGood (codes "NoSuchService") (λ name. cause.NoSuchService name) text (λ a h. (h, tt)) (λ a. refl)
cause_in_written cause_word.AlreadyRunning = by_one cause_fields CauseIsGood (codes "AlreadyRunning") (λ name. cause.AlreadyRunning name) text (λ a h. (h, tt)) (λ a. refl)
cause_in_written cause_word.NoPid = by_lone cause_fields CauseIsGood (codes "NoPid") cause.NoPid (tt, tt) refl
cause_in_written cause_word.BadArgument = by_one cause_fields CauseIsGood (codes "BadArgument") (λ number. cause.BadArgument number) large (λ a h. (h, tt)) (λ a. refl)
cause_in_written cause_word.Tree = by_one cause_fields CauseIsGood (codes "Tree") (λ kind. cause.Tree kind) tree_spells (λ a h. (tt, h)) (λ a. refl)
cause_in_written cause_word.Set = set_written

cause_word_is : (word : List ℕ) (k : CauseWord) → cause_named word ≡ Some k → word ≡ cause_name k
unfolding cause_name
cause_word_is word k e = choose_named cause_name (map (λ row. (row.0.now, row.1)) CAUSES) word k refl e

pub cause_sound : (words : List (List ℕ)) (c : Cause) → cause_of words ≡ Some c → CauseIsWritten words c
cause_sound [] c e = cc
cause_sound (word ∷ args) c e =
    let got = bind_some (cause_named word) (λ known. cause_in known args) c e in
    subst (λ w. CauseIsWritten (w ∷ args) c) (sym (cause_word_is word got.0 got.1)) (cause_in_written got.0 args c got.2)

pub cause_complete : (c : Cause) → CauseIsGood c → cause_of (cause_fields c) ≡ Some c
unfolding cause_fields
cause_complete (cause.Absent name) h = mapped (λ name. cause.Absent name) (text.complete name h.0)
cause_complete (cause.BadForm place) h = mapped (λ place. cause.BadForm place) (large.complete place h.0)
cause_complete cause.TooLong h = refl
cause_complete (cause.NoSuchService name) h = mapped (λ name. cause.NoSuchService name) (text.complete name h.0)
cause_complete (cause.AlreadyRunning name) h = mapped (λ name. cause.AlreadyRunning name) (text.complete name h.0)
cause_complete cause.NoPid h = refl
cause_complete (cause.BadArgument number) h = mapped (λ number. cause.BadArgument number) (large.complete number h.0)
cause_complete (cause.Tree kind) h = mapped (λ kind. cause.Tree kind) (tree_spells.complete kind h.1)
cause_complete (cause.Set r) h = mapped (λ refusal. cause.Set refusal) (refusal_complete r h)

-- ---- how a process ended

abbrev pub HowIsWritten : List (List ℕ) → How → Type 0
HowIsWritten words w = IsWritten How how_fields HowIsHeld words w

exit_written : (args : List (List ℕ)) (w : How) → option_map (λ status. how.Exit status) (only status_in args) ≡ Some w → HowIsWritten (codes "exit" ∷ args) w
unfolding how_fields
exit_written = by_one how_fields HowIsHeld (codes "exit") (λ status. how.Exit status) status (λ a h. h) (λ a. refl)

killed_written : (args : List (List ℕ)) (w : How) → lone how.Killed args ≡ Some w → HowIsWritten (codes "killed" ∷ args) w
unfolding how_fields
killed_written = by_lone how_fields HowIsHeld (codes "killed") how.Killed tt refl

pub how_sound : (words : List (List ℕ)) (w : How) → how_of words ≡ Some w → HowIsWritten words w
how_sound [] w e = cc
how_sound (word ∷ args) w e = elim (if_some (bytes_eq word (codes "exit")) _ _ w e) [
  | inl is ↦ subst (λ x. HowIsWritten (x ∷ args) w) (sym (same_bytes word (codes "exit") is.0)) (exit_written args w is.1)
  | inr isnt ↦ elim (if_some (bytes_eq word (codes "killed")) _ _ w isnt.1) [
    | inl is ↦ subst (λ x. HowIsWritten (x ∷ args) w) (sym (same_bytes word (codes "killed") is.0)) (killed_written args w is.1)
    | inr isnt ↦ let none = isnt.1 in cc
  ]
]

pub how_complete : (w : How) → HowIsHeld w → how_of (how_fields w) ≡ Some w
unfolding how_fields
how_complete (how.Exit n) h = mapped (λ status. how.Exit status) (status.complete n h)
how_complete how.Killed h = refl
