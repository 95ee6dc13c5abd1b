-- A store on a disk, as a keeper of its text.
use Rattle.std.specs.Prelude.{◌≡◌, ◌≢◌, ◌↔◌, ⊤, ℕ, ◌+◌, ◌-◌, ◌^◌, ◌<◌, ◌≤◌, min, Bool, true, false, List, length, Option, Some, None, Result, Ok, Err, MatchOption, IfSome, OnOk, OnSome, is_some, nat_le, if◌then◌else◌}
use Rattle.init_base.specs.Crash.{LeavesNoOther}
use Rattle.init_base.specs.Faults.{Counted}
use Rattle.init_base.specs.Memory.{one_more}
use Rattle.init_base.specs.declared.outside.refusal.ReadRefusal.{ReadRefusal}
use Rattle.init_base.specs.declared.outside.refusal.ReadRefusal.TheVariants as reading
use Rattle.persist_disk.specs.DiskModel.{LeavesRead}
use Rattle.persist_disk.specs.Image.{text_of, IsBad, IsChosen, IsStore, Reopens}
use Rattle.persist_disk.specs.Replacing.{formatted}
use Rattle.persist_disk.specs.declared.layout.Chosen.{Chosen}
use Rattle.persist_disk.specs.declared.refusal.OpenRefusal.{OpenRefusal}
use Rattle.persist_disk.specs.declared.refusal.OpenRefusal.TheVariants.{Failed, TooLarge, BadSlot, NoMemory}

-- The disk, the keeper that it is formatted from, the size of a slot, whether an open stands, whether a load formatted the
-- disk, and how often a call failed by the store itself. (Such a load began while no text was told, and leaves it so.)
pub record DiskStore (D P : Type 0) : Type 0 where
  pub disk : D
  pub former : P
  pub slot : ℕ
  pub is_open : Bool
  pub is_silent : Bool
  pub own_faults : ℕ

-- a store on which nothing was called yet
abbrev pub unopened : {D P : Type 0} → D → ℕ → P → DiskStore D P
unopened disk slot old = record { disk = disk; former = old; slot = slot; is_open = false; is_silent = false; own_faults = 0 }

-- a disk that is told to hold a formatted store
abbrev pub IsFormatted : Option (List ℕ) → Type 0
IsFormatted content = MatchOption content ⊥ (λ image. 16 ≤ length image)

-- the text that the store tells
abbrev pub told_text : Bool → ℕ → Option (List ℕ) → Option (List ℕ)
told_text true size content = None
told_text false size None = None
told_text false size (Some image) = (if nat_le 16 (length image) then Some (text_of size image) else None)

-- what a crash at some moment since this one may leave of the text: what opening the disk then gives
abbrev pub MayReopen : {D : Type 0} → (D → ℕ → List ℕ → Type 0) → D → ℕ → ℕ → List ℕ → Type 0
MayReopen MayLeave disk size m text = (image : List ℕ) × MayLeave disk m image × Reopens size image text

-- the count of faults, of those of the disk, of the old keeper and of the store itself
abbrev pub all_faults : ℕ → ℕ → ℕ → ℕ
all_faults disk old own = min (disk + old + own) (2 ^ 64 - 1)

-- An open stands with this slot chosen: the disk holds such a store, and a crash from now on leaves it alone.
pub record StandsOn {D : Type 0} (content : D → Option (List ℕ)) (TellsCrash : D → Type 0) (moment : D → ℕ) (MayLeave : D → ℕ → List ℕ → Type 0) (disk : D) (size : ℕ) (chosen : Chosen) : Type 0 where
  pub store : IfSome (content disk) (λ image. IsChosen size image chosen)
  pub safe : TellsCrash disk → LeavesRead (content disk) (MayLeave disk (moment disk))

-- what holds of a store at each moment between two calls
pub record IsKept {D : Type 0} (content : D → Option (List ℕ)) (TellsCrash : D → Type 0) (moment : D → ℕ) (MayLeave : D → ℕ → List ℕ → Type 0) (disk : D) (size : ℕ) (chosen : Option Chosen) : Type 0 where
  pub low : 64 ≤ size
  pub high : size ≤ 33554440
  pub open_stands : IfSome chosen (StandsOn content TellsCrash moment MayLeave disk size)

-- what opening answers: of a disk of fewer than 16 bytes, which is formatted with the old text, and of another
abbrev pub OpensAs : {T : Type 0} → ℕ → List ℕ → Option (List ℕ) → Result T OpenRefusal → Type 0
OpensAs size image old (Ok opened) = (16 ≤ length image → IsStore size image) × (length image < 16 → IfSome old (λ text. length text + 8 ≤ size))
OpensAs size image old (Err Failed) = ⊤
OpensAs size image old (Err TooLarge) = (length image < 16) × IfSome old (λ text. size < length text + 8)
OpensAs size image old (Err (BadSlot number len)) = IsBad size image number len
OpensAs size image old (Err NoMemory) = ⊤

-- what looking for the store answers: its chosen slot, or none of a disk of fewer than 16 bytes
abbrev pub FindsAs : ℕ → List ℕ → Result (Option Chosen) OpenRefusal → Type 0
FindsAs size image (Ok None) = length image < 16
FindsAs size image (Ok (Some chosen)) = IsStore size image
FindsAs size image (Err Failed) = ⊤
FindsAs size image (Err TooLarge) = ⊥
FindsAs size image (Err (BadSlot number len)) = IsBad size image number len
FindsAs size image (Err NoMemory) = ⊤

-- whether the disk holds a store
abbrev pub LooksAs : ℕ → List ℕ → Result Bool OpenRefusal → Type 0
LooksAs size image (Ok false) = length image < 16
LooksAs size image (Ok true) = IsStore size image
LooksAs size image (Err Failed) = ⊤
LooksAs size image (Err TooLarge) = ⊥
LooksAs size image (Err (BadSlot number len)) = IsBad size image number len
LooksAs size image (Err NoMemory) = ⊤

-- whether opening answered a fault of the disk or of the old keeper
abbrev pub open_failed : {T : Type 0} → Result T OpenRefusal → Bool
open_failed (Ok value) = false
open_failed (Err Failed) = true
open_failed (Err TooLarge) = false
open_failed (Err (BadSlot number len)) = false
open_failed (Err NoMemory) = false

-- the store's own count after opening: it rises exactly where the slot is bad
abbrev pub own_after_open : {T : Type 0} → Result T OpenRefusal → ℕ → ℕ
own_after_open (Ok value) own = own
own_after_open (Err Failed) own = own
own_after_open (Err TooLarge) own = own
own_after_open (Err (BadSlot number len)) own = one_more own
own_after_open (Err NoMemory) own = own

-- whether an open stands after opening
abbrev pub IsOpenAfter : {T : Type 0} → Result T OpenRefusal → Bool → Bool → Type 0
IsOpenAfter (Ok value) before now = now ≡ true
IsOpenAfter (Err Failed) before now = now ≡ false
IsOpenAfter (Err TooLarge) before now = now ≡ true → before ≡ true
IsOpenAfter (Err (BadSlot number len)) before now = now ≡ before
IsOpenAfter (Err NoMemory) before now = now ≡ true → before ≡ true

-- whether an open stands after looking for the store: where one is found
abbrev pub IsOpenAfterFind : Result (Option Chosen) OpenRefusal → Bool → Bool → Type 0
IsOpenAfterFind (Ok found) before now = now ≡ is_some found
IsOpenAfterFind (Err Failed) before now = now ≡ false
IsOpenAfterFind (Err TooLarge) before now = now ≡ true → before ≡ true
IsOpenAfterFind (Err (BadSlot number len)) before now = now ≡ before
IsOpenAfterFind (Err NoMemory) before now = now ≡ true → before ≡ true

-- what is told after opening: the text in the chosen slot, or the old one of a disk of fewer than 16 bytes
abbrev pub opened_text : ℕ → List ℕ → Option (List ℕ) → Option (List ℕ)
opened_text size image old = (if nat_le 16 (length image) then Some (text_of size image) else old)

-- what formatting answers, and leaves of a disk that is told
abbrev pub FormatsAs : {T : Type 0} → ℕ → Option (List ℕ) → Option (List ℕ) → Option (List ℕ) → Result T OpenRefusal → Type 0
FormatsAs size content now old (Ok opened) = OnSome content (IfSome old (λ text. (length text + 8 ≤ size) × (now ≡ Some (formatted text))))
FormatsAs size content now old (Err Failed) = ⊤
FormatsAs size content now old (Err TooLarge) = IfSome old (λ text. size < length text + 8)
FormatsAs size content now old (Err (BadSlot number len)) = ⊥
FormatsAs size content now old (Err NoMemory) = ⊤

-- the keeper tells the text of a disk that is told
abbrev pub TellsText : Bool → ℕ → Option (List ℕ) → Type 0
TellsText silent size content = IfSome content (λ image. told_text silent size content ≡ Some (text_of size image))

-- whether an open stands after a read or a write, by whether it failed
abbrev pub open_after : Bool → Bool → Bool
open_after true before = false
open_after false before = before

-- whether an open stands after a load: after Ok it does, after a fault it doesn't, and else it still does where it did
abbrev pub IsOpenAfterLoad : {T : Type 0} → Result T ReadRefusal → Bool → Bool → Type 0
IsOpenAfterLoad (Ok value) before now = now ≡ true
IsOpenAfterLoad (Err reading.Failed) before now = now ≡ false
IsOpenAfterLoad (Err reading.TooLarge) before now = before ≡ true → now ≡ true
IsOpenAfterLoad (Err reading.NoMemory) before now = before ≡ true → now ≡ true

-- a disk on which a text can be put: it opens, the old text fits where it is formatted, and the text fits
abbrev pub CanPut : ℕ → List ℕ → Option (List ℕ) → List ℕ → Type 0
CanPut size image old text = (16 ≤ length image → IsStore size image) × (length image < 16 → MatchOption old ⊥ (λ text. length text + 8 ≤ size)) × (length text + 8 ≤ size)

-- the text that a store tells
abbrev pub stored_text : {D P : Type 0} → (D → Option (List ℕ)) → DiskStore D P → Option (List ℕ)
stored_text content store = told_text store.is_silent store.slot (content store.disk)

-- the text that is told of a disk, or of the keeper that it is formatted from, where it is told to hold no store yet
abbrev pub first_text : Bool → ℕ → Option (List ℕ) → Option (List ℕ) → Option (List ℕ)
first_text silent size None old = None
first_text silent size (Some image) old = (if nat_le 16 (length image) then told_text silent size (Some image) else old)

-- the text that a store tells which is formatted late
abbrev pub late_text : {D P : Type 0} → (D → Option (List ℕ)) → (P → Option (List ℕ)) → DiskStore D P → Option (List ℕ)
late_text content held store = first_text store.is_silent store.slot (content store.disk) (held store.former)

-- a store tells what a crash leaves where its disk does, and is formatted
abbrev pub StoreTells : {D P : Type 0} → (D → Type 0) → (D → Option (List ℕ)) → DiskStore D P → Type 0
StoreTells TellsCrash content store = TellsCrash store.disk × IsFormatted (content store.disk)

-- what a crash at some moment since this one may leave of a store's text
abbrev pub StoreLeaves : {D P : Type 0} → (D → ℕ → List ℕ → Type 0) → DiskStore D P → ℕ → List ℕ → Type 0
StoreLeaves MayLeave store m text = MayReopen MayLeave store.disk store.slot m text

-- the count of faults of the disk and of the keeper that it is formatted from
abbrev pub outside_faults : {D P : Type 0} → (D → ℕ) → (P → ℕ) → DiskStore D P → ℕ
outside_faults disk former store = min (disk store.disk + former store.former) (2 ^ 64 - 1)

-- What looking for the store leaves: it is never too large, faults are counted, and all but the disk and the open stays as it was.
pub record OnlyLooks {T D P : Type 0} (disk : D → ℕ) (former : P → ℕ) (result : Result T OpenRefusal) (before now : DiskStore D P) : Type 0 where
  pub limit : result ≢ Err TooLarge
  pub cause : Counted (open_failed result) (outside_faults disk former before) (outside_faults disk former now)
  pub own : now.own_faults ≡ own_after_open result before.own_faults
  pub silent : now.is_silent ≡ before.is_silent
  pub former_is : now.former ≡ before.former
  pub slot : now.slot ≡ before.slot

-- What opening leaves where no open stands: faults are counted, and the disk's word on crashes, the text that is told and the size
-- of a slot stay as they were.
pub record OnlyOpens {T D P : Type 0} (content : D → Option (List ℕ)) (TellsCrash : D → Type 0) (disk : D → ℕ) (former : P → ℕ) (result : Result T OpenRefusal) (before now : DiskStore D P) : Type 0 where
  pub cause : Counted (open_failed result) (outside_faults disk former before) (outside_faults disk former now)
  pub tells : TellsCrash before.disk ↔ TellsCrash now.disk
  pub own : now.own_faults ≡ own_after_open result before.own_faults
  pub held : told_text now.is_silent before.slot (content now.disk) ≡ stored_text content before
  pub slot : now.slot ≡ before.slot

-- What a load leaves of a store that tells what a crash leaves: its moment never falls, a crash leaves no other text, and after Ok
-- it still tells.
pub record StillTells {T D P : Type 0} (content : D → Option (List ℕ)) (TellsCrash : D → Type 0) (moment : D → ℕ) (MayLeave : D → ℕ → List ℕ → Type 0) (result : Result T ReadRefusal) (before now : DiskStore D P) : Type 0 where
  pub later : StoreTells TellsCrash content before → moment before.disk ≤ moment now.disk
  pub leaves : StoreTells TellsCrash content before → LeavesNoOther (moment before.disk) (StoreLeaves MayLeave before) (StoreLeaves MayLeave now)
  pub tells : StoreTells TellsCrash content before → OnOk result (StoreTells TellsCrash content now)

-- and of the store itself
abbrev pub store_faults : {D P : Type 0} → (D → ℕ) → (P → ℕ) → DiskStore D P → ℕ
store_faults disk former store = all_faults (disk store.disk) (former store.former) store.own_faults
