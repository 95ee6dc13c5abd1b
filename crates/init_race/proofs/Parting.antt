-- How the actors are taken apart.
use Rattle.std.proofs.Common.{◌≡◌, ℕ, zero, suc, ◌+◌, List, [], ◌∷◌, ◌++◌, length, drop, slice_get, Option, Some, None, refl, sym, ap, ◌∙◌, arith}
use Rattle.std.proofs.lemmas.List.{append-nil, append_assoc, length-append}
use Rattle.init_machine.specs.declared.report.ClientPart.{ClientPart}
use Rattle.property_area.specs.Seats.{Seated}
use Rattle.script_lang.specs.declared.script.Client.{Client}
use Rattle.init_race.specs.internal.Ended.{next_part, part_with, parts_of, readers_of, told_to}
use Rattle.init_race.specs.declared.actors.Acted.{Acted}

drop_next : (clients : List Client) (n : ℕ) (client : Client) → slice_get clients n ≡ Some client → drop n clients ≡ client ∷ drop (n + 1) clients
drop_next [] n client is = let bad : None ≡ Some client = is in cc
drop_next (c ∷ clients) zero client is = let some : Some c ≡ Some client = is in let same : c ≡ client = cc in ap (λ (x : Client). x ∷ clients) same
drop_next (c ∷ clients) (suc n) client is =
    let e : suc (n + 1) ≡ suc n + 1 = omega arith in drop_next clients n client is ∙ ap (λ (k : ℕ). client ∷ drop k (c ∷ clients)) e

drop_none : (clients : List Client) (n : ℕ) → slice_get clients n ≡ None → drop n clients ≡ []
drop_none [] zero is = refl
drop_none [] (suc n) is = refl
drop_none (c ∷ clients) zero is = let bad : Some c ≡ None = is in cc
drop_none (c ∷ clients) (suc n) is = drop_none clients n is

-- an actor more is taken apart
pub part_on : (clients : List Client) (one : Acted) (rest : List Acted) (parts parts' : List ClientPart) (found : Option Client) → slice_get clients (length parts) ≡ found
    → parts' ≡ parts ++ next_part found one
    → parts' ++ told_to (drop (length parts') clients) rest ≡ parts ++ told_to (drop (length parts) clients) (one ∷ rest)
part_on clients one rest parts parts' None is added =
    let same : parts' ≡ parts = added ∙ append-nil parts in
    let none = drop_none clients (length parts) is in
    ap (λ (p : List ClientPart). p ++ told_to (drop (length p) clients) rest) same
    ∙ ap (λ (left : List Client). parts ++ told_to left rest) none
    ∙ sym (ap (λ (left : List Client). parts ++ told_to left (one ∷ rest)) none)
part_on clients one rest parts parts' (Some client) is added =
    let next = drop_next clients (length parts) client is in
    let many : length parts' ≡ length parts + 1 = ap length added ∙ length-append parts (part_with client one ∷ []) in
    ap (λ (n : ℕ). parts' ++ told_to (drop n clients) rest) many
    ∙ ap (λ (p : List ClientPart). p ++ told_to (drop (length parts + 1) clients) rest) added
    ∙ append_assoc parts (part_with client one ∷ []) (told_to (drop (length parts + 1) clients) rest)
    ∙ sym (ap (λ (left : List Client). parts ++ told_to left (one ∷ rest)) next)

pub reader_on : (one : Acted) (rest : List Acted) (readers readers' : List Seated) → readers' ≡ readers ++ one.reader ∷ []
    → readers' ++ readers_of rest ≡ readers ++ readers_of (one ∷ rest)
reader_on one rest readers readers' added =
    ap (λ (rs : List Seated). rs ++ readers_of rest) added ∙ append_assoc readers (one.reader ∷ []) (readers_of rest)

told_nothing : (clients : List Client) → told_to clients [] ≡ []
told_nothing [] = refl
told_nothing (client ∷ clients) = refl

-- all are taken apart
pub all_parts : (clients left : List Client) (rest : List Acted) (parts whole : List ClientPart) → parts ++ told_to left rest ≡ whole → rest ≡ [] → parts ≡ whole
all_parts clients left rest parts whole so_far none =
    sym (append-nil parts) ∙ ap (λ (more : List ClientPart). parts ++ more) (sym (told_nothing left)) ∙ ap (λ (acted : List Acted). parts ++ told_to left acted) (sym none) ∙ so_far

pub all_readers : (rest : List Acted) (readers whole : List Seated) → readers ++ readers_of rest ≡ whole → rest ≡ [] → readers ≡ whole
all_readers rest readers whole so_far none =
    sym (append-nil readers) ∙ ap (λ (acted : List Acted). readers ++ readers_of acted) (sym none) ∙ so_far

-- the parts are those of the clients, whoever stands behind them
pub told_first : (clients : List Client) (acted extra : List Acted) → length acted ≡ length clients → told_to clients (acted ++ extra) ≡ parts_of clients acted
told_first [] acted extra many = refl
told_first (client ∷ clients) [] extra many = absurd (omega arith)
told_first (client ∷ clients) (one ∷ acted) extra many =
    ap (λ (rest : List ClientPart). part_with client one ∷ rest) (told_first clients acted extra (omega arith))

pub told_same : (clients : List Client) (acted : List Acted) → length acted ≡ length clients → told_to clients acted ≡ parts_of clients acted
told_same [] acted many = refl
told_same (client ∷ clients) [] many = absurd (omega arith)
told_same (client ∷ clients) (one ∷ acted) many =
    ap (λ (rest : List ClientPart). part_with client one ∷ rest) (told_same clients acted (omega arith))

pub no_items : {T : Type 0} (xs : List T) → length xs ≡ 0 → xs ≡ []
no_items [] none = refl
no_items (x ∷ xs) none = absurd (omega arith)
