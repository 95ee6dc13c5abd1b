-- A walk through a tree of links.
use Rattle.std.proofs.Common.{◌≡◌, ◌≢◌, ℕ, suc, zero, ◌+◌, ◌-◌, ◌<◌, ◌≤◌, Bool, true, false, not, ◌==◌, cond, List, [], ◌∷◌, ◌++◌, length, take, drop, Some, None, refl, sym, ap, ◌∙◌, arith, append_assoc, append-nil, length-append, length-take, subst, inl, inr}
use Rattle.std.specs.Prelude.{reverse, Option, IfSome}
use Rattle.init_base.specs.declared.adapters.links.Standing.{Standing}
use Rattle.std.specs.List.{list_all, onto_first, position, position_or_len, slice_split}
use Rattle.std.proofs.lemmas.Bool.{cases_lt, and_parts}
use Rattle.std.proofs.lemmas.List.{reverse-append, reverse-reverse, take_rest, take-append-le, take-take}
use Rattle.std.proofs.Math.Seq.{take-length}
use Rattle.std.proofs.lemmas.List.Elements.{All-from_get_or}
use Rattle.std.proofs.lemmas.List.Folds.{list_all-append}
use Rattle.std.proofs.lemmas.List.Splits.{slice_split_none, slice_split_first}
use Rattle.std.proofs.lemmas.List.Sums.{prefix_len-le-length, fails_before_first}
use Rattle.init_base.specs.Resolve.{Led, Stretch, AreDirectories, PassesNoLink, ended, at_link, goes_on, goes_up, met, path_to, stays, above, beginning, led, leads_in, leads_to, stretch, walked, file_end, has_no_slash, is_below_root, is_name, parts_of}
use Rattle.init_base.specs.declared.adapters.links.Standing.TheVariants as stands
use Rattle.init_base.specs.declared.adapters.resolve.End.{End}
use Rattle.init_base.specs.declared.adapters.resolve.End.TheVariants as ends
use Rattle.init_base.specs.declared.adapters.resolve.End.TheVariants.{NotDirectory, TooManyLinks}

-- ---- the parts of a path

abbrev is_slash : ℕ → Bool
is_slash = λ byte. byte == 47

-- where the first slash stands
first_slash : (path : List ℕ) (at : ℕ) → position is_slash path ≡ Some at → (at ≡ position_or_len is_slash path) × (at < length path)
first_slash path at h = grind arith

no_slash : (path : List ℕ) → position is_slash path ≡ None → length path ≤ position_or_len is_slash path
no_slash path h = grind (arith, prefix_len-le-length (λ x. not (is_slash x)) path)

parts_at : (path : List ℕ) (at : ℕ) → position is_slash path ≡ Some at → parts_of path ≡ take at path ∷ parts_of (drop (at + 1) path)
parts_at path at h =
    let place = first_slash path at h in
    slice_split_first is_slash path 0 (omega (arith, place.0, place.1))
    ∙ ap (λ k. take k path ∷ slice_split is_slash (drop (k + 1) path)) (sym place.0)

-- a path without a slash is one part
pub one_part : (path : List ℕ) → position is_slash path ≡ None → parts_of path ≡ path ∷ []
one_part path h =
    let high : length path ≤ position_or_len is_slash path = no_slash path h in
    slice_split_none is_slash path (All-from_get_or (λ x. is_slash x ≡ false) path 0 (λ i low. fails_before_first is_slash path i 0 (omega arith)))

pub part_more : (parts all : List (List ℕ)) (rest : List ℕ) (at : ℕ) → position is_slash rest ≡ Some at → parts ++ parts_of rest ≡ all
    → (parts ++ take at rest ∷ []) ++ parts_of (take (length rest - (at + 1)) (drop (at + 1) rest)) ≡ all
part_more parts all rest at h is =
    rw take_rest (append_assoc parts (take at rest ∷ []) (parts_of (drop (at + 1) rest)) ∙ ap (λ more. parts ++ more) (sym (parts_at rest at h)) ∙ is)

onto_whole : (byte : ℕ) (parts : List (List ℕ)) → is_slash byte ≡ false → list_all has_no_slash parts ≡ true
    → list_all has_no_slash (onto_first byte parts) ≡ true
onto_whole byte [] e h = rw e refl
onto_whole byte (part ∷ parts) e h = rw e h

parts_whole : (path : List ℕ) → list_all has_no_slash (parts_of path) ≡ true
parts_whole [] = refl
parts_whole (byte ∷ path) =
    elim (is_slash byte) as (λ v. is_slash byte ≡ v → list_all has_no_slash (cond v ([] ∷ parts_of path) (onto_first byte (parts_of path))) ≡ true) [
      | true ↦ λ e. parts_whole path
      | false ↦ λ e. onto_whole byte (parts_of path) e (parts_whole path)
    ] refl

all_both : (xs ys : List (List ℕ)) → list_all has_no_slash xs ≡ true → list_all has_no_slash ys ≡ true → list_all has_no_slash (xs ++ ys) ≡ true
all_both xs ys h k = rw (list_all-append has_no_slash xs ys, h) k

all_reversed : (xs : List (List ℕ)) → list_all has_no_slash xs ≡ true → list_all has_no_slash (reverse xs) ≡ true
all_reversed [] h = refl
all_reversed (x ∷ xs) h =
    let p = and_parts (has_no_slash x) (list_all has_no_slash xs) h in
    rw (reverse-append (x ∷ []) xs) (all_both (reverse xs) (x ∷ []) (all_reversed xs p.1) (rw p.0 refl))

-- the parts that are left, the next one last
pub whole_left : (left parts : List (List ℕ)) (path : List ℕ) → parts ≡ parts_of path → list_all has_no_slash left ≡ true
    → list_all has_no_slash (left ++ reverse parts) ≡ true
whole_left left parts path is h = all_both left (reverse parts) h (all_reversed parts (rw is (parts_whole path)))

-- ---- places

pub file_is_no_end : (file : End) (left : List (List ℕ)) → left ≢ [] → file_end file (reverse left) ≡ NotDirectory
file_is_no_end file left some = at_some (reverse left) refl
  where
    at_some : (parts : List (List ℕ)) → reverse left ≡ parts → file_end file parts ≡ NotDirectory
    at_some [] e = absurd (some (sym (reverse-reverse left) ∙ ap reverse e))
    at_some (part ∷ parts) e = refl

take_below : (n : ℕ) (place : List (List ℕ)) → is_below_root place ≡ true → is_below_root (take n place) ≡ true
take_below zero place h = refl
take_below (suc n) [] h = refl
take_below (suc n) (name ∷ place) h =
    let p = and_parts (is_name name) (is_below_root place) h in
    rw p.0 (take_below n place p.1)

pub above_below : (place : List (List ℕ)) → is_below_root place ≡ true → is_below_root (above place) ≡ true
above_below place h = take_below (length place - 1) place h

-- ---- walks

pub leads_first : (o : Option (List ℕ → Standing)) (from place left : List (List ℕ)) (path : List ℕ) → place ≡ beginning from path
    → reverse left ≡ parts_of path ++ [] → IfSome o (λ at. leads_in at 41 place (reverse left) ≡ leads_to at from path)
unfolding leads_to
leads_first None from place left path there parts = tt
leads_first (Some at) from place left path there parts = rw (there, parts, append-nil (parts_of path)) refl

leads_at_end : (at : List ℕ → Standing) (n : ℕ) (place parts there : List (List ℕ)) (end : End)
    → stretch at place parts ≡ ended (led there end) → leads_in at (suc n) place parts ≡ led there end
unfolding leads_in
leads_at_end at n place parts there end is = rw is refl

leads_at_link : (at : List ℕ → Standing) (n : ℕ) (place parts there behind : List (List ℕ))
    → stretch at place parts ≡ at_link there behind → leads_in at (suc n) place parts ≡ leads_in at n there behind
unfolding leads_in
leads_at_link at n place parts there behind is = rw is refl

-- a walk that has come to an end
pub leads_end : (o : Option (List ℕ → Standing)) (count : ℕ) (from place parts there behind : List (List ℕ)) (path : List ℕ) (met : Option End) (end : End)
    → count < 41
    → IfSome o (λ at. leads_in at (41 - count) place parts ≡ leads_to at from path)
    → IfSome o (λ at. stretch at place parts ≡ walked met there behind)
    → met ≡ Some end
    → IfSome o (λ at. led there end ≡ leads_to at from path)
leads_end None count from place parts there behind path met end below is one some = tt
leads_end (Some at) count from place parts there behind path met end below is one some =
    let more : 41 - count ≡ suc (40 - count) = omega arith in
    sym (leads_at_end at (40 - count) place parts there end (one ∙ ap (λ e. walked e there behind) some)) ∙ (rw more at is)

-- a walk that goes on behind a link
pub leads_more : (o : Option (List ℕ → Standing)) (count : ℕ) (from place parts there behind : List (List ℕ)) (path : List ℕ) (met : Option End)
    → count < 41
    → IfSome o (λ at. leads_in at (41 - count) place parts ≡ leads_to at from path)
    → IfSome o (λ at. stretch at place parts ≡ walked met there behind)
    → met ≡ None
    → IfSome o (λ at. leads_in at (41 - (count + 1)) there behind ≡ leads_to at from path)
leads_more None count from place parts there behind path met below is one none = tt
leads_more (Some at) count from place parts there behind path met below is one none =
    let more : 41 - count ≡ suc (40 - count) = omega arith in
    let less : 41 - (count + 1) ≡ 40 - count = omega arith in
    rw less (sym (leads_at_link at (40 - count) place parts there behind (one ∙ ap (λ e. walked e there behind) none)) ∙ (rw more at is))

-- a walk that may go on no more
pub leads_no_more : (o : Option (List ℕ → Standing)) (count : ℕ) (from place parts : List (List ℕ)) (path : List ℕ) → 41 ≤ count
    → IfSome o (λ at. leads_in at (41 - count) place parts ≡ leads_to at from path)
    → IfSome o (λ at. led place TooManyLinks ≡ leads_to at from path)
unfolding leads_in
leads_no_more None count from place parts path past is = tt
leads_no_more (Some at) count from place parts path past is =
    let none : 41 - count ≡ zero = omega arith in
    rw none at is

-- ---- no link is on the way

abbrev IsReal : (List ℕ → Standing) → Stretch → Type 0
IsReal at (ended there) = PassesNoLink at there.place there.end
IsReal at (at_link place parts) = AreDirectories at place

above_more : (place : List (List ℕ)) (name : List ℕ) → above (place ++ name ∷ []) ≡ place
above_more place name =
    let count : length (place ++ name ∷ []) - 1 ≡ length place = omega (arith, length-append place (name ∷ [])) in
    let within : length place ≤ length place = omega arith in
    rw (count, take-append-le (length place) place (name ∷ []) within) (take-length place)

real_above : (at : List ℕ → Standing) (place : List (List ℕ)) → AreDirectories at place → AreDirectories at (above place)
real_above at place real n some within =
    let short : n ≤ length place - 1 = omega (arith, length-take (length place - 1) place) in
    rw (take-take n (length place - 1) place short) (real n some (omega arith))

real_more : (at : List ℕ → Standing) (place : List (List ℕ)) (name : List ℕ) → AreDirectories at place
    → at (path_to (place ++ name ∷ [])) ≡ stands.Directory → AreDirectories at (place ++ name ∷ [])
real_more at place name real there n some within = elim (cases_lt (length place) n) [
  | inl last ↦
      let all : n ≡ length (place ++ name ∷ []) = omega (arith, length-append place (name ∷ [])) in
      rw (all, take-length (place ++ name ∷ [])) there
  | inr before ↦ rw (take-append-le n place (name ∷ []) before) (real n some before)
]

real_beginning : (at : List ℕ → Standing) (place : List (List ℕ)) (path : List ℕ) → AreDirectories at place → AreDirectories at (beginning place path)
real_beginning at place [] real = real
real_beginning at place (byte ∷ path) real = elim (byte == 47) as (λ v. AreDirectories at (cond v [] place)) [
  | true ↦ λ n some within. absurd (omega arith)
  | false ↦ real
]

real_plain : (at : List ℕ → Standing) (place : List (List ℕ)) (name : List ℕ) (rest : List (List ℕ)) → AreDirectories at place
    → at (path_to (place ++ name ∷ [])) ≡ stands.PlainFile → PassesNoLink at (place ++ name ∷ []) (file_end ends.PlainFile rest)
real_plain at place name [] real there = (rw (above_more place name) real, there)
real_plain at place name (part ∷ rest) real there = tt

real_other : (at : List ℕ → Standing) (place : List (List ℕ)) (name : List ℕ) (rest : List (List ℕ)) → AreDirectories at place
    → at (path_to (place ++ name ∷ [])) ≡ stands.Other → PassesNoLink at (place ++ name ∷ []) (file_end ends.Other rest)
real_other at place name [] real there = (rw (above_more place name) real, there)
real_other at place name (part ∷ rest) real there = tt

real_met : (at : List ℕ → Standing) (place : List (List ℕ)) (name : List ℕ) (rest : List (List ℕ)) (what : Standing) → AreDirectories at place
    → (AreDirectories at (place ++ name ∷ []) → IsReal at (stretch at (place ++ name ∷ []) rest))
    → at (path_to (place ++ name ∷ [])) ≡ what
    → IsReal at (met what place name rest (stretch at (place ++ name ∷ []) rest))
real_met at place name rest stands.Nothing real down there = tt
real_met at place name rest stands.Directory real down there = down (real_more at place name real there)
real_met at place name rest stands.PlainFile real down there = real_plain at place name rest real there
real_met at place name rest stands.Other real down there = real_other at place name rest real there
real_met at place name rest (stands.Link target) real down there = real_beginning at place target real

real_choice : (at : List ℕ → Standing) (same up down : Stretch) (stays up_goes : Bool) → IsReal at same → IsReal at up → IsReal at down
    → IsReal at (cond stays same (cond up_goes up down))
real_choice at same up down true up_goes h k l = h
real_choice at same up down false true h k l = k
real_choice at same up down false false h k l = l

real_stretch : (at : List ℕ → Standing) (place parts : List (List ℕ)) → AreDirectories at place → IsReal at (stretch at place parts)
real_stretch at place [] real = real
real_stretch at place (part ∷ rest) real =
    real_choice at (stretch at place rest) (stretch at (above place) rest)
    (met (at (path_to (place ++ part ∷ []))) place part rest (stretch at (place ++ part ∷ []) rest)) (stays part) (goes_up part)
    (real_stretch at place rest real) (real_stretch at (above place) rest (real_above at place real))
    (real_met at place part rest (at (path_to (place ++ part ∷ []))) real (λ more. real_stretch at (place ++ part ∷ []) rest more) refl)

real_goes_on : (at : List ℕ → Standing) (behind : List (List ℕ) → List (List ℕ) → Led) (met : Stretch) → IsReal at met
    → ((place parts : List (List ℕ)) → AreDirectories at place → PassesNoLink at (behind place parts).place (behind place parts).end)
    → PassesNoLink at (goes_on behind met).place (goes_on behind met).end
real_goes_on at behind (ended there) real more = real
real_goes_on at behind (at_link place parts) real more = more place parts real

real_leads : (at : List ℕ → Standing) (n : ℕ) (place parts : List (List ℕ)) → AreDirectories at place
    → PassesNoLink at (leads_in at n place parts).place (leads_in at n place parts).end
unfolding leads_in
real_leads at zero place parts real = tt
real_leads at (suc n) place parts real =
    real_goes_on at (leads_in at n) (stretch at place parts) (real_stretch at place parts real) (λ there behind more. real_leads at n there behind more)

real_leads_to : (at : List ℕ → Standing) (from : List (List ℕ)) (path : List ℕ) → AreDirectories at from
    → PassesNoLink at (leads_to at from path).place (leads_to at from path).end
unfolding leads_to
real_leads_to at from path real = real_leads at 41 (beginning from path) (parts_of path) (real_beginning at from path real)

pub passes_no_link : (o : Option (List ℕ → Standing)) (from place : List (List ℕ)) (path : List ℕ) (end : End)
    → IfSome o (λ at. led place end ≡ leads_to at from path)
    → IfSome o (λ at. AreDirectories at from → PassesNoLink at place end)
passes_no_link None from place path end is = tt
passes_no_link (Some at) from place path end is = λ real. subst (λ (l : Led). PassesNoLink at l.place l.end) (sym is) (real_leads_to at from path real)
