-- The places of actions that pass a test.
use Rattle.std.proofs.Common.{◌≡◌, ℕ, suc, ◌+◌, ◌<◌, ◌≤◌, Bool, true, false, nat_lt, List, [], ◌∷◌, ◌++◌, length, drop, map, filter, Some, refl, sym, ap, ◌∙◌, arith, if◌then◌else◌}
use Rattle.std.proofs.lemmas.List.{append-nil}
use Rattle.std.specs.List.{list_all, flat_map, slice_get}
use Rattle.init_machine.specs.Taking.{action_line}
use Rattle.init_machine.specs.declared.action.Action.{Action}
use Rattle.init_machine.specs.declared.output.Output.{Output}
use Rattle.action_queue.specs.Pending.{places_from, passes_at, passes, are_places, lines_at, line_of}
use Rattle.action_queue.specs.Queue.{commands_at, commands_of}
use Rattle.action_queue.proofs.Moves.{none_behind}

-- the rest stands in a list from a place on
abbrev pub StandsFrom : List Action → ℕ → List Action → Type 0
StandsFrom all n rest = (j : ℕ) → slice_get all (n + j) ≡ slice_get rest j

here : (all : List Action) (n : ℕ) (a : Action) (rest : List Action) → StandsFrom all n (a ∷ rest) → slice_get all n ≡ Some a
here all n a rest stands = ap (slice_get all) (let same : n ≡ n + 0 = omega arith in same) ∙ stands 0

behind : (all : List Action) (n : ℕ) (a : Action) (rest : List Action) → StandsFrom all n (a ∷ rest) → StandsFrom all (n + 1) rest
behind all n a rest stands = λ j. ap (slice_get all) (let same : (n + 1) + j ≡ n + suc j = omega arith in same) ∙ stands (suc j)

pub stands_whole : (all : List Action) → StandsFrom all 0 all
stands_whole all = λ j. ap (slice_get all) (let same : 0 + j ≡ j = omega arith in same)

-- one place more, or not
pick_filter : (f : ℕ → Bool) (b t : Bool) (n : ℕ) (r1 r2 : List ℕ) → f n ≡ t → (t ≡ true → b ≡ true) → filter f r1 ≡ r2
    → filter f (if b then n ∷ r1 else r1) ≡ (if t then n ∷ r2 else r2)
pick_filter f true true n r1 r2 at may more = rw at (ap (λ r. n ∷ r) more)
pick_filter f true false n r1 r2 at may more = rw at more
pick_filter f false true n r1 r2 at may more = let e = may refl in absurd (cc)
pick_filter f false false n r1 r2 at may more = more

-- of the places of those that pass a wider test, those that pass the test
pub filter-places : (test wide : Action → Bool) → ((a : Action) → test a ≡ true → wide a ≡ true) → (all : List Action) (n : ℕ) (rest : List Action)
    → StandsFrom all n rest → filter (passes_at test all) (places_from n wide rest) ≡ places_from n test rest
filter-places test wide wider all n [] stands = refl
filter-places test wide wider all n (a ∷ rest) stands =
    pick_filter (passes_at test all) (wide a) (test a) n (places_from (n + 1) wide rest) (places_from (n + 1) test rest)
    (ap (passes test) (here all n a rest stands)) (wider a)
    (filter-places test wide wider all (n + 1) rest (behind all n a rest stands))

pick_map : {T U V : Type 0} (f : T → V) (g : U → V) (b : Bool) (n : T) (a : U) (r : List T) (s : List U) → f n ≡ g a → map f r ≡ map g s
    → map f (if b then n ∷ r else r) ≡ map g (if b then a ∷ s else s)
pick_map f g true n a r s at more = ap (λ x. x ∷ map f r) at ∙ ap (λ xs. g a ∷ xs) more
pick_map f g false n a r s at more = more

pub commands-places : (test : Action → Bool) (all : List Action) (n : ℕ) (rest : List Action) → StandsFrom all n rest
    → map (commands_at all) (places_from n test rest) ≡ map (λ action. action.commands) (filter test rest)
commands-places test all n [] stands = refl
commands-places test all n (a ∷ rest) stands =
    pick_map (commands_at all) (λ action. action.commands) (test a) n a (places_from (n + 1) test rest) (filter test rest)
    (ap commands_of (here all n a rest stands)) (commands-places test all (n + 1) rest (behind all n a rest stands))

pick_lines : (f : ℕ → List Output) (b : Bool) (n : ℕ) (a : Action) (r : List ℕ) (s : List Action) → f n ≡ action_line a ∷ [] → flat_map f r ≡ map action_line s
    → flat_map f (if b then n ∷ r else r) ≡ map action_line (if b then a ∷ s else s)
pick_lines f true n a r s at more = ap (λ xs. xs ++ flat_map f r) at ∙ ap (λ xs. action_line a ∷ xs) more
pick_lines f false n a r s at more = more

pub lines-places : (test : Action → Bool) (all : List Action) (n : ℕ) (rest : List Action) → StandsFrom all n rest
    → lines_at all (places_from n test rest) ≡ map action_line (filter test rest)
lines-places test all n [] stands = refl
lines-places test all n (a ∷ rest) stands =
    pick_lines (λ at. line_of (slice_get all at)) (test a) n a (places_from (n + 1) test rest) (filter test rest)
    (ap line_of (here all n a rest stands)) (lines-places test all (n + 1) rest (behind all n a rest stands))

pick_all : (p : ℕ → Bool) (b : Bool) (n : ℕ) (r : List ℕ) → p n ≡ true → list_all p r ≡ true → list_all p (if b then n ∷ r else r) ≡ true
pick_all p true n r at more = rw at more
pick_all p false n r at more = more

pub are_places-places : (test : Action → Bool) (all : List Action) (n : ℕ) (rest : List Action) → n + length rest ≤ length all → are_places all (places_from n test rest) ≡ true
are_places-places test all n [] within = refl
are_places-places test all n (a ∷ rest) within =
    pick_all (λ at. nat_lt at (length all)) (test a) n (places_from (n + 1) test rest) (grind arith)
    (are_places-places test all (n + 1) rest (omega arith))

-- a place more in a list of places
pub are_places-push : (all : List Action) (places : List ℕ) (at : ℕ) → are_places all places ≡ true → at < length all → are_places all (places ++ at ∷ []) ≡ true
are_places-push all [] at are within = grind arith
are_places-push all (p ∷ places) at are within = grind (arith, are_places-push all places at)

-- what was begun, where no place is left
pub begun-end : (f : ℕ → Bool) (places begun goal : List ℕ) (n : ℕ) → length places ≤ n → begun ++ filter f (drop n places) ≡ goal → begun ≡ goal
begun-end f places begun goal n past left =
    sym (append-nil begun) ∙ ap (λ ps. begun ++ filter f ps) (sym (none_behind places n past)) ∙ left
