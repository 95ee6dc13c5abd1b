-- The names of tests, among which a name is looked up.
use Rattle.std.proofs.Common.{◌≡◌, ℕ, ◌<◌, Bool, true, false, ◌||◌, List, [], ◌∷◌, length, not, map, refl, ap, sym, subst, ◌∙◌, arith, Bor}
use Rattle.std.specs.List.{list_any}
use Rattle.std.specs.BTreeSet.{BTreeSet}
use Rattle.std.specs.Str.{bytes_eq}
use Rattle.rc_parse.specs.internal.Names.{has_name}
use Rattle.rc_parse.specs.Triggers.{has_twice}
use Rattle.rc_parse.proofs.NameSets.{HasMore, has_more}
use Rattle.init_machine.specs.declared.action.PropTest.{PropTest}

-- no name is in a set without names
pub has_none : (set : BTreeSet (Bor (List ℕ))) (names : List (List ℕ)) → set.keys ≡ [] → list_any (has_name set) names ≡ false
has_none set [] e = refl
has_none set (name ∷ names) e = rw e (has_none set names e)

-- nothing stands twice among fewer than two
pub too_few : (tests : List PropTest) → length tests < 2 → has_twice (map (λ test. test.name) tests) ≡ false
too_few [] few = refl
too_few (test ∷ []) few = refl
too_few (test ∷ other ∷ tests) few = absurd (omega (arith, few))

shuffled : (a b c d : Bool) → ((a || b) || (c || d)) ≡ ((a || c) || (b || d))
shuffled true b c d = refl
shuffled false true true d = refl
shuffled false true false d = refl
shuffled false false true d = refl
shuffled false false false d = refl

swapped : (a b c : Bool) → ((a || b) || c) ≡ (b || (a || c))
swapped true true c = refl
swapped true false c = refl
swapped false b c = refl

any_new : (old new : BTreeSet (Bor (List ℕ))) (key : Bor (List ℕ)) → HasMore old new key → (names : List (List ℕ)) → list_any (has_name new) names ≡ (list_any (bytes_eq key.now) names || list_any (has_name old) names)
any_new old new key h [] = refl
any_new old new key h (name ∷ names) =
    ap (λ (b : Bool). b || list_any (has_name new) names) (has_more old new key h name)
    ∙ ap (λ (b : Bool). (bytes_eq key.now name || has_name old name) || b) (any_new old new key h names)
    ∙ shuffled (bytes_eq key.now name) (has_name old name) (list_any (bytes_eq key.now) names) (list_any (has_name old) names)

-- a new name moves from those that are left to the set
pub seen_one_more : (old new : BTreeSet (Bor (List ℕ))) (key : Bor (List ℕ)) (names : List (List ℕ)) → HasMore old new key → has_name old key.now ≡ false
    → (list_any (has_name new) names || has_twice names) ≡ (list_any (has_name old) (key.now ∷ names) || has_twice (key.now ∷ names))
seen_one_more old new key names h none =
    ap (λ (b : Bool). b || has_twice names) (any_new old new key h names)
    ∙ swapped (list_any (bytes_eq key.now) names) (list_any (has_name old) names) (has_twice names)
    ∙ sym (ap (λ (b : Bool). (b || list_any (has_name old) names) || has_twice (key.now ∷ names)) none)

-- ---- the loop over tests

abbrev pub Left : BTreeSet (Bor (List ℕ)) → List PropTest → Bool → Type 0
Left set left all = (list_any (has_name set) (map (λ test. test.name) left) || has_twice (map (λ test. test.name) left)) ≡ all

pub none_seen : (set : BTreeSet (Bor (List ℕ))) (left all : List PropTest) → set.keys ≡ [] → left ≡ all → Left set left (has_twice (map (λ test. test.name) all))
none_seen set left all empty same =
    ap (λ (b : Bool). b || has_twice (map (λ test. test.name) left)) (has_none set (map (λ test. test.name) left) empty)
    ∙ ap (λ (tests : List PropTest). has_twice (map (λ test. test.name) tests)) same

was_new : (b is_new : Bool) → is_new ≡ not b → is_new ≡ true → b ≡ false
was_new true is_new e h = cc
was_new false is_new e h = refl

pub one_seen : (old new : BTreeSet (Bor (List ℕ))) (key : Bor (List ℕ)) (test : PropTest) (left behind : List PropTest) (all is_new : Bool)
    → left ≡ test ∷ behind → key.now ≡ test.name → HasMore old new key → is_new ≡ not (has_name old key.now) → is_new ≡ true → Left old left all → Left new behind all
one_seen old new key test left behind all is_new front same more new_is is_true h =
    seen_one_more old new key (map (λ test. test.name) behind) more (was_new (has_name old key.now) is_new new_is is_true)
    ∙ ap (λ (name : List ℕ). list_any (has_name old) (name ∷ map (λ test. test.name) behind) || has_twice (name ∷ map (λ test. test.name) behind)) same
    ∙ subst (λ (tests : List PropTest). Left old tests all) front h
