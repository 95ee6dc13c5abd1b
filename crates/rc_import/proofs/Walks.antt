-- Steps one after another.
use Rattle.std.proofs.Common.{◌≡◌, ℕ, List, [], ◌∷◌, ◌++◌, Option, Result, Ok, Err, refl, sym, ap, ◌∙◌, subst}
use Rattle.std.specs.List.{flat_map}
use Rattle.rc_import.specs.Limits.{SoFar, onward, with_all, with_met}
use Rattle.rc_import.specs.Order.{Met}
use Rattle.rc_import.specs.World.{IsWorld, World}
use Rattle.rc_import.specs.internal.Steps.{Continues, Follows, Holds, Reaches, Stops}
use Rattle.rc_import.specs.declared.loaded.LoadRefusal.{LoadRefusal}
use Rattle.rc_import.specs.declared.loaded.LoadRefusal.TheVariants.{NoInit, ReadFault, TooLarge, TooMany, NoMemory}
use Rattle.rc_import.specs.declared.loading.Loading.{Loading}

abbrev pub Tree : Type 0
Tree = List (List ℕ × List ℕ)

abbrev pub LookUp : Type 0
LookUp = List ℕ → Option (List ℕ)

-- ---- what is met, one list behind another

pub onward_twice : {A B C : Type 0} (r : Result A LoadRefusal) (f : A → Result B LoadRefusal) (g : B → Result C LoadRefusal) → onward (onward r f) g ≡ onward r (λ x. onward (f x) g)
onward_twice (Ok x) f g = refl
onward_twice (Err refusal) f g = refl

pub all_behind : (world : World) (sofar : SoFar) (a b : List Met) → with_all world sofar (a ++ b) ≡ onward (with_all world sofar a) (λ s. with_all world s b)
all_behind world sofar [] b = refl
all_behind world sofar (met ∷ a) b =
    (λ i. onward (with_met world sofar met) (λ next. all_behind world next a b i))
    ∙ sym (onward_twice (with_met world sofar met) (λ next. with_all world next a) (λ s. with_all world s b))

pub stopped : (refusal : LoadRefusal) (answer : Result SoFar LoadRefusal) (next : SoFar → Result SoFar LoadRefusal) → Stops refusal answer → Stops refusal (onward answer next)
stopped NoInit answer next stops = stops
stopped ReadFault answer next stops = tt
stopped (TooLarge path limit number) answer next stops = ap (λ r. onward r next) stops
stopped (TooMany path number) answer next stops = ap (λ r. onward r next) stops
stopped NoMemory answer next stops = tt

-- ---- steps

nothing_met : {G : Type 0} (holds : Holds G) (tree : Option Tree) (look_up : LookUp) (loading : Loading G) → Follows holds tree look_up loading (Ok loading) (λ _. [])
nothing_met holds tree look_up loading = λ world is sofar stands. (sofar, refl, stands)

behind : {G : Type 0} (holds : Holds G) (tree : Option Tree) (look_up : LookUp) (loading mid : Loading G) (result : Result (Loading G) LoadRefusal) (a b : World → List Met)
    → Follows holds tree look_up loading (Ok mid) a → Follows holds tree look_up mid result b → Follows holds tree look_up loading result (λ world. a world ++ b world)
behind holds tree look_up loading mid result a b first second = λ world is sofar stands.
    let reached = first world is sofar stands in
    subst (Reaches holds result)
    (sym (all_behind world sofar (a world) (b world) ∙ ap (λ r. onward r (λ s. with_all world s (b world))) reached.1))
    (second world is reached.0 reached.2)

stopped_behind : {G : Type 0} (holds : Holds G) (tree : Option Tree) (look_up : LookUp) (loading : Loading G) (refusal : LoadRefusal) (a b : World → List Met)
    → Follows holds tree look_up loading (Err refusal) a → Follows holds tree look_up loading (Err refusal) (λ world. a world ++ b world)
stopped_behind holds tree look_up loading refusal a b first = λ world is sofar stands.
    subst (Stops refusal) (sym (all_behind world sofar (a world) (b world)))
    (stopped refusal (with_all world sofar (a world)) (λ s. with_all world s (b world)) (first world is sofar stands))

-- the same is met in each world
pub same_met : {G : Type 0} (holds : Holds G) (tree : Option Tree) (look_up : LookUp) (loading : Loading G) (result : Result (Loading G) LoadRefusal) (a b : World → List Met)
    → ((world : World) → IsWorld tree look_up world → a world ≡ b world) → Follows holds tree look_up loading result a → Follows holds tree look_up loading result b
same_met holds tree look_up loading result a b same follows = λ world is sofar stands.
    subst (λ met. Reaches holds result (with_all world sofar met)) (same world is) (follows world is sofar stands)

-- the files and properties are the same
pub same_world : {G : Type 0} (holds : Holds G) (tree other : Option Tree) (look_up others : LookUp) (loading : Loading G) (result : Result (Loading G) LoadRefusal) (met : World → List Met)
    → other ≡ tree → others ≡ look_up → Follows holds other others loading result met → Follows holds tree look_up loading result met
same_world holds tree other look_up others loading result met same_tree same_look_up follows =
    subst (λ t. Follows holds t look_up loading result met) same_tree (subst (λ l. Follows holds other l loading result met) same_look_up follows)

-- ---- a list of places, one after another

goes_on : {G : Type 0} (holds : Holds G) (tree : Option Tree) (look_up : LookUp) (loading mid next : Loading G) (all a left : World → List Met)
    → Continues holds tree look_up loading all mid (λ world. a world ++ left world) → Follows holds tree look_up mid (Ok next) a → Continues holds tree look_up loading all next left
goes_on holds tree look_up loading mid next all a left so_far step = λ result follows. so_far result (behind holds tree look_up mid next result a left step follows)

breaks_off : {G : Type 0} (holds : Holds G) (tree : Option Tree) (look_up : LookUp) (loading mid : Loading G) (refusal : LoadRefusal) (all a left : World → List Met)
    → Continues holds tree look_up loading all mid (λ world. a world ++ left world) → Follows holds tree look_up mid (Err refusal) a → Follows holds tree look_up loading (Err refusal) all
breaks_off holds tree look_up loading mid refusal all a left so_far step = so_far (Err refusal) (stopped_behind holds tree look_up mid refusal a left step)

ends : {G : Type 0} (holds : Holds G) (tree : Option Tree) (look_up : LookUp) (loading next : Loading G) (all : World → List Met)
    → Continues holds tree look_up loading all next (λ _. []) → Follows holds tree look_up loading (Ok next) all
ends holds tree look_up loading next all so_far = so_far (Ok next) (nothing_met holds tree look_up next)

-- ---- the same over a list, where the files and properties are those at its beginning

pub list_on : {G : Type 0} (holds : Holds G) {A : Type 0} (tree other : Option Tree) (look_up others : LookUp) (loading mid next : Loading G) (all : World → List Met) (met : World → A → List Met) (rest left : List A) (x : A)
    → other ≡ tree → others ≡ look_up → rest ≡ x ∷ left → Continues holds tree look_up loading all mid (λ world. flat_map (met world) rest)
    → Follows holds other others mid (Ok next) (λ world. met world x) → Continues holds tree look_up loading all next (λ world. flat_map (met world) left)
list_on holds tree other look_up others loading mid next all met rest left x same_tree same_look_up parted so_far step =
    goes_on holds tree look_up loading mid next all (λ world. met world x) (λ world. flat_map (met world) left)
    (subst (λ xs. Continues holds tree look_up loading all mid (λ world. flat_map (met world) xs)) parted so_far)
    (same_world holds tree other look_up others mid (Ok next) (λ world. met world x) same_tree same_look_up step)

pub list_off : {G : Type 0} (holds : Holds G) {A : Type 0} (tree other : Option Tree) (look_up others : LookUp) (loading mid : Loading G) (refusal : LoadRefusal) (all : World → List Met) (met : World → A → List Met) (rest left : List A) (x : A)
    → other ≡ tree → others ≡ look_up → rest ≡ x ∷ left → Continues holds tree look_up loading all mid (λ world. flat_map (met world) rest)
    → Follows holds other others mid (Err refusal) (λ world. met world x) → Follows holds tree look_up loading (Err refusal) all
list_off holds tree other look_up others loading mid refusal all met rest left x same_tree same_look_up parted so_far step =
    breaks_off holds tree look_up loading mid refusal all (λ world. met world x) (λ world. flat_map (met world) left)
    (subst (λ xs. Continues holds tree look_up loading all mid (λ world. flat_map (met world) xs)) parted so_far)
    (same_world holds tree other look_up others mid (Err refusal) (λ world. met world x) same_tree same_look_up step)

pub list_done : {G : Type 0} (holds : Holds G) {A : Type 0} (tree : Option Tree) (look_up : LookUp) (loading next : Loading G) (all : World → List Met) (met : World → A → List Met) (rest : List A)
    → rest ≡ [] → Continues holds tree look_up loading all next (λ world. flat_map (met world) rest) → Follows holds tree look_up loading (Ok next) all
list_done holds tree look_up loading next all met rest none so_far =
    ends holds tree look_up loading next all (subst (λ xs. Continues holds tree look_up loading all next (λ world. flat_map (met world) xs)) none so_far)
