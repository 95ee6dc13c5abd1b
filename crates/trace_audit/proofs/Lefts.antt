-- What is left of the parts, as an input is taken.
use Rattle.std.proofs.Common.{◌≡◌, ◌+◌, ◌<◌, ◌≤◌, ℕ, zero, suc, Bool, true, false, cond, ◌==◌, leb, IsTrue, is_some, List, [], ◌∷◌, ◌++◌, length, drop, replicate, slice_get, Option, Some, None, MatchOption, refl, sym, ap, ◌∙◌, arith, get_or, eq-eqb}
use Rattle.std.proofs.lemmas.Bool.{leb-true, le-leb}
use Rattle.std.proofs.Math.Numerals.{add-one}
use Rattle.std.proofs.lemmas.Option.{slice_get-get_or, slice_get_past}
use Rattle.std.specs.List.{cons_option, filter_map, flat_map}
use Rattle.init_base.specs.declared.units.ClientId.{ClientId}
use Rattle.init_machine.specs.declared.config.Pair.{Pair}
use Rattle.init_machine.specs.declared.input.Input.{Input}
use Rattle.init_machine.specs.declared.input.Input.TheVariants as input
use Rattle.script_lang.specs.Inputs.{main_inputs}
use Rattle.script_lang.specs.Laws.{set_by}
use Rattle.script_lang.specs.declared.script.Act.{Act}
use Rattle.script_lang.specs.declared.script.Act.TheVariants as act
use Rattle.trace_audit.specs.declared.progress.MainPlace.{MainPlace}
use Rattle.trace_audit.specs.Progress.{main_left, set_of, sets_behind, sets_left, single_input}

abbrev Settled : List Act → ℕ → Type 0
Settled acts at = (act : Act) → slice_get acts at ≡ Some act → IsTrue (is_some (single_input act))

acts_left : (acts : List Act) (at : ℕ) → Settled acts at → flat_map main_inputs (drop at acts) ≡ [] → length acts ≤ at
acts_left [] at settled none = omega arith
acts_left (act.Step count ∷ acts) zero settled none = absurd (let h : false ≡ true = settled (act.Step count) refl in cc)
acts_left (act.Tick ms ∷ acts) zero settled none = cc
acts_left (act.Exit name status ∷ acts) zero settled none = cc
acts_left (act.File path content ∷ acts) zero settled none = cc
acts_left (act.Ask who ask ∷ acts) zero settled none = absurd (let h : false ≡ true = settled (act.Ask who ask) refl in cc)
acts_left (a ∷ acts) (suc at) settled none =
    let rest : length acts ≤ at = acts_left acts at settled none in omega arith

none_left : (acts : List Act) (at : ℕ) → length acts ≤ at → flat_map main_inputs (drop at acts) ≡ []
none_left [] zero past = refl
none_left [] (suc at) past = refl
none_left (a ∷ acts) zero past = absurd (omega arith)
none_left (a ∷ acts) (suc at) past = none_left acts at (omega arith)

at_no_step : (acts : List Act) (m : MainPlace) → m.steps ≡ 0 → main_left acts m ≡ flat_map main_inputs (drop m.at acts)
at_no_step acts m no_step = ap (λ (n : ℕ). replicate n input.Next ++ flat_map main_inputs (drop m.at acts)) no_step

-- where no step is left, nothing is left exactly past the last act
pub over_settled : (acts : List Act) (m : MainPlace) (left : List Input) → main_left acts m ≡ left → m.steps ≡ 0 → Settled acts m.at
    → (IsTrue (leb (length acts) m.at) → left ≡ []) × (left ≡ [] → IsTrue (leb (length acts) m.at))
over_settled acts m left same no_step settled =
    let is : flat_map main_inputs (drop m.at acts) ≡ left = sym (at_no_step acts m no_step) ∙ same in (
      λ (past : IsTrue (leb (length acts) m.at)). sym is ∙ none_left acts m.at (leb-true (length acts) m.at past),
      λ (none : left ≡ []). le-leb (length acts) m.at (acts_left acts m.at settled (is ∙ none)),
    )

one_left : (acts : List Act) (at : ℕ) (a : Act) (i : Input) (rest : List Input) → slice_get acts at ≡ Some a → IsTrue (is_some (single_input a))
    → flat_map main_inputs (drop at acts) ≡ i ∷ rest → single_input a ≡ Some i
one_left [] at a i rest there single left = cc
one_left (x ∷ acts) (suc at) a i rest there single left = one_left acts at a i rest there single left
one_left (x ∷ acts) zero (act.Step count) i rest there single left = cc
one_left (x ∷ acts) zero (act.Ask who ask) i rest there single left = cc
one_left (x ∷ acts) zero (act.Tick ms) i rest there single left =
    let same : x ≡ act.Tick ms = cc in
    let first : input.Tick ms ∷ flat_map main_inputs acts ≡ i ∷ rest = sym (ap (λ (y : Act). main_inputs y ++ flat_map main_inputs acts) same) ∙ left in cc
one_left (x ∷ acts) zero (act.Exit name status) i rest there single left =
    let same : x ≡ act.Exit name status = cc in
    let first : input.Exit name status ∷ flat_map main_inputs acts ≡ i ∷ rest = sym (ap (λ (y : Act). main_inputs y ++ flat_map main_inputs acts) same) ∙ left in cc
one_left (x ∷ acts) zero (act.File path content) i rest there single left =
    let same : x ≡ act.File path content = cc in
    let first : input.File path content ∷ flat_map main_inputs acts ≡ i ∷ rest = sym (ap (λ (y : Act). main_inputs y ++ flat_map main_inputs acts) same) ∙ left in cc

-- where no step is left, the next input is that of the act at the place
pub next_settled : (acts : List Act) (m : MainPlace) (old : List Input) (a : Act) (i : Input) (rest : List Input) → main_left acts m ≡ old → m.steps ≡ 0
    → slice_get acts m.at ≡ Some a → IsTrue (is_some (single_input a)) → old ≡ i ∷ rest → single_input a ≡ Some i
next_settled acts m old a i rest same no_step there single next =
    one_left acts m.at a i rest there single (sym (at_no_step acts m no_step) ∙ same ∙ next)

-- the sets of the client at a place
pub sets_at : (acts : List Act) (places : List ℕ) (k : ℕ) → sets_left acts places (k + 1) ≡ sets_behind acts (k + 1) (slice_get places k)
sets_at acts places k = rw add-one refl

pub sets_here : (acts : List Act) (places same : List ℕ) (k : ℕ) → same ≡ places → k < length same
    → sets_left acts places (k + 1) ≡ filter_map (set_of (k + 1)) (drop (get_or same k 0) acts)
sets_here acts places same k is within =
    sets_at acts places k
    ∙ ap (λ (all : List ℕ). sets_behind acts (k + 1) (slice_get all k)) (sym is)
    ∙ ap (λ (place : Option ℕ). sets_behind acts (k + 1) place) (slice_get-get_or same k 0 within)

pub sets_past : (acts : List Act) (places : List ℕ) (who : ℕ) → length places < who → sets_left acts places who ≡ []
sets_past acts places zero past = refl
sets_past acts places (suc k) past = ap (λ (place : Option ℕ). sets_behind acts (suc k) place) (slice_get_past places k (omega arith))

-- a value that is there meets what is said of it
pub of_some : {X : Type 0} (o : Option X) (A : Type 0) (P : X → Type 0) → MatchOption o A P → is_some o ≡ true → (x : X) × P x
of_some None A P met there = cc
of_some (Some x) A P met there = (x, met)

pub of_none : {X : Type 0} (o : Option X) (A : Type 0) (P : X → Type 0) → MatchOption o A P → is_some o ≡ false → A
of_none None A P met there = met
of_none (Some x) A P met there = cc

-- a set that is taken is the next of its client
pub set_taken : (who : ClientId) (name value : List ℕ) (new old : List Pair) (i : Input) → i ≡ input.Set who name value
    → filter_map (set_by who.0) (i ∷ []) ++ new ≡ old → old ≡ record { name = name; value = value } ∷ new
set_taken who name value new old i is taken =
    let pair : Pair = record { name = name; value = value } in
    let own : (who.0 == who.0) ≡ true = eq-eqb who.0 who.0 refl in
    sym taken ∙ ap (λ (x : Input). filter_map (set_by who.0) (x ∷ []) ++ new) is
    ∙ ap (λ (b : Bool). cons_option (cond b (Some pair) None) [] ++ new) own
