-- What the readers give makes a well-formed configuration.
use Rattle.std.proofs.Common.{◌≡◌, ◌≢◌, ℕ, suc, ◌≤◌, Bool, true, false, not, ◌||◌, List, [], ◌∷◌, length, map, All, AllPairs, refl, sym, subst, ap, ◌∙◌}
use Rattle.std.specs.Prelude.{IsTrue, nat_le}
use Rattle.std.specs.List.{list_all, list_any}
use Rattle.std.specs.Str.{bytes_eq}
use Rattle.std.proofs.lemmas.Bool.{le-leb, and_from}
use Rattle.std.proofs.lemmas.List.Sums.{list_all-from_AllPass}
use Rattle.std.proofs.lemmas.Slice.Eq.{bytes_eq-Decides}
use native.Mathlib.Omega.{arith}
use Rattle.init_machine.specs.Pairs.{is_before}
use Rattle.init_machine.specs.Setting.{is_persistent}
use Rattle.init_machine.specs.WellFormed.{IsWellFormed, are_distinct, ascend, is_well_formed_action, is_well_formed_plan, is_well_formed_service}
use Rattle.init_machine.specs.declared.config.Pair.{Pair}
use Rattle.init_machine.specs.declared.config.Plan.{Plan}
use Rattle.persist_file.specs.Store.{are_saved, is_saved, names_ascend}
use Rattle.script_lang.specs.Laws.{Differ, IsMoment, MeetsConditions}
use Rattle.script_lang.specs.declared.script.Client.{Client}
use Rattle.script_lang.specs.declared.script.Script.{Script}
use Rattle.job_reader.specs.Prepared.{IsFit, IsJobFor}
use Rattle.job_reader.specs.declared.preparing.Job.{Job}
use Rattle.job_reader.specs.declared.preparing.TreeParts.{TreeParts}
use Rattle.std.specs.Cmp.{first_so, second_so}

-- ---- texts that differ

all_first : {X : Type 0} (P : X → Type 0) (x : X) (xs : List X) → All P (x ∷ xs) → P x
all_first P x xs all = all 0 x (omega arith)

all_rest : {X : Type 0} (P : X → Type 0) (x : X) (xs : List X) → All P (x ∷ xs) → All P xs
all_rest P x xs all = λ k d less. all (suc k) d (omega (arith, less))

pairs_first : {X : Type 0} (R : X → X → Type 0) (x : X) (xs : List X) → AllPairs R (x ∷ xs) → All (R x) xs
pairs_first R x xs pairs = λ k d less. pairs 0 (suc k) d (omega arith) (omega (arith, less))

pairs_rest : {X : Type 0} (R : X → X → Type 0) (x : X) (xs : List X) → AllPairs R (x ∷ xs) → AllPairs R xs
pairs_rest R x xs pairs = λ i j d before less. pairs (suc i) (suc j) d (omega (arith, before)) (omega (arith, less))

not_same : (a b : List ℕ) (same : Bool) → bytes_eq a b ≡ same → b ≢ a → same ≡ false
not_same a b true is differ = absurd (differ (sym ((bytes_eq-Decides a b).0 is)))
not_same a b false is differ = refl

either_false : (a b : Bool) → a ≡ false → b ≡ false → (a || b) ≡ false
either_false true b one other = cc
either_false false b one other = other

none_same : {X : Type 0} (text_of : X → List ℕ) (text : List ℕ) (xs : List X)
    → All (λ x. text ≢ text_of x) xs → list_any (λ other. bytes_eq other text) (map text_of xs) ≡ false
none_same text_of text [] all = refl
none_same text_of text (x ∷ xs) all =
    either_false _ _ (not_same (text_of x) text _ refl (all_first (λ y. text ≢ text_of y) x xs all))
    (none_same text_of text xs (all_rest (λ y. text ≢ text_of y) x xs all))

not_false : (b : Bool) → b ≡ false → not b ≡ true
not_false true is = cc
not_false false is = refl

distinct : {X : Type 0} (text_of : X → List ℕ) (xs : List X) → Differ text_of xs → are_distinct (map text_of xs) ≡ true
distinct text_of [] differ = refl
distinct text_of (x ∷ xs) differ =
    and_from _ _ (not_false _ (none_same text_of (text_of x) xs (pairs_first (λ a b. text_of a ≢ text_of b) x xs differ)))
    (distinct text_of xs (pairs_rest (λ a b. text_of a ≢ text_of b) x xs differ))

-- ---- plans

moments : (plans : List Plan) → All (λ plan. IsMoment plan.after.0) plans → list_all is_well_formed_plan plans ≡ true
moments plans all =
    list_all-from_AllPass is_well_formed_plan plans (λ k d less. le-leb _ 9007199254740992 (all k d less))

-- ---- saved pairs

saved_names : (saved : List Pair) → list_all is_saved saved ≡ true → list_all (λ p. is_persistent p.name) saved ≡ true
saved_names [] all = refl
saved_names (pair ∷ rest) all =
    and_from _ _ (second_so _ _ (first_so _ _ (first_so _ (list_all is_saved rest) all)))
    (saved_names rest (second_so (is_saved pair) _ all))

saved_ascend : (saved : List Pair) → names_ascend saved ≡ true → ascend saved ≡ true
saved_ascend [] all = refl
saved_ascend (pair ∷ []) all = refl
saved_ascend (pair ∷ next ∷ rest) all =
    and_from _ _ (first_so (is_before pair.name next.name) _ all)
    (saved_ascend (next ∷ rest) (second_so (is_before pair.name next.name) _ all))

-- ---- the configuration of a job

length-map : {X Y : Type 0} (f : X → Y) (xs : List X) → length (map f xs) ≡ length xs
length-map f [] = refl
length-map f (x ∷ xs) = ap suc (length-map f xs)

few : (clients : List Client) → length clients ≤ 64 → nat_le (length (map (λ client. client.domain) clients)) 64 ≡ true
few clients short = le-leb _ 64 (subst (λ n. n ≤ 64) (sym (length-map (λ client. client.domain) clients)) short)

well_formed : (script : Script) (parts : TreeParts) (saved : List Pair) (job : Job)
    → IsJobFor script parts saved job → IsWellFormed parts.loaded.config → MeetsConditions script → IsTrue (are_saved saved)
    → IsWellFormed job.setup.config
well_formed script parts saved job is config conditions pairs = record {
  actions = ap (λ a. list_all is_well_formed_action a) is.actions ∙ config.actions;
  services = ap (λ s. list_all is_well_formed_service s) is.services ∙ config.services;
  names = ap (λ s. are_distinct (map (λ service. service.name) s)) is.services ∙ config.names;
  plans = ap (λ p. list_all is_well_formed_plan p) is.plans ∙ moments script.plans conditions.moments;
  paths = ap (λ p. are_distinct (map (λ plan. plan.path) p)) is.plans ∙ distinct (λ plan. plan.path) script.plans conditions.plans_differ;
  saved = ap (λ s. list_all (λ p. is_persistent p.name) s) is.saved_is ∙ saved_names saved (first_so _ (names_ascend saved) pairs);
  order = ap ascend is.saved_is ∙ saved_ascend saved (second_so (list_all is_saved saved) _ pairs);
  domains = ap (λ d. nat_le (length d) 64) is.domains ∙ few script.clients conditions.few_clients;
}

pub job_is_fit : (script : Script) (parts : TreeParts) (saved : List Pair) (job : Job)
    → IsJobFor script parts saved job → IsWellFormed parts.loaded.config → MeetsConditions script → IsTrue (are_saved saved)
    → IsFit job
job_is_fit script parts saved job is config conditions pairs = record {
  plans = is.plans ∙ ap (λ s. s.plans) (sym is.script_is);
  domains = is.domains ∙ ap (λ s. map (λ client. client.domain) s.clients) (sym is.script_is);
  well_formed = well_formed script parts saved job is config conditions pairs;
  conditions = subst MeetsConditions (sym is.script_is) conditions;
}
