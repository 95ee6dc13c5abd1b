-- The inputs of a script in the order of its lines merge its parts.
use Rattle.std.proofs.Common.{◌≡◌, ℕ, zero, suc, ◌+◌, ◌<◌, ◌≤◌, inl, inr, Bool, true, false, ◌==◌, List, [], ◌∷◌, length, map, slice_get, filter, All, Option, Some, None, if◌then◌else◌, refl, sym, ap, ◌∙◌, arith, subst}
use Rattle.std.specs.List.{cons_option, enumerate_from, filter_map, flat_map}
use Rattle.std.proofs.lemmas.Bool.{eqb-true}
use Rattle.std.proofs.lemmas.Bool.Decides.{leb_tells}
use Rattle.std.proofs.lemmas.List.Elements.{All-head, All-tail}
use Rattle.init_machine.specs.State.{Opening}
use Rattle.init_machine.specs.declared.input.Input.{Input}
use Rattle.init_machine.specs.declared.input.Input.TheVariants as input
use Rattle.machine_laws.specs.Histories.{history_of}
use Rattle.machine_laws.proofs.Legal.{inputs_of_history}
use Rattle.script_lang.specs.Inputs.{InOrder, Parts, act_inputs, ask_by, part_of}
use Rattle.script_lang.specs.Laws.{IsAskAmong, set_in}
use Rattle.script_lang.specs.Merges.{Merges, IsMerging, is_main, or_none, requests_of}
use Rattle.script_lang.specs.declared.script.Act.{Act}
use Rattle.script_lang.specs.declared.script.Act.TheVariants as act
use Rattle.script_lang.specs.declared.script.Ask.{Ask}
use Rattle.script_lang.specs.declared.script.Script.{Script}
use Rattle.script_lang.proofs.InputParts.{main_part, client_part}
use Rattle.init_driver.specs.Run.{AsksAreMet}

-- ---- the part of a client by its number

-- no request is that of a number that no client has
not_asked : (who clients other : ℕ) (mine : Bool) (request : Ask) → (1 ≤ who → who ≤ clients → ⊥) → 1 ≤ other → other ≤ clients → (other == who) ≡ mine
    → (if mine then Some request else None) ≡ None
not_asked who clients other false request outside first last is = refl
not_asked who clients other true request outside first last is =
    let same : other ≡ who = eqb-true other who is in absurd (outside (omega arith) (omega arith))

pub no_part : (who clients : ℕ) (acts : List Act) → (1 ≤ who → who ≤ clients → ⊥) → All (IsAskAmong clients) acts → filter_map (ask_by who) acts ≡ []
no_part who clients [] outside asks = refl
no_part who clients (act.Step count ∷ acts) outside asks = no_part who clients acts outside (All-tail (IsAskAmong clients) (act.Step count) acts asks)
no_part who clients (act.Tick ms ∷ acts) outside asks = no_part who clients acts outside (All-tail (IsAskAmong clients) (act.Tick ms) acts asks)
no_part who clients (act.Exit name status ∷ acts) outside asks =
    no_part who clients acts outside (All-tail (IsAskAmong clients) (act.Exit name status) acts asks)
no_part who clients (act.File path content ∷ acts) outside asks =
    no_part who clients acts outside (All-tail (IsAskAmong clients) (act.File path content) acts asks)
no_part who clients (act.Ask other request ∷ acts) outside asks =
    let one = All-head (IsAskAmong clients) (act.Ask other request) acts asks in
    ap (λ (o : Option Ask). cons_option o (filter_map (ask_by who) acts))
    (not_asked who clients other.0 (other.0 == who) request outside one.0 one.1 refl)
    ∙ no_part who clients acts outside (All-tail (IsAskAmong clients) (act.Ask other request) acts asks)

part_at : {X B : Type 0} (f : ℕ → B) (n : ℕ) (xs : List X) (k : ℕ) → k < length xs
    → slice_get (map (λ numbered. f numbered.0) (enumerate_from n xs)) k ≡ Some (f (n + k))
part_at f n [] k within = absurd (omega arith)
part_at f n (x ∷ xs) zero within = let e : n ≡ n + 0 = omega arith in ap (λ m. Some (f m)) e
part_at f n (x ∷ xs) (suc k) within =
    let e : n + 1 + k ≡ n + suc k = omega arith in part_at f (n + 1) xs k (omega arith) ∙ ap (λ m. Some (f m)) e

part_past : {X B : Type 0} (f : ℕ → B) (n : ℕ) (xs : List X) (k : ℕ) → length xs ≤ k
    → slice_get (map (λ numbered. f numbered.0) (enumerate_from n xs)) k ≡ None
part_past f n [] k past = refl
part_past f n (x ∷ xs) zero past = absurd (omega arith)
part_past f n (x ∷ xs) (suc k) past = part_past f (n + 1) xs k (omega arith)

-- each number has the requests of its part
pub part_is : (script : Script) → AsksAreMet script → (who : ℕ) → part_of who script ≡ requests_of (Parts script) who
part_is script asks zero = no_part zero (length script.clients) script.acts (λ first last. absurd (omega arith)) asks
part_is script asks (suc place) =
    elim (leb_tells (length script.clients) place) [
      | inr within ↦
          let e : 1 + place ≡ suc place = omega arith in
          sym (ap or_none (part_at (λ who. part_of who script) 1 script.clients place within.1) ∙ ap (λ who. part_of who script) e)
      | inl past ↦
          no_part (suc place) (length script.clients) script.acts (λ first last. let far = past.1 in absurd (omega arith)) asks
          ∙ sym (ap or_none (part_past (λ who. part_of who script) 1 script.clients place past.1))
    ]

-- ---- the inputs merge the parts

tail_is : (i : Input) (xs ys : List Input) → i ∷ xs ≡ i ∷ ys → xs ≡ ys
tail_is i xs ys same = cc

in_order_merges : (script : Script) → AsksAreMet script → IsMerging (Parts script) (InOrder script)
in_order_merges script asks = record {
  rest = flat_map act_inputs script.acts;
  begins = refl;
  main = tail_is input.Boot (filter is_main (flat_map act_inputs script.acts)) (Parts script).main (main_part script);
  sets = λ who. client_part script who ∙ ap (filter_map set_in) (part_is script asks who);
}

pub run_merges : (o : Opening) (script : Script) → AsksAreMet script → Merges (history_of o (InOrder script)) (Parts script)
run_merges o script asks =
    subst (λ (is : List Input). IsMerging (Parts script) is) (sym (inputs_of_history o (InOrder script))) (in_order_merges script asks)
