-- What an actor has done grows step by step.
use Rattle.std.proofs.Common.{◌≡◌, ℕ, ◌+◌, ◌<◌, ◌≤◌, List, [], ◌∷◌, ◌++◌, length, map, drop, get_or, zero, suc, Option, Some, None, refl, sym, ap, ◌∙◌, subst, arith}
use Rattle.std.specs.List.{cons_option, filter_map, flat_map}
use Rattle.std.proofs.lemmas.List.{append-nil, append_assoc, map-append}
use Rattle.std.proofs.Math.ListN.{drop_of_length-le}
use Rattle.init_machine.specs.Orderly.{readings_in}
use Rattle.init_machine.specs.declared.client.ClientItem.{ClientItem}
use Rattle.init_machine.specs.declared.client.ClientItem.TheVariants.{Told, Asked}
use Rattle.init_machine.specs.declared.client.ClientRequest.{ClientRequest}
use Rattle.init_machine.specs.declared.input.Input.{Input}
use Rattle.property_area.specs.Area.{requests_in}
use Rattle.property_area.specs.Seats.{Seated}
use Rattle.script_lang.specs.Inputs.{ask_by, main_inputs, part_of}
use Rattle.script_lang.specs.declared.script.Act.{Act}
use Rattle.script_lang.specs.declared.script.Ask.{Ask}
use Rattle.script_lang.specs.declared.script.Script.{Script}
use Rattle.init_race.specs.Acting.{inputs_in, AreItemsOf, GoesOn, AsksInputs, AnswersAll, IsAmid, IsAmidInputs}
use Rattle.init_race.specs.declared.actors.Acted.{Acted}

-- ---- a reader's list

pub goes_nowhere : (r : Seated) → GoesOn r r []
goes_nowhere r = record { table = refl; who = refl; opening = refl; began = refl; list = sym (append-nil r.view.list) }

pub goes_further : (a b c : Seated) (xs ys : List ClientItem) → GoesOn a b xs → GoesOn b c ys → GoesOn a c (xs ++ ys)
goes_further a b c xs ys first second = record {
  table = second.table ∙ first.table;
  who = second.who ∙ first.who;
  opening = second.opening ∙ first.opening;
  began = second.began ∙ first.began;
  list = second.list ∙ ap (λ list. list ++ ys) first.list ∙ append_assoc a.view.list xs ys;
}

requests_more : (xs ys : List ClientItem) → requests_in (xs ++ ys) ≡ requests_in xs ++ requests_in ys
requests_more [] ys = refl
requests_more (Told reading ∷ xs) ys = requests_more xs ys
requests_more (Asked request ∷ xs) ys = ap (λ rest. request ∷ rest) (requests_more xs ys)

pub inputs_more : (xs ys : List ClientItem) → inputs_in (xs ++ ys) ≡ inputs_in xs ++ inputs_in ys
inputs_more xs ys =
    ap (map (λ (request : ClientRequest). request.input)) (requests_more xs ys)
    ∙ map-append (λ (request : ClientRequest). request.input) (requests_in xs) (requests_in ys)

pub readings_more : (xs ys : List ClientItem) → readings_in (xs ++ ys) ≡ readings_in xs ++ readings_in ys
readings_more [] ys = refl
readings_more (Told reading ∷ xs) ys = ap (λ rest. reading ∷ rest) (readings_more xs ys)
readings_more (Asked request ∷ xs) ys = readings_more xs ys

-- ---- the main actor

pub asks_nothing : (r : Seated) → AsksInputs r r []
asks_nothing r = record { items = []; goes = goes_nowhere r; asked = refl }

pub asks_more : (a b c : Seated) (xs ys : List Input) → AsksInputs a b xs → AsksInputs b c ys → AsksInputs a c (xs ++ ys)
asks_more a b c xs ys first second = record {
  items = first.items ++ second.items;
  goes = goes_further a b c first.items second.items first.goes second.goes;
  asked = inputs_more first.items second.items ∙ ap (λ done. done ++ inputs_in second.items) first.asked ∙ ap (λ more. xs ++ more) second.asked;
}

-- ---- a client

pub fit_more : (who : ℕ) (xs ys : List Ask) (is js : List ClientItem) → AreItemsOf who xs is → AreItemsOf who ys js → AreItemsOf who (xs ++ ys) (is ++ js)
fit_more who [] ys [] js first second = second
fit_more who [] ys (i ∷ is) js first second = absurd first
fit_more who (x ∷ xs) ys [] js first second = absurd first
fit_more who (x ∷ xs) ys (i ∷ is) js first second = (first.0, fit_more who xs ys is js first.1 second)

pub answers_nothing : (a : Acted) → AnswersAll a a []
answers_nothing a = record { items = []; goes = goes_nowhere a.reader; fit = tt; told = sym (append-nil a.readings) }

pub answers_more : (a b c : Acted) (xs ys : List Ask) → AnswersAll a b xs → AnswersAll b c ys → AnswersAll a c (xs ++ ys)
answers_more a b c xs ys first second = record {
  items = first.items ++ second.items;
  goes = goes_further a.reader b.reader c.reader first.items second.items first.goes second.goes;
  fit = fit_more a.reader.view.who xs ys first.items second.items first.fit
      (subst (λ who. AreItemsOf who ys second.items) first.goes.who second.fit);
  told = second.told ∙ ap (λ told. told ++ readings_in second.items) first.told
      ∙ append_assoc a.readings (readings_in first.items) (readings_in second.items)
      ∙ ap (λ told. a.readings ++ told) (sym (readings_more first.items second.items));
}

-- ---- amid the acts

-- the act at the front of those that are left
drop_front : {B : Type 0} (f : List Act → List B) (g : Act → List B) (acts : List Act) (k : ℕ) (act : Act)
    → ((one : Act) (rest : List Act) → f (one ∷ rest) ≡ g one ++ f rest) → k < length acts → act ≡ get_or acts k act
    → f (drop k acts) ≡ g act ++ f (drop (suc k) acts)
drop_front f g [] k act split within at = absurd (omega arith)
drop_front f g (one ∷ rest) zero act split within at =
    let same : act ≡ one = at in subst (λ a. f (one ∷ rest) ≡ g a ++ f rest) (sym same) (split one rest)
drop_front f g (one ∷ rest) (suc k) act split within at = drop_front f g rest k act split (omega arith) at

drop_more : {B : Type 0} (f : List Act → List B) (g : Act → List B) (acts : List Act) (k : ℕ) (act : Act)
    → ((one : Act) (rest : List Act) → f (one ∷ rest) ≡ g one ++ f rest) → k < length acts → act ≡ get_or acts k act
    → f (drop k acts) ≡ g act ++ f (drop (k + 1) acts)
drop_more f g acts k act split within at =
    let e : suc k ≡ k + 1 = omega arith in drop_front f g acts k act split within at ∙ ap (λ n. g act ++ f (drop n acts)) e

cons_is : {B : Type 0} (found : Option B) (rest : List B) → cons_option found rest ≡ cons_option found [] ++ rest
cons_is None rest = refl
cons_is (Some x) rest = refl

-- the item of a loop over the acts
pub act_here : (items acts : List Act) (k : ℕ) (act : Act) → items ≡ acts → k < length items → act ≡ get_or items k act
    → (k < length acts) × (act ≡ get_or acts k act)
act_here items acts k act same within at = subst (λ (left : List Act). (k < length left) × (act ≡ get_or left k act)) same (within, at)

pub amid_begins : (script : Script) (a : Acted) → IsAmid script a a script.acts
amid_begins script a = record { done = []; all = refl; answers = answers_nothing a }

pub amid_goes_on : (script : Script) (a b c : Acted) (acts : List Act) (k : ℕ) (act : Act) → k < length acts → act ≡ get_or acts k act
    → IsAmid script a b (drop k acts) → AnswersAll b c (filter_map (ask_by b.reader.view.who) (act ∷ [])) → IsAmid script a c (drop (k + 1) acts)
amid_goes_on script a b c acts k act within at amid more =
    let who = a.reader.view.who in
    let mine : List Ask = filter_map (ask_by who) (act ∷ []) in
    let same : filter_map (ask_by b.reader.view.who) (act ∷ []) ≡ mine = ap (λ n. filter_map (ask_by n) (act ∷ [])) amid.answers.goes.who in
    record {
      done = amid.done ++ mine;
      all = append_assoc amid.done mine (filter_map (ask_by who) (drop (k + 1) acts))
          ∙ ap (λ rest. amid.done ++ rest) (sym (drop_more (filter_map (ask_by who)) (λ one. filter_map (ask_by who) (one ∷ [])) acts k act
          (λ one rest. cons_is (ask_by who one) (filter_map (ask_by who) rest)) within at))
          ∙ amid.all;
      answers = answers_more a b c amid.done mine amid.answers (subst (AnswersAll b c) same more);
    }

pub amid_ends : (script : Script) (a b : Acted) (acts : List Act) (k : ℕ) → length acts ≤ k → IsAmid script a b (drop k acts)
    → AnswersAll a b (part_of a.reader.view.who script)
amid_ends script a b acts k past amid =
    let none : filter_map (ask_by a.reader.view.who) (drop k acts) ≡ [] = ap (filter_map (ask_by a.reader.view.who)) (drop_of_length-le acts past) in
    let whole : amid.done ≡ part_of a.reader.view.who script = sym (append-nil amid.done) ∙ ap (λ rest. amid.done ++ rest) (sym none) ∙ amid.all in
    subst (AnswersAll a b) whole amid.answers

pub inputs_begin : (script : Script) (a : Seated) → IsAmidInputs script a a script.acts
inputs_begin script a = record { done = []; all = refl; asks = asks_nothing a }

pub inputs_go_on : (script : Script) (a b c : Seated) (acts : List Act) (k : ℕ) (act : Act) → k < length acts → act ≡ get_or acts k act
    → IsAmidInputs script a b (drop k acts) → AsksInputs b c (main_inputs act) → IsAmidInputs script a c (drop (k + 1) acts)
inputs_go_on script a b c acts k act within at amid more = record {
  done = amid.done ++ main_inputs act;
  all = append_assoc amid.done (main_inputs act) (flat_map main_inputs (drop (k + 1) acts))
      ∙ ap (λ rest. amid.done ++ rest) (sym (drop_more (flat_map main_inputs) main_inputs acts k act (λ one rest. refl) within at))
      ∙ amid.all;
  asks = asks_more a b c amid.done (main_inputs act) amid.asks more;
}

pub inputs_end : (script : Script) (a b : Seated) (acts : List Act) (k : ℕ) → length acts ≤ k → IsAmidInputs script a b (drop k acts)
    → AsksInputs a b (flat_map main_inputs script.acts)
inputs_end script a b acts k past amid =
    let none : flat_map main_inputs (drop k acts) ≡ [] = ap (flat_map main_inputs) (drop_of_length-le acts past) in
    let whole : amid.done ≡ flat_map main_inputs script.acts = sym (append-nil amid.done) ∙ ap (λ rest. amid.done ++ rest) (sym none) ∙ amid.all in
    subst (AsksInputs a b) whole amid.asks
