-- What the main actor's inputs leave, one after another.
use Rattle.std.proofs.Common.{◌≡◌, ℕ, zero, suc, ◌+◌, ◌<◌, List, [], ◌∷◌, ◌++◌, length, get_or, take, replicate, refl, sym, ap, ◌∙◌, subst, arith}
use Rattle.std.specs.List.{flat_map}
use Rattle.std.proofs.lemmas.List.{append-nil, append_assoc, flat_map_more, map-append, take_more}
use Rattle.init_machine.specs.History.{inputs_of}
use Rattle.init_machine.specs.declared.client.ClientItem.TheVariants.{Asked}
use Rattle.init_machine.specs.declared.input.Input.{Input}
use Rattle.init_machine.specs.declared.input.Input.TheVariants as input
use Rattle.init_machine.specs.declared.report.Entry.{Entry}
use Rattle.init_race.proofs.Steps.{asks_more, asks_nothing}
use Rattle.property_area.specs.Seats.{Seated}
use Rattle.property_service.specs.Back.{ComesBackFrom, request_behind}
use Rattle.property_service.specs.Service.{ServiceView, has_seat, next_entry}
use Rattle.script_lang.specs.Inputs.{main_inputs}
use Rattle.script_lang.specs.declared.script.Act.{Act}
use Rattle.init_dispatch.specs.internal.MainActor.{TakesInputs}

pub takes_nothing : (s : ServiceView) (r : Seated) → TakesInputs s s r r []
takes_nothing s r = record {
  asks = asks_nothing r;
  history = sym (append-nil (inputs_of s.history));
  opening = refl;
  seats = λ who. refl;
}

takes_more : (s t u : ServiceView) (a b c : Seated) (xs ys : List Input) → TakesInputs s t a b xs → TakesInputs t u b c ys
    → TakesInputs s u a c (xs ++ ys)
takes_more s t u a b c xs ys first second = record {
  asks = asks_more a b c xs ys first.asks second.asks;
  history = second.history ∙ ap (λ done. done ++ ys) first.history ∙ append_assoc (inputs_of s.history) xs ys;
  opening = second.opening ∙ first.opening;
  seats = λ who. second.seats who ∙ first.seats who;
}

-- the service took an input of the main actor
pub takes_one : (s t : ServiceView) (reader back : Seated) (i : Input) → t.history ≡ s.history ++ next_entry s i ∷ [] → t.opening ≡ s.opening
    → ((who : ℕ) → has_seat t.seat who ≡ has_seat s.seat who) → ComesBackFrom s.history (next_entry s i) reader back
    → TakesInputs s t reader back (i ∷ [])
takes_one s t reader back i history opening seats comes = record {
  asks = record {
    items = Asked (request_behind s.history (next_entry s i)) ∷ [];
    goes = record { table = comes.table; who = comes.who; opening = comes.opening; began = comes.began; list = comes.list };
    asked = refl;
  };
  history = ap inputs_of history ∙ map-append (λ (e : Entry). e.input) s.history (next_entry s i ∷ []);
  opening = opening;
  seats = seats;
}

replicate_more : (i : Input) (n : ℕ) → replicate n i ++ i ∷ [] ≡ replicate (suc n) i
replicate_more i zero = refl
replicate_more i (suc n) = ap (λ more. i ∷ more) (replicate_more i n)

pub steps_go_on : (s t u : ServiceView) (a b c : Seated) (n : ℕ) → TakesInputs s t a b (replicate n input.Next)
    → TakesInputs t u b c (input.Next ∷ []) → TakesInputs s u a c (replicate (n + 1) input.Next)
steps_go_on s t u a b c n first second =
    let e : suc n ≡ n + 1 = omega arith in
    subst (TakesInputs s u a c) (replicate_more input.Next n ∙ ap (λ m. replicate m input.Next) e) (takes_more s t u a b c _ _ first second)

inputs_more : (acts : List Act) (k : ℕ) (act : Act) → k < length acts → act ≡ get_or acts k act
    → flat_map main_inputs (take k acts) ++ main_inputs act ≡ flat_map main_inputs (take (k + 1) acts)
inputs_more acts k act within at =
    let split : take (k + 1) acts ≡ take k acts ++ act ∷ [] = take_more acts k act within ∙ ap (λ a. take k acts ++ a ∷ []) (sym at) in
    flat_map_more main_inputs [] (take k acts) act ∙ ap (flat_map main_inputs) (sym split)

pub acts_go_on : (s t u : ServiceView) (a b c : Seated) (acts : List Act) (k : ℕ) (act : Act) → k < length acts → act ≡ get_or acts k act
    → TakesInputs s t a b (flat_map main_inputs (take k acts)) → TakesInputs t u b c (main_inputs act)
    → TakesInputs s u a c (flat_map main_inputs (take (k + 1) acts))
acts_go_on s t u a b c acts k act within at first second =
    subst (TakesInputs s u a c) (inputs_more acts k act within at) (takes_more s t u a b c _ _ first second)
