-- The parts of a script: what is left at first.
use Rattle.std.proofs.Common.{◌≡◌, ◌+◌, ◌<◌, ◌≤◌, ℕ, zero, suc, Bool, false, cond, ◌==◌, List, [], ◌∷◌, length, filter, map, replicate, slice_get, Option, Some, None, refl, sym, ap, ◌∙◌, arith, inl, inr, ◌⊎◌}
use Rattle.std.specs.Prelude.{All}
use Rattle.std.specs.List.{cons_option, enumerate_from, filter_map, flat_map}
use Rattle.std.proofs.lemmas.Bool.{cases_lt, ne_eqb}
use Rattle.std.proofs.lemmas.Option.{slice_get_past}
use Rattle.init_machine.specs.declared.config.Pair.{Pair}
use Rattle.init_machine.specs.declared.input.Input.TheVariants as input
use Rattle.script_lang.specs.Inputs.{Parts, act_inputs, ask_by, part_of}
use Rattle.script_lang.specs.Laws.{IsAskAmong, set_in}
use Rattle.script_lang.specs.Merges.{is_main, or_none, requests_of}
use Rattle.script_lang.specs.declared.script.Act.{Act}
use Rattle.script_lang.specs.declared.script.Act.TheVariants as act
use Rattle.script_lang.specs.declared.script.Ask.{Ask}
use Rattle.script_lang.specs.declared.script.Client.{Client}
use Rattle.script_lang.specs.declared.script.Script.{Script}
use Rattle.script_lang.proofs.InputParts.{client_part, main_part}
use Rattle.trace_audit.specs.declared.progress.MainPlace.{MainPlace}
use Rattle.trace_audit.specs.declared.progress.Progress.{Progress}
use Rattle.trace_audit.specs.Progress.{Takes, first_left, left_of, main_left, set_among, set_of, sets_behind, sets_left}
use Rattle.trace_audit.specs.Taken.{Fills}

-- ---- the part of each client

not_own : (who other clients : ℕ) → (1 ≤ other) × (other ≤ clients) → (who ≡ 0) ⊎ (clients < who) → (other == who) ≡ false
not_own who other clients within out =
    ne_eqb other who (λ (same : other ≡ who). elim out [ inl none ↦ absurd (omega arith) | inr past ↦ absurd (omega arith) ])

one_out : (who clients : ℕ) → (who ≡ 0) ⊎ (clients < who) → (a : Act) (acts : List Act) → IsAskAmong clients a → filter_map (ask_by who) acts ≡ []
    → filter_map (ask_by who) (a ∷ acts) ≡ []
one_out who clients out (act.Step count) acts among rest = rest
one_out who clients out (act.Tick ms) acts among rest = rest
one_out who clients out (act.Exit name status) acts among rest = rest
one_out who clients out (act.File path content) acts among rest = rest
one_out who clients out (act.Ask other ask) acts among rest =
    ap (λ (own : Bool). cons_option (cond own (Some ask) None) (filter_map (ask_by who) acts)) (not_own who other.0 clients (among.0, among.1) out) ∙ rest

none_out : (who clients : ℕ) → (who ≡ 0) ⊎ (clients < who) → (acts : List Act) → All (IsAskAmong clients) acts → filter_map (ask_by who) acts ≡ []
none_out who clients out [] asks = refl
none_out who clients out (a ∷ acts) asks =
    one_out who clients out a acts (asks 0 a (omega arith)) (none_out who clients out acts (λ k d within. asks (suc k) d (omega arith)))

part_at : (script : Script) (n : ℕ) (clients : List Client) (k : ℕ) → k < length clients
    → slice_get (map (λ (numbered : ℕ × Client). part_of numbered.0 script) (enumerate_from n clients)) k ≡ Some (part_of (n + k) script)
part_at script n [] k within = absurd (omega arith)
part_at script n (client ∷ clients) zero within = let e : n ≡ n + 0 = omega arith in ap (λ (who : ℕ). Some (part_of who script)) e
part_at script n (client ∷ clients) (suc k) within =
    let e : n + 1 + k ≡ n + suc k = omega arith in part_at script (n + 1) clients k (omega arith) ∙ ap (λ (who : ℕ). Some (part_of who script)) e

parts_long : (script : Script) (n : ℕ) (clients : List Client)
    → length (map (λ (numbered : ℕ × Client). part_of numbered.0 script) (enumerate_from n clients)) ≡ length clients
parts_long script n [] = refl
parts_long script n (client ∷ clients) = ap suc (parts_long script (n + 1) clients)

-- the requests of a client in the parts are its part
pub requests_are : (script : Script) (who : ℕ) → All (IsAskAmong (length script.clients)) script.acts → requests_of (Parts script) who ≡ part_of who script
requests_are script zero asks = sym (none_out zero (length script.clients) (inl refl) script.acts asks)
requests_are script (suc k) asks =
    elim (cases_lt k (length script.clients)) [
      | inl within ↦
          let e : 1 + k ≡ suc k = omega arith in
          ap (λ (o : Option (List Ask)). or_none o) (part_at script 1 script.clients k within) ∙ ap (λ (who : ℕ). part_of who script) e
      | inr past ↦
          let long : length (map (λ (numbered : ℕ × Client). part_of numbered.0 script) (enumerate_from 1 script.clients)) ≤ k =
          let l = parts_long script 1 script.clients in omega arith in
          ap (λ (o : Option (List Ask)). or_none o) (slice_get_past (map (λ (numbered : ℕ × Client). part_of numbered.0 script) (enumerate_from 1 script.clients)) k long)
          ∙ sym (none_out (suc k) (length script.clients) (inr (omega arith)) script.acts asks)
    ]

-- ---- the inputs in the order of the file fill what is left at first

pub first_fills : (script : Script) → All (IsAskAmong (length script.clients)) script.acts
    → Fills (flat_map act_inputs script.acts) (first_left (Parts script))
first_fills script asks = record {
  main =
      let same : input.Boot ∷ filter is_main (flat_map act_inputs script.acts) ≡ input.Boot ∷ (Parts script).main = main_part script in cc;
  sets = λ who.
      client_part script who ∙ ap (λ (requests : List Ask). filter_map set_in requests) (sym (requests_are script who asks));
}

-- ---- nothing was taken

by_ask : (o : Option Ask) (asks : List Ask) (rest : List Pair) → rest ≡ filter_map set_in asks
    → cons_option (set_among o) rest ≡ filter_map set_in (cons_option o asks)
by_ask None asks rest same = same
by_ask (Some ask) asks rest same = ap (λ (ps : List Pair). cons_option (set_in ask) ps) same

one_set : (a : Act) (who : ℕ) (acts : List Act) (rest : List Pair) → rest ≡ filter_map set_in (filter_map (ask_by who) acts)
    → cons_option (set_among (ask_by who a)) rest ≡ filter_map set_in (cons_option (ask_by who a) (filter_map (ask_by who) acts))
one_set a who acts rest same = by_ask (ask_by who a) (filter_map (ask_by who) acts) rest same

-- the sets of a client are those of its requests
pub sets_are : (who : ℕ) (acts : List Act) → filter_map (set_of who) acts ≡ filter_map set_in (filter_map (ask_by who) acts)
sets_are who [] = refl
sets_are who (a ∷ acts) = one_set a who acts (filter_map (set_of who) acts) (sets_are who acts)

zero_at : (n k : ℕ) → k < n → slice_get {X = ℕ} (replicate n 0) k ≡ Some 0
zero_at zero k within = absurd (omega arith)
zero_at (suc n) zero within = refl
zero_at (suc n) (suc k) within = zero_at n k (omega arith)

zeros_past : (n k : ℕ) → n ≤ k → slice_get {X = ℕ} (replicate n 0) k ≡ None
zeros_past zero zero past = refl
zeros_past zero (suc k) past = refl
zeros_past (suc n) zero past = absurd (omega arith)
zeros_past (suc n) (suc k) past = zeros_past n k (omega arith)

first_sets : (script : Script) (who : ℕ) → All (IsAskAmong (length script.clients)) script.acts
    → sets_left script.acts (replicate (length script.clients) 0) who ≡ filter_map set_in (part_of who script)
first_sets script zero asks = ap (λ (requests : List Ask). filter_map set_in requests) (sym (none_out zero (length script.clients) (inl refl) script.acts asks))
first_sets script (suc k) asks =
    elim (cases_lt k (length script.clients)) [
      | inl within ↦
          ap (λ (place : Option ℕ). sets_behind script.acts (suc k) place) (zero_at (length script.clients) k within) ∙ sets_are (suc k) script.acts
      | inr past ↦
          ap (λ (place : Option ℕ). sets_behind script.acts (suc k) place) (zeros_past (length script.clients) k past)
          ∙ ap (λ (requests : List Ask). filter_map set_in requests) (sym (none_out (suc k) (length script.clients) (inr (omega arith)) script.acts asks))
    ]

pub first_progress : (script : Script) (p : Progress) → All (IsAskAmong (length script.clients)) script.acts
    → p.main ≡ record { at = 0; steps = 0 } → p.places.items ≡ replicate (length script.clients) 0
    → Takes [] (first_left (Parts script)) (left_of script.acts p)
first_progress script p asks main places = record {
  main = ap (λ (m : MainPlace). main_left script.acts m) main;
  sets = λ who.
      ap (λ (all : List ℕ). sets_left script.acts all who) places
      ∙ first_sets script who asks
      ∙ ap (λ (requests : List Ask). filter_map set_in requests) (sym (requests_are script who asks));
}
