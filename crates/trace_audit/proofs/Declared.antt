-- In a merging of parts each set is of a client that has a part.
use Rattle.std.proofs.Common.{◌≡◌, ◌<◌, ◌≤◌, ℕ, zero, suc, Bool, ◌⊎◌, List, [], ◌∷◌, ◌++◌, length, Option, Some, None, refl, sym, ap, ◌∙◌, arith, inl, inr, eq-eqb, if◌then◌else◌}
use Rattle.std.specs.List.{cons_option, enumerate_from, filter_map}
use Rattle.std.proofs.lemmas.Bool.{cases_lt}
use Rattle.std.proofs.lemmas.List.{length-map}
use Rattle.std.proofs.lemmas.List.Elements.{filter_map-append}
use Rattle.std.proofs.lemmas.List.FromFn.{length-enumerate_from}
use Rattle.std.proofs.lemmas.Option.{slice_get_past}
use Rattle.init_base.specs.declared.units.ClientId.{ClientId}
use Rattle.init_core.specs.Core.{IsDeclared}
use Rattle.init_machine.specs.History.{inputs_of}
use Rattle.init_machine.specs.declared.config.Config.{Config}
use Rattle.init_machine.specs.declared.config.Pair.{Pair}
use Rattle.init_machine.specs.declared.input.Input.{Input}
use Rattle.init_machine.specs.declared.input.Input.TheVariants as input
use Rattle.init_machine.specs.declared.report.Entry.{Entry}
use Rattle.script_lang.specs.Inputs.{ActorParts, Parts, part_of}
use Rattle.script_lang.specs.Laws.{set_by, set_in}
use Rattle.script_lang.specs.Merges.{BeginsMerging, or_none, requests_of}
use Rattle.script_lang.specs.declared.script.Ask.{Ask}
use Rattle.script_lang.specs.declared.script.Script.{Script}

-- a number that no client of so many has
abbrev IsOut : ℕ → ℕ → Type 0
IsOut clients who = (who ≡ 0) ⊎ (clients < who)

parts_long : (script : Script) → length (Parts script).clients ≡ length script.clients
parts_long script = length-map (enumerate_from 1 script.clients) (λ numbered. part_of numbered.0 script) ∙ length-enumerate_from 1 script.clients

no_requests : (parts : ActorParts) (clients who : ℕ) → length parts.clients ≤ clients → IsOut clients who → requests_of parts who ≡ []
no_requests parts clients zero few out = refl
no_requests parts clients (suc place) few (inl none) = absurd (omega arith)
no_requests parts clients (suc place) few (inr past) =
    ap (λ (asks : Option (List Ask)). or_none asks) (slice_get_past parts.clients place (omega arith))

rest_none : {A : Type 0} (first : Option A) (rest : List A) → cons_option first rest ≡ [] → rest ≡ []
rest_none None rest none = none
rest_none (Some x) rest none = cc

own_set : (who : ClientId) (name value : List ℕ) (rest : List Input) → filter_map (set_by who.0) (input.Set who name value ∷ rest) ≡ [] → ⊥
own_set who name value rest none =
    let pair : Pair = record { name = name; value = value } in
    let one = ap (λ (own : Bool). cons_option (if own then Some pair else None) (filter_map (set_by who.0) rest)) (eq-eqb who.0 who.0 refl) in
    cc

head_declared : (config : Config) (i : Input) (rest : List Input) → ((who : ℕ) → IsOut (length config.domains) who → filter_map (set_by who) (i ∷ rest) ≡ [])
    → IsDeclared config i
head_declared config input.Boot rest none = tt
head_declared config input.Next rest none = tt
head_declared config (input.Tick ms) rest none = tt
head_declared config (input.Exit name status) rest none = tt
head_declared config (input.File path content) rest none = tt
head_declared config (input.Set who name value) rest none = (from, to)
  where
    from : 1 ≤ who.0
    from = elim (cases_lt 0 who.0) [
      | inl above ↦ omega arith
      | inr below ↦ absurd (own_set who name value rest (none who.0 (inl (omega arith))))
    ]

    to : who.0 ≤ length config.domains
    to = elim (cases_lt (length config.domains) who.0) [
      | inl past ↦ absurd (own_set who name value rest (none who.0 (inr past)))
      | inr within ↦ within
    ]

last_declared : (config : Config) (history : List Entry) (e : Entry)
    → ((who : ℕ) → IsOut (length config.domains) who → filter_map (set_by who) (inputs_of (history ++ e ∷ [])) ≡ []) → IsDeclared config e.input
last_declared config [] e none = head_declared config e.input [] none
last_declared config (x ∷ history) e none =
    last_declared config history e (λ who out. rest_none (set_by who x.input) (filter_map (set_by who) (inputs_of (history ++ e ∷ []))) (none who out))

front_none : {A : Type 0} (xs ys : List A) → xs ++ ys ≡ [] → xs ≡ []
front_none [] ys none = refl
front_none (x ∷ xs) ys none = cc

-- the last of entries with which a merging begins
pub begins_declared : (script : Script) (config : Config) (history : List Entry) (e : Entry) → length script.clients ≤ length config.domains
    → BeginsMerging (history ++ e ∷ []) (Parts script) → IsDeclared config e.input
begins_declared script config history e few begins =
    let long = parts_long script in
    let inputs = inputs_of (history ++ e ∷ []) in
    last_declared config history e
    (λ who out.
    front_none (filter_map (set_by who) inputs) (filter_map (set_by who) begins.0)
    (sym (filter_map-append (set_by who) inputs begins.0)
    ∙ ap (filter_map (set_by who)) begins.1.begins
    ∙ begins.1.sets who
    ∙ ap (filter_map set_in) (no_requests (Parts script) (length config.domains) who (omega (arith, long, few)) out)))
