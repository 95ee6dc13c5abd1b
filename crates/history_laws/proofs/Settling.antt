-- What a step settles: behind it no wait for a file is ripe, and behind a client's set nothing is settled.
use Rattle.std.proofs.Common.{◌≡◌, inl, inr, ℕ, ◌<◌, Bool, true, false, nat_le, List, [], ◌∷◌, ◌++◌, Option, Some, None, if◌then◌else◌, refl, sym, ap, ◌∙◌, subst}
use Rattle.std.proofs.lemmas.Bool.{leb-false, lt-leb}
use Rattle.std.proofs.lemmas.List.{append-nil}
use Rattle.init_base.specs.declared.units.ClientId.{ClientId}
use Rattle.init_base.specs.declared.units.Millis.{Millis}
use Rattle.init_machine.specs.Changes.{Change, change, nothing, unless_over}
use Rattle.init_machine.specs.FileTree.{has_node}
use Rattle.init_machine.specs.History.{after, after_from}
use Rattle.init_machine.specs.Policy.{PolicyLines}
use Rattle.init_machine.specs.Services.{control_at, place_of, set_by}
use Rattle.init_machine.specs.Setting.{Judged, judged, set_answer, set_property, control_op, is_control}
use Rattle.init_machine.specs.State.{Opening, State, Rules, rules_of, first_state}
use Rattle.init_machine.specs.Step.{ask, domain_of, respond, settle_by, settle_wait, settle, step}
use Rattle.init_machine.specs.declared.config.Config.{Config}
use Rattle.init_machine.specs.declared.input.Input.{Input}
use Rattle.init_machine.specs.declared.input.Input.TheVariants as input
use Rattle.init_machine.specs.declared.output.SetRefusal.{SetRefusal}
use Rattle.init_machine.specs.declared.waiting.Waiting.{Waiting}
use Rattle.init_machine.specs.declared.waiting.Waiting.TheVariants as waiting
use Rattle.history_laws.specs.Settled.{WaitsForNoRipeFile, IsSettled}
use Rattle.history_laws.proofs.Quiet.{Quiet, quiet_judged, quiet_set, quiet_control}

-- behind a step no wait for a file is ripe

-- the machine waits for no file
awaits_no_file : (s : State) → ((path : List ℕ) (until : Millis) → s.waits ≡ Some (waiting.File path until) → ⊥) → WaitsForNoRipeFile s
awaits_no_file s never path until is = absurd (never path until is)

settled_by : (path : List ℕ) (until : Millis) (there late : Bool) (s : State) → s.waits ≡ Some (waiting.File path until)
    → has_node s.tree path ≡ there → nat_le until.0 s.kernel.clock ≡ late → WaitsForNoRipeFile (settle_by there late s).state
settled_by path until true late s is there later = awaits_no_file (settle_by true late s).state (λ p u other. cc)
settled_by path until false true s is there later = awaits_no_file (settle_by false true s).state (λ p u other. cc)
settled_by path until false false s is there later =
    λ p u other.
    let same_path : path ≡ p = cc in
    let same_time : until ≡ u = cc in
    let P : List ℕ → Type 0 = λ x. has_node s.tree x ≡ false in
    let Q : Millis → Type 0 = λ x. s.kernel.clock < x.0 in
    (subst P same_path there, subst Q same_time (leb-false until.0 s.kernel.clock later))

settled_wait : (waits : Option Waiting) (s : State) → s.waits ≡ waits → WaitsForNoRipeFile (settle_wait waits s).state
settled_wait None s is = awaits_no_file s (λ p u other. cc)
settled_wait (Some (waiting.Child pid)) s is = awaits_no_file s (λ p u other. cc)
settled_wait (Some (waiting.Prop awaited)) s is = awaits_no_file s (λ p u other. cc)
settled_wait (Some (waiting.File path until)) s is = settled_by path until (has_node s.tree path) (nat_le until.0 s.kernel.clock) s is refl refl

settled : (s : State) → WaitsForNoRipeFile (settle s).state
unfolding settle
settled s = settled_wait s.waits s refl

settled_unless : (over : Option (List ℕ)) (c : Change) → c.state.over ≡ over → IsSettled (unless_over over c settle).state
settled_unless None c is = λ on. settled c.state
settled_unless (Some target) c is = λ on. cc

pub step_settles : (config : Config) (policy : PolicyLines) (s : State) (i : Input) → IsSettled (step config policy s i).state
unfolding step
step_settles config policy s i =
    let c = respond config (rules_of config policy) i s in settled_unless c.state.over c refl

settled_from : (config : Config) (policy : PolicyLines) (s : State) (inputs : List Input) → IsSettled s → IsSettled (after_from config policy s inputs)
settled_from config policy s [] begun = begun
settled_from config policy s (i ∷ inputs) begun = settled_from config policy (step config policy s i).state inputs (step_settles config policy s i)

first_settled : (o : Opening) → IsSettled (first_state o)
unfolding first_state
first_settled o = λ on. awaits_no_file (first_state o) (λ p u other. cc)

-- in each state that an opening reaches
pub reached_settled : (o : Opening) (inputs : List Input) → IsSettled (after o inputs)
reached_settled o inputs = settled_from o.config o.policy (first_state o) inputs (first_settled o)

-- behind a client's set nothing is settled

settles_none : (there late : Bool) (s : State) → there ≡ false → late ≡ false → settle_by there late s ≡ nothing s
settles_none true late s there later = absurd (cc)
settles_none false true s there later = absurd (cc)
settles_none false false s there later = refl

wait_settles_none : (waits : Option Waiting) (s : State) → s.waits ≡ waits → WaitsForNoRipeFile s → settle_wait waits s ≡ nothing s
wait_settles_none None s is calm = refl
wait_settles_none (Some (waiting.Child pid)) s is calm = refl
wait_settles_none (Some (waiting.Prop awaited)) s is calm = refl
wait_settles_none (Some (waiting.File path until)) s is calm =
    let unripe = calm path until is in
    settles_none (has_node s.tree path) (nat_le until.0 s.kernel.clock) s unripe.0 (lt-leb until.0 s.kernel.clock unripe.1)

nothing_settled : (s : State) → WaitsForNoRipeFile s → settle s ≡ nothing s
unfolding settle
nothing_settled s calm = wait_settles_none s.waits s refl calm

-- what is quiet makes no wait ripe
still_unripe : (s : State) (c : Change) → Quiet s c → WaitsForNoRipeFile s → WaitsForNoRipeFile c.state
still_unripe s c quiet calm path until is =
    elim (quiet.waits) [
      | inl same ↦
          let unripe = calm path until (sym same ∙ is) in
          (ap (λ tree. has_node tree path) quiet.tree ∙ unripe.0, let P : ℕ → Type 0 = λ n. n < until.0 in subst P (sym quiet.clock) unripe.1)
      | inr none ↦ absurd (cc)
    ]

unsettled_by : (over : Option (List ℕ)) (c : Change) → (over ≡ None → settle c.state ≡ nothing c.state) → unless_over over c settle ≡ c
unsettled_by None c none =
    ap (λ (d : Change). change d.state (c.lines ++ d.lines)) (none refl) ∙ ap (λ lines. change c.state lines) (append-nil c.lines)
unsettled_by (Some target) c none = refl

quiet_by_name : (control : Bool) (refused : Option SetRefusal) (s : State) (c : Change) (answer : Judged) → Quiet s c → Quiet s answer.done
    → Quiet s (if control then judged refused s c else answer).done
quiet_by_name true refused s c answer one other = quiet_judged refused s c one
quiet_by_name false refused s c answer one other = other

pub quiet_set_by : (rules : Rules) (by : Option (List ℕ)) (name value : List ℕ) (s : State) → Quiet s (set_by rules by name value s).done
unfolding set_by
quiet_set_by rules by name value s =
    let c = control_at rules (control_op name) (place_of rules value) s in
    quiet_by_name (is_control name) (set_answer rules s by name value) s c (set_property rules s by name value)
    (quiet_control rules (control_op name) (place_of rules value) s) (quiet_set rules s by name value)

-- where nothing was left to be settled, a step at a client's set is the asking alone
pub set_step : (config : Config) (policy : PolicyLines) (s : State) (who : ClientId) (name value : List ℕ) → IsSettled s
    → step config policy s (input.Set who name value) ≡ ask (rules_of config policy) (domain_of config.domains who) name value s
unfolding step respond ask
set_step config policy s who name value before =
    let rules = rules_of config policy in
    let domain = domain_of config.domains who in
    let answer = set_by rules (Some domain) name value s in
    let c = ask rules domain name value s in
    let quiet = quiet_set_by rules (Some domain) name value s in
    unsettled_by c.state.over c
    (λ on. nothing_settled c.state (still_unripe s answer.done quiet (before (sym quiet.over ∙ on))))
