-- Sets of clients and of the build files, and the events of a boot, from what their parts do.
use Rattle.std.proofs.Common.{◌≡◌, ℕ, Bool, true, false, cond, List, [], ◌∷◌, ◌++◌, Option, Some, None, refl, sym, ap, ◌∙◌, subst, append-nil, codes}
use Rattle.init_machine.specs.Changes.{change, nothing}
use Rattle.init_machine.specs.History.{sets_in}
use Rattle.init_machine.specs.Pairs.{last_pairs}
use Rattle.init_machine.specs.Props.{Props}
use Rattle.init_machine.specs.Services.{set_by}
use Rattle.init_machine.specs.Setting.{is_control, unset_lines}
use Rattle.init_machine.specs.State.{State}
use Rattle.init_machine.specs.Step.{answer_line, ask, set_pair, set_pairs, queue_boot, first_boot, boot}
use Rattle.init_machine.specs.declared.config.Pair.{Pair}
use Rattle.init_machine.specs.declared.event.Event.TheVariants.{Named, Mark}
use Rattle.init_machine.specs.declared.output.Output.{Output}
use Rattle.init_machine.specs.declared.output.Output.TheVariants as output
use Rattle.init_machine.specs.declared.output.SetRefusal.{SetRefusal}
use Rattle.outputs.specs.Joins.{Joins}
use Rattle.machine_parts.specs.Parts.{Does, state_of, rules_of}
use Rattle.machine_parts.specs.Schedule.{ScheduleView, booted}
use Rattle.machine_parts.specs.declared.parts.Parts.{Parts}
use Rattle.init_core.specs.internal.Stage.{stage_in}
use Rattle.init_core.proofs.Boots.{pairs_boot}
use Rattle.machine_parts.proofs.Doing.{does_plain, does_both, does_more, unset_sets_none}

no_sets_answered : (refused : Option SetRefusal) (control : Bool) (count : ℕ) → sets_in (answer_line refused control count ∷ []) ≡ []
no_sets_answered (Some why) control count = refl
no_sets_answered None true count = refl
no_sets_answered None false count = refl

module _ {S O : Type 0} {meaning : S → Props} {told : S → Option (List (List ℕ × List ℕ))} {adds : O → O → List Output → Type 0} (joins : Joins adds) where
  -- a client was answered
  pub answers : (old mid : Parts S O) (outputs : O) (domain name value given : List ℕ) (refused : Option SetRefusal) (control : Bool) (count : ℕ) (line : Output)
      → Does meaning told adds old mid (set_by (rules_of old) (Some domain) name value (state_of meaning old)).done
      → refused ≡ (set_by (rules_of old) (Some domain) name value (state_of meaning old)).refused
      → given ≡ name → control ≡ is_control given → count ≡ (meaning mid.store).count → line ≡ answer_line refused control count → adds mid.outputs outputs (line ∷ [])
      → Does meaning told adds old (record mid { outputs = outputs }) (ask (rules_of old) domain name value (state_of meaning old))
  unfolding ask
  answers old mid outputs domain name value given refused control count line done refused_is given_is control_is count_is line_is lines =
      let answer = set_by (rules_of old) (Some domain) name value (state_of meaning old) in
      let controls : control ≡ is_control name = control_is ∙ ap is_control given_is in
      let counts : count ≡ answer.done.state.props.count = count_is ∙ ap (λ (s : State). s.props.count) done.state in
      let all : line ≡ answer_line answer.refused (is_control name) answer.done.state.props.count = line_is ∙ (λ i. answer_line (refused_is i) (controls i) (counts i)) in
      does_more joins outputs (answer_line answer.refused (is_control name) answer.done.state.props.count ∷ []) done (subst (λ (l : Output). adds mid.outputs outputs (l ∷ [])) all lines)
      (no_sets_answered answer.refused (is_control name) answer.done.state.props.count)

  -- a pair of the build files was set
  pub pair_set : (old mid : Parts S O) (outputs : O) (pair : Pair) (refused : Option SetRefusal)
      → Does meaning told adds old mid (set_by (rules_of old) None pair.name pair.value (state_of meaning old)).done
      → refused ≡ (set_by (rules_of old) None pair.name pair.value (state_of meaning old)).refused
      → adds mid.outputs outputs (unset_lines pair.name refused)
      → Does meaning told adds old (record mid { outputs = outputs }) (set_pair (rules_of old) pair (state_of meaning old))
  pair_set old mid outputs pair refused done refused_is lines =
      let answer = set_by (rules_of old) None pair.name pair.value (state_of meaning old) in
      does_more joins outputs (unset_lines pair.name answer.refused) done (subst (λ (r : Option SetRefusal). adds mid.outputs outputs (unset_lines pair.name r)) refused_is lines)
      (unset_sets_none pair.name answer.refused)

  -- the events of a boot were queued
  pub boot_queued : (old : Parts S O) (store : S) (queue : ScheduleView) (last : List ℕ) → meaning store ≡ meaning old.store → told store ≡ told old.store
      → last ≡ stage_in (meaning old.store) → queue ≡ booted old.queue last
      → Does meaning told adds old (record old { store = store; queue = queue }) (nothing (queue_boot (state_of meaning old)))
  boot_queued old store queue last same tells stage queued =
      let s = state_of meaning old in
      does_plain joins
      ((λ i. record s { props = same i; events = (queued i).events; running = (queued i).running; changes = (queued i).changes; had_boot = (queued i).had_boot })
      ∙ ap (λ (l : List ℕ). record s { events = s.events ++ Named (codes "early-init") ∷ Named (codes "init") ∷ Named l ∷ Mark ∷ []; had_boot = true }) stage)
      (joins.none old.outputs) tells refl (ap (λ (q : ScheduleView). q.actions) queued) refl

  -- no boot was taken by the sets of its pairs
  pub no_boot_yet : (old mid : Parts S O) (pairs : List Pair) → old.queue.had_boot ≡ false → Does meaning told adds old mid (set_pairs (rules_of old) pairs (state_of meaning old))
      → mid.queue.had_boot ≡ false
  no_boot_yet old mid pairs first done = ap (λ (s : State). s.had_boot) done.state ∙ pairs_boot (rules_of old) pairs (state_of meaning old) ∙ first

  -- the first boot
  pub boots_first : (old mid new : Parts S O) (pairs last : List Pair) → last ≡ last_pairs pairs → Does meaning told adds old mid (set_pairs (rules_of old) last (state_of meaning old))
      → Does meaning told adds mid new (nothing (queue_boot (state_of meaning mid))) → Does meaning told adds old new (first_boot pairs (rules_of old) (state_of meaning old))
  boots_first old mid new pairs last is first second =
      let set = set_pairs (rules_of old) (last_pairs pairs) (state_of meaning old) in
      subst (λ (lines : List Output). Does meaning told adds old new (change (queue_boot set.state) lines)) (append-nil set.lines)
      (does_both joins (λ rules s. nothing (queue_boot s)) (subst (λ (ps : List Pair). Does meaning told adds old mid (set_pairs (rules_of old) ps (state_of meaning old))) is first) second)

  pub boots : (old new : Parts S O) (pairs : List Pair) → false ≡ old.queue.had_boot → Does meaning told adds old new (first_boot pairs (rules_of old) (state_of meaning old))
      → Does meaning told adds old new (boot pairs (rules_of old) (state_of meaning old))
  unfolding boot
  boots old new pairs is done =
      subst (λ (b : Bool). Does meaning told adds old new (cond b (change (state_of meaning old) (output.Idle ∷ [])) (first_boot pairs (rules_of old) (state_of meaning old)))) is done

  pub boots_again : (old : Parts S O) (outputs : O) (pairs : List Pair) → true ≡ old.queue.had_boot → adds old.outputs outputs (output.Idle ∷ [])
      → Does meaning told adds old (record old { outputs = outputs }) (boot pairs (rules_of old) (state_of meaning old))
  unfolding boot
  boots_again old outputs pairs is line =
      subst (λ (b : Bool). Does meaning told adds old (record old { outputs = outputs }) (cond b (change (state_of meaning old) (output.Idle ∷ [])) (first_boot pairs (rules_of old) (state_of meaning old)))) is
      (does_plain joins refl line refl refl refl refl)
