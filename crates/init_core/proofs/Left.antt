-- Calls for each of some things: what is left of them decides what all of them do.
use Rattle.std.proofs.Common.{◌≡◌, ℕ, true, false, List, ◌∷◌, Option, sym, subst}
use Rattle.std.specs.Option.{is_some}
use Rattle.init_machine.specs.Changes.{Change, each}
use Rattle.init_machine.specs.Props.{Props}
use Rattle.init_machine.specs.State.{State, Rules}
use Rattle.init_machine.specs.Step.{set_pair, set_pairs}
use Rattle.init_machine.specs.declared.config.Pair.{Pair}
use Rattle.init_machine.specs.declared.output.Output.{Output}
use Rattle.outputs.specs.Joins.{Joins}
use Rattle.machine_parts.specs.Parts.{Does, state_of, rules_of}
use Rattle.machine_parts.specs.declared.parts.Parts.{Parts}
use Rattle.machine_parts.proofs.Doing.{does_both, does_then, does_no_more}

-- where the rest is done from now on, all is done from the old parts on
abbrev pub Left : {S O T : Type 0} → (S → Props) → (S → Option (List (List ℕ × List ℕ))) → (O → O → List Output → Type 0) → (Rules → List T → State → Change) → List T → List T → Parts S O → Parts S O → Type 0
Left {S} {O} {T} meaning told adds run xs rest old now =
    (new : Parts S O) → Does meaning told adds now new (run (rules_of now) rest (state_of meaning now)) → Does meaning told adds old new (run (rules_of old) xs (state_of meaning old))

abbrev pub each_by : {T : Type 0} → (Rules → T → State → Change) → Rules → List T → State → Change
each_by rule rules xs s = each (rule rules) xs s

module _ {S O T : Type 0} {meaning : S → Props} {told : S → Option (List (List ℕ × List ℕ))} {adds : O → O → List Output → Type 0} (joins : Joins adds) (rule : Rules → T → State → Change) (xs ahead : List T) (old now next : Parts S O) where
  -- the front was done, and the machine isn't over
  pub left_on : (x : T) (rest : List T) → ahead ≡ x ∷ rest → Left meaning told adds (each_by rule) xs ahead old now
      → Does meaning told adds now next (rule (rules_of now) x (state_of meaning now)) → is_some next.over ≡ false → Left meaning told adds (each_by rule) xs rest old next
  left_on x rest is left done up new more =
      left new
      (subst (λ (ys : List T). Does meaning told adds now new (each (rule (rules_of now)) ys (state_of meaning now))) (sym is)
      (does_then joins (λ rules. each (rule rules) rest) done up more))

  -- the front was done, and the machine is over
  pub left_over : (x : T) (rest : List T) → ahead ≡ x ∷ rest → Left meaning told adds (each_by rule) xs ahead old now
      → Does meaning told adds now next (rule (rules_of now) x (state_of meaning now)) → is_some next.over ≡ true → Does meaning told adds old next (each (rule (rules_of old)) xs (state_of meaning old))
  left_over x rest is left done over =
      left next
      (subst (λ (ys : List T). Does meaning told adds now next (each (rule (rules_of now)) ys (state_of meaning now))) (sym is)
      (does_no_more joins (each (rule (rules_of now)) rest) done over))

module _ {S O : Type 0} {meaning : S → Props} {told : S → Option (List (List ℕ × List ℕ))} {adds : O → O → List Output → Type 0} (joins : Joins adds) (xs ahead : List Pair) (old now next : Parts S O) where
  -- a pair was set
  pub left_pairs : (x : Pair) (rest : List Pair) → ahead ≡ x ∷ rest → Left meaning told adds set_pairs xs ahead old now
      → Does meaning told adds now next (set_pair (rules_of now) x (state_of meaning now)) → Left meaning told adds set_pairs xs rest old next
  left_pairs x rest is left done new more =
      left new
      (subst (λ (ys : List Pair). Does meaning told adds now new (set_pairs (rules_of now) ys (state_of meaning now))) (sym is)
      (does_both joins (λ rules. set_pairs rules rest) done more))
