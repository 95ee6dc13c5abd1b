-- Commands that are found, and run.
use Rattle.std.proofs.Common.{◌≡◌, ℕ, true, false, List, Option, Some, None, Result, OnOk, sym, ap, ◌∙◌, subst, codes}
use Rattle.std.specs.List.{slice_get}
use Rattle.std.specs.Option.{is_some}
use Rattle.init_machine.specs.Changes.{each}
use Rattle.init_machine.specs.Effect.{effect}
use Rattle.init_machine.specs.Props.{Props}
use Rattle.init_machine.specs.Reaping.{restarting}
use Rattle.init_machine.specs.Services.{tell}
use Rattle.init_machine.specs.State.{Rules}
use Rattle.init_machine.specs.declared.action.Command.{Command}
use Rattle.init_machine.specs.declared.service.ServiceDef.{ServiceDef}
use Rattle.init_machine.specs.declared.output.Output.{Output}
use Rattle.outputs.specs.Joins.{Joins}
use Rattle.machine_parts.specs.Parts.{Does, state_of, rules_of}
use Rattle.machine_parts.specs.declared.parts.Parts.{Parts}
use Rattle.init_core.specs.Reaped.{onrestart_of}
use Rattle.machine_parts.proofs.Doing.{does_then, does_no_more}

pub same_some : {T : Type 0} (found : Option T) (a b : T) → Some a ≡ found → found ≡ Some b → a ≡ b
same_some found a b first second = cc

pub not_both : {T : Type 0} (found : Option T) (a : T) → None ≡ found → found ≡ Some a → ⊥
not_both found a first second = cc

module _ {S O : Type 0} {meaning : S → Props} {told : S → Option (List (List ℕ × List ℕ))} {adds : O → O → List Output → Type 0} (joins : Joins adds) where
  -- the state of a service was told
  tells_it : (old mid : Parts S O) (name other word : List ℕ) → name ≡ other → Does meaning told adds old mid (tell (rules_of old) name word (state_of meaning old))
      → Does meaning told adds old mid (tell (rules_of old) other word (state_of meaning old))
  tells_it old mid name other word is done = subst (λ (n : List ℕ). Does meaning told adds old mid (tell (rules_of old) n word (state_of meaning old))) is done

  pub restarts_on : (old mid new : Parts S O) (at : ℕ) (service found : ServiceDef) (name : List ℕ) → name ≡ found.name → found ≡ service → slice_get old.services.defs at ≡ Some service
      → Does meaning told adds old mid (tell (rules_of old) name (codes "restarting") (state_of meaning old)) → false ≡ is_some mid.over
      → Does meaning told adds mid new (each (effect (rules_of mid)) (onrestart_of (slice_get mid.services.defs at)) (state_of meaning mid))
      → Does meaning told adds old new (restarting (rules_of old) service (state_of meaning old))
  restarts_on old mid new at service found name named is there first up second =
      let same : slice_get mid.services.defs at ≡ Some service = ap (λ (rules : Rules). slice_get rules.services at) first.rules ∙ there in
      does_then joins (λ rules s. each (effect rules) service.onrestart s)
      (tells_it old mid name service.name (codes "restarting") (named ∙ ap (λ (s : ServiceDef). s.name) is) first) (sym up)
      (subst (λ (o : Option ServiceDef). Does meaning told adds mid new (each (effect (rules_of mid)) (onrestart_of o) (state_of meaning mid))) same second)

  pub restarts_over : (old new : Parts S O) (service found : ServiceDef) (name : List ℕ) → name ≡ found.name → found ≡ service
      → Does meaning told adds old new (tell (rules_of old) name (codes "restarting") (state_of meaning old)) → true ≡ is_some new.over
      → Does meaning told adds old new (restarting (rules_of old) service (state_of meaning old))
  restarts_over old new service found name named is first over =
      does_no_more joins (each (effect (rules_of old)) service.onrestart)
      (tells_it old new name service.name (codes "restarting") (named ∙ ap (λ (s : ServiceDef). s.name) is) first) (sym over)

module _ {S O : Type 0} (meaning : S → Props) (told : S → Option (List (List ℕ × List ℕ))) {adds : O → O → List Output → Type 0} (joins : Joins adds) where
  -- a command that was found runs, by another owner of it
  pub runs_found : {T E : Type 0} (p new : Parts S O) (r : Result T E) (shared found command : Command) → shared ≡ found → found ≡ command
      → OnOk r (Does meaning told adds p new (effect (rules_of p) shared (state_of meaning p)))
      → OnOk r (Does meaning told adds p new (effect (rules_of p) command (state_of meaning p)))
  runs_found p new r shared found command same is =
      subst (λ (c : Command). OnOk r (Does meaning told adds p new (effect (rules_of p) c (state_of meaning p)))) (same ∙ is)
