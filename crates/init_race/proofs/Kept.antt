-- What stands with the keeper behind a race.
use Rattle.std.proofs.Common.{◌≡◌, inl, inr, ℕ, List, [], Result, Ok, Err, IfOk, ap, refl, sym, ◌∙◌, subst}
use Rattle.init_base.specs.declared.memory.NoMemory.{NoMemory}
use Rattle.init_race.specs.declared.racing.Ended.{Ended}
use Rattle.init_driver.proofs.Keepers.{took_nothing}
use Rattle.init_driver.specs.Keeper.{KeeperView, Risks}
use Rattle.init_machine.specs.History.{after, inputs_of}
use Rattle.init_machine.specs.Policy.{PolicyLines}
use Rattle.init_machine.specs.State.{Opening}
use Rattle.init_machine.specs.declared.config.Pair.{Pair}
use Rattle.init_machine.specs.declared.diagnostic.Diagnostic.{Diagnostic}
use Rattle.init_machine.specs.declared.report.ClientPart.{ClientPart}
use Rattle.init_machine.specs.declared.report.Report.{Report}
use Rattle.property_service.specs.declared.ending.Finished.{Finished}
use Rattle.script_lang.specs.declared.script.Script.{Script}
use Rattle.init_race.specs.Keeping.{GivesNot, given_behind}
use Rattle.init_race.specs.Race.{AreRaced, IsReportOf, KeepsNot, KeepsReport, RisksReport, race_given}
use Rattle.init_race.specs.declared.racing.Raced.{Raced}
use Rattle.init_race.specs.declared.refusal.RaceRefusal.{RaceRefusal}
use Rattle.trace_audit.specs.Audited.{Audited}
use Rattle.init_race.specs.declared.refusal.RaceRefusal.TheVariants as refusal

pub given_same : (o : Opening) (finished : Finished) (parts : List ClientPart) (script : Script) → AreRaced o script finished parts
    → given_behind finished.history finished.policy finished.saved ≡ race_given o finished.history
given_same o finished parts script raced =
    ap (λ (pairs : List Pair). given_behind finished.history finished.policy pairs) raced.saved
    ∙ ap (λ (policy : PolicyLines). given_behind finished.history policy (after o (inputs_of finished.history)).saved) raced.policy

-- the keeper may or may not have taken what it was given
race_risked : (o : Opening) (found : List Diagnostic) (script : Script) (r : Result Ended NoMemory) (ended : Ended) (old new : KeeperView) → r ≡ Ok ended
    → AreRaced o script ended.finished ended.parts → GivesNot (given_behind ended.finished.history ended.finished.policy ended.finished.saved) old new
    → RisksReport o (λ report. IsReportOf found r report) old new
race_risked o found script r ended old new is are risks = record {
  report = record { diagnostics = found; history = ended.finished.history; clients = ended.parts };
  report_is = subst (λ q. IsReportOf found q (record { diagnostics = found; history = ended.finished.history; clients = ended.parts })) (sym is) refl;
  kept = λ tells. subst (λ (texts : List (List ℕ)). Risks old new [] texts) (given_same o ended.finished ended.parts script are) (risks tells);
}

pub race_not_kept : (o : Opening) (found : List Diagnostic) (script : Script) (r : Result Ended NoMemory) (ended : Ended) (old new : KeeperView) (e : RaceRefusal) → r ≡ Ok ended
    → AreRaced o script ended.finished ended.parts → GivesNot (given_behind ended.finished.history ended.finished.policy ended.finished.saved) old new
    → KeepsNot e o (λ report. IsReportOf found r report) old new
race_not_kept o found script r ended old new refusal.Keeper is are risks = race_risked o found script r ended old new is are risks
race_not_kept o found script r ended old new refusal.NoMemory is are risks = inr (race_risked o found script r ended old new is are risks)

-- a report that is one way is another way
risked_so : (o : Opening) (Is Also : Report → Type 0) (old new : KeeperView) → ((report : Report) → Is report → Also report) → RisksReport o Is old new → RisksReport o Also old new
risked_so o Is Also old new also risks = record { report = risks.report; report_is = also risks.report risks.report_is; kept = risks.kept }

not_kept_so : (o : Opening) (Is Also : Report → Type 0) (e : RaceRefusal) (old new : KeeperView) → ((report : Report) → Is report → Also report) → KeepsNot e o Is old new
    → KeepsNot e o Also old new
not_kept_so o Is Also refusal.Keeper old new also keeps = risked_so o Is Also old new also keeps
not_kept_so o Is Also refusal.NoMemory old new also (inl took) = inl took
not_kept_so o Is Also refusal.NoMemory old new also (inr risks) = inr (risked_so o Is Also old new also risks)

pub kept_so : (o : Opening) (Is Also : Report → Type 0) (result : Result Raced RaceRefusal) (old new : KeeperView) → ((report : Report) → Is report → Also report)
    → KeepsReport o Is result old new → KeepsReport o Also result old new
kept_so o Is Also (Ok raced) old new also keeps = keeps
kept_so o Is Also (Err e) old new also keeps = not_kept_so o Is Also e old new also keeps

-- the report of what actors left that raced is one that the audit answers Yes to
pub left_audited : (o : Opening) (found : List Diagnostic) (script : Script) (r : Result Ended NoMemory) → IfOk r (λ e. AreRaced o script e.finished e.parts)
    → (report : Report) → IsReportOf found r report → Audited o found script report
left_audited o found script (Ok ended) raced report is = subst (λ (it : Report). Audited o found script it) (sym is) (raced.audited found)
left_audited o found script (Err e) raced report is = absurd is

-- the keeper was asked nothing
pub nothing_kept : (o : Opening) (Is : Report → Type 0) (keeper : KeeperView) → KeepsNot refusal.NoMemory o Is keeper keeper
nothing_kept o Is keeper = inl (took_nothing keeper)

-- what a run's actors leave is what was said of it
pub are_raced : (o : Opening) (script : Script) (r : Result Ended NoMemory) (ended : Ended) → r ≡ Ok ended
    → IfOk r (λ e. AreRaced o script e.finished e.parts) → AreRaced o script ended.finished ended.parts
are_raced o script r ended is raced = subst (λ q. IfOk q (λ e. AreRaced o script e.finished e.parts)) is raced
