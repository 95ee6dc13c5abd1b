use Rattle.std.proofs.Common.{ℕ, List, ap, sym, subst, ◌∙◌}
use Rattle.init_driver.specs.Keeper.{Took, seen_by}
use Rattle.init_machine.specs.declared.diagnostic.Diagnostic.{Diagnostic}
use Rattle.init_machine.specs.declared.report.Entry.{Entry}
use Rattle.init_machine.specs.declared.report.Report.{Report}
use Rattle.init_race.specs.Race.{race_given}
use Rattle.trace_audit.specs.Audited.{Audited}
use Rattle.init_race.proofs.Kept.{are_raced, given_same, race_not_kept}
use Rattle.init_race.proofs.Storing.{stored_are_saved, stored_are_typed}
use Rattle.init_race.proofs.racing.leave.Goals as goal

pub keep-requires-clause-saved : goal.keep-requires-clause-saved
keep-requires-clause-saved g c =
    let ended = c.in_ok-found.ended in
    let are = are_raced c.requires.0 c.requires.1 c.args.ended ended c.in_ok-found.ensures.pair.1 c.requires.3 in
    stored_are_saved c.requires.0 ended.finished.history ended.finished.saved c.requires.2 (are.audited c.args.found).legal are.saved

pub keep-requires-clause-typed : goal.keep-requires-clause-typed
keep-requires-clause-typed g c =
    let ended = c.in_ok-found.ended in
    let are = are_raced c.requires.0 c.requires.1 c.args.ended ended c.in_ok-found.ensures.pair.1 c.requires.3 in
    stored_are_typed c.requires.0 ended.finished.history ended.finished.policy ended.finished.saved c.requires.2 (are.audited c.args.found).legal are.saved are.policy

pub returns-in-Err-clause-kept : goal.returns-in-Err-clause-kept
returns-in-Err-clause-kept g c o script raced =
    let seen = seen_by g.P.Keeper.held g.P.Keeper.TellsCrash g.P.Keeper.moment g.P.Keeper.MayLeave in
    let ended = c.in_ok-found.ended in
    let are = are_raced o script c.args.ended ended c.in_ok-found.ensures.pair.1 raced in
    race_not_kept o c.args.found script c.args.ended ended (seen c.args.keeper.now) (seen c.keep.new.keeper) _ c.in_ok-found.ensures.pair.1 are c.in-Err.ensures.keeps

pub returns-in-Ok-clause-raced : goal.returns-in-Ok-clause-raced
returns-in-Ok-clause-raced g c o script raced =
    let ended = c.in_ok-found.ended in
    let are = are_raced o script c.args.ended ended c.in_ok-found.ensures.pair.1 raced in
    let same = ap (λ (found : List Diagnostic). record { diagnostics = found; history = ended.finished.history; clients = ended.parts }) c.in_ok-found.ensures.pair.0 in
    subst (λ (r : Report). Audited o c.args.found script r) (sym (c.raced_of.ensures.report ∙ same)) (are.audited c.args.found)

pub returns-in-Ok-clause-kept : goal.returns-in-Ok-clause-kept
returns-in-Ok-clause-kept g c o script raced =
    let seen = seen_by g.P.Keeper.held g.P.Keeper.TellsCrash g.P.Keeper.moment g.P.Keeper.MayLeave in
    let ended = c.in_ok-found.ended in
    let are = are_raced o script c.args.ended ended c.in_ok-found.ensures.pair.1 raced in
    let given = subst (λ (texts : List (List ℕ)). Took (seen c.args.keeper.now) (seen c.keep.new.keeper) texts) (given_same o ended.finished ended.parts script are) c.in-Ok.ensures.keeps in
    let history = sym (ap (λ (r : Report). r.history) c.raced_of.ensures.report) in
    subst (λ (h : List Entry). Took (seen c.args.keeper.now) (seen c.keep.new.keeper) (race_given o h)) history given
