use Rattle.std.proofs.Common.{◌≡◌, Option, Some, None, refl, subst, sym}
use Rattle.init_driver.specs.Keeper.{seen_by}
use Rattle.command_line.specs.Form.{form_of}
use Rattle.command_line.specs.declared.form.Form.{Form}
use Rattle.command_line.specs.declared.form.Form.TheVariants.{Run, Race, Wire, Check, Soak, Dispatch, Audit}
use Rattle.command_line.specs.declared.reading.WordsRefusal.TheVariants as why
use Rattle.job_reader.specs.Counts.{counts_of}
use Rattle.job_reader.specs.declared.grammar.Grammar.TheVariants.{Whole, Sets}
use Rattle.job_reader.specs.declared.status.Status.TheVariants as status
use Rattle.init_forms.specs.Promise.{Promise, objects_of, shown_by, told_by}
use Rattle.init_forms.specs.Top.{CanSoak}
use Rattle.init_forms.proofs.Complete.{complete_audit, complete_check, complete_run}
use Rattle.init_forms.proofs.Ends.{check_ends}
use Rattle.init_forms.proofs.Judged.{same_as_before}
use Rattle.init_forms.proofs.Promised.{audit_promised, check_promised, dispatch_is_no_soak, memory_promised, race_is_no_soak, run_is_no_soak, run_promised, usage_promised, wire_promised}
use Rattle.init_forms.proofs.ServedWhole.{complete_wire}
use Rattle.init_forms.proofs.Soaked.{soak_ends, soak_in_range, soak_records}
use Rattle.init_forms.proofs.top.initsim.Goals as goal

pub returns-in-Ok-Run-clause-promise : goal.returns-in-Ok-Run-clause-promise
returns-in-Ok-Run-clause-promise g c =
    let form : form_of c.args.words.now ≡ Some Run = cc c.in-Ok-Run.ensures.ok in
    let seen = seen_by g.P.Keeper.held g.P.Keeper.TellsCrash g.P.Keeper.moment g.P.Keeper.MayLeave in
    let trace = g.T.Source.left c.args.trace.now in
    let count = g.T.Source.fault_count c.args.trace.now in
    let before = objects_of (g.F.Files.tree c.args.files.now) (g.S.Source.left c.args.script.now) trace (seen c.args.keeper.now) (g.K.Sink.taken c.args.out.now)
    (counts_of (g.F.Files.fault_count c.args.files.now) (g.S.Source.fault_count c.args.script.now) count (g.P.Keeper.fault_count c.args.keeper.now) (g.K.Sink.fault_count c.args.out.now)) in
    let after = objects_of (g.F.Files.tree c.run_script.new.files) (g.S.Source.left c.run_script.new.script) trace (seen c.run_script.new.keeper) (g.K.Sink.taken c.run_script.new.out)
    (counts_of (g.F.Files.fault_count c.run_script.new.files) (g.S.Source.fault_count c.run_script.new.script) count (g.P.Keeper.fault_count c.run_script.new.keeper) (g.K.Sink.fault_count c.run_script.new.out)) in
    subst (λ (f : Option Form). Promise f before after c.run_script.result.0 c.run_script.result.1) (sym form)
    (run_promised before after c.run_script.result.0 c.run_script.result.1 Run tt record {
      ends = c.run_script.ensures.ends trace;
      read = λ reads. c.run_script.ensures.script;
      gives = c.run_script.ensures.seat;
      records = c.run_script.ensures.recorded trace;
      faults = c.run_script.ensures.counts count;
      unwritten = c.run_script.ensures.unwritten;
      unkept = c.run_script.ensures.unkept;
      formed = c.run_script.ensures.formed;
      complete = λ world is can. complete_run Whole c.run_script.result.0 (told_by before) _ world _ _ c.run_script.ensures.formed c.run_script.ensures.script
          (c.run_script.ensures.tree world is) c.run_script.ensures.store (c.run_script.ensures.counts count) can;
      soaked = λ services e can. absurd (run_is_no_soak services e);
    })

pub returns-in-Ok-Race-clause-promise : goal.returns-in-Ok-Race-clause-promise
returns-in-Ok-Race-clause-promise g c =
    let form : form_of c.args.words.now ≡ Some Race = cc c.in-Ok-Race.ensures.ok in
    let seen = seen_by g.P.Keeper.held g.P.Keeper.TellsCrash g.P.Keeper.moment g.P.Keeper.MayLeave in
    let trace = g.T.Source.left c.args.trace.now in
    let count = g.T.Source.fault_count c.args.trace.now in
    let before = objects_of (g.F.Files.tree c.args.files.now) (g.S.Source.left c.args.script.now) trace (seen c.args.keeper.now) (g.K.Sink.taken c.args.out.now)
    (counts_of (g.F.Files.fault_count c.args.files.now) (g.S.Source.fault_count c.args.script.now) count (g.P.Keeper.fault_count c.args.keeper.now) (g.K.Sink.fault_count c.args.out.now)) in
    let after = objects_of (g.F.Files.tree c.race_script.new.files) (g.S.Source.left c.race_script.new.script) trace (seen c.race_script.new.keeper) (g.K.Sink.taken c.race_script.new.out)
    (counts_of (g.F.Files.fault_count c.race_script.new.files) (g.S.Source.fault_count c.race_script.new.script) count (g.P.Keeper.fault_count c.race_script.new.keeper) (g.K.Sink.fault_count c.race_script.new.out)) in
    subst (λ (f : Option Form). Promise f before after c.race_script.result.0 c.race_script.result.1) (sym form)
    (run_promised before after c.race_script.result.0 c.race_script.result.1 Race tt record {
      ends = c.race_script.ensures.ends trace;
      read = λ reads. c.race_script.ensures.script;
      gives = c.race_script.ensures.seat;
      records = c.race_script.ensures.recorded trace;
      faults = c.race_script.ensures.counts count;
      unwritten = c.race_script.ensures.unwritten;
      unkept = c.race_script.ensures.unkept;
      formed = c.race_script.ensures.formed;
      complete = λ world is can. complete_run Whole c.race_script.result.0 (told_by before) _ world _ _ c.race_script.ensures.formed c.race_script.ensures.script
          (c.race_script.ensures.tree world is) c.race_script.ensures.store (c.race_script.ensures.counts count) can;
      soaked = λ services e can. absurd (race_is_no_soak services e);
    })

pub returns-in-Ok-Dispatch-clause-promise : goal.returns-in-Ok-Dispatch-clause-promise
returns-in-Ok-Dispatch-clause-promise g c =
    let form : form_of c.args.words.now ≡ Some Dispatch = cc c.in-Ok-Dispatch.ensures.ok in
    let seen = seen_by g.P.Keeper.held g.P.Keeper.TellsCrash g.P.Keeper.moment g.P.Keeper.MayLeave in
    let trace = g.T.Source.left c.args.trace.now in
    let count = g.T.Source.fault_count c.args.trace.now in
    let before = objects_of (g.F.Files.tree c.args.files.now) (g.S.Source.left c.args.script.now) trace (seen c.args.keeper.now) (g.K.Sink.taken c.args.out.now)
    (counts_of (g.F.Files.fault_count c.args.files.now) (g.S.Source.fault_count c.args.script.now) count (g.P.Keeper.fault_count c.args.keeper.now) (g.K.Sink.fault_count c.args.out.now)) in
    let after = objects_of (g.F.Files.tree c.dispatch_script.new.files) (g.S.Source.left c.dispatch_script.new.script) trace (seen c.dispatch_script.new.keeper) (g.K.Sink.taken c.dispatch_script.new.out)
    (counts_of (g.F.Files.fault_count c.dispatch_script.new.files) (g.S.Source.fault_count c.dispatch_script.new.script) count (g.P.Keeper.fault_count c.dispatch_script.new.keeper) (g.K.Sink.fault_count c.dispatch_script.new.out)) in
    subst (λ (f : Option Form). Promise f before after c.dispatch_script.result None) (sym form)
    (run_promised before after c.dispatch_script.result None Dispatch tt record {
      ends = c.dispatch_script.ensures.ends trace;
      read = λ reads. c.dispatch_script.ensures.script;
      gives = refl;
      records = λ told tells. tt;
      faults = c.dispatch_script.ensures.counts count;
      unwritten = c.dispatch_script.ensures.unwritten;
      unkept = c.dispatch_script.ensures.unkept;
      formed = c.dispatch_script.ensures.formed;
      complete = λ world is can. complete_run Sets c.dispatch_script.result (told_by before) _ world _ _ c.dispatch_script.ensures.formed c.dispatch_script.ensures.script
          (c.dispatch_script.ensures.tree world is) c.dispatch_script.ensures.store (c.dispatch_script.ensures.counts count) can;
      soaked = λ services e can. absurd (dispatch_is_no_soak services e);
    })

pub returns-in-Ok-Wire-clause-promise : goal.returns-in-Ok-Wire-clause-promise
returns-in-Ok-Wire-clause-promise g c =
    let form : form_of c.args.words.now ≡ Some Wire = cc c.in-Ok-Wire.ensures.ok in
    let seen = seen_by g.P.Keeper.held g.P.Keeper.TellsCrash g.P.Keeper.moment g.P.Keeper.MayLeave in
    let trace = g.T.Source.left c.args.trace.now in
    let count = g.T.Source.fault_count c.args.trace.now in
    let before = objects_of (g.F.Files.tree c.args.files.now) (g.S.Source.left c.args.script.now) trace (seen c.args.keeper.now) (g.K.Sink.taken c.args.out.now)
    (counts_of (g.F.Files.fault_count c.args.files.now) (g.S.Source.fault_count c.args.script.now) count (g.P.Keeper.fault_count c.args.keeper.now) (g.K.Sink.fault_count c.args.out.now)) in
    let after = objects_of (g.F.Files.tree c.serve_messages.new.files) (g.S.Source.left c.serve_messages.new.messages) trace (seen c.serve_messages.new.keeper) (g.K.Sink.taken c.serve_messages.new.out)
    (counts_of (g.F.Files.fault_count c.serve_messages.new.files) (g.S.Source.fault_count c.serve_messages.new.messages) count (g.P.Keeper.fault_count c.serve_messages.new.keeper) (g.K.Sink.fault_count c.serve_messages.new.out)) in
    subst (λ (f : Option Form). Promise f before after c.serve_messages.result None) (sym form)
    (wire_promised before after c.serve_messages.result (c.serve_messages.ensures.ends trace) (c.serve_messages.ensures.counts count)
    (c.serve_messages.ensures.unwritten count)
    (same_as_before c.serve_messages.result _ _ _ _ c.serve_messages.ensures.held)
    c.serve_messages.ensures.held c.serve_messages.ensures.formed
    (λ world is can. complete_wire c.serve_messages.result (told_by before) world (shown_by before after) _ _ (c.serve_messages.ensures.ends trace)
    (c.serve_messages.ensures.counts count) is can))

pub returns-in-Ok-Check-clause-promise : goal.returns-in-Ok-Check-clause-promise
returns-in-Ok-Check-clause-promise g c =
    let form : form_of c.args.words.now ≡ Some Check = cc c.in-Ok-Check.ensures.ok in
    let seen = seen_by g.P.Keeper.held g.P.Keeper.TellsCrash g.P.Keeper.moment g.P.Keeper.MayLeave c.args.keeper.now in
    let script = g.S.Source.left c.args.script.now in
    let trace = g.T.Source.left c.args.trace.now in
    let scripts = g.S.Source.fault_count c.args.script.now in
    let traces = g.T.Source.fault_count c.args.trace.now in
    let keepers = g.P.Keeper.fault_count c.args.keeper.now in
    let before = objects_of (g.F.Files.tree c.args.files.now) script trace seen (g.K.Sink.taken c.args.out.now)
    (counts_of (g.F.Files.fault_count c.args.files.now) scripts traces keepers (g.K.Sink.fault_count c.args.out.now)) in
    let after = objects_of (g.F.Files.tree c.check.new.files) script trace seen (g.K.Sink.taken c.check.new.out)
    (counts_of (g.F.Files.fault_count c.check.new.files) scripts traces keepers (g.K.Sink.fault_count c.check.new.out)) in
    subst (λ (f : Option Form). Promise f before after c.check.result None) (sym form)
    (check_promised before after c.check.result
    (λ told tells. check_ends told (g.K.Sink.taken c.args.out.now) (g.K.Sink.taken c.check.new.out) seen c.check.result c.check.ensures.formed (c.check.ensures.tree told.world tells)
    (c.check.ensures.writes told.world tells))
    (c.check.ensures.counts scripts traces keepers)
    (c.check.ensures.unwritten keepers)
    (same_as_before c.check.result _ _ _ _ refl)
    c.check.ensures.formed
    (λ world is can. complete_check c.check.result world _ _ c.check.ensures.formed (c.check.ensures.tree world is) (c.check.ensures.counts scripts traces keepers) can))

pub returns-in-Ok-Audit-clause-promise : goal.returns-in-Ok-Audit-clause-promise
returns-in-Ok-Audit-clause-promise g c =
    let form : form_of c.args.words.now ≡ Some Audit = cc c.in-Ok-Audit.ensures.ok in
    let seen = seen_by g.P.Keeper.held g.P.Keeper.TellsCrash g.P.Keeper.moment g.P.Keeper.MayLeave in
    let before = objects_of (g.F.Files.tree c.args.files.now) (g.S.Source.left c.args.script.now) (g.T.Source.left c.args.trace.now) (seen c.args.keeper.now) (g.K.Sink.taken c.args.out.now)
    (counts_of (g.F.Files.fault_count c.args.files.now) (g.S.Source.fault_count c.args.script.now) (g.T.Source.fault_count c.args.trace.now) (g.P.Keeper.fault_count c.args.keeper.now) (g.K.Sink.fault_count c.args.out.now)) in
    let after = objects_of (g.F.Files.tree c.audit_trace.new.files) (g.S.Source.left c.audit_trace.new.script) (g.T.Source.left c.audit_trace.new.trace) (seen c.audit_trace.new.keeper) (g.K.Sink.taken c.audit_trace.new.out)
    (counts_of (g.F.Files.fault_count c.audit_trace.new.files) (g.S.Source.fault_count c.audit_trace.new.script) (g.T.Source.fault_count c.audit_trace.new.trace) (g.P.Keeper.fault_count c.audit_trace.new.keeper) (g.K.Sink.fault_count c.audit_trace.new.out)) in
    subst (λ (f : Option Form). Promise f before after c.audit_trace.result None) (sym form)
    (audit_promised before after c.audit_trace.result
    (λ told tells. c.audit_trace.ensures.ends told tells.0 tells.1)
    c.audit_trace.ensures.script c.audit_trace.ensures.trace c.audit_trace.ensures.counts c.audit_trace.ensures.unwritten
    (same_as_before c.audit_trace.result _ _ _ _ c.audit_trace.ensures.held)
    c.audit_trace.ensures.held c.audit_trace.ensures.formed
    (λ world is can. complete_audit c.audit_trace.result (told_by before) _ _ world _ _ c.audit_trace.ensures.formed c.audit_trace.ensures.script
    (c.audit_trace.ensures.tree world is) c.audit_trace.ensures.store c.audit_trace.ensures.trace c.audit_trace.ensures.counts can.0 can.1))

pub returns-in-Ok-Audit-clause-untraced : goal.returns-in-Ok-Audit-clause-untraced
returns-in-Ok-Audit-clause-untraced g c = λ other.
    let form : form_of c.args.words.now ≡ Some Audit = cc c.in-Ok-Audit.ensures.ok in
    absurd (other form)

pub soak-requires : goal.soak-requires
soak-requires g c =
    let form : form_of c.args.words.now ≡ Some (Soak c.in-Ok-Soak.services) = cc c.in-Ok-Soak.ensures.ok in
    let range = soak_in_range c.args.words.now c.in-Ok-Soak.services form in
    record { some = range.0; few = range.1 }

pub returns-in-Ok-Soak-clause-promise : goal.returns-in-Ok-Soak-clause-promise
returns-in-Ok-Soak-clause-promise g c =
    let services = c.in-Ok-Soak.services in
    let form : form_of c.args.words.now ≡ Some (Soak services) = cc c.in-Ok-Soak.ensures.ok in
    let seen = seen_by g.P.Keeper.held g.P.Keeper.TellsCrash g.P.Keeper.moment g.P.Keeper.MayLeave c.args.keeper.now in
    let files = g.F.Files.fault_count c.args.files.now in
    let scripts = g.S.Source.fault_count c.args.script.now in
    let traces = g.T.Source.fault_count c.args.trace.now in
    let keepers = g.P.Keeper.fault_count c.args.keeper.now in
    let old = g.K.Sink.taken c.args.out.now in
    let new = g.K.Sink.taken c.soak.new.out in
    let before = objects_of (g.F.Files.tree c.args.files.now) (g.S.Source.left c.args.script.now) (g.T.Source.left c.args.trace.now) seen old
    (counts_of files scripts traces keepers (g.K.Sink.fault_count c.args.out.now)) in
    let after = objects_of (g.F.Files.tree c.args.files.now) (g.S.Source.left c.args.script.now) (g.T.Source.left c.args.trace.now) seen new
    (counts_of files scripts traces keepers (g.K.Sink.fault_count c.soak.new.out)) in
    subst (λ (f : Option Form). Promise f before after c.soak.result.0 c.soak.result.1) (sym form)
    (run_promised before after c.soak.result.0 c.soak.result.1 (Soak services) tt record {
      ends = λ told tells. soak_ends services told old new seen c.soak.result.0 c.soak.result.1 (c.soak.ensures.ends told tells);
      read = λ reads. absurd reads;
      gives = c.soak.ensures.seat;
      records = λ told tells. soak_records services told old new seen c.soak.result.0 c.soak.result.1 (c.soak.ensures.ends told tells);
      faults = c.soak.ensures.counts files scripts traces keepers;
      unwritten = c.soak.ensures.unwritten keepers;
      unkept = same_as_before c.soak.result.0 _ _ _ _ refl;
      formed = c.soak.ensures.formed;
      complete = λ world is can. absurd can;
      soaked = λ n is can. let same : n ≡ services = cc in c.soak.ensures.complete (subst CanSoak same can) files scripts traces keepers;
    })

pub returns-in-Err-Usage-clause-promise : goal.returns-in-Err-Usage-clause-promise
returns-in-Err-Usage-clause-promise g c =
    let is : c.in-Err-Usage.field-0 ≡ why.Usage = cc in
    let seen = seen_by g.P.Keeper.held g.P.Keeper.TellsCrash g.P.Keeper.moment g.P.Keeper.MayLeave in
    let objects = objects_of (g.F.Files.tree c.args.files.now) (g.S.Source.left c.args.script.now) (g.T.Source.left c.args.trace.now) (seen c.args.keeper.now) (g.K.Sink.taken c.args.out.now)
    (counts_of (g.F.Files.fault_count c.args.files.now) (g.S.Source.fault_count c.args.script.now) (g.T.Source.fault_count c.args.trace.now) (g.P.Keeper.fault_count c.args.keeper.now) (g.K.Sink.fault_count c.args.out.now)) in
    subst (λ (f : Option Form). Promise f objects objects status.Usage None) (sym (c.in-Err-Usage.ensures.refused.0 is)) (usage_promised objects)

-- Want of memory says nothing of the words, and leaves all as it was.
pub returns-in-Err-NoMemory-clause-promise : goal.returns-in-Err-NoMemory-clause-promise
returns-in-Err-NoMemory-clause-promise g c =
    memory_promised (form_of c.args.words.now) _
    (λ none. let is : c.in-Err-NoMemory.field-0 ≡ why.NoMemory = cc in let other : c.in-Err-NoMemory.field-0 ≡ why.Usage = c.in-Err-NoMemory.ensures.refused.1 none in cc)
