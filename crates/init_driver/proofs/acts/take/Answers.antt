use Rattle.std.proofs.Common.{◌∷◌, ◌∙◌, [], List, Option, IsTrue, refl, ap, subst}
use Rattle.std.proofs.lemmas.Result.{err_from_is_err_and}
use Rattle.init_driver.specs.Course.{Prints, Saved, Unsaved, before_of, place_of, view_of}
use Rattle.init_driver.specs.Keeper.{seen_by}
use Rattle.init_driver.specs.Machine.{MachineView, told_to}
use Rattle.property_area.specs.Seats.{Seated}
use Rattle.init_driver.proofs.Told.{on_ok_of}
use Rattle.init_driver.proofs.Courses.{takes_still}
use Rattle.init_driver.proofs.Entries.{keeper_unasked, refused_one, takes_one}
use Rattle.init_driver.proofs.Keepers.{took_nothing}
use Rattle.init_driver.proofs.Reached.{saved_print, saved_typed}
use Rattle.init_driver.proofs.acts.take.Goals as goal

pub save-requires-clause-typed : goal.save-requires-clause-typed
save-requires-clause-typed g c =
    let core = c.args.traced.now.core in
    let ok = c.in_ok-take.ensures in
    λ stored. saved_typed core.config core.policy _ core.state c.args.input.now _ c.requires.reached ok.policy ok.state (subst (λ b. IsTrue b) ok.entry.stores stored)

pub save-requires-clause-saved : goal.save-requires-clause-saved
save-requires-clause-saved g c =
    let core = c.args.traced.now.core in
    let ok = c.in_ok-take.ensures in
    λ stored. saved_print core.config core.policy core.state c.args.input.now _ c.requires.reached ok.state (subst (λ b. IsTrue b) ok.entry.stores stored)

pub save-requires-clause-begun : goal.save-requires-clause-begun
save-requires-clause-begun g c = c.in_ok-take.ensures.entry.begun

pub save-requires-clause-ready : goal.save-requires-clause-ready
save-requires-clause-ready g c = c.in_ok-take.ensures.ready

pub returns-in_err-take-clause-takes : goal.returns-in_err-take-clause-takes
returns-in_err-take-clause-takes g c =
    let p = err_from_is_err_and c.from_residual.result c.from_residual.ensures.1 in
    let seen = seen_by g.P.Keeper.held g.P.Keeper.TellsCrash g.P.Keeper.moment g.P.Keeper.MayLeave c.args.keeper.now in
    let taken = g.K.Sink.taken c.args.out.now in
    rw (p.1, p.2)
    (takes_still (c.args.input.now ∷ []) (place_of (view_of c.args.traced.now) taken seen) (place_of (view_of c.take.new.self) taken seen) refl (took_nothing seen))

pub returns-in_err-save-clause-takes : goal.returns-in_err-save-clause-takes
returns-in_err-save-clause-takes g c =
    let p = err_from_is_err_and c.from_residual-in_err-save.result c.from_residual-in_err-save.ensures.1 in
    let ok = c.in_ok-take.ensures in
    let seen = seen_by g.P.Keeper.held g.P.Keeper.TellsCrash g.P.Keeper.moment g.P.Keeper.MayLeave in
    rw (p.1, p.2)
    (refused_one _ c.args.input.now (view_of c.args.traced.now) (before_of c.take.new.self) (before_of c.save.new.traced) (view_of c.save.new.traced) _ _ _ _
    (record { config = ok.config; policy = ok.policy; state = ok.state; opening = ok.opening; history = ok.history; printer = ok.entry.before })
    (subst (λ stores. Unsaved c.in_err-save.field-0.0 stores (place_of (before_of c.take.new.self) (g.K.Sink.taken c.args.out.now) (seen c.args.keeper.now))
    (place_of (before_of c.save.new.traced) (g.K.Sink.taken c.save.new.out) (seen c.save.new.keeper))) ok.entry.stores c.in_err-save.ensures.saves))

pub returns-clause-takes : goal.returns-clause-takes
returns-clause-takes g c =
    let ok = c.in_ok-take.ensures in
    let seen = seen_by g.P.Keeper.held g.P.Keeper.TellsCrash g.P.Keeper.moment g.P.Keeper.MayLeave in
    let before = before_of c.save.new.traced in
    takes_one _ c.args.input.now (view_of c.args.traced.now) (before_of c.take.new.self) before (view_of c.end_entry.new.self) _ _ _ _ _
    (record { config = ok.config; policy = ok.policy; state = ok.state; opening = ok.opening; history = ok.history; printer = ok.entry.before })
    (subst (λ stores. Saved stores (place_of (before_of c.take.new.self) (g.K.Sink.taken c.args.out.now) (seen c.args.keeper.now))
    (place_of before (g.K.Sink.taken c.save.new.out) (seen c.save.new.keeper))) ok.entry.stores c.in_ok-save.ensures.saves)
    c.in_ok-save.ensures.core
    (subst (Prints (g.K.Sink.taken c.save.new.out) (g.K.Sink.taken c.end_entry.new.out) c.end_entry.result before.printer c.end_entry.new.self.printer.bytes)
    (c.in_ok-save.ensures.entry ∙ ok.entry.entry) c.end_entry.ensures.prints)
    c.end_entry.ensures.core

pub returns-clause-still : goal.returns-clause-still
returns-clause-still g c =
    let core = ap (λ (m : MachineView). m.readers) (c.end_entry.ensures.core ∙ c.in_ok-save.ensures.core) in
    on_ok_of c.end_entry.result (λ who. ap (λ (rs : List (Option Seated)). told_to rs who) core ∙ c.in_ok-take.ensures.told who)

pub returns-clause-keeper : goal.returns-clause-keeper
returns-clause-keeper g c =
    keeper_unasked c.end_entry.result (g.K.Sink.taken c.save.new.out) (g.K.Sink.taken c.end_entry.new.out) _ _ _ _ _ c.end_entry.ensures.prints c.in_ok-save.ensures.keeper
