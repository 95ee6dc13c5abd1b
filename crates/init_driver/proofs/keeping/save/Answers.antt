use Rattle.std.proofs.Common.{◌∙◌, sym, subst}
use Rattle.init_driver.specs.Course.{Holds, before_of, place_of}
use Rattle.init_driver.specs.Keeper.{seen_by}
use Rattle.init_driver.specs.Machine.{MachineView}
use Rattle.persist_file.specs.Store.{store_text}
use Rattle.init_driver.proofs.Entries.{saves_last}
use Rattle.init_driver.proofs.keeping.save.Goals as goal

pub returns-clause-saves : goal.returns-clause-saves
returns-clause-saves g c =
    let seen = seen_by g.P.Keeper.held g.P.Keeper.TellsCrash g.P.Keeper.moment g.P.Keeper.MayLeave in
    let before = c.args.traced.now in
    let behind = c.write_before.new.self in
    let ok = c.in_ok-write_before.ensures in
    saves_last c.keep.result before.printer.stores (place_of (before_of before) (g.K.Sink.taken c.args.out.now) (seen c.args.keeper.now))
    (place_of (before_of behind) (g.K.Sink.taken c.write_before.new.out) (seen c.keep.new.keeper)) (sym c.stores.ensures ∙ c.if-not-stores.false)
    ok.prints
    ok.before
    (subst (λ (m : MachineView). Holds (seen c.args.keeper.now) (seen c.keep.new.keeper) (store_text m.policy m.state.saved) c.keep.result) ok.core c.keep.ensures.keeps)
    c.keep.ensures.writes
