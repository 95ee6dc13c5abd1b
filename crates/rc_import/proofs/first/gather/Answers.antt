use Rattle.std.proofs.Common.{◌≡◌, true, false, Ok, Err, ap, subst, rules}
use Rattle.std.specs.List.{flat_map}
use Rattle.std.proofs.lemmas.Result.{err_from_is_err_and}
use Rattle.init_machine.specs.Props.{value_in}
use Rattle.rc_import.specs.Order.{at_first, directories, in_directory, root_file}
use Rattle.rc_import.specs.internal.Steps.{FollowsFile}
use Rattle.rc_import.proofs.Loads.{load_broken, load_done, load_none, load_refused}
use Rattle.rc_import.proofs.Walks.{same_world}
use Rattle.rc_import.proofs.first.gather.Goals as goal

pub returns-in_err-loading-clause-gathered : goal.returns-in_err-loading-clause-gathered
returns-in_err-loading-clause-gathered g c =
    let tree = g.F.Files.tree c.args.files.now in
    let look_up = value_in (g.S.PropStore.meaning c.args.props.now) in
    let refusal = c.in_err-loading.field-0.0 in
    let root : c.in_ok-root.root ≡ root_file = search rules in
    let p = err_from_is_err_and c.from_residual-in_err-loading.result c.from_residual-in_err-loading.ensures.1 in
    rw (p.1, p.2)
    (load_refused g.G.Gathers.holds tree look_up c.new.result refusal c.new.ensures
    (subst (λ file. FollowsFile g.G.Gathers.holds tree look_up c.new.result (Err refusal) (λ world. at_first world file) file) root c.in_err-loading.ensures.order))

pub returns-in_default-false-clause-gathered : goal.returns-in_default-false-clause-gathered
returns-in_default-false-clause-gathered g c =
    let tree = g.F.Files.tree c.args.files.now in
    let look_up = value_in (g.S.PropStore.meaning c.args.props.now) in
    let root : c.in_ok-root.root ≡ root_file = search rules in
    let gone : c.in_ok-loading.field-0.1 ≡ false = search rules in
    load_none g.G.Gathers.holds tree look_up c.new.result c.in_ok-loading.field-0 c.new.ensures
    (subst (λ file. FollowsFile g.G.Gathers.holds tree look_up c.new.result (Ok c.in_ok-loading.field-0) (λ world. at_first world file) file) root c.in_ok-loading.ensures.order) gone

pub returns-in_err-loading-2-clause-gathered : goal.returns-in_err-loading-2-clause-gathered
returns-in_err-loading-2-clause-gathered g c =
    let tree = g.F.Files.tree c.args.files.now in
    let look_up = value_in (g.S.PropStore.meaning c.args.props.now) in
    let refusal = c.in_err-loading-2.field-0.0 in
    let mid = c.in_ok-loading.field-0 in
    let root : c.in_ok-root.root ≡ root_file = search rules in
    let there : mid.1 ≡ true = search rules in
    let p = err_from_is_err_and c.from_residual-in_err-loading-2.result c.from_residual-in_err-loading-2.ensures.1 in
    rw (p.1, p.2)
    (load_broken g.G.Gathers.holds tree look_up c.new.result mid refusal c.new.ensures
    (subst (λ file. FollowsFile g.G.Gathers.holds tree look_up c.new.result (Ok mid) (λ world. at_first world file) file) root c.in_ok-loading.ensures.order) there
    (same_world g.G.Gathers.holds tree (g.F.Files.tree c.follow_first.new.files) look_up (value_in (g.S.PropStore.meaning c.follow_first.new.props)) mid.0 (Err refusal) (λ world. flat_map (in_directory world) directories)
    c.in_ok-loading.ensures.tree (ap value_in c.in_ok-loading.ensures.store.same) c.in_err-loading-2.ensures.order))

pub returns-clause-gathered : goal.returns-clause-gathered
returns-clause-gathered g c =
    let tree = g.F.Files.tree c.args.files.now in
    let look_up = value_in (g.S.PropStore.meaning c.args.props.now) in
    let mid = c.in_ok-loading.field-0 in
    let root : c.in_ok-root.root ≡ root_file = search rules in
    let there : mid.1 ≡ true = search rules in
    load_done g.G.Gathers.holds tree look_up c.new.result c.in_ok-loading-2.loading mid c.into_parts.result c.new.ensures
    (subst (λ file. FollowsFile g.G.Gathers.holds tree look_up c.new.result (Ok mid) (λ world. at_first world file) file) root c.in_ok-loading.ensures.order) there
    (same_world g.G.Gathers.holds tree (g.F.Files.tree c.follow_first.new.files) look_up (value_in (g.S.PropStore.meaning c.follow_first.new.props)) mid.0 (Ok c.in_ok-loading-2.loading) (λ world. flat_map (in_directory world) directories)
    c.in_ok-loading.ensures.tree (ap value_in c.in_ok-loading.ensures.store.same) c.in_ok-loading-2.ensures.order)
    c.into_parts.ensures.gathered c.into_parts.ensures.diagnostics
