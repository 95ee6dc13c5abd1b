use Rattle.std.proofs.Common.{◌≡◌, ◌<◌, [], Ok, Err, refl, ap, ◌∙◌, subst, true, false, arith, rules}
use Rattle.std.specs.List.{flat_map}
use Rattle.std.proofs.lemmas.List.{nil_from_length}
use Rattle.std.proofs.lemmas.Result.{err_from_is_err_and}
use Rattle.init_base.specs.Tree.{has_name}
use Rattle.init_machine.specs.Expand.{expand}
use Rattle.init_machine.specs.Props.{value_in}
use Rattle.init_machine.specs.declared.diagnostic.DiagKind.TheVariants.{Loop, TooDeep}
use Rattle.rc_import.specs.Order.{at_import, fault}
use Rattle.rc_import.specs.Paths.{file_in, is_absolute}
use Rattle.rc_import.specs.internal.Listings.{ListsInOrder}
use Rattle.rc_import.specs.internal.Steps.{Follows, IsExpanded, IsFile}
use Rattle.rc_import.proofs.Places.{below_missing, below_refused, below_there, dir_names, file_absent_met, file_broken_met, file_refused_met, file_there_met, import_faulty, path_absolute, path_relative, reach_from, target_deep, target_open}
use Rattle.rc_import.proofs.Stores.{kept_on}
use Rattle.rc_import.proofs.Walks.{list_done, list_off, list_on, same_met, same_world}
use Rattle.rc_import.proofs.import.+imports.Goals as goal

-- ---- a file

pub follow_file-returns-in_err-loading-clause-order : goal.follow_file-returns-in_err-loading-clause-order
follow_file-returns-in_err-loading-clause-order g t c =
    let place = c.args.place.now in
    let look_up = value_in (g.S.PropStore.meaning c.args.props.now) in
    let p = err_from_is_err_and c.from_residual.result c.from_residual.ensures.1 in
    rw (p.1, p.2) (file_refused_met g.G.Gathers.holds (g.F.Files.tree c.args.files.now) look_up c.args.loading c.in_err-loading.field-0.0 place.file (reach_from place) (c.in_err-loading.ensures.read look_up))

pub follow_file-returns-in_default-clause-order : goal.follow_file-returns-in_default-clause-order
follow_file-returns-in_default-clause-order g t c =
    let place = c.args.place.now in
    let tree = g.F.Files.tree c.args.files.now in
    let look_up = value_in (g.S.PropStore.meaning c.args.props.now) in
    file_absent_met g.G.Gathers.holds tree look_up c.args.loading c.in_ok-loading.loading place.file (reach_from place)
    (subst (λ is. IsFile g.G.Gathers.holds tree look_up c.args.loading place.file (Ok (c.in_ok-loading.loading, is))) c.in_default.is (c.in_ok-loading.ensures.read look_up))

pub follow_file-returns-in_err-loading-2-clause-order : goal.follow_file-returns-in_err-loading-2-clause-order
follow_file-returns-in_err-loading-2-clause-order g t c =
    let place = c.args.place.now in
    let tree = g.F.Files.tree c.args.files.now in
    let look_up = value_in (g.S.PropStore.meaning c.args.props.now) in
    let p = err_from_is_err_and c.from_residual-in_err-loading-2.result c.from_residual-in_err-loading-2.ensures.1 in
    rw (p.1, p.2)
    (file_broken_met g.G.Gathers.holds tree look_up c.args.loading c.in_ok-loading.loading c.in_err-loading-2.field-0.0 place.file c.in-Some.imports (reach_from place)
    (subst (λ is. IsFile g.G.Gathers.holds tree look_up c.args.loading place.file (Ok (c.in_ok-loading.loading, is))) c.in-Some.is (c.in_ok-loading.ensures.read look_up))
    (same_world g.G.Gathers.holds tree (g.F.Files.tree c.read.new.files) look_up look_up c.in_ok-loading.loading (Err c.in_err-loading-2.field-0.0) (λ world. flat_map (at_import world place.file (reach_from place world)) c.in-Some.imports)
    c.in_ok-loading.ensures.tree refl c.in_err-loading-2.ensures.order))

pub follow_file-returns-clause-order : goal.follow_file-returns-clause-order
follow_file-returns-clause-order g t c =
    let place = c.args.place.now in
    let tree = g.F.Files.tree c.args.files.now in
    let look_up = value_in (g.S.PropStore.meaning c.args.props.now) in
    file_there_met g.G.Gathers.holds tree look_up c.args.loading c.in_ok-loading.loading c.in_ok-loading-2.loading place.file c.in-Some.imports (reach_from place)
    (subst (λ is. IsFile g.G.Gathers.holds tree look_up c.args.loading place.file (Ok (c.in_ok-loading.loading, is))) c.in-Some.is (c.in_ok-loading.ensures.read look_up))
    (same_world g.G.Gathers.holds tree (g.F.Files.tree c.read.new.files) look_up look_up c.in_ok-loading.loading (Ok c.in_ok-loading-2.loading) (λ world. flat_map (at_import world place.file (reach_from place world)) c.in-Some.imports)
    c.in_ok-loading.ensures.tree refl c.in_ok-loading-2.ensures.order)

-- ---- its imports

pub follow_imports-returns-in_err-loading-clause-order : goal.follow_imports-returns-in_err-loading-clause-order
follow_imports-returns-in_err-loading-clause-order g t c =
    let place = c.args.place.now in
    let i = c.loop-import.invariant in
    let p = err_from_is_err_and c.from_residual.result c.from_residual.ensures.1 in
    rw (p.1, p.2)
    (list_off g.G.Gathers.holds (g.F.Files.tree c.args.files.now) (g.F.Files.tree c.loop-import.files) (value_in (g.S.PropStore.meaning c.args.props.now)) (value_in (g.S.PropStore.meaning c.loop-import.props))
    c.args.loading c.loop-import.loading c.in_err-loading.field-0.0 (λ world. flat_map (at_import world place.file (reach_from place world)) c.args.imports) (λ world. at_import world place.file (reach_from place world))
    c.loop-import.import-iterator.rest.items c.next.new.self.rest.items c.in-Some.import i.tree (ap value_in i.store.same) (search rules) i.order c.in_err-loading.ensures.order)

pub follow_imports-loop-import-preserved : goal.follow_imports-loop-import-preserved
follow_imports-loop-import-preserved g t c =
    let place = c.args.place.now in
    let i = c.loop-import.invariant in
    let e = c.in_ok-loading.ensures in
    record {
      next = search rules;
      finite = search rules;
      order = list_on g.G.Gathers.holds (g.F.Files.tree c.args.files.now) (g.F.Files.tree c.loop-import.files) (value_in (g.S.PropStore.meaning c.args.props.now)) (value_in (g.S.PropStore.meaning c.loop-import.props))
          c.args.loading c.loop-import.loading c.in_ok-loading.loading (λ world. flat_map (at_import world place.file (reach_from place world)) c.args.imports) (λ world. at_import world place.file (reach_from place world))
          c.loop-import.import-iterator.rest.items c.next.new.self.rest.items c.in-Some.import i.tree (ap value_in i.store.same) (search rules) i.order e.order;
      tree = e.tree ∙ i.tree;
      count = e.cause ∙ i.count;
      store = kept_on _ _ _ _ g.met.S.PropStore.transitive _ _ _ i.store e.store;
    }

pub follow_imports-returns-clause-order : goal.follow_imports-returns-clause-order
follow_imports-returns-clause-order g t c =
    let place = c.args.place.now in
    let left = c.loop-import.import-iterator.rest.items in
    let none : left ≡ [] = nil_from_length left (omega (arith, c.in-None.ensures.steps.0)) in
    list_done g.G.Gathers.holds (g.F.Files.tree c.args.files.now) (value_in (g.S.PropStore.meaning c.args.props.now)) c.args.loading c.loop-import.loading
    (λ world. flat_map (at_import world place.file (reach_from place world)) c.args.imports) (λ world. at_import world place.file (reach_from place world)) left none c.loop-import.invariant.order

pub follow_import-returns-clause-order : goal.follow_import-returns-clause-order
follow_import-returns-clause-order g t c =
    let place = c.args.place.now in
    let tree = g.F.Files.tree c.args.files.now in
    let look_up = value_in (g.S.PropStore.meaning c.args.props.now) in
    import_faulty g.G.Gathers.holds tree look_up c.args.loading c.with_fault.result place.file (reach_from place) c.args.import
    (subst (λ found. IsExpanded (Ok found) (expand look_up c.args.import.path)) c.in-None.is c.in_ok-path.ensures.answer)
    (c.with_fault.ensures.order tree look_up)

-- ---- the files of a directory

pub follow_names-returns-in_err-loading-clause-order : goal.follow_names-returns-in_err-loading-clause-order
follow_names-returns-in_err-loading-clause-order g t c =
    let place = c.args.place.now in
    let i = c.loop-name.invariant in
    let tree = g.F.Files.tree c.loop-name.files in
    let look_up = value_in (g.S.PropStore.meaning c.loop-name.props) in
    let path : c.in_ok-path.path ≡ file_in c.args.dir.now c.in-Some.name = search rules in
    let p = err_from_is_err_and c.from_residual-in_err-loading.result c.from_residual-in_err-loading.ensures.1 in
    rw (p.1, p.2)
    (list_off g.G.Gathers.holds (g.F.Files.tree c.args.files.now) tree (value_in (g.S.PropStore.meaning c.args.props.now)) look_up
    c.args.loading c.loop-name.loading c.in_err-loading.field-0.0
    (λ world. flat_map (λ name. reach_from place world c.args.line (file_in c.args.dir.now name)) c.args.names) (λ world name. reach_from place world c.args.line (file_in c.args.dir.now name))
    c.loop-name.name-iterator.rest.items c.next.new.self.rest.items c.in-Some.name i.tree (ap value_in i.store.same) (search rules) i.order
    (subst (λ file. Follows g.G.Gathers.holds tree look_up c.loop-name.loading (Err c.in_err-loading.field-0.0) (λ world. reach_from place world c.args.line file)) path c.in_err-loading.ensures.order))

pub follow_names-loop-name-preserved : goal.follow_names-loop-name-preserved
follow_names-loop-name-preserved g t c =
    let place = c.args.place.now in
    let i = c.loop-name.invariant in
    let e = c.in_ok-loading.ensures in
    let tree = g.F.Files.tree c.loop-name.files in
    let look_up = value_in (g.S.PropStore.meaning c.loop-name.props) in
    let path : c.in_ok-path.path ≡ file_in c.args.dir.now c.in-Some.name = search rules in
    record {
      next = search rules;
      finite = search rules;
      order = list_on g.G.Gathers.holds (g.F.Files.tree c.args.files.now) tree (value_in (g.S.PropStore.meaning c.args.props.now)) look_up
          c.args.loading c.loop-name.loading c.in_ok-loading.loading
          (λ world. flat_map (λ name. reach_from place world c.args.line (file_in c.args.dir.now name)) c.args.names) (λ world name. reach_from place world c.args.line (file_in c.args.dir.now name))
          c.loop-name.name-iterator.rest.items c.next.new.self.rest.items c.in-Some.name i.tree (ap value_in i.store.same) (search rules) i.order
          (subst (λ file. Follows g.G.Gathers.holds tree look_up c.loop-name.loading (Ok c.in_ok-loading.loading) (λ world. reach_from place world c.args.line file)) path e.order);
      tree = e.tree ∙ i.tree;
      count = e.cause ∙ i.count;
      store = kept_on _ _ _ _ g.met.S.PropStore.transitive _ _ _ i.store e.store;
    }

pub follow_names-returns-clause-order : goal.follow_names-returns-clause-order
follow_names-returns-clause-order g t c =
    let place = c.args.place.now in
    let left = c.loop-name.name-iterator.rest.items in
    let none : left ≡ [] = nil_from_length left (omega (arith, c.in-None.ensures.steps.0)) in
    list_done g.G.Gathers.holds (g.F.Files.tree c.args.files.now) (value_in (g.S.PropStore.meaning c.args.props.now)) c.args.loading c.loop-name.loading
    (λ world. flat_map (λ name. reach_from place world c.args.line (file_in c.args.dir.now name)) c.args.names) (λ world name. reach_from place world c.args.line (file_in c.args.dir.now name))
    left none c.loop-name.invariant.order

-- ---- a path

pub follow_path-returns-then-not-is_absolute-clause-order : goal.follow_path-returns-then-not-is_absolute-clause-order
follow_path-returns-then-not-is_absolute-clause-order g t c =
    let place = c.args.place.now in
    let tree = g.F.Files.tree c.args.files.now in
    let look_up = value_in (g.S.PropStore.meaning c.args.props.now) in
    let off : is_absolute c.args.path ≡ false = search rules in
    path_relative g.G.Gathers.holds tree look_up c.args.loading c.with_fault.result (fault place.file c.args.line) (λ world. reach_from place world c.args.line) c.args.path off
    (c.with_fault.ensures.order tree look_up)

pub follow_path-returns-in-Some-clause-order : goal.follow_path-returns-in-Some-clause-order
follow_path-returns-in-Some-clause-order g t c =
    let place = c.args.place.now in
    let tree = g.F.Files.tree c.args.files.now in
    let look_up = value_in (g.S.PropStore.meaning c.args.props.now) in
    let dir = c.in_ok-path.path in
    let on : is_absolute c.args.path ≡ true = search rules in
    path_absolute g.G.Gathers.holds tree look_up c.args.loading c.follow_names.result (fault place.file c.args.line) (λ world. reach_from place world c.args.line) c.args.path dir on c.in_ok-path.ensures
    (dir_names g.G.Gathers.holds tree look_up c.args.loading c.follow_names.result dir c.in-Some.names (λ world. reach_from place world c.args.line) (λ world. reach_from place world c.args.line dir)
    (subst (λ found. ListsInOrder tree dir (Ok found)) c.in-Some.is c.in_ok-names.ensures.names)
    (same_world g.G.Gathers.holds tree (g.F.Files.tree c.list.new.files) look_up look_up c.args.loading c.follow_names.result
    (λ world. flat_map (λ name. reach_from place world c.args.line (file_in dir name)) c.in-Some.names) c.in_ok-names.ensures.tree refl c.follow_names.ensures.order))

-- ---- where a line leads

pub follow_target-returns-then-is_open-clause-order : goal.follow_target-returns-then-is_open-clause-order
follow_target-returns-then-is_open-clause-order g t c =
    let place = c.args.place.now in
    let tree = g.F.Files.tree c.args.files.now in
    let look_up = value_in (g.S.PropStore.meaning c.args.props.now) in
    let on : has_name place.trail c.args.path ≡ true = search rules in
    same_met g.G.Gathers.holds tree look_up c.args.loading c.with_fault.result (λ _. fault place.file c.args.line Loop) (λ world. reach_from place world c.args.line c.args.path)
    (λ world known. target_open world place.left place.trail place.file c.args.line c.args.path on) (c.with_fault.ensures.order tree look_up)

pub follow_target-returns-then-place-eq0-clause-order : goal.follow_target-returns-then-place-eq0-clause-order
follow_target-returns-then-place-eq0-clause-order g t c =
    let place = c.args.place.now in
    let tree = g.F.Files.tree c.args.files.now in
    let look_up = value_in (g.S.PropStore.meaning c.args.props.now) in
    let off : has_name place.trail c.args.path ≡ false = search rules in
    let none : place.left ≡ 0 = search rules in
    same_met g.G.Gathers.holds tree look_up c.args.loading c.with_fault-then-place-eq0.result (λ _. fault place.file c.args.line TooDeep) (λ world. reach_from place world c.args.line c.args.path)
    (λ world known. target_deep world place.left place.trail place.file c.args.line c.args.path off none) (c.with_fault-then-place-eq0.ensures.order tree look_up)

pub follow_target-returns-in_err-loading-clause-order : goal.follow_target-returns-in_err-loading-clause-order
follow_target-returns-in_err-loading-clause-order g t c =
    let place = c.args.place.now in
    let off : has_name place.trail c.args.path ≡ false = search rules in
    let some : 0 < place.left = search rules in
    let p = err_from_is_err_and c.from_residual-in_err-loading.result c.from_residual-in_err-loading.ensures.1 in
    rw (p.1, p.2)
    (below_refused g.G.Gathers.holds (g.F.Files.tree c.args.files.now) (value_in (g.S.PropStore.meaning c.args.props.now)) c.args.loading c.in_err-loading.field-0.0 place c.in_ok-below.below c.args.line c.args.path
    off some c.in_ok-below.ensures c.in_err-loading.ensures.order)

pub follow_target-returns-in_default-true-clause-order : goal.follow_target-returns-in_default-true-clause-order
follow_target-returns-in_default-true-clause-order g t c =
    let place = c.args.place.now in
    let off : has_name place.trail c.args.path ≡ false = search rules in
    let some : 0 < place.left = search rules in
    let there : c.in_ok-loading.field-0.1 ≡ true = search rules in
    below_there g.G.Gathers.holds (g.F.Files.tree c.args.files.now) (value_in (g.S.PropStore.meaning c.args.props.now)) c.args.loading c.in_ok-loading.field-0 place c.in_ok-below.below c.args.line c.args.path
    off some c.in_ok-below.ensures there c.in_ok-loading.ensures.order

pub follow_target-returns-clause-order : goal.follow_target-returns-clause-order
follow_target-returns-clause-order g t c =
    let place = c.args.place.now in
    let tree = g.F.Files.tree c.args.files.now in
    let look_up = value_in (g.S.PropStore.meaning c.args.props.now) in
    let off : has_name place.trail c.args.path ≡ false = search rules in
    let some : 0 < place.left = search rules in
    let gone : c.in_ok-loading.field-0.1 ≡ false = search rules in
    below_missing g.G.Gathers.holds tree look_up c.args.loading c.in_ok-loading.field-0 c.with_fault-in_default-false.result place c.in_ok-below.below c.args.line c.args.path
    off some c.in_ok-below.ensures gone c.in_ok-loading.ensures.order (c.with_fault-in_default-false.ensures.order tree look_up)
