use Rattle.std.proofs.Common.{◌≡◌, [], Ok, Err, ap, ◌∙◌, subst, arith, rules}
use Rattle.std.specs.List.{flat_map}
use Rattle.std.proofs.lemmas.List.{nil_from_length}
use Rattle.std.proofs.lemmas.Result.{err_from_is_err_and}
use Rattle.init_machine.specs.Props.{value_in}
use Rattle.rc_import.specs.Order.{at_first}
use Rattle.rc_import.specs.Paths.{file_in}
use Rattle.rc_import.specs.internal.Steps.{Follows}
use Rattle.rc_import.proofs.Loads.{file_follows, file_stops}
use Rattle.rc_import.proofs.Stores.{kept_on}
use Rattle.rc_import.proofs.Walks.{list_done, list_off, list_on}
use Rattle.rc_import.proofs.first.follow_names.Goals as goal

pub returns-in_err-loading-clause-order : goal.returns-in_err-loading-clause-order
returns-in_err-loading-clause-order g c =
    let i = c.loop-name.invariant in
    let tree = g.F.Files.tree c.loop-name.files in
    let look_up = value_in (g.S.PropStore.meaning c.loop-name.props) in
    let refusal = c.in_err-loading.field-0.0 in
    let path : c.in_ok-path.path ≡ file_in c.args.dir.now c.in-Some.name = search rules in
    let p = err_from_is_err_and c.from_residual-in_err-loading.result c.from_residual-in_err-loading.ensures.1 in
    rw (p.1, p.2)
    (list_off g.G.Gathers.holds (g.F.Files.tree c.args.files.now) tree (value_in (g.S.PropStore.meaning c.args.props.now)) look_up c.args.loading c.loop-name.loading refusal
    (λ world. flat_map (λ name. at_first world (file_in c.args.dir.now name)) c.args.names) (λ world name. at_first world (file_in c.args.dir.now name))
    c.loop-name.name-iterator.rest.items c.next.new.self.rest.items c.in-Some.name i.tree (ap value_in i.store.same) (search rules) i.order
    (subst (λ file. Follows g.G.Gathers.holds tree look_up c.loop-name.loading (Err refusal) (λ world. at_first world file)) path
    (file_stops g.G.Gathers.holds tree look_up c.loop-name.loading refusal (λ world. at_first world c.in_ok-path.path) c.in_ok-path.path c.in_err-loading.ensures.order)))

pub loop-name-preserved : goal.loop-name-preserved
loop-name-preserved g c =
    let i = c.loop-name.invariant in
    let e = c.in_ok-loading.ensures in
    let tree = g.F.Files.tree c.loop-name.files in
    let look_up = value_in (g.S.PropStore.meaning c.loop-name.props) in
    let next = c.in_ok-loading.field-0 in
    let path : c.in_ok-path.path ≡ file_in c.args.dir.now c.in-Some.name = search rules in
    record {
      next = search rules;
      finite = search rules;
      order = list_on g.G.Gathers.holds (g.F.Files.tree c.args.files.now) tree (value_in (g.S.PropStore.meaning c.args.props.now)) look_up c.args.loading c.loop-name.loading next.0
          (λ world. flat_map (λ name. at_first world (file_in c.args.dir.now name)) c.args.names) (λ world name. at_first world (file_in c.args.dir.now name))
          c.loop-name.name-iterator.rest.items c.next.new.self.rest.items c.in-Some.name i.tree (ap value_in i.store.same) (search rules) i.order
          (subst (λ file. Follows g.G.Gathers.holds tree look_up c.loop-name.loading (Ok next.0) (λ world. at_first world file)) path
          (file_follows g.G.Gathers.holds tree look_up c.loop-name.loading next (λ world. at_first world c.in_ok-path.path) c.in_ok-path.path e.order));
      tree = e.tree ∙ i.tree;
      count = e.cause ∙ i.count;
      store = kept_on _ _ _ _ g.met.S.PropStore.transitive _ _ _ i.store e.store;
    }

pub returns-clause-order : goal.returns-clause-order
returns-clause-order g c =
    let left = c.loop-name.name-iterator.rest.items in
    let none : left ≡ [] = nil_from_length left (omega (arith, c.in-None.ensures.steps.0)) in
    list_done g.G.Gathers.holds (g.F.Files.tree c.args.files.now) (value_in (g.S.PropStore.meaning c.args.props.now)) c.args.loading c.loop-name.loading
    (λ world. flat_map (λ name. at_first world (file_in c.args.dir.now name)) c.args.names) (λ world name. at_first world (file_in c.args.dir.now name)) left none c.loop-name.invariant.order
