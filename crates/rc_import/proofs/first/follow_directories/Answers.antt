use Rattle.std.proofs.Common.{◌≡◌, ◌+◌, [], Ok, Err, drop, get_or, refl, ap, ◌∙◌, subst, rules}
use Rattle.std.specs.List.{flat_map}
use Rattle.std.proofs.lemmas.Result.{err_from_is_err_and}
use Rattle.init_machine.specs.Props.{value_in}
use Rattle.rc_import.specs.Order.{directories, in_directory}
use Rattle.rc_import.specs.internal.Steps.{Follows}
use Rattle.rc_import.proofs.Loads.{dir_parted, dirs_over, item_now}
use Rattle.rc_import.proofs.Stores.{kept_on}
use Rattle.rc_import.proofs.Walks.{list_done, list_off, list_on}
use Rattle.rc_import.proofs.first.follow_directories.Goals as goal

pub returns-in_err-loading-clause-order : goal.returns-in_err-loading-clause-order
returns-in_err-loading-clause-order g c =
    let i = c.loop-dir.invariant in
    let at = c.loop-dir.dir-index in
    let tree = g.F.Files.tree c.loop-dir.files in
    let look_up = value_in (g.S.PropStore.meaning c.loop-dir.props) in
    let refusal = c.in_err-loading.field-0.0 in
    let dir : c.in_ok-dir.dir ≡ get_or directories at [] = c.in_ok-dir.ensures ∙ rw item_now refl in
    let p = err_from_is_err_and c.from_residual-in_err-loading.result c.from_residual-in_err-loading.ensures.1 in
    rw (p.1, p.2)
    (list_off g.G.Gathers.holds (g.F.Files.tree c.args.files.now) tree (value_in (g.S.PropStore.meaning c.args.props.now)) look_up c.args.loading c.loop-dir.loading refusal
    (λ world. flat_map (in_directory world) directories) in_directory (drop at directories) (drop (at + 1) directories) (get_or directories at [])
    i.tree (ap value_in i.store.same) (dir_parted at (search rules)) i.order
    (subst (λ path. Follows g.G.Gathers.holds tree look_up c.loop-dir.loading (Err refusal) (λ world. in_directory world path)) dir c.in_err-loading.ensures.order))

pub loop-dir-preserved : goal.loop-dir-preserved
loop-dir-preserved g c =
    let i = c.loop-dir.invariant in
    let e = c.in_ok-loading.ensures in
    let at = c.loop-dir.dir-index in
    let tree = g.F.Files.tree c.loop-dir.files in
    let look_up = value_in (g.S.PropStore.meaning c.loop-dir.props) in
    let dir : c.in_ok-dir.dir ≡ get_or directories at [] = c.in_ok-dir.ensures ∙ rw item_now refl in
    record {
      items = i.items;
      order = list_on g.G.Gathers.holds (g.F.Files.tree c.args.files.now) tree (value_in (g.S.PropStore.meaning c.args.props.now)) look_up c.args.loading c.loop-dir.loading c.in_ok-loading.loading
          (λ world. flat_map (in_directory world) directories) in_directory (drop at directories) (drop (at + 1) directories) (get_or directories at [])
          i.tree (ap value_in i.store.same) (dir_parted at (search rules)) i.order
          (subst (λ path. Follows g.G.Gathers.holds tree look_up c.loop-dir.loading (Ok c.in_ok-loading.loading) (λ world. in_directory world path)) dir e.order);
      tree = e.tree ∙ i.tree;
      count = e.cause ∙ i.count;
      store = kept_on _ _ _ _ g.met.S.PropStore.transitive _ _ _ i.store e.store;
    }

pub returns-clause-order : goal.returns-clause-order
returns-clause-order g c =
    let at = c.loop-dir.dir-index in
    list_done g.G.Gathers.holds (g.F.Files.tree c.args.files.now) (value_in (g.S.PropStore.meaning c.args.props.now)) c.args.loading c.loop-dir.loading
    (λ world. flat_map (in_directory world) directories) in_directory (drop at directories) (dirs_over at (search rules)) c.loop-dir.invariant.order
