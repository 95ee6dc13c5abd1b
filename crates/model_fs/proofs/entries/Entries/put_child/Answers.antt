-- The path is given a place, where it has none, and the node stands there.
use Rattle.std.proofs.Common.{◌≡◌, ℕ, List, ◌++◌, ◌∷◌, [], length, get_or, Some, sym, ap, ◌∙◌, arith}
use Rattle.init_machine.specs.FileTree.{is_directory}
use Rattle.model_fs.specs.internal.Entries.{entry_at, node_in, place_in, with_entry}
use Rattle.model_fs.specs.internal.Steps.{place_of}
use Rattle.model_fs.proofs.Kept.{added_within, count_within, place_here, shown_within}
use Rattle.model_fs.proofs.Views.{put_in, viewed, IsPutIn}
use Rattle.model_fs.proofs.entries.Entries.put_child.Goals as goal

pub add-requires : goal.add-requires
add-requires c =
    shown_within c.self.inside.places c.self.inside.entries.items c.args.parent c.self.invariant.long
    (ap (λ t. is_directory (node_in t c.args.parent)) c.self.view_is ∙ c.requires.directory)

pub put_entry-requires-clause-at : goal.put_entry-requires-clause-at
put_entry-requires-clause-at c =
    let paths = c.self.inside.places in
    let within = shown_within paths c.self.inside.entries.items c.args.parent c.self.invariant.long
    (ap (λ t. is_directory (node_in t c.args.parent)) c.self.view_is ∙ c.requires.directory) in
    let front = get_or paths c.args.parent [] in
    let above : place_of paths front ≡ Some c.args.parent = place_here paths c.args.parent c.self.invariant.distinct within in
    let path = front ++ c.args.part.now ∷ [] in
    let bound = added_within paths path c.in_ok-at.at (ap (λ ps. place_of ps path) (sym (c.in_ok-at.ensures.paths front above)) ∙ c.in_ok-at.ensures.place front above) in
    omega (arith, ap length c.reserve.ensures.items, c.self.invariant.long)

pub put_entry-requires-clause-parent : goal.put_entry-requires-clause-parent
put_entry-requires-clause-parent c =
    let within = shown_within c.self.inside.places c.self.inside.entries.items c.args.parent c.self.invariant.long
    (ap (λ t. is_directory (node_in t c.args.parent)) c.self.view_is ∙ c.requires.directory) in
    omega (arith, ap length c.reserve.ensures.items, c.self.invariant.long)

pub put_entry-requires-clause-fits : goal.put_entry-requires-clause-fits
put_entry-requires-clause-fits c =
    let within = shown_within c.self.inside.places c.self.inside.entries.items c.args.parent c.self.invariant.long
    (ap (λ t. is_directory (node_in t c.args.parent)) c.self.view_is ∙ c.requires.directory) in
    let bound = count_within c.self.inside.places c.self.inside.entries.items c.args.parent c.self.invariant within in
    let same : (entry_at c.reserve.new.self.items c.args.parent).children ≡ (entry_at c.self.inside.entries.items c.args.parent).children =
    ap (λ es. (entry_at es c.args.parent).children) c.reserve.ensures.items in
    omega (arith, ap length c.reserve.ensures.items)

put : (c : goal.After-put_entry) (front : List (List ℕ)) → place_in c.args.self.now front ≡ Some c.args.parent
    → IsPutIn c.args.self.now c.add.new.self c.put_entry.new.entries.items (front ++ c.args.part.now ∷ []) c.in_ok-at.at c.args.node
put c front above' =
    let above = viewed c.self.invariant c.self.view_is front ∙ above' in
    put_in front c.args.part.now c.self.invariant c.self.view_is above (c.in_ok-at.ensures.paths front above) c.in_ok-at.ensures.distinct (c.in_ok-at.ensures.place front above)
    (c.put_entry.ensures ∙ ap (λ es. with_entry es c.in_ok-at.at c.args.parent (Some c.args.node)) c.reserve.ensures.items)
    c.requires.directory (c.requires.kept front above')

pub invariant_of-self-2 : goal.invariant_of-self-2
invariant_of-self-2 c =
    let within = shown_within c.self.inside.places c.self.inside.entries.items c.args.parent c.self.invariant.long
    (ap (λ t. is_directory (node_in t c.args.parent)) c.self.view_is ∙ c.requires.directory) in
    let front = get_or c.self.inside.places c.args.parent [] in
    let above = place_here c.self.inside.places c.args.parent c.self.invariant.distinct within in
    (put c front (sym (viewed c.self.invariant c.self.view_is front) ∙ above)).kept

pub returns-clause-tree : goal.returns-clause-tree
returns-clause-tree c front above' = (put c front above').shows

pub returns-clause-place : goal.returns-clause-place
returns-clause-place c front above' = (put c front above').placed
