-- Each tree has a world, and the lines of its files.
use Rattle.std.proofs.Common.{◌≡◌, ℕ, List, Option, Some, sym, ap, ◌∙◌}
use Rattle.prop_rules.specs.View.{view}
use Rattle.rc_import.specs.World.{IsWorld, World}
use Rattle.rc_tokens.specs.Lines.{Line, Lines}
use Rattle.lint_sources.specs.Loads.{IsWorldOf, Tree, pairs_of}
use Rattle.lint_sources.specs.Told.{IsTold, Told}

same_tree : (tree other : Tree) → Some tree ≡ Some other → tree ≡ other
same_tree tree other is = cc

world_of_view : (tree : Tree) (world : World) → IsWorld (Some tree) (view (pairs_of tree)) world → IsWorldOf (Some tree) world
world_of_view tree world is = record {
  tree_is = is.tree_is;
  look_up_is = λ name. ap (λ (t : Tree). view (pairs_of t) name) (sym (same_tree tree world.tree is.tree_is)) ∙ is.look_up_is name;
  means_are = is.means_are;
}

pub told_of : (tree : Tree)
    → ((world : World) × IsWorld (Some tree) (view (pairs_of tree)) world)
    → ((bytes : List ℕ) → (lines : List Line) × (dropped : Option ℕ) × Lines bytes lines dropped)
    → (told : Told) × IsTold (Some tree) told
told_of tree world spelled = (
  record { world = world.0; spelled = λ bytes. (spelled bytes).0 },
  record {
    world_is = world_of_view tree world.0 world.1;
    lines_are = λ bytes. ((spelled bytes).1, (spelled bytes).2);
  },
)
