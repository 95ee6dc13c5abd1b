-- A tree that paths and their entries show.
use Rattle.std.proofs.Common.{◌≡◌, ℕ, true, false, ◌&&◌, List, [], ◌∷◌, ◌++◌, Some, sym, ap, ◌∙◌, subst}
use Rattle.init_machine.specs.FileTree.{is_directory, is_root}
use Rattle.init_machine.specs.declared.node.Node.{Node}
use Rattle.model_fs.specs.internal.Entries.{node_in, place_in, shown, with_entry, IsKept, IsWalk}
use Rattle.model_fs.specs.internal.Rows.{Row, is_full, node_at, put_node}
use Rattle.model_fs.specs.internal.Steps.{place_of, with_path, AreDistinct}
use Rattle.model_fs.specs.declared.entries.Entry.{Entry}
use Rattle.model_fs.specs.declared.entries.Walk.{Walk}
use Rattle.model_fs.proofs.Children.{some_parts}
use Rattle.model_fs.proofs.Kept.{directory_here, is_put, is_taken, IsPut, IsTaken}
use Rattle.model_fs.proofs.Shown.{place_shown}

-- a path that lies right below its parent, with the places of both
pub record IsChild (paths : List (List (List ℕ))) (path : List (List ℕ)) (parent at : ℕ) : Type 0 where
  pub front : List (List ℕ)
  pub part : List ℕ
  pub parts : path ≡ front ++ part ∷ []
  pub above : place_of paths front ≡ Some parent
  pub here : place_of paths path ≡ Some at
  pub below : place_of paths (front ++ part ∷ []) ≡ Some at

-- paths and entries that show a tree with a node put at a path
pub record IsPutIn (tree : List Row) (paths : List (List (List ℕ))) (entries : List Entry) (path : List (List ℕ)) (at : ℕ) (node : Node) : Type 0 where
  pub kept : IsKept paths entries
  pub shows : shown paths entries ≡ put_node tree path node
  pub placed : place_in (shown paths entries) path ≡ Some at

module _ {paths : List (List (List ℕ))} {entries : List Entry} where
  -- a path has the place in the tree that it has among the paths
  pub viewed : {tree : List Row} → IsKept paths entries → shown paths entries ≡ tree → (path : List (List ℕ)) → place_of paths path ≡ place_in tree path
  viewed kept shows path = sym (place_shown paths entries path kept.long) ∙ ap (λ t. place_in t path) shows

  pub child_found : {tree : List Row} {path : List (List ℕ)} {walk : Walk} {parent at : ℕ} → IsKept paths entries → shown paths entries ≡ tree
      → IsWalk tree path walk → is_root path ≡ false → walk.parent ≡ Some parent → walk.at ≡ Some at → IsChild paths path parent at
  child_found {path = path} {at = at} kept shows led some up is =
      let split = some_parts path some in
      let here : place_of paths path ≡ Some at = viewed kept shows path ∙ sym led.at ∙ is in
      record {
        front = split.0;
        part = split.1;
        parts = split.2;
        above = viewed kept shows split.0 ∙ sym (led.parent split.0 split.1 split.2) ∙ up;
        here = here;
        below = ap (place_of paths) (sym split.2) ∙ here;
      }

  pub child_taken : {tree : List Row} {path : List (List ℕ)} {parent at : ℕ} → IsKept paths entries → shown paths entries ≡ tree
      → IsChild paths path parent at → (is_directory (node_at tree path) && is_full tree path) ≡ false → IsTaken paths entries path parent at
  child_taken {path = path} {parent = parent} {at = at} kept shows child empty =
      subst (λ p. IsTaken paths entries p parent at) (sym child.parts)
      (is_taken paths entries child.front child.part parent at kept child.above child.below
      (ap (λ p. is_directory (node_at (shown paths entries) p) && is_full (shown paths entries) p) (sym child.parts)
      ∙ ap (λ t. is_directory (node_at t path) && is_full t path) shows ∙ empty))

  pub put_in : {tree : List Row} {paths' : List (List (List ℕ))} {entries' : List Entry} {parent at : ℕ} {node : Node} (front : List (List ℕ)) (part : List ℕ)
      → IsKept paths entries → shown paths entries ≡ tree → place_of paths front ≡ Some parent → paths' ≡ with_path paths (front ++ part ∷ [])
      → AreDistinct paths' → place_of paths' (front ++ part ∷ []) ≡ Some at → entries' ≡ with_entry entries at parent (Some node)
      → is_directory (node_in tree parent) ≡ true → (is_directory (node_at tree (front ++ part ∷ [])) ≡ true → is_directory (Some node) ≡ true)
      → IsPutIn tree paths' entries' (front ++ part ∷ []) at node
  put_in {entries' = entries'} {parent = parent} {at = at} {node = node} front part kept shows above more distinct placed items directory keeps =
      let path = front ++ part ∷ [] in
      let put : IsPut paths entries path parent at node =
      is_put paths entries front part parent at node kept above (subst AreDistinct more distinct) (ap (λ ps. place_of ps path) (sym more) ∙ placed)
      (directory_here paths entries front parent kept above (ap (λ t. is_directory (node_in t parent)) shows ∙ directory))
      (λ there. keeps (ap (λ t. is_directory (node_at t path)) (sym shows) ∙ there)) in
      record {
        kept = subst (λ ps. IsKept ps entries') (sym more) (subst (IsKept (with_path paths path)) (sym items) put.kept);
        shows = ap (λ ps. shown ps entries') more ∙ ap (shown (with_path paths path)) items ∙ put.shows ∙ ap (λ t. put_node t path node) shows;
        placed = ap (λ ps. place_in (shown ps entries') path) more ∙ ap (λ es. place_in (shown (with_path paths path) es) path) items ∙ put.placed;
      }
