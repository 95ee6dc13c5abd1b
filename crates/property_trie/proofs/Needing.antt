-- What the writer's search for a name tells of the words that the name needs.
use Rattle.std.proofs.Common.{◌≡◌, ◌≢◌, ℕ, ◌+◌, not, Bool, true, false, ◌==◌, eq-eqb, List, drop, Option, sym, refl, ap, ◌∙◌, arith, if◌then◌else◌}
use Rattle.std.proofs.lemmas.Bool.{eqb-true}
use Rattle.init_machine.specs.Words.{is_among, Sized, names_in, cell_words, need_of}
use Rattle.init_machine.proofs.Needs.{held_needs}
use Rattle.init_machine.specs.Sets.{Set}
use Rattle.init_machine.specs.declared.report.Reading.{Reading}
use Rattle.serial_value.specs.declared.view.Making.{Making}
use Rattle.serial_value.specs.declared.view.CellView.{CellView}
use Rattle.serial_value.specs.declared.view.CellView.TheVariants.{Writer, Reader}
use Rattle.serial_value.specs.Cell.{sets_of, IsWriter}
use Rattle.property_trie.specs.Parts.{parts_of}
use Rattle.property_trie.specs.Tree.{find, node_sizes, trie_of, each_once}
use Rattle.property_trie.specs.declared.view.TrieView.{TrieView}
use Rattle.property_trie.specs.declared.walk.SearchEnd.{SearchEnd}
use Rattle.property_trie.specs.declared.walk.SearchEnd.TheVariants.{Cell, NoCell, NoNode}
use Rattle.property_trie.specs.TrieSteps.{sizes_of, tree_of, rested, knowing, Searches, looked_up, words_missing, missing_parts, IsWithin}
use Rattle.property_trie.proofs.Marks.{need_parts, trie_is}
use Rattle.property_trie.proofs.Walks.{ends_deep}
use Rattle.property_trie.proofs.Growing.{drop_whole}

-- the words of an absent name, by the parts that have no node
none_among : (sized : List Sized) (name : List ℕ) → find (trie_of sized).tree (parts_of name) ≡ 0 → is_among (names_in (each_once sized)) name ≡ false
none_among sized name none =
    let told = (trie_is sized).finds name in
    let yes = eq-eqb (find (trie_of sized).tree (parts_of name)) 0 none in
    is_false (is_among (names_in (each_once sized)) name) (sym yes ∙ told)
  where
    is_false : (b : Bool) → true ≡ not b → b ≡ false
    is_false true e = absurd (cc)
    is_false false e = refl

pub need_missing : (sized : List Sized) (name : List ℕ) (len : ℕ) → find (trie_of sized).tree (parts_of name) ≡ 0
    → need_of (each_once sized) name len ≡ cell_words len + node_sizes (missing_parts (trie_of sized).tree (parts_of name))
need_missing sized name len none =
    need_parts (each_once sized) name len (none_among sized name none)
    ∙ ap (λ (k : ℕ). cell_words len + node_sizes (drop k (parts_of name))) (sym ((trie_is sized).depths name))

is_some : (n : ℕ) → n ≢ 0 → (n == 0) ≡ false
is_some n some = elim (n == 0) as (λ t. (n == 0) ≡ t → t ≡ false) [
  | true ↦ λ e. absurd (some (eqb-true n 0 e))
  | false ↦ λ e. refl
] refl

pub present : (sized : List Sized) (name : List ℕ) (len : ℕ) → find (trie_of sized).tree (parts_of name) ≢ 0 → need_of (each_once sized) name len ≡ 0
present sized name len some =
    let told = (trie_is sized).finds name in
    held_needs (each_once sized) name len (is_true (is_among (names_in (each_once sized)) name) (sym (is_some (find (trie_of sized).tree (parts_of name)) some) ∙ told))
  where
    is_true : (b : Bool) → false ≡ not b → b ≡ true
    is_true true e = refl
    is_true false e = absurd (cc)

module _ {V : Type 0} (with_trie : V → TrieView → V) (noted : V → Reading → V) (words : ℕ) (trie : TrieView) (v after : V) (name : List ℕ) (len : ℕ) where
  Told : List Set → SearchEnd → Type 0
  Told sets end = (words_missing name len end ≡ need_of (each_once (sizes_of sets)) name len) × (after ≡ looked_up with_trie (tree_of sets) trie v name)

  missed : (sets : List Set) (end : SearchEnd) → with_trie v (rested trie) ≡ v → find (tree_of sets) (parts_of name) ≡ 0 → after ≡ with_trie v (rested trie)
      → words_missing name len end ≡ cell_words len + node_sizes (missing_parts (tree_of sets) (parts_of name)) → Told sets end
  unfolding Told
  missed sets end rests none is words = (
    words ∙ sym (need_missing (sizes_of sets) name len none),
    is ∙ rests ∙ sym (ap (λ (b : Bool). if b then v else with_trie v (knowing trie name (find (tree_of sets) (parts_of name)))) (eq-eqb (find (tree_of sets) (parts_of name)) 0 none)),
  )

  told_writer : (sets : List Set) (making : Option Making) (end : SearchEnd) → with_trie v (rested trie) ≡ v → Searches with_trie noted words (Writer sets making) trie v name end after → Told sets end
  unfolding Told
  told_writer sets making (Cell place) rests s =
      let found : find (tree_of sets) (parts_of name) ≡ place = s.1 in
      let high = s.0.0 in
      let some : find (tree_of sets) (parts_of name) ≢ 0 = λ e. omega arith in (
        sym (present (sizes_of sets) name len some),
        s.2 ∙ ap (λ (p : ℕ). with_trie v (knowing trie name p)) (sym found)
            ∙ sym (ap (λ (b : Bool). if b then v else with_trie v (knowing trie name (find (tree_of sets) (parts_of name)))) (is_some (find (tree_of sets) (parts_of name)) some)),
      )
  told_writer sets making (NoCell link) rests s =
      let deep = ends_deep (tree_of sets) (parts_of name) link s.1 in
      let own : cell_words len ≡ cell_words len + 0 = omega arith in
      missed sets (NoCell link) rests s.0.0 s.0.1
      (own ∙ ap (λ (ps : List (List ℕ)). cell_words len + node_sizes ps) (sym (ap (λ (k : ℕ). drop k (parts_of name)) deep ∙ drop_whole (parts_of name))))
  told_writer sets making (NoNode link from) rests s =
      missed sets (NoNode link from) rests s.0.0 s.0.1 (ap (λ (ps : List (List ℕ)). cell_words len + node_sizes ps) s.1.1)

  pub told_needed : (c : CellView) (end : SearchEnd) → IsWriter c → with_trie v (rested trie) ≡ v → Searches with_trie noted words c trie v name end after
      → (words_missing name len end ≡ need_of (each_once (sizes_of (sets_of c))) name len) × (after ≡ looked_up with_trie (tree_of (sets_of c)) trie v name)
  unfolding Told
  told_needed (Writer sets making) end writer rests s = told_writer sets making end rests s
  told_needed (Reader number copying) end writer rests s = absurd writer

  pub told_within : (c : CellView) (end : SearchEnd) → Searches with_trie noted words c trie v name end after → IsWithin name end
  told_within c (Cell place) s = tt
  told_within c (NoCell link) s = tt
  told_within c (NoNode link from) s = s.2
