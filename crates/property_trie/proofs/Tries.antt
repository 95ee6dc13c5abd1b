-- The laws of the trie of names.
use Rattle.std.proofs.Common.{◌≡◌, not, Bool, true, false, List, [], ◌∷◌, ◌++◌, sym, refl, ap, ◌∙◌, subst}
use Rattle.std.proofs.lemmas.Bool.{eqb-true}
use Rattle.std.proofs.Common.{eq-eqb}
use Rattle.init_machine.specs.Words.{is_among, Sized, names_in}
use Rattle.property_trie.specs.Parts.{parts_of}
use Rattle.property_trie.specs.Tree.{Tree, Trie, find, added, trie_from, trie_of, each_once, Extends}
use Rattle.property_trie.specs.Laws.{MarkIsWordsUsed, FindsItsNames, CellHasItsWords, HasItsPrefixes, AlwaysLiesWell, OnlyExtends, PartsTellNames}
use Rattle.property_trie.proofs.Names.{same_name}
use Rattle.property_trie.proofs.Marks.{trie_is}
use Rattle.property_trie.proofs.Apart.{trie_lies}
use Rattle.property_trie.proofs.Extending.{extends-added}

pub mark_is_words_used : MarkIsWordsUsed
mark_is_words_used names = (trie_is names).mark

not_true : (b : Bool) → true ≡ not b → b ≡ false
not_true true e = absurd (cc)
not_true false e = refl

pub finds_its_names : FindsItsNames
finds_its_names names name =
    let tree : Tree = (trie_of names).tree in
    let finds = (trie_is names).finds name in (
      (λ none. not_true (is_among (names_in (each_once names)) name) (sym (eq-eqb (find tree (parts_of name)) 0 none) ∙ finds)),
      (λ absent. eqb-true (find tree (parts_of name)) 0 (finds ∙ ap not absent)),
    )

pub cell_has_its_words : CellHasItsWords
cell_has_its_words sized k s is = (trie_is sized).cells k s is

pub has_its_prefixes : HasItsPrefixes
has_its_prefixes names name = (trie_is names).depths name

pub always_lies_well : AlwaysLiesWell
always_lies_well names = trie_lies names

from_end : (trie : Trie) (names : List Sized) (name : Sized) → trie_from trie (names ++ name ∷ []) ≡ added (trie_from trie names) name
from_end trie [] name = refl
from_end trie (other ∷ names) name = from_end (added trie other) names name

pub only_extends : OnlyExtends
only_extends names name =
    subst (λ (t : Trie). Extends (trie_of names).tree t.tree) (sym (from_end (trie_of []) names name)) (extends-added (trie_of names) name)

pub parts_tell_names : PartsTellNames
parts_tell_names name other same = same_name name other same
