-- Laws above the definitions: of the words that names take (bionic's prop_area), and of the texts of commands.
use Rattle.std.specs.Prelude.{◌≡◌, ℕ, ◌+◌, ◌≤◌, true, false, not, List, length, map, sum, filter, Some, IsPermutation}
use Rattle.init_machine.specs.Props.{Props, Property, lookup_in, sizes_of, is_absent, with_set, used_in}
use Rattle.init_machine.specs.Commands.{word_of}
use Rattle.init_machine.specs.WordTexts.{word_text}
use Rattle.init_machine.specs.declared.word.Word.{Word}
use Rattle.init_machine.specs.Words.{Sized, names_in, cell_words, used_of, need_of, nodes_of, prefixes_of, node_words, is_among}

-- properties take the same words in each order
abbrev pub OrderIsFree : Type 0
OrderIsFree = (sized others : List Sized) → IsPermutation sized others → used_of sized ≡ used_of others

-- a name more adds its cell, and a node for each of its dotted prefixes that the names don't have yet
abbrev pub AddsItsNewNodes : Type 0
AddsItsNewNodes =
    (sized : List Sized) (name : List ℕ) (len : ℕ) → is_among (names_in sized) name ≡ false
    → need_of sized name len
    ≡ cell_words len + sum (map node_words (filter (λ prefix. not (is_among (nodes_of (names_in sized)) prefix)) (prefixes_of name)))

-- a name that is held needs no words
abbrev pub HeldNeedsNothing : Type 0
HeldNeedsNothing = (sized : List Sized) (name : List ℕ) (len : ℕ) → is_among (names_in sized) name ≡ true → need_of sized name len ≡ 0

-- a set of an absent name takes the words that it needs
abbrev pub AbsentTakesItsNeed : Type 0
AbsentTakesItsNeed =
    (p : Props) (name value : List ℕ) → is_absent (lookup_in p.held name) ≡ true
    → used_in (with_set p name value) ≡ used_in p + need_of (sizes_of p.held) name (length value)

-- a set of a name that is held takes no words, where both values are short
abbrev pub HeldTakesNothing : Type 0
HeldTakesNothing =
    (p : Props) (name value : List ℕ) (old : Property) → lookup_in p.held name ≡ Some old → length old.value ≤ 91 → length value ≤ 91
    → used_in (with_set p name value) ≡ used_in p

-- the text of a command names it, and no other command
abbrev pub EachWordHasItsText : Type 0
EachWordHasItsText = (word : Word) → word_of (word_text word) ≡ Some word
