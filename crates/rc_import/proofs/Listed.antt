-- What a listing tells of a directory.
use Rattle.std.proofs.Common.{◌≡◌, ℕ, ◌≤◌, List, length, Option, Some, None, Ok, subst, ◌∙◌, arith}
use Rattle.std.proofs.lemmas.List.Sorted.{length_permutation}
use Rattle.init_base.specs.Outside.{ListsFew, ListsNames}
use Rattle.init_base.specs.Tree.{names_in}
use Rattle.rc_import.specs.Names.{in_byte_order}
use Rattle.rc_import.specs.internal.Listings.{ListsInOrder}
use Rattle.rc_import.proofs.Sorted.{same_order}

listed_names : (tree : Option (List (List ℕ × List ℕ))) (dir : List ℕ) (names sorted : List (List ℕ)) → ListsNames tree dir (Ok (Some names)) → length names ≤ 1024
    → sorted ≡ in_byte_order names → ListsInOrder tree dir (Ok (Some sorted))
listed_names None dir names sorted told few is = tt
listed_names (Some tree) dir names sorted told few is = record {
  is_one = told.0;
  ordered = is ∙ same_order (names_in tree dir) names told.1;
  few = omega (arith, few, length_permutation (names_in tree dir) names told.1);
}

pub listed : (tree : Option (List (List ℕ × List ℕ))) (asked dir : List ℕ) (found : Option (List (List ℕ))) (names sorted : List (List ℕ)) → asked ≡ dir → found ≡ Some names
    → ListsNames tree asked (Ok found) → ListsFew (Ok found) → sorted ≡ in_byte_order names → ListsInOrder tree dir (Ok (Some sorted))
listed tree asked dir found names sorted same some told few is =
    listed_names tree dir names sorted
    (subst (λ d. ListsNames tree d (Ok (Some names))) same (subst (λ f. ListsNames tree asked (Ok f)) some told))
    (subst (λ (f : Option (List (List ℕ))). ListsFew (Ok f)) some few) is
