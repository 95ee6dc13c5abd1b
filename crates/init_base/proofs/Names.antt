-- Names that are added one by one.
use Rattle.std.proofs.Common.{◌≡◌, ℕ, suc, ◌+◌, ◌<◌, ◌≤◌, add-one, length, drop, slice_index_or, sym, ap, ◌∙◌, Bool, true, false, cond, not, ◌&&◌, List, [], ◌∷◌, ◌++◌, refl, append_assoc, if◌then◌else◌}
use Rattle.std.proofs.Math.Seq.{drop-cons}
use Rattle.std.proofs.Math.ListN.{drop_of_length-le}
use Rattle.std.proofs.lemmas.List.{append-nil}
use Rattle.init_base.specs.Tree.{behind_dir, distinct_after, file_names, has_name, is_file_name, with_name}

-- the distinct names go on from a name that is added
add_case : (file seen : Bool) (names : List (List ℕ)) (name : List ℕ) (rest : List (List ℕ)) → has_name names name ≡ seen
    → (if file && not seen then names ++ name ∷ [] else names) ++ distinct_after (if file && not seen then names ++ name ∷ [] else names) rest
    ≡ names ++ distinct_after names (cond file (name ∷ rest) rest)
add_case false seen names name rest e = refl
add_case true true names name rest e = rw e refl
add_case true false names name rest e = rw e (append_assoc names (name ∷ []) _)

pub distinct_after_with_name : (names : List (List ℕ)) (name : List ℕ) (rest : List (List ℕ))
    → with_name names name ++ distinct_after (with_name names name) rest
    ≡ names ++ distinct_after names (cond (is_file_name name) (name ∷ rest) rest)
distinct_after_with_name names name rest = add_case (is_file_name name) (has_name names name) names name rest refl

after_entry : (names : List (List ℕ)) (dir : List ℕ) (entries : List (List ℕ × List ℕ)) (i : ℕ) (entry : List ℕ × List ℕ)
    → i < length entries
    → entry ≡ slice_index_or entries i entry
    → names ++ distinct_after names (file_names dir (drop i entries))
    ≡ names ++ distinct_after names (cond (is_file_name (behind_dir dir entry.0)) (behind_dir dir entry.0 ∷ file_names dir (drop (suc i) entries)) (file_names dir (drop (suc i) entries)))
after_entry names dir entries i entry below is =
    ap (λ rest. names ++ distinct_after names (file_names dir rest)) (drop-cons entries i entry below ∙ ap (λ x. x ∷ drop (suc i) entries) (sym is))

-- one turn of the loop over the entries
pub names_step : (names added : List (List ℕ)) (dir : List ℕ) (entries : List (List ℕ × List ℕ)) (i : ℕ) (entry : List ℕ × List ℕ) (all : List (List ℕ))
    → i < length entries
    → entry ≡ slice_index_or entries i entry
    → added ≡ with_name names (behind_dir dir entry.0)
    → names ++ distinct_after names (file_names dir (drop i entries)) ≡ all
    → added ++ distinct_after added (file_names dir (drop (i + 1) entries)) ≡ all
names_step names added dir entries i entry all below is more h =
    rw (more, add-one, distinct_after_with_name) (sym (after_entry names dir entries i entry below is) ∙ h)

pub names_end : (names : List (List ℕ)) (dir : List ℕ) (entries : List (List ℕ × List ℕ)) (i : ℕ) (all : List (List ℕ))
    → length entries ≤ i
    → names ++ distinct_after names (file_names dir (drop i entries)) ≡ all
    → names ≡ all
names_end names dir entries i all past h = sym (append-nil names) ∙ (rw (drop_of_length-le entries past) at h)
