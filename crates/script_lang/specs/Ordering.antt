-- How the code tells which statements fit. No promise of the crate cites these definitions.
use Rattle.std.specs.Prelude.{◌≡◌, ℕ, ◌+◌, Bool, ◌&&◌, List, [], ◌∷◌, ◌++◌, length, count_by, Option, Some, None, if◌then◌else◌}
use Rattle.std.specs.Borrow.{Bor}
use Rattle.std.specs.HashSet.{HashSet, contains_by}
use Rattle.std.specs.List.{list_any}
use Rattle.std.specs.Str.{bytes_eq}
use Rattle.std.specs.declared.hash.BuildHasherDefault.{BuildHasherDefault}
use Rattle.std.specs.declared.hash.FoldHasher.{FoldHasher}
use Rattle.script_lang.specs.Script.{fits, is_act, is_area, is_client, is_client_named, is_plan_of, reading_fits, statements_in}
use Rattle.script_lang.specs.Sets.{only_sets}
use Rattle.script_lang.specs.Statements.{reading_of}
use Rattle.script_lang.specs.declared.order.Order.{Order}
use Rattle.script_lang.specs.declared.statement.Said.{Said}
use Rattle.script_lang.specs.declared.statement.Statement.{Statement}

-- the line of the first statement that doesn't fit behind those before it
abbrev pub first_unfit : List Statement → List Said → Option ℕ
first_unfit before [] = None
first_unfit before (said ∷ more) =
    let later = first_unfit (before ++ said.statement ∷ []) more in
    if fits before said.statement then later else Some said.line

-- the line of the first statement that doesn't fit behind those before it where clients only set
abbrev pub first_unfit_of_sets : List Statement → List Said → Option ℕ
first_unfit_of_sets before [] = None
first_unfit_of_sets before (said ∷ more) =
    let later = first_unfit_of_sets (before ++ said.statement ∷ []) more in
    if fits before said.statement && only_sets said.statement then later else Some said.line

-- whether a set of paths has this one
abbrev pub has_path : HashSet (Bor (List ℕ)) (BuildHasherDefault FoldHasher) → List ℕ → Bool
has_path paths path = contains_by (λ key. bytes_eq path key.now) paths

-- what was seen of the statements before
pub record Seen (order : Order) (before : List Statement) : Type 0 where
  pub area : order.has_area ≡ list_any is_area before
  pub act : order.has_act ≡ list_any is_act before
  pub paths : (path : List ℕ) → has_path order.paths path ≡ list_any (is_plan_of path) before
  pub names : (name : List ℕ) → list_any (λ other. bytes_eq other.now name) order.names.items ≡ list_any (is_client_named name) before
  pub count : length order.names.items ≡ count_by is_client before

abbrev pub misfit_in : List Statement → ℕ → Option (Option Statement) → Option ℕ → Option ℕ
misfit_in before number reading later = if reading_fits before reading then later else Some number

-- the number of the first line that doesn't fit behind the lines before it, which say this, where the first of these lines
-- has this number
abbrev pub first_misfit : List Statement → ℕ → List (List ℕ) → Option ℕ
first_misfit before number [] = None
first_misfit before number (line ∷ lines) =
    misfit_in before number (reading_of line) (first_misfit (before ++ statements_in (reading_of line)) (number + 1) lines)
