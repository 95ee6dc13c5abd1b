-- The lines of files that are read again.
use Rattle.std.proofs.Common.{◌≡◌, ℕ, ◌<◌, ◌≤◌, List, [], length, Option, Some, None, Ok, Err, sym, subst, ap, ◌∙◌, arith}
use Rattle.std.specs.Prelude.{IsSomeAnd, if◌then◌else◌, nat_lt}
use Rattle.std.proofs.lemmas.Bool.Decides.{nat_tests}
use Rattle.init_base.specs.Outside.{ReadsFile}
use Rattle.init_base.specs.Tree.{file_at}
use Rattle.init_base.specs.declared.outside.refusal.ReadRefusal.TheVariants as reading
use Rattle.rc_tokens.specs.Lines.{Line, Lines}
use Rattle.lint_sources.specs.Loads.{Tree}
use Rattle.lint_sources.specs.Told.{IsTold, Told, lines_at, lines_of}

within : (n : ℕ) (some : List Line) → (1048576 < n → ⊥) → (if nat_lt 1048576 n then [] else some) ≡ some
within n some short =
    let few : n ≤ 1048576 = omega (arith, short) in
    grind (arith, nat_tests)

past : (n : ℕ) (some : List Line) → 1048576 < n → (if nat_lt 1048576 n then [] else some) ≡ []
past n some long = grind (arith, nat_tests)

pub lines_spelled : (told : Told) (tree : Tree) (bytes : List ℕ) (lines : List Line) (dropped : Option ℕ)
    → IsTold (Some tree) told
    → ((others : List Line) (other : Option ℕ) → Lines bytes others other → (lines ≡ others) × (dropped ≡ other))
    → (1048576 < length bytes → ⊥)
    → lines ≡ lines_of told (Some bytes)
lines_spelled told tree bytes lines dropped is only short =
    let spelled = is.lines_are bytes in
    (only (told.spelled bytes) spelled.0 spelled.1).0 ∙ sym (within (length bytes) (told.spelled bytes) short)

pub lines_past : (told : Told) (bytes : List ℕ) (lines : List Line) → lines ≡ [] → 1048576 < length bytes → lines ≡ lines_of told (Some bytes)
lines_past told bytes lines none long = none ∙ sym (past (length bytes) (told.spelled bytes) long)

pub lines_there : (told : Option Tree) (this : Told) (path text : List ℕ) (lines : List Line)
    → IsTold told this → ReadsFile told path 1048576 (Ok (Some text))
    → ((tree : Tree) → IsTold (Some tree) this → lines ≡ lines_of this (Some text))
    → lines ≡ lines_at this path
lines_there told this path text lines is reads spelled =
    let same = is.world_is.tree_is in
    let there : file_at this.world.tree path ≡ Some text = subst (λ (t : Option Tree). ReadsFile t path 1048576 (Ok (Some text))) same reads in
    spelled this.world.tree (subst (λ (t : Option Tree). IsTold t this) same is) ∙ ap (lines_of this) (sym there)

pub lines_absent : (told : Option Tree) (this : Told) (path : List ℕ) (lines : List Line)
    → IsTold told this → ReadsFile told path 1048576 (Ok None) → lines ≡ [] → lines ≡ lines_at this path
lines_absent told this path lines is reads none =
    let there : file_at this.world.tree path ≡ None = subst (λ (t : Option Tree). ReadsFile t path 1048576 (Ok None)) is.world_is.tree_is reads in
    none ∙ ap (lines_of this) (sym there)

none_of_long : (this : Told) (file : Option (List ℕ)) → IsSomeAnd file (λ bytes. 1048576 < length bytes) → [] ≡ lines_of this file
none_of_long this None long = absurd long
none_of_long this (Some bytes) long = sym (past (length bytes) (this.spelled bytes) long)

pub lines_long : (told : Option Tree) (this : Told) (path : List ℕ) (lines : List Line)
    → IsTold told this → ReadsFile told path 1048576 (Err reading.TooLarge) → lines ≡ [] → lines ≡ lines_at this path
lines_long told this path lines is reads none =
    let long : IsSomeAnd (file_at this.world.tree path) (λ bytes. 1048576 < length bytes) =
    subst (λ (t : Option Tree). ReadsFile t path 1048576 (Err reading.TooLarge)) is.world_is.tree_is reads in
    none ∙ none_of_long this (file_at this.world.tree path) long
