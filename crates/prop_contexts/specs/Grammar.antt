-- Which texts are a policy, and why others aren't: the first line that doesn't fit.
use Rattle.std.specs.Prelude.{◌≡◌, ℕ, ◌+◌, ⊤, Bool, true, false, IsTrue, not, ◌&&◌, nat_le, List, [], ◌∷◌, ◌++◌, length}
use Rattle.std.specs.List.{list_all, list_any}
use Rattle.init_machine.specs.Policy.{ContextLine, PolicyLines, is_line_for}
use Rattle.init_base.specs.Lines.{lines_of}
use Rattle.prop_contexts.specs.Contexts.{reading_of, default_contexts, exact_lines, prefix_lines}
use Rattle.prop_contexts.specs.Allows.{allow_of, allow_lines}
use Rattle.prop_contexts.specs.declared.line.Reading.{Reading}
use Rattle.prop_contexts.specs.declared.line.Reading.TheVariants.{Skipped, Bad, Read}
use Rattle.prop_contexts.specs.declared.refusal.PolicyRefusal.{PolicyRefusal}
use Rattle.prop_contexts.specs.declared.refusal.PolicyRefusal.TheVariants as refusal

-- a line of some form, or one that says nothing
abbrev pub is_formed : {A : Type 0} → Reading A → Bool
is_formed Skipped = true
is_formed Bad = false
is_formed (Read line) = true

-- no two have one name
abbrev pub names_differ : List ContextLine → Bool
names_differ [] = true
names_differ (line ∷ lines) = not (list_any (λ other. is_line_for other.name line) lines) && names_differ lines

-- lines of the contexts text that can stand together: each is of a form, and no two have one name and one kind; of the
-- lines `*` there is one at most
abbrev pub contexts_fit : List (List ℕ) → Bool
contexts_fit lines =
    list_all (λ line. is_formed (reading_of line)) lines
    && nat_le (length (default_contexts lines)) 1
    && names_differ (exact_lines lines)
    && names_differ (prefix_lines lines)

-- lines of the allow text
abbrev pub allows_fit : List (List ℕ) → Bool
allows_fit lines = list_all (λ line. is_formed (allow_of line)) lines

-- the texts are a policy of these lines
pub record IsPolicy (contexts allow : List ℕ) (policy : PolicyLines) : Type 0 where
  pub contexts_are_fit : IsTrue (contexts_fit (lines_of contexts))
  pub default : default_contexts (lines_of contexts) ≡ policy.default ∷ []
  pub exact : exact_lines (lines_of contexts) ≡ policy.exact
  pub prefixes : prefix_lines (lines_of contexts) ≡ policy.prefixes
  pub allows_are_fit : IsTrue (allows_fit (lines_of allow))
  pub allows : allow_lines (lines_of allow) ≡ policy.allows

-- the first line, with its number from 1, with which lines don't fit: those in front of it do
pub record IsFirstUnfit (fit : List (List ℕ) → Bool) (lines : List (List ℕ)) (number : ℕ) (line : List ℕ) : Type 0 where
  pub front : List (List ℕ)
  pub behind : List (List ℕ)
  pub place : lines ≡ front ++ line ∷ behind
  pub number_is : number ≡ length front + 1
  pub front_fits : IsTrue (fit front)
  pub unfit : fit (front ++ line ∷ []) ≡ false

-- a line of the contexts text is of no form
abbrev pub IsBadContext : List ℕ → ℕ → Type 0
IsBadContext contexts number =
    (line : List ℕ) × IsFirstUnfit contexts_fit (lines_of contexts) number line × (is_formed (reading_of line) ≡ false)

-- a line of the contexts text has the name and the kind of an earlier one
abbrev pub IsTwice : List ℕ → ℕ → Type 0
IsTwice contexts number =
    (line : List ℕ) × IsFirstUnfit contexts_fit (lines_of contexts) number line × (is_formed (reading_of line) ≡ true)

-- the contexts text has no line `*`: it would be the next one
pub record HasNoDefault (contexts : List ℕ) (number : ℕ) : Type 0 where
  pub fit : IsTrue (contexts_fit (lines_of contexts))
  pub none : default_contexts (lines_of contexts) ≡ []
  pub number_is : number ≡ length (lines_of contexts) + 1

-- nothing is wrong in the contexts text
pub record AreContexts (contexts : List ℕ) : Type 0 where
  pub fit : IsTrue (contexts_fit (lines_of contexts))
  pub one : length (default_contexts (lines_of contexts)) ≡ 1

-- a line of the allow text is of no form
pub record IsBadAllow (contexts allow : List ℕ) (number : ℕ) : Type 0 where
  pub whole : AreContexts contexts
  pub line : List ℕ
  pub unfit : IsFirstUnfit allows_fit (lines_of allow) number line

-- why the texts are no policy; want of memory is free
abbrev pub IsRefused : List ℕ → List ℕ → PolicyRefusal → Type 0
IsRefused contexts allow (refusal.BadLine false line) = IsBadContext contexts line
IsRefused contexts allow (refusal.BadLine true line) = IsBadAllow contexts allow line
IsRefused contexts allow (refusal.Twice line) = IsTwice contexts line
IsRefused contexts allow (refusal.NoDefault line) = HasNoDefault contexts line
IsRefused contexts allow refusal.NoMemory = ⊤
