-- Why a line of the contexts text is bad: NAME LABEL [exact|prefix] [TYPE].
use Rattle.std.specs.Prelude.{◌≡◌, ◌⊎◌, ℕ, ◌-◌, ◌==◌, Bool, false, not, ◌&&◌, ◌||◌, if◌then◌else◌, List, [], ◌∷◌, length, drop, take, slice_get, codes, is_some, Option, Some, None, option_map}
use Rattle.std.specs.List.{list_any, position}
use Rattle.std.specs.Option.{option_or}
use Rattle.std.specs.Str.{bytes_eq}
use Rattle.prop_contexts.specs.Contexts.{is_one_of, plain_type, scope_of}
use Rattle.prop_contexts.specs.Lines.{is_comment, words_of}
use Rattle.prop_contexts.specs.Grammar.{HasNoDefault, IsBadContext, IsRefused, IsTwice}
use Rattle.prop_contexts.specs.declared.refusal.PolicyRefusal.{PolicyRefusal}
use Rattle.prop_contexts.specs.declared.refusal.PolicyRefusal.TheVariants.{NoMemory}
use Rattle.script_lang.specs.Lines.{lines_of}
use Rattle.refusal_causes.specs.Misfits.{first_is, line_number}
use Rattle.refusal_causes.specs.declared.policy.cause.ContextCause.{ContextCause}
use Rattle.refusal_causes.specs.declared.policy.cause.ContextCause.TheVariants as cause

-- ---- one line

abbrev pub is_kind : List ℕ → Bool
is_kind word = is_some (scope_of word)

abbrev pub is_plain_type : List ℕ → Bool
is_plain_type word = is_some (plain_type word)

-- a type that checks nothing
abbrev pub is_unchecked_type : List ℕ → Bool
is_unchecked_type word = is_one_of (codes "string" ∷ codes "double" ∷ codes "size" ∷ []) word

-- a type other than `enum`, behind which so many words stand
abbrev pub plain_type_cause : List ℕ → ℕ → Option ContextCause
plain_type_cause word given =
    if is_plain_type word then (if given == 0 then None else Some (cause.TakesNoValues word given)) else Some (cause.UnknownType word)

abbrev pub enum_cause : List (List ℕ) → Option ContextCause
enum_cause [] = Some cause.NoValues
enum_cause (value ∷ values) = None

-- the words of a type
abbrev pub type_cause : List (List ℕ) → Option ContextCause
type_cause [] = None
type_cause (word ∷ values) = if bytes_eq word (codes "enum") then enum_cause values else plain_type_cause word (length values)

-- the words behind the label
abbrev pub tail_cause : List (List ℕ) → Option ContextCause
tail_cause [] = None
tail_cause (word ∷ words) = if is_kind word then type_cause words else Some (cause.UnknownKind word)

-- ---- lines of one name and one kind

-- whether the first of some words is `exact`; a line without a kind is for a prefix
abbrev pub is_exact : List (List ℕ) → Bool
is_exact words = first_is (λ word. bytes_eq word (codes "exact")) words

abbrev pub is_default_name : List ℕ → Bool
is_default_name name = bytes_eq name (codes "*")

abbrev pub same_kind : Bool → Bool → Bool
same_kind exact other = if exact then other else not other

abbrev pub is_same : List ℕ → Bool → List (List ℕ) → Bool
is_same name exact [] = false
is_same name exact (first ∷ rest) = bytes_eq first name && (is_default_name name || same_kind exact (is_exact (drop 1 rest)))

-- a line has this name and this kind; the kind of the line `*` says nothing
abbrev pub is_same_line : List ℕ → Bool → List ℕ → Bool
is_same_line name exact line = is_same name exact (words_of line)

abbrev pub is_default_line : List ℕ → Bool
is_default_line line = first_is is_default_name (words_of line)

abbrev pub twice_cause : List (List ℕ) → List ℕ → Bool → Option ContextCause
twice_cause before name exact = option_map (cause.Twice name) (option_map line_number (position (is_same_line name exact) before))

-- ---- a line behind others

-- a line of this name, by the words behind it: what is out of form, from the left, and then whether an earlier line is the same
abbrev pub named_cause : List (List ℕ) → List ℕ → List (List ℕ) → Option ContextCause
named_cause before name [] = Some (cause.NoLabel name)
named_cause before name (label ∷ tail) = option_or (tail_cause tail) (twice_cause before name (is_exact tail))

abbrev pub words_cause : List (List ℕ) → List (List ℕ) → Option ContextCause
words_cause before [] = None
words_cause before (name ∷ words) = if is_comment name then None else named_cause before name words

abbrev pub context_line_cause : List (List ℕ) → List ℕ → Option ContextCause
context_line_cause before line = words_cause before (words_of line)

-- where a line `*` would be the next one, and none is there
abbrev pub default_cause : List (List ℕ) → ℕ → Option ContextCause
default_cause lines place = if place == length lines && not (list_any is_default_line lines) then Some cause.NoDefault else None

abbrev pub cause_in : List (List ℕ) → ℕ → Option (List ℕ) → Option ContextCause
cause_in lines place None = default_cause lines place
cause_in lines place (Some line) = context_line_cause (take place lines) line

-- the cause of the line with this number, from 1. None where it isn't bad.
abbrev pub numbered_context_cause : List ℕ → ℕ → Option ContextCause
numbered_context_cause bytes number = let lines = lines_of bytes in cause_in lines (number - 1) (slice_get lines (number - 1))

-- the line with this number is the first that is wrong in the contexts text; or there is none for `*`, and it would be the next
abbrev pub IsBadContexts : List ℕ → ℕ → Type 0
IsBadContexts contexts number = IsBadContext contexts number ⊎ IsTwice contexts number ⊎ HasNoDefault contexts number

-- and this is why
pub record IsContextCause (contexts : List ℕ) (number : ℕ) (why : ContextCause) : Type 0 where
  pub bad : IsBadContexts contexts number
  pub cause_is : numbered_context_cause contexts number ≡ Some why

-- the texts are refused by nothing but want of memory
abbrev pub IsUnrefused : List ℕ → List ℕ → Type 0
IsUnrefused contexts allow = (why : PolicyRefusal) → IsRefused contexts allow why → why ≡ NoMemory
