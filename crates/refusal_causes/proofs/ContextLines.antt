-- What a line of the contexts text gives, by its words.
use Rattle.std.proofs.Common.{◌≡◌, ◌≢◌, ℕ, ◌==◌, Bool, true, false, cond, ◌&&◌, ◌||◌, List, [], ◌∷◌, length, drop, codes, is_some, Option, Some, None, refl, sym, ap, ◌∙◌, arith, subst, ◌⊎◌, inl, inr}
use Rattle.std.specs.List.{flat_map, list_any}
use Rattle.std.specs.Str.{bytes_eq}
use Rattle.std.proofs.lemmas.Bool.{eqb-true, or_cases, or_left, or_right}
use Rattle.std.proofs.lemmas.Grind.{flat_map-append}
use Rattle.std.proofs.lemmas.List.Folds.{list_any-append}
use Rattle.init_machine.specs.Policy.{ContextLine, is_line_for}
use Rattle.init_machine.specs.declared.policy.Context.{Context}
use Rattle.init_machine.specs.declared.type_kind.TypeKind.{TypeKind}
use Rattle.init_machine.specs.declared.type_kind.TypeKind.TheVariants as kind
use Rattle.init_machine.proofs.DistinctSums.{bytes_eq-refl, same_bytes}
use Rattle.prop_contexts.specs.Contexts.{ScopedLine, default_contexts, default_in, exact_in, kind_of, line_of, line_with, plain_type, prefix_in, read_in, reading_of, reading_of_words, scope_for, scope_of, scoped_lines, type_of, type_with}
use Rattle.prop_contexts.specs.Given.{first_of, given_by, has_for}
use Rattle.prop_contexts.specs.Grammar.{is_formed}
use Rattle.prop_contexts.specs.Lines.{is_comment, words_of}
use Rattle.prop_contexts.specs.declared.line.Reading.{Reading}
use Rattle.prop_contexts.specs.declared.line.Reading.TheVariants.{Skipped, Bad, Read}
use Rattle.prop_contexts.specs.declared.context_line.Scope.{Scope}
use Rattle.prop_contexts.specs.declared.context_line.Scope.TheVariants.{Default, Exact, Prefix}
use Rattle.prop_contexts.proofs.Steps.{formed_in}
use Rattle.std.specs.Cmp.{first_so, second_so}
use Rattle.refusal_causes.specs.Misfits.{first_is}
use Rattle.refusal_causes.specs.Contexts.{enum_cause, is_default_line, is_default_name, is_exact, is_same, is_same_line, plain_type_cause, same_kind, tail_cause, type_cause}
use Rattle.refusal_causes.specs.declared.policy.cause.ContextCause.TheVariants as cause

-- ---- words without a cause are a line

plain_there : (word : List ℕ) → plain_type_cause word 0 ≡ None → is_some (plain_type word) ≡ true
plain_there word h =
    elim (is_some (plain_type word)) as (λ t. cond t (cond (0 == 0) None (Some (cause.TakesNoValues word 0))) (Some (cause.UnknownType word)) ≡ None → t ≡ true) [
      | true ↦ λ none. refl
      | false ↦ λ none. cc
    ] h

none_with_values : (word v : List ℕ) (vs : List (List ℕ)) → plain_type_cause word (length (v ∷ vs)) ≡ None → ⊥
none_with_values word v vs h =
    elim (is_some (plain_type word)) as (λ t. cond t (cond (length (v ∷ vs) == 0) None (Some (cause.TakesNoValues word (length (v ∷ vs))))) (Some (cause.UnknownType word)) ≡ None → ⊥) [
      | true ↦ λ none.
          elim (length (v ∷ vs) == 0) as (λ t. (length (v ∷ vs) == 0) ≡ t → cond t None (Some (cause.TakesNoValues word (length (v ∷ vs)))) ≡ None → ⊥) [
            | true ↦ λ same some. omega (arith, eqb-true (length (v ∷ vs)) 0 same)
            | false ↦ λ other some. cc
          ] refl none
      | false ↦ λ none. cc
    ] h

type_there : (words : List (List ℕ)) → type_cause words ≡ None → is_some (type_of words) ≡ true
type_there [] h = refl
type_there (word ∷ []) h =
    elim (bytes_eq word (codes "enum")) as (λ t. cond t (enum_cause []) (plain_type_cause word 0) ≡ None → is_some (type_with word []) ≡ true) [
      | true ↦ λ none. cc
      | false ↦ λ none. plain_there word none
    ] h
type_there (word ∷ v ∷ vs) h =
    elim (bytes_eq word (codes "enum")) as (λ t. cond t (enum_cause (v ∷ vs)) (plain_type_cause word (length (v ∷ vs))) ≡ None → is_some (cond t (Some (kind.Enum (v ∷ vs))) None) ≡ true) [
      | true ↦ λ none. refl
      | false ↦ λ none. absurd (none_with_values word v vs none)
    ] h

-- the kind and the type are there
pub tail_there : (words : List (List ℕ)) → tail_cause words ≡ None → (is_some (kind_of words) ≡ true) × (is_some (type_of (drop 1 words)) ≡ true)
tail_there [] h = (refl, refl)
tail_there (word ∷ words) h =
    elim (is_some (scope_of word)) as (λ t. cond t (type_cause words) (Some (cause.UnknownKind word)) ≡ None → (t ≡ true) × (is_some (type_of words) ≡ true)) [
      | true ↦ λ none. (refl, type_there words none)
      | false ↦ λ none. cc
    ] h

line_there : (name label : List ℕ) (scope : Option Scope) (kind : Option TypeKind) → is_some scope ≡ true → is_some kind ≡ true → line_with name label scope kind ≢ Bad
line_there name label None kind first second bad = cc
line_there name label (Some s) None first second bad = cc
line_there name label (Some s) (Some k) first second bad = cc

-- a line of this name is of no form only where what stands behind its label has a cause
pub bad_has_cause : (name label : List ℕ) (tail : List (List ℕ)) → line_of name (label ∷ tail) ≡ Bad → is_some (tail_cause tail) ≡ true
bad_has_cause name label tail bad =
    elim (tail_cause tail) as (λ o. tail_cause tail ≡ o → is_some o ≡ true) [
      | Some why ↦ λ e. refl
      | None ↦ λ e. let both = tail_there tail e in absurd (line_there name label (kind_of tail) (type_of (drop 1 tail)) both.0 both.1 bad)
    ] refl

-- ---- a line that was read

-- what the words of a line say of its scope: the name is `*`, or its kind is exact, or it isn't
abbrev pub ScopeIs : Scope → List ℕ → Bool → Type 0
ScopeIs Default name exact = is_default_name name ≡ true
ScopeIs Exact name exact = exact ≡ true
ScopeIs Prefix name exact = exact ≡ false

pub record IsReadLine (words : List (List ℕ)) (line : ScopedLine) : Type 0 where
  pub label : List ℕ
  pub tail : List (List ℕ)
  pub words_are : words ≡ line.line.name ∷ label ∷ tail
  pub no_comment : is_comment line.line.name ≡ false
  pub scope_is : ScopeIs line.scope line.line.name (is_exact tail)
  pub default_is : is_default_name line.line.name ≡ true → line.scope ≡ Default

-- the kind as it is written
abbrev KindIs : Scope → Bool → Type 0
KindIs Default exact = ⊥
KindIs Exact exact = exact ≡ true
KindIs Prefix exact = exact ≡ false

kind_is : (tail : List (List ℕ)) (scope : Scope) → kind_of tail ≡ Some scope → KindIs scope (is_exact tail)
kind_is [] scope e = let same : Prefix ≡ scope = cc in subst (λ s. KindIs s false) same refl
kind_is (word ∷ words) scope e =
    elim (bytes_eq word (codes "exact")) as (λ t. cond t (Some Exact) (cond (bytes_eq word (codes "prefix")) (Some Prefix) None) ≡ Some scope → KindIs scope t) [
      | true ↦ λ is. let same : Exact ≡ scope = cc in subst (λ s. KindIs s true) same refl
      | false ↦ λ is.
          elim (bytes_eq word (codes "prefix")) as (λ t. cond t (Some Prefix) None ≡ Some scope → KindIs scope false) [
            | true ↦ λ so. let same : Prefix ≡ scope = cc in subst (λ s. KindIs s false) same refl
            | false ↦ λ so. cc
          ] is
    ] e

as_written : (name : List ℕ) (exact : Bool) (scope : Scope) → KindIs scope exact → ScopeIs scope name exact
as_written name exact Default k = absurd k
as_written name exact Exact k = k
as_written name exact Prefix k = k

scoped : (name : List ℕ) (exact : Bool) (scope : Scope) → KindIs scope exact → ScopeIs (scope_for name scope) name exact
scoped name exact scope k =
    elim (bytes_eq name (codes "*")) as (λ t. bytes_eq name (codes "*") ≡ t → ScopeIs (cond t Default scope) name exact) [
      | true ↦ λ is. is
      | false ↦ λ isnt. as_written name exact scope k
    ] refl

with_parts : (name label : List ℕ) (tail : List (List ℕ)) (line : ScopedLine) → is_comment name ≡ false → (scope : Option Scope) → kind_of tail ≡ scope
    → (kind : Option TypeKind) → line_with name label scope kind ≡ Read line → IsReadLine (name ∷ label ∷ tail) line
with_parts name label tail line plain None e kind h = cc
with_parts name label tail line plain (Some s) e None h = cc
with_parts name label tail line plain (Some s) e (Some k) h =
    let own : ScopedLine = record { scope = scope_for name s; line = record { name = name; context = record { label = label; kind = k } } } in
    let same : own ≡ line = cc in
    subst (IsReadLine (name ∷ label ∷ tail)) same (record {
      label = label;
      tail = tail;
      words_are = refl;
      no_comment = plain;
      scope_is = scoped name (is_exact tail) s (kind_is tail s e);
      default_is = λ is. ap (λ t. cond t Default s) is;
    })

pub read_line : (words : List (List ℕ)) (line : ScopedLine) → reading_of_words words ≡ Read line → IsReadLine words line
read_line [] line h = cc
read_line (name ∷ []) line h = elim (is_comment name) as (λ t. cond t Skipped Bad ≡ Read line → IsReadLine (name ∷ []) line) [ true ↦ λ e. cc | false ↦ λ e. cc ] h
read_line (name ∷ label ∷ tail) line h =
    elim (is_comment name) as (λ t. is_comment name ≡ t → cond t Skipped (line_with name label (kind_of tail) (type_of (drop 1 tail))) ≡ Read line → IsReadLine (name ∷ label ∷ tail) line) [
      | true ↦ λ comment e. cc
      | false ↦ λ plain e. with_parts name label tail line plain (kind_of tail) refl (type_of (drop 1 tail)) e
    ] refl h

-- ---- an earlier line

both_true : (a b : Bool) → a ≡ true → b ≡ true → (a && b) ≡ true
both_true true b first second = second
both_true false b first second = cc

-- each line that gives something that passes passes
abbrev Passes : {X : Type 0} → (X → Bool) → (ScopedLine → List X) → (List ℕ → Bool) → Type 0
Passes t g q = (line : List ℕ) (l : ScopedLine) → reading_of line ≡ Read l → list_any t (g l) ≡ true → q line ≡ true

first_given : {X : Type 0} (t : X → Bool) (g : ScopedLine → List X) (q : List ℕ → Bool) → Passes t g q → (line : List ℕ) (r : Reading ScopedLine) → reading_of line ≡ r
    → list_any t (flat_map g (read_in r)) ≡ true → q line ≡ true
first_given t g q passes line Skipped e h = cc
first_given t g q passes line Bad e h = cc
first_given t g q passes line (Read l) e h = elim (or_cases (list_any t (g l)) false (sym (list_any-append t (g l) []) ∙ h)) [
  | inl here ↦ passes line l e here
  | inr later ↦ cc
]

any_given : {X : Type 0} (t : X → Bool) (g : ScopedLine → List X) (q : List ℕ → Bool) → Passes t g q → (lines : List (List ℕ))
    → list_any t (flat_map g (scoped_lines lines)) ≡ true → list_any q lines ≡ true
any_given t g q passes [] h = cc
any_given t g q passes (line ∷ lines) h =
    elim (or_cases (list_any t (flat_map g (read_in (reading_of line)))) (list_any t (flat_map g (scoped_lines lines)))
    (sym (list_any-append t (flat_map g (read_in (reading_of line))) (flat_map g (scoped_lines lines)))
    ∙ sym (ap (list_any t) (flat_map-append g (read_in (reading_of line)) (scoped_lines lines))) ∙ h)) [
      | inl here ↦ or_left (q line) (list_any q lines) (first_given t g q passes line (reading_of line) refl here)
      | inr later ↦ or_right (q line) (list_any q lines) (any_given t g q passes lines later)
    ]

same_names : (name other : List ℕ) → is_default_name name ≡ true → is_default_name other ≡ true → bytes_eq other name ≡ true
same_names name other first second =
    let one : name ≡ codes "*" = same_bytes name (codes "*") first in
    let two : other ≡ codes "*" = same_bytes other (codes "*") second in
    ap (λ x. bytes_eq other x) one ∙ ap (λ x. bytes_eq x (codes "*")) two

kinds_same : (a b : Bool) → a ≡ b → same_kind a b ≡ true
kinds_same true true e = refl
kinds_same false false e = refl
kinds_same true false e = cc
kinds_same false true e = cc

-- a line that was read has this name and this kind
is_same_read : (name : List ℕ) (exact : Bool) (words : List (List ℕ)) (l : ScopedLine) (read : IsReadLine words l) → bytes_eq l.line.name name ≡ true
    → (is_default_name name ≡ true) ⊎ (exact ≡ is_exact read.tail) → is_same name exact words ≡ true
is_same_read name exact words l read same how =
    ap (is_same name exact) read.words_are
    ∙ both_true (bytes_eq l.line.name name) (is_default_name name || same_kind exact (is_exact read.tail)) same (elim how [
      | inl default ↦ or_left (is_default_name name) (same_kind exact (is_exact read.tail)) default
      | inr kinds ↦ or_right (is_default_name name) (same_kind exact (is_exact read.tail)) (kinds_same exact (is_exact read.tail) kinds)
    ])

abbrev pub any_context : Context → Bool
any_context context = true

default_given : (scope : Scope) (context : Context) → list_any any_context (default_in scope context) ≡ true → scope ≡ Default
default_given Default context h = refl
default_given Exact context h = cc
default_given Prefix context h = cc

exact_given : (name : List ℕ) (scope : Scope) (line : ContextLine) → list_any (is_line_for name) (exact_in scope line) ≡ true
    → (scope ≡ Exact) × (bytes_eq name line.name ≡ true)
exact_given name Default line h = cc
exact_given name Exact line h = elim (or_cases (bytes_eq name line.name) false h) [ inl is ↦ (refl, is) | inr isnt ↦ cc ]
exact_given name Prefix line h = cc

prefix_given : (name : List ℕ) (scope : Scope) (line : ContextLine) → list_any (is_line_for name) (prefix_in scope line) ≡ true
    → (scope ≡ Prefix) × (bytes_eq name line.name ≡ true)
prefix_given name Default line h = cc
prefix_given name Exact line h = cc
prefix_given name Prefix line h = elim (or_cases (bytes_eq name line.name) false h) [ inl is ↦ (refl, is) | inr isnt ↦ cc ]

turned : (a b : List ℕ) → bytes_eq a b ≡ true → bytes_eq b a ≡ true
turned a b h = let same : a ≡ b = same_bytes a b h in ap (λ x. bytes_eq b x) same ∙ bytes_eq-refl b

default_passes : (name : List ℕ) (exact : Bool) → is_default_name name ≡ true → Passes any_context (λ l. default_in l.scope l.line.context) (is_same_line name exact)
default_passes name exact is line l e any =
    let read = read_line (words_of line) l e in
    let default : is_default_name l.line.name ≡ true = subst (λ s. ScopeIs s l.line.name (is_exact read.tail)) (default_given l.scope l.line.context any) read.scope_is in
    is_same_read name exact (words_of line) l read (same_names name l.line.name is default) (inl is)

exact_passes : (name : List ℕ) (exact : Bool) → exact ≡ true → Passes (is_line_for name) (λ l. exact_in l.scope l.line) (is_same_line name exact)
exact_passes name exact is line l e any =
    let read = read_line (words_of line) l e in
    let given = exact_given name l.scope l.line any in
    let kind : is_exact read.tail ≡ true = subst (λ s. ScopeIs s l.line.name (is_exact read.tail)) given.0 read.scope_is in
    is_same_read name exact (words_of line) l read (turned name l.line.name given.1) (inr (is ∙ sym kind))

prefix_passes : (name : List ℕ) (exact : Bool) → exact ≡ false → Passes (is_line_for name) (λ l. prefix_in l.scope l.line) (is_same_line name exact)
prefix_passes name exact is line l e any =
    let read = read_line (words_of line) l e in
    let given = prefix_given name l.scope l.line any in
    let kind : is_exact read.tail ≡ false = subst (λ s. ScopeIs s l.line.name (is_exact read.tail)) given.0 read.scope_is in
    is_same_read name exact (words_of line) l read (turned name l.line.name given.1) (inr (is ∙ sym kind))

first_any : (contexts : List Context) → is_some (first_of contexts) ≡ true → list_any any_context contexts ≡ true
first_any [] h = cc
first_any (c ∷ cs) h = refl

-- where lines give one of this name and kind, one of them has them
pub earlier_same : (lines : List (List ℕ)) (name : List ℕ) (exact : Bool) (scope : Scope) → ScopeIs scope name exact → has_for (given_by lines) scope name ≡ true
    → list_any (is_same_line name exact) lines ≡ true
earlier_same lines name exact Default is h =
    any_given any_context (λ l. default_in l.scope l.line.context) (is_same_line name exact) (default_passes name exact is) lines (first_any (default_contexts lines) h)
earlier_same lines name exact Exact is h =
    any_given (is_line_for name) (λ l. exact_in l.scope l.line) (is_same_line name exact) (exact_passes name exact is) lines h
earlier_same lines name exact Prefix is h =
    any_given (is_line_for name) (λ l. prefix_in l.scope l.line) (is_same_line name exact) (prefix_passes name exact is) lines h

-- ---- a line for `*`

line_not_skipped : (name label : List ℕ) (scope : Option Scope) (kind : Option TypeKind) → line_with name label scope kind ≢ Skipped
line_not_skipped name label None kind e = cc
line_not_skipped name label (Some s) None e = cc
line_not_skipped name label (Some s) (Some k) e = cc

plain_default : (name : List ℕ) → is_default_name name ≡ true → is_comment name ≡ false
plain_default name is = ap is_comment (same_bytes name (codes "*") is)

not_skipped : (words : List (List ℕ)) → first_is is_default_name words ≡ true → reading_of_words words ≢ Skipped
not_skipped [] is e = cc
not_skipped (name ∷ []) is e =
    let none : cond false Skipped Bad ≡ Skipped = sym (ap (λ t. cond t Skipped Bad) (plain_default name is)) ∙ e in
    cc
not_skipped (name ∷ label ∷ tail) is e =
    line_not_skipped name label (kind_of tail) (type_of (drop 1 tail))
    (sym (ap (λ t. cond t Skipped (line_with name label (kind_of tail) (type_of (drop 1 tail)))) (plain_default name is)) ∙ e)

-- a line for `*` that is of a form gives the default
default_line : (line : List ℕ) (r : Reading ScopedLine) → reading_of line ≡ r → is_formed r ≡ true → is_default_line line ≡ true
    → list_any any_context (flat_map (λ l. default_in l.scope l.line.context) (read_in r)) ≡ true
default_line line Skipped e formed is = absurd (not_skipped (words_of line) is e)
default_line line Bad e formed is = cc
default_line line (Read l) e formed is =
    let read = read_line (words_of line) l e in
    let default : is_default_name l.line.name ≡ true = sym (ap (first_is is_default_name) read.words_are) ∙ is in
    list_any-append any_context (default_in l.scope l.line.context) []
    ∙ or_left (list_any any_context (default_in l.scope l.line.context)) false (ap (λ s. list_any any_context (default_in s l.line.context)) (read.default_is default))

pub any_default : (lines : List (List ℕ)) → formed_in lines ≡ true → list_any is_default_line lines ≡ true → list_any any_context (default_contexts lines) ≡ true
any_default [] formed h = cc
any_default (line ∷ lines) formed h =
    ap (list_any any_context) (flat_map-append (λ l. default_in l.scope l.line.context) (read_in (reading_of line)) (scoped_lines lines))
    ∙ list_any-append any_context (flat_map (λ l. default_in l.scope l.line.context) (read_in (reading_of line))) (default_contexts lines)
    ∙ elim (or_cases (is_default_line line) (list_any is_default_line lines) h) as (λ e.
    (list_any any_context (flat_map (λ l. default_in l.scope l.line.context) (read_in (reading_of line))) || list_any any_context (default_contexts lines)) ≡ true) [
      | inl here ↦
          or_left (list_any any_context (flat_map (λ l. default_in l.scope l.line.context) (read_in (reading_of line)))) (list_any any_context (default_contexts lines))
          (default_line line (reading_of line) refl (first_so (is_formed (reading_of line)) (formed_in lines) formed) here)
      | inr later ↦
          or_right (list_any any_context (flat_map (λ l. default_in l.scope l.line.context) (read_in (reading_of line)))) (list_any any_context (default_contexts lines))
          (any_default lines (second_so (is_formed (reading_of line)) (formed_in lines) formed) later)
    ]
