-- The policy of property sets: which context a property has, and which domains may set it (AOSP, property_contexts and the
-- property service; the file forms are this project's profile).
use Rattle.std.specs.Prelude.{ℕ, Bool, ◌&&◌, nat_eq, nat_lt, if◌then◌else◌, List, [], ◌∷◌, length, filter, find, Option, Some, None}
use Rattle.std.specs.List.{list_any, starts_with}
use Rattle.std.specs.Option.{option_map_or}
use Rattle.std.specs.Str.{bytes_eq}
use Rattle.init_machine.specs.declared.policy.AllowLine.{AllowLine}
use Rattle.init_machine.specs.declared.policy.Context.{Context}

-- a name of a property or a prefix of names, and its context
pub record ContextLine : Type 0 where
  pub name : List ℕ
  pub context : Context

-- The lines of a policy: the context of `*`, the lines for one name each, those for a prefix each, and what is allowed.
-- Each list is in the order of the text.
pub record PolicyLines : Type 0 where
  pub default : Context
  pub exact : List ContextLine
  pub prefixes : List ContextLine
  pub allows : List AllowLine

-- the line is for this name
abbrev pub is_line_for : List ℕ → ContextLine → Bool
is_line_for name line = bytes_eq name line.name

-- the line is for names that begin as this one does
abbrev pub is_prefix_for : List ℕ → ContextLine → Bool
is_prefix_for name line = starts_with nat_eq name line.name

-- the line with the longer name, and of two of one length the first
abbrev pub longer : ContextLine → Option ContextLine → ContextLine
longer line None = line
longer line (Some other) = if nat_lt (length line.name) (length other.name) then other else line

-- the line with the longest name
abbrev pub longest : List ContextLine → Option ContextLine
longest [] = None
longest (line ∷ lines) = Some (longer line (longest lines))

-- the context of a line, or else another one
abbrev pub context_or : Option ContextLine → Context → Context
context_or line other = option_map_or (λ line. line.context) line other

-- the context of a property: that of the exact line for its name, else of the longest prefix line for it, else of `*`
unfoldable pub context_of : PolicyLines → List ℕ → Context
context_of policy name =
    context_or (find (is_line_for name) policy.exact)
    (context_or (longest (filter (is_prefix_for name) policy.prefixes)) policy.default)

-- whether the allow text has this domain with this label
unfoldable pub is_allowed : PolicyLines → List ℕ → List ℕ → Bool
is_allowed policy domain label =
    list_any (λ line. bytes_eq line.domain domain && bytes_eq line.label label) policy.allows
