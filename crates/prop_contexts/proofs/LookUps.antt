-- The context of a name, by what was looked up; and why two texts are no policy.
use Rattle.std.proofs.Common.{◌≡◌, ℕ, ◌≤◌, Option, Some, None, Result, Ok, IfOk, List, [], ◌∷◌, length, filter, find, refl, ap, sym, subst, ◌∙◌, true, false, arith}
use Rattle.std.specs.Option.{option_map, option_map_or}
use Rattle.init_machine.specs.Policy.{ContextLine, PolicyLines, is_line_for, is_prefix_for, longest, context_of}
use Rattle.init_machine.specs.declared.policy.AllowLine.{AllowLine}
use Rattle.init_machine.specs.declared.policy.Context.{Context}
use Rattle.prop_contexts.specs.Allowed.{AreAllowed, IsAllowRefusal}
use Rattle.prop_contexts.specs.Contexts.{default_contexts}
use Rattle.prop_contexts.specs.Given.{AreGiven, first_of}
use Rattle.prop_contexts.specs.Grammar.{IsRefused}
use Rattle.init_base.specs.Lines.{lines_of}
use Rattle.prop_contexts.specs.NameLines.{context_in}
use Rattle.prop_contexts.specs.declared.contexts.Contexts.{Contexts}
use Rattle.prop_contexts.specs.declared.refusal.PolicyRefusal.{PolicyRefusal}
use Rattle.prop_contexts.specs.declared.refusal.PolicyRefusal.TheVariants as refusal
use Rattle.prop_contexts.proofs.Steps.{fits_of}

-- ---- a context

here : (context other : Context) (found : Option ContextLine) → Some context ≡ option_map (λ line. line.context) found
    → context ≡ option_map_or (λ line. line.context) found other
here context other None h = cc
here context other (Some line) h = cc

not_here : (other : Context) (found : Option ContextLine) → None ≡ option_map (λ line. line.context) found → other ≡ option_map_or (λ line. line.context) found other
not_here other None h = refl
not_here other (Some line) h = absurd (cc h)

pub exact_found : (policy : PolicyLines) (name : List ℕ) (context : Context) → Some context ≡ context_in policy.exact name → context ≡ context_of policy name
unfolding context_of
exact_found policy name context found = here context _ (find (is_line_for name) policy.exact) found

pub prefix_found : (policy : PolicyLines) (name : List ℕ) (context : Context) → None ≡ context_in policy.exact name
    → Some context ≡ option_map (λ line. line.context) (longest (filter (is_prefix_for name) policy.prefixes)) → context ≡ context_of policy name
unfolding context_of
prefix_found policy name context none found =
    here context policy.default (longest (filter (is_prefix_for name) policy.prefixes)) found ∙ not_here _ (find (is_line_for name) policy.exact) none

pub default_used : (policy : PolicyLines) (name : List ℕ) → None ≡ context_in policy.exact name
    → None ≡ option_map (λ line. line.context) (longest (filter (is_prefix_for name) policy.prefixes)) → policy.default ≡ context_of policy name
unfolding context_of
default_used policy name none no_prefix =
    not_here policy.default (longest (filter (is_prefix_for name) policy.prefixes)) no_prefix ∙ not_here _ (find (is_line_for name) policy.exact) none

-- ---- two texts

only : {A : Type 0} (xs : List A) (x : A) → length xs ≤ 1 → first_of xs ≡ Some x → xs ≡ x ∷ []
only [] x few first = absurd (cc first)
only (y ∷ []) x few first = cc
only (y ∷ z ∷ ys) x few first = absurd (omega (arith, few))

pub one_default : (text : List ℕ) (contexts : Contexts) (default : Context) → AreGiven text contexts → contexts.default ≡ Some default
    → default_contexts (lines_of text) ≡ default ∷ []
one_default text contexts default given is =
    only (default_contexts (lines_of text)) default (fits_of (lines_of text) given.fit).one_default (sym (ap (λ g. g.default) given.are) ∙ is)

pub no_default : (text : List ℕ) (contexts : Contexts) → AreGiven text contexts → contexts.default ≡ None → default_contexts (lines_of text) ≡ []
no_default text contexts given none = empty (default_contexts (lines_of text)) (sym (ap (λ g. g.default) given.are) ∙ none)
  where
    empty : (xs : List Context) → first_of xs ≡ None → xs ≡ []
    empty [] h = refl
    empty (x ∷ xs) h = absurd (cc h)

pub allow_refused : (text allow : List ℕ) (contexts : Contexts) (default : Context) (why : PolicyRefusal) → AreGiven text contexts → contexts.default ≡ Some default
    → IsAllowRefusal allow why → IsRefused text allow why
allow_refused text allow contexts default (refusal.BadLine true line) given is h =
    record { whole = record { fit = given.fit; one = ap length (one_default text contexts default given is) }; line = h.0; unfit = h.1 }
allow_refused text allow contexts default (refusal.BadLine false line) given is h = absurd h
allow_refused text allow contexts default (refusal.Twice line) given is h = absurd h
allow_refused text allow contexts default (refusal.NoDefault line) given is h = absurd h
allow_refused text allow contexts default refusal.NoMemory given is h = tt

-- what is read of an allow text
pub allowed : (text : List ℕ) (read : Result (List AllowLine) PolicyRefusal) (allows : List AllowLine) → read ≡ Ok allows → IfOk read (AreAllowed text) → AreAllowed text allows
allowed text read allows is h = subst (λ r. IfOk r (AreAllowed text)) is h
