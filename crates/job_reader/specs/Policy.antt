-- The property policy of a tree.
use Rattle.std.specs.Prelude.{◌≡◌, ℕ, ◌⊎◌, Bool, true, false, List}
use Rattle.init_machine.specs.Policy.{PolicyLines}
use Rattle.init_machine.specs.declared.limit.Limit.{Limit}
use Rattle.init_machine.specs.declared.limit.Limit.TheVariants.{FileBytes}
use Rattle.prop_contexts.specs.Grammar.{HasNoDefault, IsBadAllow, IsBadContext, IsPolicy, IsTwice}
use Rattle.job_reader.specs.Texts.{AreShort, IsOneLong, Tree, allow_text, contexts_text}

-- the texts of a tree are a policy of these lines
pub record IsPolicyOf (tree : Tree) (policy : PolicyLines) : Type 0 where
  pub short : AreShort (contexts_text tree) (allow_text tree)
  pub policy_is : IsPolicy (contexts_text tree) (allow_text tree) policy

-- the texts of a tree are a policy
abbrev pub HasPolicy : Tree → Type 0
HasPolicy tree = (policy : PolicyLines) × IsPolicyOf tree policy

-- one of the two texts is longer than the limit, and this is the limit, and the number that is answered: one byte more
abbrev pub IsPolicyTooLarge : Tree → Limit → ℕ → Type 0
IsPolicyTooLarge tree limit number = IsOneLong (contexts_text tree) (allow_text tree) × (limit ≡ FileBytes) × (number ≡ 1048577)

-- The line of the contexts text, or of the allow text, that is judged first: it is of no form, or it has the name and kind of
-- an earlier one, or it is the line that the contexts lack.
abbrev pub IsBadLine : List ℕ → List ℕ → Bool → ℕ → Type 0
IsBadLine contexts allow false line = IsBadContext contexts line ⊎ (IsTwice contexts line ⊎ HasNoDefault contexts line)
IsBadLine contexts allow true line = IsBadAllow contexts allow line

-- the texts of a tree are no policy, by this line
pub record IsBadPolicyAt (tree : Tree) (allow : Bool) (line : ℕ) : Type 0 where
  pub short : AreShort (contexts_text tree) (allow_text tree)
  pub bad : IsBadLine (contexts_text tree) (allow_text tree) allow line
