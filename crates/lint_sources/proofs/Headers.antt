-- A header alone, as it is read with each `!=` as `=`.
use Rattle.std.proofs.Common.{◌≡◌, ℕ, Bool, true, false, IsTrue, List, [], ◌∷◌, ◌++◌, None, Result, Ok, Err, refl, sym, ◌∙◌}
use Rattle.std.specs.Prelude.{◌↔◌, ◌&&◌, is_ok}
use Rattle.init_machine.specs.declared.diagnostic.DiagKind.{DiagKind}
use Rattle.init_machine.specs.declared.diagnostic.Diagnostic.{Diagnostic}
use Rattle.rc_parse.specs.Readings.{diagnostic}
use Rattle.rc_parse.specs.Lines.{Section}
use Rattle.rc_parse.specs.Sections.{Sections, action_diagnostics}
use Rattle.rc_parse.specs.Triggers.{triggers_of}
use Rattle.rc_parse.specs.declared.parsed.Parsed.{Parsed}
use Rattle.rc_parse.specs.declared.trigger.Triggers.{Triggers}
use Rattle.rc_tokens.specs.Lines.{Line}

-- the line of a header whose words behind `on` are these
header_of : List (List ℕ) → Line
header_of args = record { number = 1; words = (111 ∷ 110 ∷ []) ∷ args }

alone : List (List ℕ) → Section
unfolding header_of
alone args = record { header = header_of args; body = [] }

-- what is wrong in it
wrong : List (List ℕ) → Result Triggers DiagKind → List Diagnostic
unfolding alone header_of
wrong args triggers = (action_diagnostics [] (alone args) triggers ++ []) ++ []

tells : (args : List (List ℕ)) (triggers : Result Triggers DiagKind) (found : List Diagnostic) (good : Bool)
    → found ≡ wrong args triggers → IsTrue good ↔ (found ≡ []) → good ≡ is_ok triggers
unfolding wrong alone header_of
tells args (Ok triggers) found true is test = refl
tells args (Ok triggers) found false is test = let bad : false ≡ true = test.1 is in cc
tells args (Err kind) found true is test = let none : diagnostic [] 1 kind ∷ [] ≡ [] = sym is ∙ test.0 refl in cc
tells args (Err kind) found false is test = refl

pub good_alone : (args : List (List ℕ)) (parsed : Parsed) (good : Bool)
    → Sections [] (record { lines = (record { number = 1; words = (111 ∷ 110 ∷ []) ∷ args }) ∷ []; dropped = None }) parsed
    → IsTrue good ↔ (parsed.diagnostics ≡ []) → good ≡ is_ok (triggers_of args)
unfolding wrong alone header_of
good_alone args parsed good is test = tells args (triggers_of args) parsed.diagnostics good is.diagnostics_are test

-- words without `!` aren't looked at
pub no_bang : (found good : Bool) → found ≡ false → false ≡ (found && good)
no_bang false good none = refl
no_bang true good none = cc
