-- What a status says of a told tree where the baseline of its findings is kept, and what is held then.
use Rattle.std.specs.Prelude.{◌≡◌, ℕ, ⊤, List, Option, Err}
use Rattle.lint_findings.specs.Outside.{HoldsBaselineOf}
use Rattle.lint_findings.specs.declared.finding.Finding.{Finding}
use Rattle.rc_import.specs.declared.loaded.LoadRefusal.TheVariants as why
use Rattle.lint_sources.specs.Loads.{loaded}
use Rattle.rc_lint.specs.Says.{Tells}
use Rattle.lint_sources.specs.Told.{Told}
use Rattle.rc_lint.specs.declared.request.Request.{Request}
use Rattle.rc_lint.specs.declared.status.Status.{Status}
use Rattle.rc_lint.specs.declared.status.Status.TheVariants as status

-- the baseline of what is told of a told tree is held
pub record Keeps (request : Request) (told : Told) (old new : Option (List ℕ)) : Type 0 where
  pub findings : List Finding
  pub tells : Tells request told findings
  pub holds : HoldsBaselineOf findings old new

-- After a write fault nothing is said of what is held. A tree is refused as its load is, and what is held stays then.
abbrev pub LintKeeps : Request → Told → Option (List ℕ) → Option (List ℕ) → Status → Type 0
LintKeeps request told old new status.Clean = Keeps request told old new
LintKeeps request told old new status.Faulty = ⊥
LintKeeps request told old new status.WriteFault = ⊤
LintKeeps request told old new (status.Refused why.NoMemory) = ⊤
LintKeeps request told old new (status.Refused why.ReadFault) = new ≡ old
LintKeeps request told old new (status.Refused why.NoInit) = (loaded told.world ≡ Err why.NoInit) × (new ≡ old)
LintKeeps request told old new (status.Refused (why.TooLarge path limit number)) =
    (loaded told.world ≡ Err (why.TooLarge path limit number)) × (new ≡ old)
LintKeeps request told old new (status.Refused (why.TooMany path number)) =
    (loaded told.world ≡ Err (why.TooMany path number)) × (new ≡ old)

-- a refusal leaves what is held, also where nothing is told
abbrev pub IsUnkept : Option (List ℕ) → Option (List ℕ) → Status → Type 0
IsUnkept old new status.Clean = ⊤
IsUnkept old new status.Faulty = ⊥
IsUnkept old new status.WriteFault = ⊤
IsUnkept old new (status.Refused why.NoMemory) = ⊤
IsUnkept old new (status.Refused why.ReadFault) = new ≡ old
IsUnkept old new (status.Refused why.NoInit) = new ≡ old
IsUnkept old new (status.Refused (why.TooLarge path limit number)) = new ≡ old
IsUnkept old new (status.Refused (why.TooMany path number)) = new ≡ old
