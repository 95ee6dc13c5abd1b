-- Which outputs are one word.
use Rattle.std.proofs.Common.{◌≡◌, ◌+◌, length, refl, arith}
use Rattle.init_machine.specs.declared.output.Cause.{Cause}
use Rattle.init_machine.specs.declared.output.Cause.TheVariants as cause
use Rattle.init_machine.specs.declared.output.Output.{Output}
use Rattle.init_machine.specs.declared.output.Output.TheVariants as output
use Rattle.init_machine.specs.declared.output.SetRefusal.{SetRefusal}
use Rattle.init_machine.specs.declared.output.SetRefusal.TheVariants as refusal
use Rattle.init_trace.specs.Fields.{cause_fields, output_fields, refusal_fields}

-- none of these
abbrev pub IsNoLone : Output → Type 0
IsNoLone o =
    (o ≡ output.AllProperties → ⊥)
    × (o ≡ output.Noted → ⊥)
    × (o ≡ output.Ok → ⊥)
    × (o ≡ output.Released → ⊥)
    × (o ≡ output.Timeout → ⊥)
    × (o ≡ output.Blocked → ⊥)
    × (o ≡ output.Idle → ⊥)
    × (o ≡ output.Down → ⊥)
    × (o ≡ output.TooFar → ⊥)
    × (o ≡ output.NoProcess → ⊥)

tells_refusal : (r : SetRefusal) → length (refusal_fields r) + 1 ≡ 1 → ⊥
unfolding refusal_fields
tells_refusal refusal.Spent h = omega arith
tells_refusal (refusal.Down a) h = omega arith
tells_refusal refusal.InvalidName h = omega arith
tells_refusal refusal.UnknownControl h = omega arith
tells_refusal (refusal.Denied a) h = omega arith
tells_refusal refusal.NoSuchService h = omega arith
tells_refusal refusal.InvalidType h = omega arith
tells_refusal (refusal.ValueTooLong a) h = omega arith
tells_refusal refusal.NotUtf8 h = omega arith
tells_refusal (refusal.ReadOnly a) h = omega arith
tells_refusal (refusal.AreaFull a b) h = omega arith
tells_refusal (refusal.NumberSpent a) h = omega arith
tells_refusal refusal.NoMemory h = omega arith

tells_cause : (c : Cause) → length (cause_fields c) + 1 ≡ 1 → ⊥
unfolding cause_fields
tells_cause (cause.Absent a) h = omega arith
tells_cause (cause.BadForm a) h = omega arith
tells_cause cause.TooLong h = omega arith
tells_cause (cause.NoSuchService a) h = omega arith
tells_cause (cause.AlreadyRunning a) h = omega arith
tells_cause cause.NoPid h = omega arith
tells_cause (cause.BadArgument a) h = omega arith
tells_cause (cause.Tree a) h = omega arith
tells_cause (cause.Set a) h = omega arith

-- an output of one word is one of these
pub lone_is_known : (o : Output) → length (output_fields o) ≡ 1 → IsNoLone o → ⊥
lone_is_known output.AllProperties h none = none.0 refl
lone_is_known output.Noted h none = none.1 refl
lone_is_known output.Ok h none = none.2 refl
lone_is_known output.Released h none = none.3 refl
lone_is_known output.Timeout h none = none.4 refl
lone_is_known output.Blocked h none = none.5 refl
lone_is_known output.Idle h none = none.6 refl
lone_is_known output.Down h none = none.7 refl
lone_is_known output.TooFar h none = none.8 refl
lone_is_known output.NoProcess h none = none.9 refl
lone_is_known (output.Event a) h none = omega arith
lone_is_known (output.Change a b) h none = omega arith
lone_is_known (output.Action a b) h none = omega arith
lone_is_known (output.Command a b c d) h none = omega arith
lone_is_known (output.Put a b c) h none = omega arith
lone_is_known (output.Stored a) h none = omega arith
lone_is_known (output.Unset a b) h none = omega arith
lone_is_known (output.Spawn a b c) h none = omega arith
lone_is_known (output.NoPid a) h none = omega arith
lone_is_known (output.Kill a b) h none = omega arith
lone_is_known (output.Reap a b c) h none = omega arith
lone_is_known (output.Env a b) h none = omega arith
lone_is_known (output.Tree a) h none = omega arith
lone_is_known (output.WaitChild a) h none = omega arith
lone_is_known (output.WaitProp a b) h none = omega arith
lone_is_known (output.WaitFile a b) h none = omega arith
lone_is_known (output.Reboot a) h none = omega arith
lone_is_known (output.Accepted a) h none = omega arith
lone_is_known (output.Control a) h none = omega arith
lone_is_known (output.Failed c) h none = tells_cause c (omega (arith, h))
lone_is_known (output.Refused r) h none = tells_refusal r (omega (arith, h))
