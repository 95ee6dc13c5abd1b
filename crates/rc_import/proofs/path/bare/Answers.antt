use Rattle.std.proofs.Common.{◌≡◌, IfOk, subst}
use Rattle.rc_import.proofs.Slashes.{bare_kept}
use Rattle.rc_import.proofs.path.bare.Goals as goal

pub returns : goal.returns
returns c =
    subst (λ b. IfOk c.slice.result (λ t. t ≡ b))
    (bare_kept c.args.path.now c.bytes.result.now c.without_last_slashes-kept.result.now c.bytes.ensures c.in-len1-up.len_at_least c.without_last_slashes-kept.ensures.value)
    c.slice.ensures
