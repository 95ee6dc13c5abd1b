use Rattle.std.proofs.Common.{arith, refl}
use Rattle.std.specs.Ordering.{is_lt, nat_cmp}
use Rattle.std.proofs.lemmas.Bool.Decides.{nat_tests}
use Rattle.std.proofs.lemmas.Cmp.{same_from_slice_cmp_tested}
use Rattle.init_machine.specs.Pairs.{is_before}
use Rattle.lint_findings.proofs.reading.is_before.Goals as goal

pub returns : goal.returns
returns c =
    same_from_slice_cmp_tested nat_cmp is_lt is_before refl (λ y ys. refl) (λ x xs. refl) (λ x y xs ys o h. grind (arith, nat_tests))
    c.args.text.now c.args.other.now c.lt.result c.lt.ensures
