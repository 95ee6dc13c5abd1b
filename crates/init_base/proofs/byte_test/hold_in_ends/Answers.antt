use Rattle.std.proofs.Common.{◌≡◌, ◌-◌, ◌&&◌, take, drop, length, ap, ◌∙◌, arith}
use Rattle.std.proofs.lemmas.Grind.{common_steps}
use Rattle.std.specs.List.{list_all}
use Rattle.init_base.proofs.Blocks.{all_of_ends}
use Rattle.init_base.proofs.byte_test.hold_in_ends.Goals as goal

pub returns : goal.returns
returns g c =
    let bytes = c.args.bytes.now in
    let holds = g.T.ByteTest.holds in
    let end = length bytes - g.row.N in
    let least = c.requires.least in
    let last : take g.row.N (take (length bytes - end) (drop end bytes)) ≡ drop end bytes = grind (arith, common_steps) in
    ap (λ t. t && c.hold_in_front-2.result) c.hold_in_front.ensures
    ∙ ap (λ t. list_all holds (take g.row.N bytes) && t) (c.hold_in_front-2.ensures ∙ ap (list_all holds) last)
    ∙ all_of_ends holds bytes g.row.N end (omega (arith, c.requires.most))
