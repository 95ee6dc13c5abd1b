use Rattle.std.proofs.Common.{◌≡◌, ◌∙◌, sym, ap, subst, arith, length, Ok}
use Rattle.persist_disk.specs.Keeping.{DiskStore, FormatsAs, IsFormatted}
use Rattle.std.specs.Prelude.{IfSome, ◌<◌}
use Rattle.persist_disk.proofs.Texts.{opened_told}
use Rattle.persist_disk.proofs.keeper.DiskKeeper.open.Goals as goal

pub returns-clause-text : goal.returns-clause-text
returns-clause-text g c =
    let content = g.D.Disk.content in
    let before = c.args.self.now in
    let slot_is = ap (λ (k : DiskStore g.row.D.Denot g.row.P.Denot). k.slot) c.self.view_is ∙ c.open_now.ensures.rest.slot in
    let kept = subst (λ (k : DiskStore g.row.D.Denot g.row.P.Denot). IsFormatted (content before.disk) → content k.disk ≡ content before.disk) (sym c.self.view_is) (λ formatted. (c.open_now.ensures.kept formatted).content_is) in
    let formats = subst (λ (k : DiskStore g.row.D.Denot g.row.P.Denot). IfSome (content before.disk) (λ image. length image < 16 → FormatsAs before.slot (content before.disk) (content k.disk) (g.P.Keeper.held before.former) (Ok c.in_ok-open_now.field-0)))
    (sym c.self.view_is) c.in_ok-open_now.ensures.formats in
    opened_told (content before.disk) (content c.self.inside.disk) (g.P.Keeper.held before.former) before.slot c.self.inside.slot c.in_ok-open_now.field-0 kept formats slot_is (omega (arith, slot_is, c.self.invariant.high))
