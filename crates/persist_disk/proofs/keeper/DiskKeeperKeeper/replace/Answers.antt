use Rattle.std.proofs.Common.{◌≡◌, sym, ap, subst, ℕ, arith}
use Rattle.init_base.specs.Crash.{LeavesAlone, LeavesOneMore}
use Rattle.std.specs.Prelude.{OnOk}
use Rattle.persist_disk.specs.Keeping.{told_text, DiskStore, MayReopen}
use Rattle.persist_disk.proofs.Texts.{told_none, first_put, held_put, either_text, alone_put}
use Rattle.persist_disk.proofs.keeper.DiskKeeperKeeper.replace.Goals as goal

pub returns-clause-held : goal.returns-clause-held
returns-clause-held g c =
    let mid = c.stand.new.self in
    let slot_is : c.self.inside.slot ≡ mid.slot = ap (λ (k : DiskStore g.row.D.Denot g.row.P.Denot). k.slot) c.self.view_is in
    held_put (told_text c.args.self.now.is_silent c.args.self.now.slot (g.D.Disk.content c.args.self.now.disk)) (g.D.Disk.content mid.disk) (g.D.Disk.content c.put_text.new.self.disk) c.put_text.new.self.is_silent mid.slot c.put_text.new.self.slot c.in-Ok.chosen c.put_text.result c.args.content.now
    c.in-Ok.ensures.stands.store c.put_text.ensures.bytes (omega (arith, slot_is, c.if-content-self.false, c.self.invariant.low)) (omega (arith, slot_is, c.self.invariant.high)) c.put_text.ensures.silent c.put_text.ensures.slot
    (told_none mid.is_silent c.args.self.now.slot (g.D.Disk.content mid.disk) _ c.stand.ensures.rest.held)

pub returns-clause-first : goal.returns-clause-first
returns-clause-first g c =
    let mid = c.stand.new.self in
    let slot_is : c.self.inside.slot ≡ mid.slot = ap (λ (k : DiskStore g.row.D.Denot g.row.P.Denot). k.slot) c.self.view_is in
    first_put (g.D.Disk.content c.args.self.now.disk) (g.D.Disk.content mid.disk) (g.D.Disk.content c.put_text.new.self.disk) (g.P.Keeper.held c.args.self.now.former) c.put_text.new.self.is_silent c.args.self.now.slot mid.slot c.put_text.new.self.slot c.in-Ok.chosen c.in-Ok.chosen c.put_text.result c.args.content.now
    c.in-Ok.ensures.formats c.in-Ok.ensures.stands.store c.put_text.ensures.bytes (omega (arith, slot_is, c.if-content-self.false, c.self.invariant.low)) (omega (arith, slot_is, c.self.invariant.high)) c.put_text.ensures.silent c.put_text.ensures.slot

pub returns-clause-leaves : goal.returns-clause-leaves
returns-clause-leaves g c = λ tells.
    let mid = c.stand.new.self in
    let reads = c.stand.ensures.kept tells.1 in
    let no_other = either_text (g.D.Disk.content mid.disk) (g.D.Disk.moment c.args.self.now.disk) (g.D.Disk.moment mid.disk) mid.slot c.in-Ok.chosen (g.D.Disk.MayLeave c.args.self.now.disk) (g.D.Disk.MayLeave mid.disk) (g.D.Disk.MayLeave c.put_text.new.self.disk) c.args.content.now
    (reads.later tells.0) (reads.leaves tells.0) (g.met.D.Disk.earlier mid.disk) (g.met.D.Disk.given mid.disk (reads.tells.0 tells.0)) c.in-Ok.ensures.stands.store (c.put_text.ensures.leaves (reads.tells.0 tells.0)) in
    subst (λ (n : ℕ). LeavesOneMore (g.D.Disk.moment c.args.self.now.disk) (MayReopen g.D.Disk.MayLeave c.args.self.now.disk c.args.self.now.slot) (MayReopen g.D.Disk.MayLeave c.put_text.new.self.disk n) c.args.content.now) (sym c.put_text.ensures.slot)
    (subst (λ (n : ℕ). LeavesOneMore (g.D.Disk.moment c.args.self.now.disk) (MayReopen g.D.Disk.MayLeave c.args.self.now.disk n) (MayReopen g.D.Disk.MayLeave c.put_text.new.self.disk mid.slot) c.args.content.now) c.stand.ensures.rest.slot
    (λ m text le left. no_other m text left.0 le left.1 left.2))

pub returns-clause-safe : goal.returns-clause-safe
returns-clause-safe g c = λ tells.
    let mid = c.stand.new.self in
    let slot_is : c.self.inside.slot ≡ mid.slot = ap (λ (k : DiskStore g.row.D.Denot g.row.P.Denot). k.slot) c.self.view_is in
    let told = (c.stand.ensures.kept tells.1).tells.0 tells.0 in
    subst (λ (n : ℕ). OnOk c.put_text.result (LeavesAlone (MayReopen g.D.Disk.MayLeave c.put_text.new.self.disk n (g.D.Disk.moment c.put_text.new.self.disk)) c.args.content.now)) (sym c.put_text.ensures.slot)
    (alone_put (g.D.Disk.content mid.disk) (g.D.Disk.content c.put_text.new.self.disk) mid.slot c.in-Ok.chosen c.put_text.result (g.D.Disk.MayLeave mid.disk (g.D.Disk.moment mid.disk)) (g.D.Disk.MayLeave c.put_text.new.self.disk (g.D.Disk.moment c.put_text.new.self.disk)) c.args.content.now
    (g.met.D.Disk.given mid.disk told) c.in-Ok.ensures.stands.store c.put_text.ensures.bytes (omega (arith, slot_is, c.if-content-self.false, c.self.invariant.low)) (omega (arith, slot_is, c.self.invariant.high)) (c.put_text.ensures.safe told))
