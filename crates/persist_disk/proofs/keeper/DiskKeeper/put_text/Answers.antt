use Rattle.std.proofs.Common.{sym, ap, subst, refl, arith, length}
use Rattle.persist_disk.specs.Keeping.{DiskStore, StandsOn}
use Rattle.persist_disk.proofs.Standing.{chosen_put}
use Rattle.persist_disk.proofs.keeper.DiskKeeper.put_text.Goals as goal

pub invariant_of-self-2 : goal.invariant_of-self-2
invariant_of-self-2 g c =
    let stands = subst (λ (k : DiskStore g.row.D.Denot g.row.P.Denot). StandsOn g.D.Disk.content g.D.Disk.TellsCrash g.D.Disk.moment g.D.Disk.MayLeave k.disk k.slot c.args.chosen) (sym c.self.view_is) c.requires.stands in
    let slot_is = ap (λ (k : DiskStore g.row.D.Denot g.row.P.Denot). k.slot) c.self.view_is in
    record {
      low = c.self.invariant.low;
      high = c.self.invariant.high;
      open_stands = record {
        store = chosen_put (g.D.Disk.content c.self.inside.disk) (g.D.Disk.content c.put.new.disk) c.self.inside.slot (length c.args.text.now) c.args.chosen c.other.result c.args.text.now c.in_ok-put.ensures.bytes
            stands.store c.other.ensures refl (omega (arith, slot_is, c.requires.fits)) c.self.invariant.high;
        safe = λ tells. c.in_ok-put.ensures.safe (c.put.ensures.tells.1 tells);
      };
    }
