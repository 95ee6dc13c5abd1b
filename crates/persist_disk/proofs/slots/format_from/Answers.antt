use Rattle.std.proofs.Common.{◌∙◌, ap, length, sym, arith}
use Rattle.persist_disk.proofs.Standing.{chosen_formatted}
use Rattle.persist_disk.proofs.slots.format_from.Goals as goal

pub returns-clause-stands : goal.returns-clause-stands
returns-clause-stands g c =
    record {
      store = chosen_formatted (g.D.Disk.content c.args.disk.now) (g.D.Disk.content c.format.new.disk) c.args.size c.len.result c.bytes.result.now c.in_ok-format.ensures.bytes c.requires.few
          (c.len.ensures ∙ ap length (sym c.bytes.ensures)) (omega (arith, c.in_ok-text.ensures.bound, ap length c.bytes.ensures)) c.requires.high;
      safe = λ tells. c.in_ok-format.ensures.safe (c.format.ensures.tells.1 tells);
    }
