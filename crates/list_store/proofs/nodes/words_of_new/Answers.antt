use Rattle.std.proofs.Common.{get_or, ◌∙◌, arith}
use Rattle.list_store.proofs.NewNodes.{byte-left, byte-part, dot-left, dot-part, is_dot, is_no_dot}
use Rattle.list_store.proofs.nodes.words_of_new.Goals.{then-name-at-eq46, else-name-at-eq46}
use Rattle.list_store.proofs.nodes.words_of_new.Goals as goal

pub loop-at-preserved : goal.loop-at-preserved
loop-at-preserved c =
    let known = c.args.known.now.keys in
    let name = c.args.name.now in
    let at = c.loop-at.at in
    let before = c.loop-at.invariant in
    let below = c.loop-at-test.true in
    elim c.if-name-at-eq46.branch [
      | then-name-at-eq46 w ↦
          let dot = is_dot (get_or name at 0) w.if-name-at-eq46.true in
          let more = w.words_if_new-words.ensures in
          record {
            part = w.part_len-is ∙ dot-part name at below dot;
            within = omega (arith, w.part_len-is);
            fits = omega (arith, w.words-is, before.fits, more.fits);
            left = rw w.words-is (dot-left known name at c.loop-at.words _ _ below dot more.words before.left);
          }
      | else-name-at-eq46 w ↦
          let other = is_no_dot (get_or name at 0) w.if-name-at-eq46.false in
          record {
            part = w.part_len-is ∙ byte-part name at c.loop-at.part_len below other before.part;
            within = omega (arith, w.part_len-is, before.within);
            fits = omega (arith, w.words-is, before.fits);
            left = rw w.words-is (byte-left known name at c.loop-at.words _ below other before.left);
          }
    ]
