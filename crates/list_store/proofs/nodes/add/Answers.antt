use Rattle.std.proofs.Common.{◌++◌, get_or, ◌∙◌, arith}
use Rattle.init_machine.specs.Words.{prefixes_of}
use Rattle.list_store.proofs.NewNodes.{byte-left, byte-members, byte-part, dot-added, dot-members, dot-part, end-members, is_dot, is_no_dot}
use Rattle.list_store.proofs.nodes.add.Goals.{then-name-at-eq46, else-name-at-eq46}
use Rattle.list_store.proofs.nodes.add.Goals as goal

pub loop-at-preserved : goal.loop-at-preserved
loop-at-preserved c =
    let name = c.args.name.now in
    let at = c.loop-at.at in
    let all = prefixes_of name ++ c.args.known.now.keys in
    let before = c.loop-at.invariant in
    let below = c.loop-at-test.true in
    elim c.if-name-at-eq46.branch [
      | then-name-at-eq46 w ↦
          let dot = is_dot (get_or name at 0) w.if-name-at-eq46.true in
          let more = w.add_prefix-words.ensures in
          rw (w.known-is) record {
            part = w.part_len-is ∙ dot-part name at below dot;
            within = omega (arith, w.part_len-is);
            fits = omega (arith, w.words-is, before.fits, more.fits);
            spare = omega (arith, before.spare, more.spare);
            left = rw w.words-is (dot-added c.loop-at.known.keys _ name at c.loop-at.words _ _ below dot more.words more.keys before.left);
            members = dot-members c.loop-at.known.keys _ name at all below dot more.keys before.members;
          }
      | else-name-at-eq46 w ↦
          let other = is_no_dot (get_or name at 0) w.if-name-at-eq46.false in
          rw (w.known-is) record {
            part = w.part_len-is ∙ byte-part name at c.loop-at.part_len below other before.part;
            within = omega (arith, w.part_len-is, before.within);
            fits = omega (arith, w.words-is, before.fits);
            spare = omega (arith, before.spare);
            left = rw w.words-is (byte-left c.loop-at.known.keys name at c.loop-at.words _ below other before.left);
            members = byte-members c.loop-at.known.keys name at all below other before.members;
          }
    ]

pub returns-clause-members : goal.returns-clause-members
returns-clause-members c =
    end-members c.loop-at.known.keys c.add_prefix.new.known.keys c.args.name.now c.loop-at.at (prefixes_of c.args.name.now ++ c.args.known.now.keys)
    c.loop-at-test.false c.add_prefix.ensures.keys c.loop-at.invariant.members
