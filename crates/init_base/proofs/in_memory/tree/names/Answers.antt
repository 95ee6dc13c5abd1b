use Rattle.init_base.proofs.Names.{names_end, names_step}
use Rattle.init_base.proofs.in_memory.tree.names.Goals as goal

pub loop-entry-preserved : goal.loop-entry-preserved
loop-entry-preserved c =
    names_step c.loop-entry.names _ c.args.dir.now c.args.entries.now c.loop-entry.entry-index c.entry-item.result _ c.loop-entry-test.true c.entry-item.is
    (rw (c.in_ok-add_name.ensures, c.behind_dir.ensures, c.bytes.ensures)) c.loop-entry.invariant

pub returns : goal.returns
returns c = names_end _ c.args.dir.now c.args.entries.now c.loop-entry.entry-index _ c.loop-entry-test.false c.loop-entry.invariant
