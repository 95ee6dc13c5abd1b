-- The pairs are still persistent.
use Rattle.machine_parts.proofs.SavedPairs.{put_or_same}
use Rattle.machine_parts.proofs.saved.Saved.put.Goals as goal

pub invariant_of-self : goal.invariant_of-self
invariant_of-self c =
    put_or_same c.put_pair.result c.self.inside.pairs c.put_pair.new.pairs c.args.name.now c.args.value.now c.put_pair.ensures.ok c.put_pair.ensures.err c.self.invariant c.requires
