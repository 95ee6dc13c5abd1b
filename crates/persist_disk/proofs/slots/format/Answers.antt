use Rattle.std.proofs.Common.{◌++◌, ◌∙◌, ap, append_assoc, length, List, ℕ}
use Rattle.std.specs.Prelude.{replicate}
use Rattle.persist_disk.specs.Image.{eight_bytes}
use Rattle.persist_disk.proofs.Steps.{format_writes}
use Rattle.persist_disk.proofs.slots.format.Goals as goal

pub returns-clause-bytes : goal.returns-clause-bytes
returns-clause-bytes g c =
    let text = c.args.text.now in
    let bytes_are = ap (λ (l : List ℕ). l ++ text) (c.deref.ensures.value ∙ c.in_ok-head.ensures) ∙ append_assoc (replicate 8 0) (eight_bytes (length text)) text in
    format_writes (g.D.Disk.content c.args.disk.now) (g.D.Disk.content c.write_parts_synced.new.disk) c.write_parts_synced.result (c.deref.result.now ++ text) text c.write_parts_synced.ensures.bytes bytes_are
