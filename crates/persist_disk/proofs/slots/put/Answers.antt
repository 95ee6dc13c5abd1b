use Rattle.std.proofs.Common.{◌++◌, ◌∙◌, ap, subst, ℕ, List, length, Ok}
use Rattle.persist_disk.specs.DiskModel.{LeavesTorn, WritesAt}
use Rattle.persist_disk.specs.Image.{place_of}
use Rattle.persist_disk.proofs.Steps.{slot_leaves, gate_leaves}
use Rattle.persist_disk.proofs.slots.put.Goals as goal

pub returns-in_err-write_parts_synced-clause-leaves : goal.returns-in_err-write_parts_synced-clause-leaves
returns-in_err-write_parts_synced-clause-leaves g c = λ tells safe.
    let bytes = c.length_bytes-length.result ++ c.args.text.now in
    let place_is = c.place.ensures ∙ ap (λ slot. place_of c.args.size slot) c.other-next.ensures in
    let bytes_are = ap (λ (l : List ℕ). l ++ c.args.text.now) c.length_bytes-length.ensures in
    let first = subst (λ (at : ℕ). LeavesTorn (g.D.Disk.moment c.args.disk.now) (g.D.Disk.MayLeave c.args.disk.now) (g.D.Disk.MayLeave c.write_parts_synced.new.disk) at (length bytes)) place_is (c.write_parts_synced.ensures.leaves tells) in
    slot_leaves (g.D.Disk.content c.args.disk.now) (g.D.Disk.MayLeave c.args.disk.now) (g.D.Disk.MayLeave c.write_parts_synced.new.disk) (g.D.Disk.moment c.args.disk.now) c.args.size c.args.chosen bytes c.args.text.now
    c.requires.fits c.requires.high bytes_are first safe

pub returns-clause-leaves : goal.returns-clause-leaves
returns-clause-leaves g c = λ tells safe.
    let bytes = c.length_bytes-length.result ++ c.args.text.now in
    let place_is = c.place.ensures ∙ ap (λ slot. place_of c.args.size slot) c.other-next.ensures in
    let bytes_are = ap (λ (l : List ℕ). l ++ c.args.text.now) c.length_bytes-length.ensures in
    let first = subst (λ (at : ℕ). LeavesTorn (g.D.Disk.moment c.args.disk.now) (g.D.Disk.MayLeave c.args.disk.now) (g.D.Disk.MayLeave c.write_parts_synced.new.disk) at (length bytes)) place_is (c.write_parts_synced.ensures.leaves tells) in
    let writes = subst (λ (at : ℕ). WritesAt (g.D.Disk.content c.args.disk.now) (g.D.Disk.content c.write_parts_synced.new.disk) (Ok tt) at bytes) place_is c.in_ok-write_parts_synced.ensures.bytes in
    gate_leaves (g.D.Disk.content c.args.disk.now) (g.D.Disk.content c.write_parts_synced.new.disk) (g.D.Disk.MayLeave c.args.disk.now) (g.D.Disk.MayLeave c.write_parts_synced.new.disk) (g.D.Disk.MayLeave c.write_synced.new.disk)
    (g.D.Disk.moment c.args.disk.now) (g.D.Disk.moment c.write_parts_synced.new.disk) c.args.size c.args.chosen bytes c.args.text.now
    c.requires.fits c.requires.high bytes_are (c.write_parts_synced.ensures.moment tells) first writes (c.in_ok-write_parts_synced.ensures.safe tells)
    (c.write_synced.ensures.leaves (c.write_parts_synced.ensures.tells.0 tells)) safe
