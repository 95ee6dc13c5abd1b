-- A pair takes the place of the name's old one, or its own.
use Rattle.std.proofs.Common.{◌∙◌, ap}
use Rattle.std.proofs.lemmas.Result.{on_ok_weaker}
use Rattle.machine_parts.proofs.SavedPairs.{inserts, place, replaces}
use Rattle.machine_parts.proofs.saved.put_pair.Goals as goal
use Rattle.machine_parts.proofs.saved.put_pair.Goals.{in_default-via-in-Some+else-is, in_default-via-in_default}

pub returns-in-Some-clause-ok : goal.returns-in-Some-clause-ok
returns-in-Some-clause-ok c =
    replaces c.args.pairs.now c.set.new.self c.args.name.now c.args.value.now _ _ c.place_for-place.result c.in-Some.held.now c.in_ok-share.ensures c.in_ok-share-2.ensures
    (c.place_for-place.ensures.place ∙ ap (λ name. place name c.args.pairs.now) c.bytes-bytes.ensures) c.in-Some.ensures (cc (c.is.ensures, c.if-is.true, c.bytes-bytes.ensures)) c.set.ensures

pub returns-in_default-clause-ok : goal.returns-in_default-clause-ok
returns-in_default-clause-ok c =
    on_ok_weaker c.insert.result
    (inserts c.args.pairs.now c.insert.new.self c.args.name.now c.args.value.now _ _ c.place_for-place.result c.in_ok-share.ensures c.in_ok-share-2.ensures
    (c.place_for-place.ensures.place ∙ ap (λ name. place name c.args.pairs.now) c.bytes-bytes.ensures)
    (λ held found. elim c.in_default.branch [
      | in_default-via-in-Some+else-is w ↦ cc (w.in-Some.ensures, found, w.is.ensures, w.if-is.false, c.bytes-bytes.ensures)
      | in_default-via-in_default w ↦ absurd (cc (found, w.in_default.ensures))
    ])) c.insert.ensures.ok
