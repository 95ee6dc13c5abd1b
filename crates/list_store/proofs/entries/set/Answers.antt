use Rattle.std.proofs.Common.{sym, ◌∙◌}
use Rattle.list_store.specs.internal.Stored.{properties, property_of}
use Rattle.list_store.proofs.Puts.{known_with_held, known_with_new}
use Rattle.list_store.proofs.entries.set.Goals as goal

pub returns-then-hold-clause-known : goal.returns-then-hold-clause-known
returns-then-hold-clause-known c =
    known_with_new (properties c.args.entries.now.entries) (properties c.hold.new.entries.entries) (property_of (c.args.name.now, c.args.held))
    c.args.known.now.keys c.add.new.known.keys (sym c.hold.ensures.new ∙ c.if-hold.true) c.hold.ensures.put c.requires.known c.add.ensures.members

pub returns-else-hold-clause-known : goal.returns-else-hold-clause-known
returns-else-hold-clause-known c =
    known_with_held (properties c.args.entries.now.entries) (properties c.hold.new.entries.entries) (property_of (c.args.name.now, c.args.held))
    c.args.known.now.keys (sym c.hold.ensures.new ∙ c.if-hold.false) c.hold.ensures.put c.requires.known
