-- The plain store: what its fields mean, and what they keep.
use Rattle.std.specs.Prelude.{◌≡◌, ◌/◌, ◌≤◌, min}
use Rattle.indexmap.specs.IndexMap as entries
use Rattle.indexmap.specs.IndexSet as keys
use Rattle.list_store.specs.internal.HeldValue.{HasRoom, spare_with}
use Rattle.list_store.specs.internal.Stored.{AreKnown, EachFits, Stored, properties}
use Rattle.init_machine.specs.Props.{sizes_of, last_number}
use Rattle.init_machine.specs.Words.{used_of}
use Rattle.list_store.specs.declared.ListStore.TheInside.{Inside}

-- what the store's fields mean: there is memory for as many sets as there are places for a name and for 256 prefixes, where
-- there is a buffer for a long value
abbrev pub stored : Inside → Stored
stored s = record {
  props = record { held = properties s.held.entries; count = s.count; capacity = s.capacity };
  spare = spare_with s.buffer (min (entries.spare s.held) (keys.spare s.prefixes / 256));
}

-- what the store's fields keep: the dotted prefixes of the names, the words in use, values that fit their names, and a count that stays within the
-- numbers of sets
pub record IsCounted (s : Inside) : Type 0 where
  pub known : AreKnown s.prefixes.keys (properties s.held.entries)
  pub used : s.used ≡ used_of (sizes_of (properties s.held.entries))
  pub fits : EachFits (properties s.held.entries)
  pub buffer : HasRoom s.buffer
  pub numbers : s.count ≤ last_number
