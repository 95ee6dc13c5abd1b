use Rattle.std.proofs.Common.{◌≡◌, ◌+◌, ◌*◌, ◌≤◌, ◌++◌, take}
use Rattle.indexmap.specs.IndexSet.{spare}
use Rattle.init_machine.specs.internal.Nodes.{SameMembers, words_beyond}
use Rattle.init_machine.specs.Words.{last_part_from, prefixes_of}
use Rattle.list_store.proofs.NewNodes.{prefixes_at}
use Rattle.list_store.proofs.nodes.add.Given as goal

abbrev pub invariant-loop-at : goal.invariant-loop-at
invariant-loop-at l =
    record {
      part : l.part_len ≡ last_part_from 0 (take l.at l.name);
      within : l.part_len ≤ l.at;
      fits : l.words ≤ 37 * l.at;
      spare : 256 ≤ spare l.known + l.at;
      left : l.words + words_beyond l.known.keys (prefixes_at l.name l.at) ≡ words_beyond l.initial.known.keys (prefixes_of l.name);
      members : SameMembers (prefixes_at l.name l.at ++ l.known.keys) (prefixes_of l.name ++ l.initial.known.keys);
    }
