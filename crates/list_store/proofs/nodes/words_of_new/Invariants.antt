use Rattle.std.proofs.Common.{◌≡◌, ◌+◌, ◌*◌, ◌≤◌, take}
use Rattle.init_machine.specs.internal.Nodes.{words_beyond}
use Rattle.init_machine.specs.Words.{last_part_from, prefixes_of}
use Rattle.list_store.proofs.NewNodes.{prefixes_at}
use Rattle.list_store.proofs.nodes.words_of_new.Given as goal

abbrev pub invariant-loop-at : goal.invariant-loop-at
invariant-loop-at l =
    record {
      part : l.part_len ≡ last_part_from 0 (take l.at l.name);
      within : l.part_len ≤ l.at;
      fits : l.words ≤ 37 * l.at;
      left : l.words + words_beyond l.known.keys (prefixes_at l.name l.at) ≡ words_beyond l.known.keys (prefixes_of l.name);
    }
