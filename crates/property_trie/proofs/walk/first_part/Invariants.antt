use Rattle.std.proofs.Common.{◌≡◌, ◌≢◌, ℕ, ◌<◌, ◌≤◌, length, get_or}
use Rattle.property_trie.proofs.walk.first_part.Given as goal

abbrev pub invariant-loop-j : goal.invariant-loop-j
invariant-loop-j l =
    record {
      wide : length l.bytes ≡ 8;
      inside : l.j ≤ length l.rest;
      done : (i : ℕ) → i < l.j → get_or l.bytes i 0 ≡ get_or l.rest i 0;
      left : (i : ℕ) → l.j ≤ i → get_or l.bytes i 0 ≡ 0;
      no_dot : (i : ℕ) → i < l.j → get_or l.rest i 0 ≢ 46;
    }
