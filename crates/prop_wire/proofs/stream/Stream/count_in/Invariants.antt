use Rattle.std.proofs.Common.{◌≡◌, ◌+◌, ◌≤◌, drop}
use Rattle.prop_wire.specs.internal.Streams.{total_len}
use Rattle.prop_wire.proofs.stream.Stream.count_in.Given as goal

-- the messages so far are counted
abbrev pub invariant-loop-message : goal.invariant-loop-message
invariant-loop-message l = record {
  others : l.self ≡ record l.initial.self { messages = l.self.messages; whole = l.self.whole };
  count : l.self.messages ≡ l.initial.self.messages + l.message-index;
  few : l.self.messages ≤ l.self.whole;
  whole : l.self.whole + total_len (drop l.message-index l.messages) ≡ l.initial.self.whole + total_len l.messages;
}
