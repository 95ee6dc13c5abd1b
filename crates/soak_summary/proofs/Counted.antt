-- What is counted entry by entry comes to the numbers of the history.
use Rattle.std.proofs.Common.{◌≡◌, ℕ, ◌+◌, Bool, if◌then◌else◌, List, [], ◌∷◌, ◌++◌, length, count_by, length-append, refl, sym, ap, ◌∙◌, arith}
use Rattle.std.proofs.lemmas.Grind.{common_steps}
use Rattle.std.proofs.lemmas.List.Sums.{sum_by-cons}
use Rattle.init_machine.specs.History.{set_in, sets_in, sets_of}
use Rattle.init_machine.specs.Props.{Props, with_set}
use Rattle.init_machine.specs.Sets.{Set}
use Rattle.init_machine.specs.declared.output.Output.{Output}
use Rattle.init_machine.specs.declared.report.Entry.{Entry}
use Rattle.soak_summary.specs.Counting.{is_event, is_spawn, outputs_in, put_all}
use Rattle.soak_summary.specs.Counts.{Counts, counted_of, with_entries, with_entry, with_output, with_outputs}

put_more : (p : Props) (first more : List Set) → put_all p (first ++ more) ≡ put_all (put_all p first) more
put_more p [] more = refl
put_more p (s ∷ first) more = put_more (with_set p s.0 s.1) first more

count_more : {X : Type 0} (p : X → Bool) (x : X) (xs : List X) → count_by p (x ∷ xs) ≡ (if p x then 1 else 0) + count_by p xs
count_more p x xs = grind (arith, common_steps)

same_counts : (c d : Counts) → c.entries ≡ d.entries → c.puts ≡ d.puts → c.spawns ≡ d.spawns → c.events ≡ d.events → c.props ≡ d.props → c ≡ d
same_counts c d entries puts spawns events props = λ i. record {
  entries = entries i;
  puts = puts i;
  spawns = spawns i;
  events = events i;
  props = props i;
}

add_none : (n : ℕ) → n ≡ n + 0
add_none n = omega arith

-- the numbers that some outputs add to others
abbrev with_all : Counts → List Output → Counts
with_all c outputs = record {
  entries = c.entries;
  puts = c.puts + length (sets_in outputs);
  spawns = c.spawns + count_by is_spawn outputs;
  events = c.events + count_by is_event outputs;
  props = put_all c.props (sets_in outputs);
}

puts_more : (n : ℕ) (first more : List Set) → n + length first + length more ≡ n + length (first ++ more)
puts_more n first more = omega (arith, length-append first more)

passed_more : (p : Output → Bool) (n : ℕ) (o : Output) (outputs : List Output) → n + (if p o then 1 else 0) + count_by p outputs ≡ n + count_by p (o ∷ outputs)
passed_more p n o outputs = omega (arith, count_more p o outputs)

outputs_counted : (c : Counts) (outputs : List Output) → with_outputs c outputs ≡ with_all c outputs
outputs_counted c [] = same_counts c (with_all c []) refl (add_none c.puts) (add_none c.spawns) (add_none c.events) refl
outputs_counted c (o ∷ outputs) =
    outputs_counted (with_output c o) outputs
    ∙ same_counts (with_all (with_output c o) outputs) (with_all c (o ∷ outputs)) refl (puts_more c.puts (set_in o) (sets_in outputs))
    (passed_more is_spawn c.spawns o outputs) (passed_more is_event c.events o outputs) (sym (put_more c.props (set_in o) (sets_in outputs)))

-- the numbers that a history adds to others
abbrev with_history : Counts → List Entry → Counts
with_history c history = record {
  entries = c.entries + length history;
  puts = c.puts + length (sets_of history);
  spawns = c.spawns + outputs_in is_spawn history;
  events = c.events + outputs_in is_event history;
  props = put_all c.props (sets_of history);
}

entry_more : (n : ℕ) (e : Entry) (history : List Entry) → n + 1 + length history ≡ n + length (e ∷ history)
entry_more n e history = omega arith

outputs_more : (p : Output → Bool) (n : ℕ) (e : Entry) (history : List Entry) → n + count_by p e.outputs + outputs_in p history ≡ n + outputs_in p (e ∷ history)
outputs_more p n e history = omega (arith, sum_by-cons (λ (x : Entry). count_by p x.outputs) e history)

history_counted : (c : Counts) (history : List Entry) → with_entries c history ≡ with_history c history
history_counted c [] = same_counts c (with_history c []) (add_none c.entries) (add_none c.puts) (add_none c.spawns) (add_none c.events) refl
history_counted c (e ∷ history) =
    let now : Counts = record c { entries = c.entries + 1 } in
    ap (λ (d : Counts). with_entries d history) (outputs_counted now e.outputs)
    ∙ history_counted (with_all now e.outputs) history
    ∙ same_counts (with_history (with_all now e.outputs) history) (with_history c (e ∷ history)) (entry_more c.entries e history) (puts_more c.puts (sets_in e.outputs) (sets_of history))
    (outputs_more is_spawn c.spawns e history) (outputs_more is_event c.events e history) (sym (put_more c.props (sets_in e.outputs) (sets_of history)))

none_add : (n : ℕ) → 0 + n ≡ n
none_add n = omega arith

-- of a history that was counted entry by entry, the counter has the numbers
pub counted_all : (history : List Entry) → with_entries (counted_of []) history ≡ counted_of history
counted_all history =
    history_counted (counted_of []) history
    ∙ same_counts (with_history (counted_of []) history) (counted_of history) (none_add _) (none_add _) (none_add _) (none_add _) refl

-- entries behind others
pub entries_more : (c : Counts) (first more : List Entry) → with_entries c (first ++ more) ≡ with_entries (with_entries c first) more
entries_more c [] more = refl
entries_more c (e ∷ first) more = entries_more (with_entry c e) first more
