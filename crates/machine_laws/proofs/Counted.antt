-- The sets of a legal history: their numbers, and the values that they leave.
use Rattle.std.proofs.Common.{◌≡◌, ℕ, zero, suc, ◌+◌, List, [], ◌∷◌, ◌++◌, length, take, drop, Option, Some, None, if◌then◌else◌, refl, sym, ap, ◌∙◌, arith, subst, length-append}
use Rattle.std.proofs.Math.Seq.{take-length, take-append_seam}
use Rattle.std.proofs.lemmas.Grind.{flat_map-append}
use Rattle.std.proofs.lemmas.List.{take-append-drop}
use Rattle.std.specs.List.{flat_map}
use Rattle.std.specs.Str.{bytes_eq}
use Rattle.init_machine.proofs.ValuePut.{value_put}
use Rattle.init_machine.specs.History.{after, Legal, inputs_of, set_in, sets_in, sets_of, number_in, numbers_of, last_value, value_at, count_at}
use Rattle.init_machine.specs.Props.{value_in}
use Rattle.init_machine.specs.Setting.{put_line, put_property}
use Rattle.init_machine.specs.State.{Opening, State, Rules, rules_of, first_state, value_now}
use Rattle.init_machine.specs.declared.output.Output.{Output}
use Rattle.init_machine.specs.declared.output.Output.TheVariants as output
use Rattle.init_machine.specs.declared.report.Entry.{Entry}
use Rattle.machine_laws.specs.Counting.{counting_from}
use Rattle.machine_laws.specs.Rebooting.{outputs_of}
use Rattle.machine_laws.proofs.Legal.{legal_beginning}
use Rattle.machine_laws.proofs.PropsAlone.{IsNoPut, OfProps, sets_of as sets_by, steps_of}
use Rattle.machine_laws.proofs.Stepping.{step_by, history_by}

abbrev Pairs : Type 0
Pairs = List (List ℕ × List ℕ)

-- from one state to the next, these sets with these numbers were made
record Made (s t : State) (sets : Pairs) (numbers : List ℕ) : Type 0 where
  numbers_count : numbers ≡ counting_from s.props.count (length sets)
  count : t.props.count ≡ s.props.count + length sets
  values : (name : List ℕ) → value_now t name ≡ last_value sets name (value_now s name)

made_none : (s t : State) → t.props ≡ s.props → Made s t [] []
made_none s t same = record {
  numbers_count = refl;
  count = rw same (omega arith);
  values = λ name. ap (λ p. value_in p name) same;
}

pub counting-append : (k m n : ℕ) → counting_from k (m + n) ≡ counting_from k m ++ counting_from (k + m) n
counting-append k zero n = rw (let e : 0 + n ≡ n = omega arith in e, let e : k + 0 ≡ k = omega arith in e) refl
counting-append k (suc m) n =
    rw (let e : suc m + n ≡ suc (m + n) = omega arith in e, let e : k + suc m ≡ (k + 1) + m = omega arith in e)
    (ap (λ ns. (k + 1) ∷ ns) (counting-append (k + 1) m n))

last_value-append : (a b : Pairs) (name : List ℕ) (value : Option (List ℕ)) → last_value (a ++ b) name value ≡ last_value b name (last_value a name value)
last_value-append [] b name value = refl
last_value-append (s ∷ a) b name value = last_value-append a b name (if bytes_eq s.0 name then Some s.1 else value)

made_more : (s t u : State) (a b : Pairs) (m n : List ℕ) → Made s t a m → Made t u b n → Made s u (a ++ b) (m ++ n)
made_more s t u a b m n first second =
    let len : length (a ++ b) ≡ length a + length b = length-append a b in
    record {
      numbers_count = rw (first.numbers_count, second.numbers_count, first.count, len) (sym (counting-append s.props.count (length a) (length b)));
      count = omega (arith, first.count, second.count, len);
      values = λ name. second.values name ∙ ap (last_value b name) (first.values name) ∙ sym (last_value-append a b name (value_now s name));
    }

abbrev Counts : State → List Output → State → Type 0
Counts s lines t = Made s t (sets_in lines) (flat_map number_in lines)

joined : (s t u : State) (first second : List Output) → Counts s first t → Counts t second u → Counts s (first ++ second) u
joined s t u first second one other =
    rw (flat_map-append set_in first second, flat_map-append number_in first second)
    (made_more s t u (sets_in first) (sets_in second) (flat_map number_in first) (flat_map number_in second) one other)

put_made : (s : State) (name value : List ℕ) → Counts s (put_line s name value ∷ []) (put_property s name value).state
unfolding put_property
put_made s name value = record {
  numbers_count = refl;
  count = refl;
  values = λ other. value_put s.props.held (record { name = name; value = value; number = s.props.count + 1 }) other;
}

line_made : (s t : State) (o : Output) → IsNoPut o → t.props ≡ s.props → Counts s (o ∷ []) t
line_made s t (output.Put number name value) never same = absurd never
line_made s t _ never same = made_none s t same

of_props : (rules : Rules) → OfProps rules Counts
of_props rules = record { none = made_none; joined = joined; line = line_made; put = λ s by name value accepted. put_made s name value }

-- what is read of each entry is read of all outputs
pub read_all : {X : Type 0} (read : Output → List X) (history : List Entry) → flat_map read (outputs_of history) ≡ flat_map (λ (e : Entry). flat_map read e.outputs) history
read_all read [] = refl
read_all read (e ∷ history) = flat_map-append read e.outputs (outputs_of history) ∙ ap (λ xs. flat_map read e.outputs ++ xs) (read_all read history)

legal_made : (o : Opening) (history : List Entry) → Legal o history → Made (first_state o) (after o (inputs_of history)) (sets_of history) (numbers_of history)
legal_made o history legal =
    let all_made : Counts (first_state o) (outputs_of history) (after o (inputs_of history)) =
    let rules = rules_of o.config o.policy in
    history_by o.config o.policy Counts (sets_by rules Counts (of_props rules)) (step_by o.config o.policy Counts (steps_of rules Counts (of_props rules)))
    (first_state o) history legal in
    let P : Pairs → Type 0 = λ xs. Made (first_state o) (after o (inputs_of history)) xs (numbers_of history) in
    let Q : List ℕ → Type 0 = λ ns. Made (first_state o) (after o (inputs_of history)) (sets_in (outputs_of history)) ns in
    subst P (read_all set_in history) (subst Q (read_all number_in history) all_made)

-- the numbers count from 1
pub numbers_count : (o : Opening) (history : List Entry) → Legal o history → numbers_of history ≡ counting_from 0 (length (sets_of history))
unfolding first_state
numbers_count o history legal = (legal_made o history legal).numbers_count

-- the count is that of the sets
pub sets_count : (o : Opening) (history : List Entry) → Legal o history → (after o (inputs_of history)).props.count ≡ length (sets_of history)
unfolding first_state
sets_count o history legal = (let made = legal_made o history legal in omega (arith, made.count))

-- each name has the value of its last set
pub last_values : (o : Opening) (history : List Entry) (name : List ℕ) → Legal o history
    → value_now (after o (inputs_of history)) name ≡ value_at (sets_of history) (length (sets_of history)) name
unfolding first_state
last_values o history name legal =
    (legal_made o history legal).values name ∙ ap (λ sets. last_value sets name None) (sym (take-length (sets_of history)))

-- and so it has behind each entry
pub values_so_far : (o : Opening) (history : List Entry) (n : ℕ) (name : List ℕ) → Legal o history
    → value_now (after o (inputs_of (take n history))) name ≡ value_at (sets_of history) (count_at history n) name
unfolding first_state
values_so_far o history n name legal =
    let begun : Legal o (take n history) = legal_beginning o (take n history) (drop n history) (rw take-append-drop legal) in
    let split : sets_of (take n history) ++ sets_of (drop n history) ≡ sets_of history =
    sym (flat_map-append (λ (e : Entry). sets_in e.outputs) (take n history) (drop n history)) ∙ ap sets_of (take-append-drop n history) in
    let front : take (count_at history n) (sets_of history) ≡ sets_of (take n history) =
    ap (take (count_at history n)) (sym split) ∙ take-append_seam (sets_of (take n history)) (sets_of (drop n history)) in
    (legal_made o (take n history) begun).values name ∙ ap (λ sets. last_value sets name None) (sym front)
