-- Inputs that are taken one after another.
use Rattle.std.proofs.Common.{◌≡◌, ℕ, suc, ◌+◌, ◌-◌, ◌<◌, ◌≤◌, inl, inr, IsTrue, List, [], ◌∷◌, ◌++◌, length, get_or, drop, replicate, Option, Some, None, Result, Ok, Err, append-nil, append_assoc, length-append, refl, sym, ap, ◌∙◌, subst, arith}
use Rattle.std.specs.List.{flat_map}
use Rattle.std.specs.Io.KnownBytes.{append_known}
use Rattle.std.proofs.lemmas.List.{at_drop_more}
use Rattle.std.proofs.Math.ListN.{drop_of_length-le}
use Rattle.std.proofs.lemmas.List.Concat.{flat_map-append}
use Rattle.init_machine.specs.History.{after_from}
use Rattle.init_machine.specs.Policy.{PolicyLines}
use Rattle.init_machine.specs.State.{Opening, State}
use Rattle.init_machine.specs.Step.{step}
use Rattle.init_base.specs.declared.units.ClientId.{ClientId}
use Rattle.init_machine.specs.declared.config.Config.{Config}
use Rattle.init_machine.specs.declared.config.Pair.{Pair}
use Rattle.init_machine.specs.declared.input.Input.{Input}
use Rattle.init_machine.specs.declared.report.Entry.{Entry}
use Rattle.init_trace.specs.Report.{EntriesText, EntryText}
use Rattle.init_trace.proofs.Adding.{added_nothing, taken_then}
use Rattle.machine_laws.specs.Histories.{history_from}
use Rattle.script_lang.specs.Inputs.{act_inputs, ask_inputs}
use Rattle.script_lang.specs.declared.script.Act.{Act}
use Rattle.script_lang.specs.declared.script.Ask.{Ask}
use Rattle.script_lang.specs.declared.script.Ask.TheVariants as ask
use Rattle.init_driver.specs.Course.{entries_at, texts_at, Breaks, IsAhead, Leads, Place, Stops, Takes, TracedView, Untaken, place_of}
use Rattle.init_driver.specs.Keeper.{KeeperView, Risks, Took}
use Rattle.init_driver.specs.Machine.{StaysSo}
use Rattle.init_driver.specs.Stored.{given_at, given_from, has_stored}
use Rattle.init_driver.specs.declared.refusal.DriveRefusal.{DriveRefusal}
use Rattle.init_driver.specs.declared.refusal.DriveRefusal.TheVariants as refusal
use Rattle.init_driver.proofs.Aheads.{ahead_shift, ahead_then, ahead_up}
use Rattle.init_driver.proofs.Keepers.{risks_then, took_nothing, took_then}
use Rattle.init_driver.proofs.Sinks.{two_fronts}

-- ---- inputs behind others

pub after_more : (config : Config) (policy : PolicyLines) (s : State) (first more : List Input)
    → after_from config policy s (first ++ more) ≡ after_from config policy (after_from config policy s first) more
after_more config policy s [] more = refl
after_more config policy s (i ∷ first) more = after_more config policy (step config policy s i).state first more

pub history_more : (config : Config) (policy : PolicyLines) (s : State) (first more : List Input)
    → history_from config policy s (first ++ more) ≡ history_from config policy s first ++ history_from config policy (after_from config policy s first) more
history_more config policy s [] more = refl
history_more config policy s (i ∷ first) more =
    let now = step config policy s i in
    ap (λ (rest : List Entry). let e : Entry = record { input = i; outputs = now.lines } in e ∷ rest) (history_more config policy now.state first more)

given_more : (config : Config) (policy : PolicyLines) (s : State) (first more : List Input)
    → given_from config policy s (first ++ more) ≡ given_from config policy s first ++ given_from config policy (after_from config policy s first) more
given_more config policy s [] more = refl
given_more config policy s (i ∷ first) more =
    let now = step config policy s i in
    ap (λ rest. given_at policy now ++ rest) (given_more config policy now.state first more)
    ∙ sym (append_assoc (given_at policy now) (given_from config policy now.state first) (given_from config policy (after_from config policy now.state first) more))

-- ---- from place to place

-- what holds at a place, by the place that led to it
moved : {X : Type 0} (f : Config → PolicyLines → State → X) (inputs : List Input) (a b : Place) → Leads inputs a b
    → f b.config b.policy b.state ≡ f a.config a.policy (after_from a.config a.policy a.state inputs)
moved f inputs a b h =
    ap (λ c. f c b.policy b.state) h.config ∙ ap (λ p. f a.config p b.state) h.policy ∙ ap (λ s. f a.config a.policy s) h.state

entries_more : (first more : List Input) (a b : Place) → Leads first a b → entries_at a (first ++ more) ≡ entries_at a first ++ entries_at b more
entries_more first more a b h =
    history_more a.config a.policy a.state first more
    ∙ ap (λ es. entries_at a first ++ es) (sym (moved (λ c p s. history_from c p s more) first a b h))

text_more : (first more : List Input) (a b : Place) → Leads first a b
    → EntriesText (entries_at a (first ++ more)) ≡ EntriesText (entries_at a first) ++ EntriesText (entries_at b more)
text_more first more a b h = ap EntriesText (entries_more first more a b h) ∙ flat_map-append EntryText (entries_at a first) (entries_at b more)

texts_more : (first more : List Input) (a b : Place) → Leads first a b → texts_at a (first ++ more) ≡ texts_at a first ++ texts_at b more
texts_more first more a b h =
    given_more a.config a.policy a.state first more
    ∙ ap (λ g. texts_at a first ++ g) (sym (moved (λ c p s. given_from c p s more) first a b h))

-- no request but a set has an input
pub no_inputs : (who : ClientId) (one : Ask) → ((pair : Pair) → one ≡ ask.Set pair → ⊥) → ask_inputs who one ≡ []
no_inputs who (ask.Set pair) none = absurd (none pair refl)
no_inputs who (ask.Read name) none = refl
no_inputs who ask.Sync none = refl
no_inputs who ask.Catch none = refl

pub leads_nothing : (a : Place) → Leads [] a a
leads_nothing a = record {
  config = refl;
  policy = refl;
  state = refl;
  opening = refl;
  history = sym (append-nil a.history);
  added = added_nothing a.taken a.waits;
  ahead = tt;
  kept = took_nothing a.keeper;
}

-- what is ahead behind other inputs, of which so many bytes were written
ahead_more : (first more : List Input) (a b : Place) (h : Leads first a b) (written : ℕ) → IsAhead (length b.waits) (entries_at b more) written
    → IsAhead (length a.waits) (entries_at a (first ++ more)) (length h.added.front + written)
ahead_more first more a b h written k =
    let front = length h.added.front in
    let text = length (EntriesText (entries_at a first)) in
    let here = length-append h.added.front b.waits in
    let there = length-append a.waits (EntriesText (entries_at a first)) in
    let whole = ap length h.added.whole in
    let same : front + length b.waits ≡ length a.waits + text = omega arith in
    let up : front ≤ front + written = omega arith in
    subst (λ (es : List Entry). IsAhead (length a.waits) es (front + written)) (sym (entries_more first more a b h))
    (ahead_then (length a.waits) (entries_at a first) (entries_at b more) (front + written)
    (ahead_up (length a.waits) (entries_at a first) front (front + written) up h.ahead)
    (subst (λ n. IsAhead n (entries_at b more) (front + written)) same (ahead_shift (length b.waits) (entries_at b more) written front k)))

pub leads_then : (first more : List Input) (a b d : Place) → Leads first a b → Leads more b d → Leads (first ++ more) a d
leads_then first more a b d h k = record {
  config = k.config ∙ h.config;
  policy = k.policy ∙ h.policy;
  state =
      k.state ∙ moved (λ c p s. after_from c p s more) first a b h
      ∙ sym (after_more a.config a.policy a.state first more);
  opening = k.opening ∙ h.opening;
  history =
      k.history ∙ ap (λ (es : List Entry). es ++ entries_at b more) h.history
      ∙ append_assoc a.history (entries_at a first) (entries_at b more)
      ∙ ap (λ (es : List Entry). a.history ++ es) (sym (entries_more first more a b h));
  added =
      record {
        front = h.added.front ++ k.added.front;
        whole =
            two_fronts a.waits b.waits d.waits (EntriesText (entries_at a first)) (EntriesText (entries_at b more)) h.added.front k.added.front h.added.whole k.added.whole
            ∙ ap (λ z. a.waits ++ z) (sym (text_more first more a b h));
        taken = taken_then a.taken b.taken d.taken h.added.front k.added.front h.added.taken k.added.taken;
      };
  ahead =
      subst (λ n. IsAhead (length a.waits) (entries_at a (first ++ more)) n) (sym (length-append h.added.front k.added.front))
      (ahead_more first more a b h (length k.added.front) k.ahead);
  kept = subst (Took a.keeper d.keeper) (sym (texts_more first more a b h)) (took_then a.keeper b.keeper d.keeper (texts_at a first) (texts_at b more) h.kept k.kept);
}

breaks_more : (first more : List Input) (a b d : Place) → Leads first a b → Breaks more b d → Breaks (first ++ more) a d
breaks_more first more a b d h k =
    record {
      done = first ++ k.done;
      left = k.left;
      all = append_assoc first k.done k.left ∙ ap (λ z. first ++ z) k.all;
      written = record {
        front = h.added.front ++ k.written.front;
        rest = k.written.rest;
        whole =
            two_fronts a.waits b.waits k.written.rest (EntriesText (entries_at a first)) (EntriesText (entries_at b k.done)) h.added.front k.written.front h.added.whole k.written.whole
            ∙ ap (λ z. a.waits ++ z) (sym (text_more first k.done a b h));
        taken = taken_then a.taken b.taken d.taken h.added.front k.written.front h.added.taken k.written.taken;
      };
      ahead =
          subst (λ n. IsAhead (length a.waits) (entries_at a (first ++ k.done)) n) (sym (length-append h.added.front k.written.front))
          (ahead_more first k.done a b h (length k.written.front) k.ahead);
      kept = subst (Took a.keeper d.keeper) (sym (texts_more first k.done a b h)) (took_then a.keeper b.keeper d.keeper (texts_at a first) (texts_at b k.done) h.kept k.kept);
    }

-- whether an input that comes behind others stores a property
stores_behind : (first done : List Input) (i : Input) (a b : Place) → Leads first a b
    → (step b.config b.policy (after_from b.config b.policy b.state done) i).lines ≡ (step a.config a.policy (after_from a.config a.policy a.state (first ++ done)) i).lines
stores_behind first done i a b h =
    moved (λ c p s. (step c p (after_from c p s done) i).lines) first a b h
    ∙ ap (λ s. (step a.config a.policy s i).lines) (sym (after_more a.config a.policy a.state first done))

stops_more : (first more : List Input) (a b d : Place) → Leads first a b → Stops more b d → Stops (first ++ more) a d
stops_more first more a b d h k = record {
  done = first ++ k.done;
  input = k.input;
  left = k.left;
  all = append_assoc first k.done (k.input ∷ k.left) ∙ ap (λ z. first ++ z) k.all;
  stored = subst (λ os. IsTrue (has_stored os)) (stores_behind first k.done k.input a b h) k.stored;
  written =
      taken_then a.taken b.taken d.taken h.added.front (b.waits ++ EntriesText (entries_at b k.done)) h.added.taken k.written
      ∙ ap (append_known a.taken)
      (sym (append_assoc h.added.front b.waits (EntriesText (entries_at b k.done))) ∙ ap (λ z. z ++ EntriesText (entries_at b k.done)) h.added.whole
      ∙ append_assoc a.waits (EntriesText (entries_at a first)) (EntriesText (entries_at b k.done)) ∙ ap (λ z. a.waits ++ z) (sym (text_more first k.done a b h)));
  kept =
      let one = texts_more first k.done a b h in
      let more : texts_at a ((first ++ k.done) ++ k.input ∷ []) ≡ texts_at a first ++ texts_at b (k.done ++ k.input ∷ []) =
      ap (texts_at a) (append_assoc first k.done (k.input ∷ [])) ∙ texts_more first (k.done ++ k.input ∷ []) a b h in
      λ tells.
      subst (Risks a.keeper d.keeper (texts_at a (first ++ k.done))) (sym more)
      (subst (λ texts. Risks a.keeper d.keeper texts (texts_at a first ++ texts_at b (k.done ++ k.input ∷ []))) (sym one)
      (risks_then a.keeper b.keeper d.keeper (texts_at a first) (texts_at b k.done) (texts_at b (k.done ++ k.input ∷ [])) h.kept k.kept tells));
}

-- a refusal comes behind other inputs
pub untaken_then : (e : DriveRefusal) (first more : List Input) (a b d : Place) → Leads first a b → Untaken e more b d → Untaken e (first ++ more) a d
untaken_then refusal.Keeper first more a b d h k = stops_more first more a b d h k
untaken_then refusal.Write first more a b d h k = breaks_more first more a b d h k
untaken_then refusal.NoMemory first more a b d h k = elim k [
  | inl breaks ↦ inl (breaks_more first more a b d h breaks)
  | inr stops ↦ inr (stops_more first more a b d h stops)
]

-- inputs are taken behind others
pub takes_then : {T : Type 0} (r : Result T DriveRefusal) (first more : List Input) (a b d : Place) → Leads first a b → Takes more b d r → Takes (first ++ more) a d r
takes_then (Ok v) first more a b d h k = leads_then first more a b d h k
takes_then (Err e) first more a b d h k = untaken_then e first more a b d h k

breaks_less : (first more : List Input) (a b : Place) → Breaks first a b → Breaks (first ++ more) a b
breaks_less first more a b h = record {
  done = h.done;
  left = h.left ++ more;
  all = sym (append_assoc h.done h.left more) ∙ ap (λ z. z ++ more) h.all;
  written = h.written;
  ahead = h.ahead;
  kept = h.kept;
}

stops_less : (first more : List Input) (a b : Place) → Stops first a b → Stops (first ++ more) a b
stops_less first more a b h = record {
  done = h.done;
  input = h.input;
  left = h.left ++ more;
  all = sym (append_assoc h.done (h.input ∷ h.left) more) ∙ ap (λ z. z ++ more) h.all;
  stored = h.stored;
  written = h.written;
  kept = h.kept;
}

-- a refusal ends longer inputs too
pub untaken_less : (e : DriveRefusal) (first more : List Input) (a b : Place) → Untaken e first a b → Untaken e (first ++ more) a b
untaken_less refusal.Keeper first more a b h = stops_less first more a b h
untaken_less refusal.Write first more a b h = breaks_less first more a b h
untaken_less refusal.NoMemory first more a b h = elim h [
  | inl breaks ↦ inl (breaks_less first more a b breaks)
  | inr stops ↦ inr (stops_less first more a b stops)
]

-- nothing more was taken
pub takes_no_more : (known : Option (List ℕ)) → known ≡ append_known known []
takes_no_more None = refl
takes_no_more (Some bytes) = ap Some (sym (append-nil bytes))

-- memory ran out before the first input
pub takes_still : (inputs : List Input) (a b : Place) → b.taken ≡ a.taken → Took a.keeper b.keeper [] → Untaken refusal.NoMemory inputs a b
takes_still inputs a b same kept = inl (record {
  done = [];
  left = inputs;
  all = refl;
  written = record { front = []; rest = a.waits ++ []; whole = refl; taken = same ∙ takes_no_more a.taken };
  ahead = tt;
  kept = kept;
})

pub takes_none : (inputs : List Input) (a : Place) → Untaken refusal.NoMemory inputs a a
takes_none inputs a = takes_still inputs a a refl (took_nothing a.keeper)

abbrev place_at : Config → PolicyLines → State → Opening → List Entry → List ℕ → Option (List ℕ) → KeeperView → Place
place_at config policy s opening history waits taken keeper = record {
  config = config;
  policy = policy;
  state = s;
  opening = opening;
  history = history;
  waits = waits;
  taken = taken;
  keeper = keeper;
}

-- ---- a loop over inputs

-- of all inputs these are left
pub record Going (all left : List Input) (a b : Place) : Type 0 where
  pub done : List Input
  pub whole : done ++ left ≡ all
  pub leads : Leads done a b

pub going_begins : (all left : List Input) (a : Place) → left ≡ all → Going all left a a
going_begins all left a is = record { done = []; whole = is; leads = leads_nothing a }

-- some of what was left were taken
pub going_on : (all left part rest : List Input) (a b d : Place) → left ≡ part ++ rest → Going all left a b → Leads part b d → Going all rest a d
going_on all left part rest a b d is h k = record {
  done = h.done ++ part;
  whole = append_assoc h.done part rest ∙ ap (λ z. h.done ++ z) (sym is) ∙ h.whole;
  leads = leads_then h.done part a b d h.leads k;
}

-- a refusal came while some of what was left were taken
pub going_stops : (e : DriveRefusal) (all left part rest : List Input) (a b d : Place) → left ≡ part ++ rest → Going all left a b → Untaken e part b d → Untaken e all a d
going_stops e all left part rest a b d is h k =
    let all_is : (h.done ++ part) ++ rest ≡ all = append_assoc h.done part rest ∙ ap (λ z. h.done ++ z) (sym is) ∙ h.whole in
    subst (λ (inputs : List Input). Untaken e inputs a d) all_is
    (untaken_less e (h.done ++ part) rest a d (untaken_then e h.done part a b d h.leads k))

-- memory ran out between two of them
pub going_ends : (all left : List Input) (a b d : Place) → Going all left a b → d.taken ≡ b.taken → Took b.keeper d.keeper [] → Untaken refusal.NoMemory all a d
going_ends all left a b d h same kept =
    going_stops refusal.NoMemory all left [] left a b d refl h (takes_still [] b d same kept)

-- nothing is left
pub gone : (all left : List Input) (a b : Place) → left ≡ [] → Going all left a b → Leads all a b
gone all left a b none h = subst (λ is. Leads is a b) (sym (append-nil h.done) ∙ ap (λ z. h.done ++ z) (sym none) ∙ h.whole) h.leads

pub all_left : (i : Input) (n : ℕ) → replicate (n - 0) i ≡ replicate n i
all_left i n = let same : n - 0 ≡ n = omega arith in ap (λ m. replicate m i) same

-- so many times the same input, at one of them
pub next_left : (i : Input) (n k : ℕ) → k < n → replicate (n - k) i ≡ (i ∷ []) ++ replicate (n - (k + 1)) i
next_left i n k within =
    let one : n - k ≡ suc (n - (k + 1)) = omega arith in
    ap (λ m. replicate m i) one

pub none_left : (i : Input) (n k : ℕ) → n ≤ k → replicate (n - k) i ≡ []
none_left i n k past = let none : n - k ≡ 0 = omega arith in ap (λ m. replicate m i) none

-- what is left of the inputs of acts, at one of them
pub act_left : (acts : List Act) (k : ℕ) (act : Act) → k < length acts → act ≡ get_or acts k act
    → flat_map act_inputs (drop k acts) ≡ act_inputs act ++ flat_map act_inputs (drop (k + 1) acts)
act_left acts k act within at =
    at_drop_more (flat_map act_inputs) acts k act within ∙ ap (λ (a : Act). act_inputs a ++ flat_map act_inputs (drop (k + 1) acts)) (sym at)

pub acts_left : (acts : List Act) (k : ℕ) → length acts ≤ k → flat_map act_inputs (drop k acts) ≡ []
acts_left acts k past = ap (flat_map act_inputs) (drop_of_length-le acts past)

-- a machine that stands where it stood
pub same_place : (t u : TracedView) (taken : Option (List ℕ)) (keeper : KeeperView) → StaysSo t.core u.core → u.printer ≡ t.printer
    → place_of t taken keeper ≡ place_of u taken keeper
same_place t u taken keeper same printer = sym (λ j.
    place_at (same.config j) (same.policy j) (same.state j) (same.opening j) (same.history j) (printer j) taken keeper)

pub after_same : (config config' : Config) (policy policy' : PolicyLines) (s s' : State) (inputs : List Input) → config' ≡ config → policy' ≡ policy → s' ≡ s
    → after_from config' policy' s' inputs ≡ after_from config policy s inputs
after_same config config' policy policy' s s' inputs same_config same_policy same_state =
    ap (λ (c : Config). after_from c policy' s' inputs) same_config ∙ ap (λ (p : PolicyLines). after_from config p s' inputs) same_policy
    ∙ ap (λ (t : State). after_from config policy t inputs) same_state
