-- The text of a report: its head, the entries that were taken, and its tail.
use Rattle.std.proofs.Common.{◌≡◌, ℕ, suc, ◌+◌, ◌-◌, ◌≤◌, ◌⊎◌, inl, inr, List, [], ◌∷◌, ◌++◌, length, take, Option, Result, Ok, Err, append-nil, append_assoc, length-append, refl, sym, ap, ◌∙◌, subst, arith}
use Rattle.std.proofs.lemmas.List.Concat.{flat_map-append}
use Rattle.std.specs.Io.KnownBytes.{append_known}
use Rattle.init_machine.specs.History.{after_from}
use Rattle.init_machine.specs.Policy.{PolicyLines}
use Rattle.init_machine.specs.State.{Opening, State, first_state}
use Rattle.init_machine.specs.Step.{step}
use Rattle.init_machine.specs.declared.config.Config.{Config}
use Rattle.init_machine.specs.declared.diagnostic.Diagnostic.{Diagnostic}
use Rattle.init_machine.specs.declared.input.Input.{Input}
use Rattle.init_machine.specs.declared.report.Entry.{Entry}
use Rattle.init_machine.specs.declared.report.Report.{Report}
use Rattle.init_trace.specs.Report.{EntriesText, EntryText, HeadText, TailText, TextOf}
use Rattle.init_trace.specs.Written.{Added, TakesFront}
use Rattle.init_trace.proofs.Adding.{taken_then}
use Rattle.init_trace.proofs.Texts.{text_parts}
use Rattle.machine_laws.specs.Histories.{history_from}
use Rattle.script_lang.specs.Inputs.{InOrder}
use Rattle.script_lang.specs.declared.script.Script.{Script}
use Rattle.init_driver.specs.Course.{entries_at, texts_at, Breaks, IsAhead, Leads, Place, Prints, Stops, Unprinted, Untaken}
use Rattle.init_driver.specs.Keeper.{KeeperView, Risks, Took}
use Rattle.init_driver.specs.Run.{Due, EndsAt, EndsBeforeStored, KeepsPart, Leaves, LeavesPart, due_from, due_of, entries_in, whole_in}
use Rattle.init_driver.specs.Stored.{given_from}
use Rattle.init_driver.specs.declared.refusal.DriveRefusal.{DriveRefusal}
use Rattle.init_driver.specs.declared.refusal.DriveRefusal.TheVariants as refusal
use Rattle.init_driver.proofs.Aheads.{ahead_up}
use Rattle.init_driver.proofs.Courses.{history_more, takes_no_more}
use Rattle.init_driver.proofs.Keepers.{risks_took, risks_took_others, took_nothing}
use Rattle.init_driver.proofs.Sinks.{prints_then, two_fronts}
use Rattle.init_driver.proofs.Whole.{ahead_down, given_near, given_one_more, history_length, take_all, take_next, whole_exact, whole_none, whole_over}

-- what is due from a place on, where the head was printed
pub record IsDueAt (due : Due) (inputs : List Input) (b : Place) : Type 0 where
  pub history : due.report.history ≡ entries_at b inputs
  pub upto : (n : ℕ) → due.upto n ≡ texts_at b (take n inputs)
  pub all : due.all ≡ texts_at b inputs

-- the parts of the text behind its head
abbrev behind_head : Report → List ℕ
behind_head report = EntriesText report.history ++ TailText report.clients

-- so many entries are written whole, where these bytes wait behind the head
abbrev whole_at : Due → List ℕ → ℕ
whole_at due front = entries_in front due.report

-- the keeper took the texts up to the last entry that is written whole, or up to the next one
keeps_near : (e : DriveRefusal) (a b : KeeperView) (texts others more : List (List ℕ)) (given : List (List ℕ)) → others ≡ texts ++ more → Took a b given → (given ≡ texts) ⊎ (given ≡ others) → KeepsPart e a b texts others
keeps_near refusal.Keeper a b texts others more given is took near = elim near [
  | inl same ↦ subst (λ (o : List (List ℕ)). a.TellsCrash → Risks a b texts o) (sym is) (risks_took a b texts more (subst (Took a b) same took))
  | inr same ↦ risks_took_others a b texts others (subst (Took a b) same took)
]
keeps_near refusal.Write a b texts others more given is took near = elim near [
  | inl same ↦ inl (subst (Took a b) same took)
  | inr same ↦ inr (subst (Took a b) same took)
]
keeps_near refusal.NoMemory a b texts others more given is took near = elim near [
  | inl same ↦ subst (λ (o : List (List ℕ)). a.TellsCrash → Risks a b texts o) (sym is) (risks_took a b texts more (subst (Took a b) same took))
  | inr same ↦ risks_took_others a b texts others (subst (Took a b) same took)
]

-- ---- the head was refused

front_of_head : (due : Due) (old new : Option (List ℕ)) (w : List ℕ) → w ≡ [] → TakesFront old new (w ++ HeadText due.report.diagnostics) → TakesFront old new (TextOf due.report)
front_of_head due old new w empty h = record {
  front = h.front;
  rest = h.rest ++ behind_head due.report;
  whole =
      sym (append_assoc h.front h.rest (behind_head due.report)) ∙ ap (λ z. z ++ behind_head due.report) (h.whole ∙ ap (λ z. z ++ HeadText due.report.diagnostics) empty)
      ∙ sym (text_parts due.report);
  taken = h.taken;
}

none_in_head : (due : Due) (old new : Option (List ℕ)) (w : List ℕ) → w ≡ [] → (h : TakesFront old new (w ++ HeadText due.report.diagnostics)) → whole_at due h.front ≡ 0
none_in_head due old new w empty h =
    let head = length (HeadText due.report.diagnostics) in
    let whole = ap length (h.whole ∙ ap (λ z. z ++ HeadText due.report.diagnostics) empty) in
    let parts = length-append h.front h.rest in
    let none : length h.front - head ≡ 0 = omega arith in
    whole_none due.report.history (length h.front - head) none

head_part : (e : DriveRefusal) (due : Due) (old new : Option (List ℕ)) (k : KeeperView) (w : List ℕ) (inputs : List Input) (b : Place) → IsDueAt due inputs b → w ≡ []
    → TakesFront old new (w ++ HeadText due.report.diagnostics) → ((front : List ℕ) → EndsAt e front due.report) → LeavesPart e old new k k due
unfolding front_of_head
head_part e due old new k w inputs b at empty h ends =
    let none = none_in_head due old new w empty h in
    let more = given_one_more b.config b.policy b.state inputs (whole_at due h.front) in
    record {
      written = front_of_head due old new w empty h;
      ends = ends h.front;
      kept_at = keeps_near e k k (due.upto (whole_at due h.front)) (due.upto (suc (whole_at due h.front))) more.0 []
          (at.upto (suc (whole_at due h.front)) ∙ more.1 ∙ ap (λ g. g ++ more.0) (sym (at.upto (whole_at due h.front)))) (took_nothing k)
          (inl (sym (ap due.upto none ∙ at.upto 0)));
    }

pub head_refused : (e : DriveRefusal) (due : Due) (old new : Option (List ℕ)) (k : KeeperView) (w : List ℕ) (inputs : List Input) (b : Place) → IsDueAt due inputs b → w ≡ []
    → Unprinted e old new w (HeadText due.report.diagnostics) → LeavesPart e old new k k due
head_refused refusal.Keeper due old new k w inputs b at empty h = absurd h
head_refused refusal.Write due old new k w inputs b at empty h = head_part refusal.Write due old new k w inputs b at empty h (λ _. tt)
head_refused refusal.NoMemory due old new k w inputs b at empty h = head_part refusal.NoMemory due old new k w inputs b at empty h (λ _. tt)

-- ---- an entry was refused

-- a front of the entries' text, behind the head
front_of_entries : (due : Due) (done left : List Input) (old : Option (List ℕ)) (b d : Place) (w : List ℕ) → w ≡ [] → due.report.history ≡ entries_at b (done ++ left)
    → Added old b.taken w b.waits (HeadText due.report.diagnostics) → TakesFront b.taken d.taken (b.waits ++ EntriesText (entries_at b done)) → TakesFront old d.taken (TextOf due.report)
front_of_entries due done left old b d w empty is head h =
    let both = two_fronts w b.waits h.rest (HeadText due.report.diagnostics) (EntriesText (entries_at b done)) head.front h.front head.whole h.whole in
    let later = history_from b.config b.policy (after_from b.config b.policy b.state done) left in
    let rest = EntriesText later ++ TailText due.report.clients in
    let entries : EntriesText due.report.history ≡ EntriesText (entries_at b done) ++ EntriesText later =
    ap EntriesText (is ∙ history_more b.config b.policy b.state done left) ∙ flat_map-append EntryText (entries_at b done) later in
    record {
      front = head.front ++ h.front;
      rest = h.rest ++ rest;
      whole =
          sym (append_assoc (head.front ++ h.front) h.rest rest) ∙ ap (λ z. z ++ rest) (both ∙ ap (λ z. z ++ (HeadText due.report.diagnostics ++ EntriesText (entries_at b done))) empty)
          ∙ append_assoc (HeadText due.report.diagnostics) (EntriesText (entries_at b done)) rest
          ∙ ap (λ z. HeadText due.report.diagnostics ++ z) (sym (append_assoc (EntriesText (entries_at b done)) (EntriesText later) (TailText due.report.clients)) ∙ ap (λ z. z ++ TailText due.report.clients) (sym entries))
          ∙ sym (text_parts due.report);
      taken = taken_then old b.taken d.taken head.front h.front head.taken h.taken;
    }

-- how much of the text of entries is written, behind the head and what waited of it
behind_the_head : (due : Due) (old : Option (List ℕ)) (b : Place) (w front : List ℕ) → w ≡ [] → (head : Added old b.taken w b.waits (HeadText due.report.diagnostics))
    → length (head.front ++ front) - length (HeadText due.report.diagnostics) ≡ length front - length b.waits
behind_the_head due old b w front empty head =
    let whole = ap length (head.whole ∙ ap (λ z. z ++ HeadText due.report.diagnostics) empty) in
    let parts = length-append head.front b.waits in
    let both = length-append head.front front in
    omega arith

-- the keeper, where so many bytes are written behind the head and what waited of it
near_at : (due : Due) (done left : List Input) (b : Place) (k : KeeperView) (e : DriveRefusal) (n : ℕ) → IsDueAt due (done ++ left) b
    → (left ≡ []) ⊎ (n ≤ length b.waits + length (EntriesText (entries_at b done)))
    → IsAhead (length b.waits) (entries_at b done) n → Took b.keeper k (texts_at b done)
    → KeepsPart e b.keeper k (due.upto (whole_in (n - length b.waits) due.report.history)) (due.upto (suc (whole_in (n - length b.waits) due.report.history)))
near_at due done left b k e n at stop ahead took =
    let written = n - length b.waits in
    let stop' : (left ≡ []) ⊎ (written ≤ length (EntriesText (entries_at b done))) =
    elim stop [ inl is ↦ inl is | inr few ↦ inr (omega arith) ] in
    let whole = whole_in written (entries_at b (done ++ left)) in
    let count : whole_in written due.report.history ≡ whole = ap (whole_in written) at.history in
    let down : IsAhead 0 (entries_at b done) written = ahead_down 0 (entries_at b done) n (length b.waits) (subst (λ m. IsAhead m (entries_at b done) n) (let z : length b.waits ≡ 0 + length b.waits = omega arith in z) ahead) in
    let near = given_near b.config b.policy b.state done left written stop' down in
    let more = given_one_more b.config b.policy b.state (done ++ left) whole in
    subst (λ m. KeepsPart e b.keeper k (due.upto m) (due.upto (suc m))) (sym count)
    (keeps_near e b.keeper k (due.upto whole) (due.upto (suc whole)) more.0 (texts_at b done)
    (at.upto (suc whole) ∙ more.1 ∙ ap (λ g. g ++ more.0) (sym (at.upto whole))) took
    (elim near [ inl same ↦ inl (same ∙ sym (at.upto whole)) | inr same ↦ inr (same ∙ sym (at.upto (suc whole))) ]))

breaks_part : (e : DriveRefusal) (due : Due) (inputs : List Input) (old : Option (List ℕ)) (b d : Place) (w : List ℕ) → IsDueAt due inputs b → w ≡ []
    → Added old b.taken w b.waits (HeadText due.report.diagnostics) → Breaks inputs b d → ((front : List ℕ) → EndsAt e front due.report) → LeavesPart e old d.taken b.keeper d.keeper due
unfolding front_of_entries
breaks_part e due inputs old b d w at empty head h ends =
    let here : IsDueAt due (h.done ++ h.left) b = subst (λ (is : List Input). IsDueAt due is b) (sym h.all) at in
    let whole = ap length h.written.whole in
    let parts = length-append h.written.front h.written.rest in
    let text = length-append b.waits (EntriesText (entries_at b h.done)) in
    let few : length h.written.front ≤ length b.waits + length (EntriesText (entries_at b h.done)) = omega arith in
    let near = near_at due h.done h.left b d.keeper e (length h.written.front) here (inr few) h.ahead h.kept in
    record {
      written = front_of_entries due h.done h.left old b d w empty here.history head h.written;
      ends = ends (head.front ++ h.written.front);
      kept_at =
          subst (λ n. KeepsPart e b.keeper d.keeper (due.upto (whole_in n due.report.history)) (due.upto (suc (whole_in n due.report.history))))
          (sym (behind_the_head due old b w h.written.front empty head)) near;
    }

-- the entries up to the one that the keeper didn't take
stops_text : (due : Due) (inputs : List Input) (b d : Place) → IsDueAt due inputs b → (h : Stops inputs b d)
    → due.report.history ≡ entries_at b h.done ++ history_from b.config b.policy (after_from b.config b.policy b.state h.done) (h.input ∷ h.left)
stops_text due inputs b d at h = at.history ∙ ap (entries_at b) (sym h.all) ∙ history_more b.config b.policy b.state h.done (h.input ∷ h.left)

stops_front : (due : Due) (inputs : List Input) (old : Option (List ℕ)) (b d : Place) (w : List ℕ) → w ≡ []
    → (head : Added old b.taken w b.waits (HeadText due.report.diagnostics)) → (h : Stops inputs b d) → d.taken ≡ append_known old (HeadText due.report.diagnostics ++ EntriesText (entries_at b h.done))
stops_front due inputs old b d w empty head h =
    taken_then old b.taken d.taken head.front (b.waits ++ EntriesText (entries_at b h.done)) head.taken h.written
    ∙ ap (append_known old)
    (sym (append_assoc head.front b.waits (EntriesText (entries_at b h.done))) ∙ ap (λ z. z ++ EntriesText (entries_at b h.done)) (head.whole ∙ ap (λ z. z ++ HeadText due.report.diagnostics) empty))

-- behind the head and these entries so many entries are written
stops_count : (due : Due) (inputs : List Input) (b d : Place) → IsDueAt due inputs b → (h : Stops inputs b d)
    → whole_at due (HeadText due.report.diagnostics ++ EntriesText (entries_at b h.done)) ≡ length h.done
stops_count due inputs b d at h =
    let behind = history_from b.config b.policy (after_from b.config b.policy b.state h.done) (h.input ∷ h.left) in
    let both = length-append (HeadText due.report.diagnostics) (EntriesText (entries_at b h.done)) in
    let left : length (HeadText due.report.diagnostics ++ EntriesText (entries_at b h.done)) - length (HeadText due.report.diagnostics) ≡ length (EntriesText (entries_at b h.done)) = omega arith in
    ap (λ n. whole_in n due.report.history) left ∙ ap (whole_in (length (EntriesText (entries_at b h.done)))) (stops_text due inputs b d at h)
    ∙ whole_exact (entries_at b h.done) behind ∙ history_length b.config b.policy b.state h.done

stops_part : (e : DriveRefusal) (due : Due) (inputs : List Input) (old : Option (List ℕ)) (b d : Place) (w : List ℕ) → IsDueAt due inputs b → w ≡ []
    → Added old b.taken w b.waits (HeadText due.report.diagnostics) → (h : Stops inputs b d)
    → (EndsBeforeStored (HeadText due.report.diagnostics ++ EntriesText (entries_at b h.done)) due.report → EndsAt e (HeadText due.report.diagnostics ++ EntriesText (entries_at b h.done)) due.report)
    → ((texts others : List (List ℕ)) → (b.keeper.TellsCrash → Risks b.keeper d.keeper texts others) → KeepsPart e b.keeper d.keeper texts others)
    → LeavesPart e old d.taken b.keeper d.keeper due
stops_part e due inputs old b d w at empty head h ends risks =
    let s = after_from b.config b.policy b.state h.done in
    let behind = history_from b.config b.policy s (h.input ∷ h.left) in
    let text = HeadText due.report.diagnostics ++ EntriesText (entries_at b h.done) in
    let split = stops_text due inputs b d at h in
    let count = stops_count due inputs b d at h in
    let one : due.upto (length h.done) ≡ texts_at b h.done =
    at.upto (length h.done) ∙ ap (λ (is : List Input). texts_at b (take (length h.done) is)) (sym h.all) ∙ ap (texts_at b) (take_all h.done (h.input ∷ h.left)) in
    let more : due.upto (suc (length h.done)) ≡ texts_at b (h.done ++ h.input ∷ []) =
    at.upto (suc (length h.done)) ∙ ap (λ (is : List Input). texts_at b (take (suc (length h.done)) is)) (sym h.all) ∙ ap (texts_at b) (take_next h.done h.input h.left) in
    record {
      written = record {
        front = text;
        rest = EntriesText behind ++ TailText due.report.clients;
        whole =
            append_assoc (HeadText due.report.diagnostics) (EntriesText (entries_at b h.done)) (EntriesText behind ++ TailText due.report.clients)
            ∙ ap (λ z. HeadText due.report.diagnostics ++ z)
            (sym (append_assoc (EntriesText (entries_at b h.done)) (EntriesText behind) (TailText due.report.clients))
            ∙ ap (λ z. z ++ TailText due.report.clients) (sym (flat_map-append EntryText (entries_at b h.done) behind) ∙ ap EntriesText (sym split)))
            ∙ sym (text_parts due.report);
        taken = stops_front due inputs old b d w empty head h;
      };
      ends = ends (record {
        before = entries_at b h.done;
        entry = record { input = h.input; outputs = (step b.config b.policy s h.input).lines };
        behind = history_from b.config b.policy (step b.config b.policy s h.input).state h.left;
        history = split;
        stored = h.stored;
        front_is = refl;
      });
      kept_at =
          risks (due.upto (whole_at due text)) (due.upto (suc (whole_at due text)))
          (λ tells. subst (λ n. Risks b.keeper d.keeper (due.upto n) (due.upto (suc n))) (sym count)
          (subst (Risks b.keeper d.keeper (due.upto (length h.done))) (sym more) (subst (λ t. Risks b.keeper d.keeper t (texts_at b (h.done ++ h.input ∷ []))) (sym one) (h.kept tells))));
    }

pub entries_refused : (e : DriveRefusal) (due : Due) (inputs : List Input) (old : Option (List ℕ)) (b d : Place) (w : List ℕ) → IsDueAt due inputs b → w ≡ []
    → Added old b.taken w b.waits (HeadText due.report.diagnostics) → Untaken e inputs b d → LeavesPart e old d.taken b.keeper d.keeper due
entries_refused refusal.Keeper due inputs old b d w at empty head h = stops_part refusal.Keeper due inputs old b d w at empty head h (λ ends. ends) (λ texts others risk. risk)
entries_refused refusal.Write due inputs old b d w at empty head h = breaks_part refusal.Write due inputs old b d w at empty head h (λ _. tt)
entries_refused refusal.NoMemory due inputs old b d w at empty head h = elim h [
  | inl breaks ↦ breaks_part refusal.NoMemory due inputs old b d w at empty head breaks (λ _. tt)
  | inr stops ↦ stops_part refusal.NoMemory due inputs old b d w at empty head stops (λ _. tt) (λ texts others risk. risk)
]

-- ---- all entries were taken, and the tail is printed

tail_part : (e : DriveRefusal) (due : Due) (inputs : List Input) (old new : Option (List ℕ)) (b d : Place) (w : List ℕ) → IsDueAt due inputs b → w ≡ []
    → Added old b.taken w b.waits (HeadText due.report.diagnostics) → Leads inputs b d → TakesFront d.taken new (d.waits ++ TailText due.report.clients)
    → ((front : List ℕ) → EndsAt e front due.report) → LeavesPart e old new b.keeper d.keeper due
tail_part e due inputs old new b d w at empty head leads tail ends =
    let here : IsDueAt due (inputs ++ []) b = subst (λ (is : List Input). IsDueAt due is b) (sym (append-nil inputs)) at in
    let front = leads.added.front ++ tail.front in
    let longer = length-append leads.added.front tail.front in
    let up : length leads.added.front ≤ length front = omega arith in
    let near =
    near_at due inputs [] b d.keeper e (length front) here (inl refl) (ahead_up (length b.waits) (entries_at b inputs) (length leads.added.front) (length front) up leads.ahead) leads.kept in
    let behind = two_fronts b.waits d.waits tail.rest (EntriesText due.report.history) (TailText due.report.clients) leads.added.front tail.front
    (leads.added.whole ∙ ap (λ (es : List Entry). b.waits ++ EntriesText es) (sym at.history)) tail.whole in
    let both = two_fronts w b.waits tail.rest (HeadText due.report.diagnostics) (behind_head due.report) head.front front head.whole behind in
    record {
      written = record {
        front = head.front ++ front;
        rest = tail.rest;
        whole = both ∙ ap (λ z. z ++ (HeadText due.report.diagnostics ++ behind_head due.report)) empty ∙ sym (text_parts due.report);
        taken = taken_then old b.taken new head.front front head.taken (taken_then b.taken d.taken new leads.added.front tail.front leads.added.taken tail.taken);
      };
      ends = ends (head.front ++ front);
      kept_at =
          subst (λ n. KeepsPart e b.keeper d.keeper (due.upto (whole_in n due.report.history)) (due.upto (suc (whole_in n due.report.history))))
          (sym (behind_the_head due old b w front empty head)) near;
    }

pub tail_last : {T : Type 0} (r : Result T DriveRefusal) (due : Due) (inputs : List Input) (old new : Option (List ℕ)) (b d : Place) (w : List ℕ) → IsDueAt due inputs b → w ≡ []
    → Added old b.taken w b.waits (HeadText due.report.diagnostics) → Leads inputs b d → Prints d.taken new r d.waits [] (TailText due.report.clients) → Leaves r old new b.keeper d.keeper due
tail_last (Ok v) due inputs old new b d w at empty head leads tail =
    let entries : Added b.taken d.taken b.waits d.waits (EntriesText due.report.history) =
    subst (λ (es : List Entry). Added b.taken d.taken b.waits d.waits (EntriesText es)) (sym at.history) leads.added in
    let whole = prints_then (Ok v) old b.taken new w b.waits [] (HeadText due.report.diagnostics) (behind_head due.report) head
    (prints_then (Ok v) b.taken d.taken new b.waits d.waits [] (EntriesText due.report.history) (TailText due.report.clients) entries tail) in (
      whole.taken
          ∙ ap (append_known old) (sym (append-nil whole.front) ∙ whole.whole ∙ ap (λ z. z ++ (HeadText due.report.diagnostics ++ behind_head due.report)) empty ∙ sym (text_parts due.report)),
      subst (Took b.keeper d.keeper) (sym at.all) leads.kept,
    )
tail_last (Err refusal.Keeper) due inputs old new b d w at empty head leads tail = absurd tail
tail_last (Err refusal.Write) due inputs old new b d w at empty head leads tail = tail_part refusal.Write due inputs old new b d w at empty head leads tail (λ _. tt)
tail_last (Err refusal.NoMemory) due inputs old new b d w at empty head leads tail = tail_part refusal.NoMemory due inputs old new b d w at empty head leads tail (λ _. tt)

-- ---- nothing was begun

pub nothing_left : (o : Opening) (diagnostics : List Diagnostic) (script : Script) (old : Option (List ℕ)) (k : KeeperView)
    → LeavesPart refusal.NoMemory old old k k (due_of o diagnostics script)
nothing_left o diagnostics script old k =
    let due = due_of o diagnostics script in
    let none : whole_at due [] ≡ 0 = whole_none due.report.history (0 - length (HeadText due.report.diagnostics)) (omega arith) in
    let more = given_one_more o.config o.policy (first_state o) (InOrder script) (whole_at due []) in
    record {
      written = record { front = []; rest = TextOf due.report; whole = refl; taken = takes_no_more old };
      ends = tt;
      kept_at = keeps_near refusal.NoMemory k k (due.upto (whole_at due [])) (due.upto (suc (whole_at due []))) more.0 [] more.1 (took_nothing k) (inl (sym (ap due.upto none)));
    }

-- ---- all was done, and memory ran out behind it

pub all_done : (config : Config) (policy : PolicyLines) (s : State) (diagnostics : List Diagnostic) (script : Script) (old new : Option (List ℕ)) (k l : KeeperView)
    → new ≡ append_known old (TextOf (due_from config policy s diagnostics script).report) → Took k l (due_from config policy s diagnostics script).all
    → LeavesPart refusal.NoMemory old new k l (due_from config policy s diagnostics script)
all_done config policy s diagnostics script old new k l taken took =
    let due = due_from config policy s diagnostics script in
    let report = due.report in
    let text = TextOf report in
    let parts = ap length (text_parts report) in
    let front = length-append (HeadText report.diagnostics) (EntriesText report.history ++ TailText report.clients) in
    let behind = length-append (EntriesText report.history) (TailText report.clients) in
    let bytes : length text - length (HeadText report.diagnostics) ≡ length (EntriesText report.history) + length (TailText report.clients) = omega arith in
    let whole : whole_at due text ≡ length (InOrder script) =
    ap (λ n. whole_in n report.history) bytes ∙ whole_over report.history (length (TailText report.clients)) ∙ history_length config policy s (InOrder script) in
    let each : take (length (InOrder script)) (InOrder script) ≡ InOrder script =
    ap (take (length (InOrder script))) (sym (append-nil (InOrder script))) ∙ take_all (InOrder script) [] in
    let given : due.upto (whole_at due text) ≡ due.all = ap due.upto whole ∙ ap (given_from config policy s) each in
    let more = given_one_more config policy s (InOrder script) (whole_at due text) in
    record {
      written = record { front = text; rest = []; whole = append-nil text; taken = taken };
      ends = tt;
      kept_at = keeps_near refusal.NoMemory k l (due.upto (whole_at due text)) (due.upto (suc (whole_at due text))) more.0 due.all more.1 took (inl (sym given));
    }
