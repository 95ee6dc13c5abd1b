-- One input: the core takes it, the keeper is given its text, and its entry is printed.
use Rattle.std.proofs.Common.{◌≡◌, ℕ, ◌≤◌, inl, inr, Bool, true, false, IsTrue, if◌then◌else◌, List, [], ◌∷◌, ◌++◌, length, Option, Some, None, Result, Ok, Err, append-nil, length-append, refl, sym, ap, ◌∙◌, subst, arith}
use Rattle.std.specs.Prelude.{⊤}
use Rattle.std.specs.Io.KnownBytes.{append_known}
use Rattle.std.proofs.lemmas.Bool.{false≢true}
use Rattle.init_base.specs.Crash.{LeavesAlone, LeavesOneMore, ReachesBack}
use Rattle.init_base.specs.Faults.{Counted}
use Rattle.init_base.specs.Keeping.{HoldsNew}
use Rattle.init_machine.specs.Policy.{PolicyLines}
use Rattle.init_machine.specs.State.{State}
use Rattle.init_machine.specs.declared.input.Input.{Input}
use Rattle.init_machine.specs.declared.report.Entry.{Entry}
use Rattle.init_trace.specs.Report.{EntriesText, EntryText}
use Rattle.init_trace.specs.Written.{Added, TakesFront}
use Rattle.init_trace.proofs.Adding.{added_nothing, taken_then}
use Rattle.init_driver.specs.Course.{Breaks, Holds, IsAhead, Leads, Place, Prints, Refuses, Saved, Saves, Stops, Takes, TracedView, Unprinted, Unsaved, Untaken, Unwritten, place_of, text_if, texts_at}
use Rattle.init_driver.specs.Keeper.{KeeperView, Risks, Took}
use Rattle.init_driver.specs.Machine.{entry_of, step_of}
use Rattle.init_driver.specs.Run.{keeper_failed, sink_failed}
use Rattle.init_driver.specs.Stored.{given_at, has_stored, Keeps}
use Rattle.init_driver.specs.declared.refusal.DriveRefusal.{DriveRefusal}
use Rattle.init_driver.specs.declared.refusal.DriveRefusal.TheVariants as refusal
use Rattle.persist_file.specs.Store.{store_text}
use Rattle.init_driver.proofs.Keepers.{took_nothing}
use Rattle.init_driver.proofs.Sinks.{two_fronts}

-- the entry of an input in a state of a machine
abbrev pub entry_at : TracedView → Input → Entry
entry_at t i = entry_of i (step_of t.core i).lines

-- whether it stores a property
abbrev pub stores_at : TracedView → Input → Bool
stores_at t i = has_stored (step_of t.core i).lines

-- the machine took the input, and what waited before waits before its entry
pub record Stepped (i : Input) (t u : TracedView) : Type 0 where
  pub config : u.core.config ≡ t.core.config
  pub policy : u.core.policy ≡ t.core.policy
  pub state : u.core.state ≡ (step_of t.core i).state
  pub opening : u.core.desk.opening ≡ t.core.desk.opening
  pub history : u.core.desk.history ≡ t.core.desk.history ++ entry_at t i ∷ []
  pub printer : u.printer ≡ t.printer

-- all that waited is written before an entry that stores a property
ahead_one : (i : Input) (t u v : TracedView) (a b : Option (List ℕ)) (k l : KeeperView) (more : List ℕ) → Stepped i t u → (saved : Saved (stores_at t i) (place_of u a k) (place_of v b l))
    → IsAhead (length t.printer) (entry_at t i ∷ []) (length (saved.added.front ++ more))
ahead_one i t u v a b k l more took saved = (
  (λ stored.
      let empty = ap length (saved.empty stored) in
      let whole = ap length saved.added.whole in
      let front = length-append saved.added.front v.printer in
      let text = length-append u.printer [] in
      let longer = length-append saved.added.front more in
      let same = ap length took.printer in
      omega arith),
  tt,
)

-- the text of the entry, as the history has it
text_one : (i : Input) (t u : TracedView) → Stepped i t u → u.printer ++ ([] ++ EntryText (entry_at t i)) ≡ t.printer ++ EntriesText (entry_at t i ∷ [])
text_one i t u took =
    ap (λ z. z ++ EntryText (entry_at t i)) took.printer
    ∙ ap (λ z. t.printer ++ z) (sym (append-nil (EntryText (entry_at t i))))

-- what the keeper is given at the entry
given_one : (i : Input) (t u : TracedView) (a : Option (List ℕ)) (k : KeeperView) → Stepped i t u → text_if (stores_at t i) (place_of u a k) ≡ texts_at (place_of t a k) (i ∷ [])
given_one i t u a k took =
    let c = step_of t.core i in
    ap (λ (p : PolicyLines). if has_stored c.lines then store_text p u.core.state.saved ∷ [] else []) took.policy
    ∙ ap (λ (s : State). if has_stored c.lines then store_text t.core.policy s.saved ∷ [] else []) took.state
    ∙ sym (append-nil (given_at t.core.policy c))

-- the entry was written or waits, behind what waited
leads_one : (i : Input) (t u v w : TracedView) (a b d : Option (List ℕ)) (k l : KeeperView) → Stepped i t u
    → Saved (stores_at t i) (place_of u a k) (place_of v b l) → v.core ≡ u.core
    → Added b d v.printer w.printer (EntryText (entry_at t i)) → w.core ≡ v.core
    → Leads (i ∷ []) (place_of t a k) (place_of w d l)
leads_one i t u v w a b d k l took saved same printed also =
    let whole = also ∙ same in
    record {
      config = ap (λ k. k.config) whole ∙ took.config;
      policy = ap (λ k. k.policy) whole ∙ took.policy;
      state = ap (λ k. k.state) whole ∙ took.state;
      opening = ap (λ k. k.desk.opening) whole ∙ took.opening;
      history = ap (λ k. k.desk.history) whole ∙ took.history;
      added = record {
        front = saved.added.front ++ printed.front;
        whole =
            two_fronts u.printer v.printer w.printer [] (EntryText (entry_at t i)) saved.added.front printed.front saved.added.whole printed.whole
            ∙ text_one i t u took;
        taken = taken_then a b d saved.added.front printed.front saved.added.taken printed.taken;
      };
      ahead = ahead_one i t u v a b k l printed.front took saved;
      kept = subst (Took k l) (given_one i t u a k took) saved.kept;
    }

-- the entry wasn't written whole
breaks_one : (i : Input) (t u v w : TracedView) (a b d : Option (List ℕ)) (k l : KeeperView) → Stepped i t u
    → Saved (stores_at t i) (place_of u a k) (place_of v b l) → v.core ≡ u.core
    → TakesFront b d (v.printer ++ EntryText (entry_at t i))
    → Breaks (i ∷ []) (place_of t a k) (place_of w d l)
breaks_one i t u v w a b d k l took saved same printed =
    record {
      done = i ∷ [];
      left = [];
      all = refl;
      written = record {
        front = saved.added.front ++ printed.front;
        rest = printed.rest;
        whole =
            two_fronts u.printer v.printer printed.rest [] (EntryText (entry_at t i)) saved.added.front printed.front saved.added.whole printed.whole
            ∙ text_one i t u took;
        taken = taken_then a b d saved.added.front printed.front saved.added.taken printed.taken;
      };
      ahead = ahead_one i t u v a b k l printed.front took saved;
      kept = subst (Took k l) (given_one i t u a k took) saved.kept;
    }

-- the end of the entry ends its input
pub takes_one : {T : Type 0} (r : Result T DriveRefusal) (i : Input) (t u v w : TracedView) (a b d : Option (List ℕ)) (k l : KeeperView) → Stepped i t u
    → Saved (stores_at t i) (place_of u a k) (place_of v b l) → v.core ≡ u.core
    → Prints b d r v.printer w.printer (EntryText (entry_at t i)) → w.core ≡ v.core
    → Takes (i ∷ []) (place_of t a k) (place_of w d l) r
takes_one (Ok y) i t u v w a b d k l took saved same printed also = leads_one i t u v w a b d k l took saved same printed also
takes_one (Err refusal.Keeper) i t u v w a b d k l took saved same printed also = absurd printed
takes_one (Err refusal.Write) i t u v w a b d k l took saved same printed also = breaks_one i t u v w a b d k l took saved same printed
takes_one (Err refusal.NoMemory) i t u v w a b d k l took saved same printed also = inl (breaks_one i t u v w a b d k l took saved same printed)

stops_one : (i : Input) (t u v w : TracedView) (a b : Option (List ℕ)) (k l : KeeperView) → Stepped i t u
    → Refuses (stores_at t i) (place_of u a k) (place_of v b l) → Stops (i ∷ []) (place_of t a k) (place_of w b l)
stops_one i t u v w a b k l took h =
    record {
      done = [];
      input = i;
      left = [];
      all = refl;
      stored = h.stored;
      written = h.written ∙ ap (append_known a) (took.printer ∙ sym (append-nil t.printer));
      kept = λ tells. subst (Risks k l []) (given_one i t u a k took) (h.kept tells);
    }

before_one : (i : Input) (t u v w : TracedView) (a b : Option (List ℕ)) (k l : KeeperView) → Stepped i t u
    → Unwritten (place_of u a k) (place_of v b l) → Breaks (i ∷ []) (place_of t a k) (place_of w b l)
before_one i t u v w a b k l took h = record {
  done = [];
  left = i ∷ [];
  all = refl;
  written = record {
    front = h.written.front;
    rest = h.written.rest;
    whole = h.written.whole ∙ took.printer ∙ sym (append-nil t.printer);
    taken = h.written.taken;
  };
  ahead = tt;
  kept = h.kept;
}

-- the keeper's call, or the writing before it, was refused
pub refused_one : (e : DriveRefusal) (i : Input) (t u v w : TracedView) (a b : Option (List ℕ)) (k l : KeeperView) → Stepped i t u
    → Unsaved e (stores_at t i) (place_of u a k) (place_of v b l) → Untaken e (i ∷ []) (place_of t a k) (place_of w b l)
refused_one refusal.Keeper i t u v w a b k l took h = stops_one i t u v w a b k l took h
refused_one refusal.Write i t u v w a b k l took h = before_one i t u v w a b k l took h
refused_one refusal.NoMemory i t u v w a b k l took h = elim h [
  | inl unwritten ↦ inl (before_one i t u v w a b k l took unwritten)
  | inr refuses ↦ inr (stops_one i t u v w a b k l took refuses)
]

-- ---- the keeper's part

-- nothing is stored
pub saves_nothing : {X : Type 0} (x : X) (stores : Bool) (p : Place) → stores ≡ false → Saves stores p p (Ok x)
saves_nothing x stores p none = record {
  added = added_nothing p.taken p.waits;
  empty = λ stored. absurd (false≢true (sym none ∙ stored));
  kept = subst (Took p.keeper p.keeper) (ap (λ (b : Bool). text_if b p) (sym none)) (took_nothing p.keeper);
}

front_less : (p q : Place) → TakesFront p.taken q.taken (p.waits ++ []) → TakesFront p.taken q.taken p.waits
front_less p q h = subst (TakesFront p.taken q.taken) (append-nil p.waits) h

-- what waits was not written whole
pub unwritten : (e : DriveRefusal) (stores : Bool) (p q : Place) → Unprinted e p.taken q.taken p.waits [] → Took p.keeper q.keeper [] → Unsaved e stores p q
unwritten refusal.Keeper stores p q h kept = absurd h
unwritten refusal.Write stores p q h kept = record { written = front_less p q h; kept = kept }
unwritten refusal.NoMemory stores p q h kept = inl (record { written = front_less p q h; kept = kept })

one_text : (stores : Bool) (p : Place) → stores ≡ true → store_text p.policy p.state.saved ∷ [] ≡ text_if stores p
one_text stores p stored = ap (λ (b : Bool). text_if b p) (sym stored)

refuses : (stores : Bool) (p q : Place) → stores ≡ true → Added p.taken q.taken p.waits [] []
    → (p.keeper.TellsCrash → Risks p.keeper q.keeper [] (store_text p.policy p.state.saved ∷ [])) → Refuses stores p q
refuses stores p q stored written risk = record {
  stored = stored;
  written = written.taken ∙ ap (append_known p.taken) (sym (append-nil written.front) ∙ written.whole ∙ append-nil p.waits);
  kept = λ tells. subst (Risks p.keeper q.keeper []) (one_text stores p stored) (risk tells);
}

-- all that waited was written, and the keeper answered
pub saves_last : {T : Type 0} (r : Result T DriveRefusal) (stores : Bool) (p q : Place) → stores ≡ true → Added p.taken q.taken p.waits [] [] → q.waits ≡ []
    → Holds p.keeper q.keeper (store_text p.policy p.state.saved) r → sink_failed r ≡ false → Saves stores p q r
saves_last (Ok v) stores p q stored written empty keeps well = record {
  added = subst (λ w. Added p.taken q.taken p.waits w []) (sym empty) written;
  empty = λ _. empty;
  kept = subst (Took p.keeper q.keeper) (one_text stores p stored) keeps;
}
saves_last (Err refusal.Keeper) stores p q stored written empty keeps well = refuses stores p q stored written keeps
saves_last (Err refusal.Write) stores p q stored written empty keeps well = absurd (false≢true (sym well))
saves_last (Err refusal.NoMemory) stores p q stored written empty keeps well = inr (refuses stores p q stored written keeps)

-- ---- the keeper's call

keeps_one : (held now : Option (List ℕ)) (done : ⊤) (content : List ℕ) → HoldsNew held now (Ok done) content → Keeps held now (content ∷ [])
keeps_one None now done content h = tt
keeps_one (Some held) now done content h = h

-- the keeper took a text
pub took_one : (a b : KeeperView) (done : ⊤) (content : List ℕ) → HoldsNew a.held b.held (Ok done) content
    → (a.TellsCrash → a.moment ≤ b.moment) → (a.TellsCrash → LeavesOneMore a.moment a.MayLeave b.MayLeave content)
    → (a.TellsCrash → LeavesAlone (b.MayLeave b.moment) content) → (a.TellsCrash → b.TellsCrash) → Took a b (content ∷ [])
took_one a b done content held later leaves safe tells = record {
  held = keeps_one a.held b.held done content held;
  crash = λ told. record {
    tells = tells told;
    later = later told;
    since = λ m text early left. elim (leaves told m text early left) [ inl before ↦ inl before | inr new ↦ inr (inl new) ];
    now = λ text left. (safe told text).0 left;
  };
}

-- it didn't, or it isn't known
pub risks_one : (a b : KeeperView) (content : List ℕ) → (a.TellsCrash → a.moment ≤ b.moment)
    → (a.TellsCrash → LeavesOneMore a.moment a.MayLeave b.MayLeave content) → ReachesBack b.MayLeave → a.TellsCrash → Risks a b [] (content ∷ [])
risks_one a b content later leaves back told = record {
  later = later told;
  since = λ m text early left. elim (leaves told m text early left) [ inl before ↦ inl before | inr new ↦ inr (inl new) ];
  now = λ text left.
      let here : a.moment ≤ a.moment = omega arith in
      elim (leaves told a.moment text here (back a.moment b.moment text (later told) left)) [ inl before ↦ inl before | inr new ↦ inr new ];
}

-- a call that prints doesn't ask the keeper
pub keeper_unasked : {T : Type 0} (r : Result T DriveRefusal) (old new : Option (List ℕ)) (waited waits text : List ℕ) (a b : ℕ) → Prints old new r waited waits text
    → b ≡ a → Counted (keeper_failed r) a b
keeper_unasked (Ok v) old new waited waits text a b printed same = same
keeper_unasked (Err refusal.Keeper) old new waited waits text a b printed same = absurd printed
keeper_unasked (Err refusal.Write) old new waited waits text a b printed same = same
keeper_unasked (Err refusal.NoMemory) old new waited waits text a b printed same = same
