-- A draft has the lines that were read: each line that a step takes stands behind them.
use Rattle.std.proofs.Common.{◌≡◌, ℕ, ◌+◌, ◌<◌, ◌^◌, true, ◌==◌, List, [], ◌∷◌, ◌++◌, length, map, Some, None, append_assoc, append-nil, refl, sym, ap, subst, ◌∙◌, arith, inl, inr}
use Rattle.std.specs.Prelude.{⊤}
use Rattle.std.specs.List.{AllByRecursion, flat_map, slice_split}
use Rattle.std.proofs.lemmas.Bool.{eqb-true}
use Rattle.std.proofs.lemmas.List.{length-append, map_push}
use Rattle.std.proofs.lemmas.List.Concat.{flat_map-append}
use Rattle.init_machine.specs.HasText.{EntryHasText, HasText, OutputHasText}
use Rattle.init_machine.specs.declared.diagnostic.Diagnostic.{Diagnostic}
use Rattle.init_machine.specs.declared.report.ClientPart.{ClientPart}
use Rattle.init_machine.specs.declared.report.Entry.{Entry}
use Rattle.init_machine.specs.declared.report.Report.{Report}
use Rattle.init_trace.specs.Fields.{diagnostic_fields, head_fields}
use Rattle.init_trace.specs.Line.{line_text, lines_text}
use Rattle.init_trace.specs.Report.{client_fields, client_lines, clients_lines, entry_lines, output_line, reading_line}
use Rattle.init_trace.proofs.Texts.{lines_text-append}
use Rattle.trace_reader.specs.Drafts.{client_part, draft, entry, finished, line_added, report_from, step, with_client}
use Rattle.trace_reader.specs.Held.{DiagnosticIsHeld, EntryIsHeld, Fits64, IsHeld, OutputIsHeld, PartIsHeld, ReadingIsHeld}
use Rattle.trace_reader.specs.Lines.{line_of}
use Rattle.trace_reader.specs.Split.{is_space}
use Rattle.trace_reader.specs.declared.draft.Draft.{Draft}
use Rattle.trace_reader.specs.declared.draft.Part.{Part}
use Rattle.trace_reader.specs.declared.draft.Part.TheVariants as part
use Rattle.trace_reader.specs.declared.line.Line.{Line}
use Rattle.trace_reader.specs.declared.line.Line.TheVariants as line
use Rattle.trace_reader.proofs.Choices.{bind_some, if_some}
use Rattle.trace_reader.proofs.Cuts.{joined, line_of_bytes}
use Rattle.trace_reader.proofs.LinesRead.{LineIsGood, line_fields, line_sound}

-- ---- the lines of a draft

abbrev pub lines_at : Part → Draft → List (List (List ℕ))
lines_at part.Diagnostics d = map diagnostic_fields d.diagnostics
lines_at (part.Entry e) d = map diagnostic_fields d.diagnostics ++ (flat_map entry_lines d.history ++ entry_lines e)
lines_at (part.Client c) d =
    map diagnostic_fields d.diagnostics ++ (flat_map entry_lines d.history ++ clients_lines 1 (d.clients ++ c ∷ []))

abbrev pub draft_lines : Draft → List (List (List ℕ))
draft_lines d = lines_at d.latest d

-- what isn't begun yet is empty
abbrev pub FitsPart : Part → Draft → Type 0
FitsPart part.Diagnostics d = (d.history ≡ []) × (d.clients ≡ [])
FitsPart (part.Entry e) d = d.clients ≡ []
FitsPart (part.Client c) d = length d.clients + 1 < 2 ^ 64

abbrev pub EntryIsGood : Entry → Type 0
EntryIsGood e = EntryIsHeld e × EntryHasText e

abbrev pub PartIsGood : Part → Type 0
PartIsGood part.Diagnostics = ⊤
PartIsGood (part.Entry e) = EntryIsGood e
PartIsGood (part.Client c) = PartIsHeld c

pub record IsDraft (d : Draft) : Type 0 where
  pub fits : FitsPart d.latest d
  pub diagnostics : AllByRecursion DiagnosticIsHeld d.diagnostics
  pub history : AllByRecursion EntryIsGood d.history
  pub clients : AllByRecursion PartIsHeld d.clients
  pub latest : PartIsGood d.latest

all_more : {X : Type 0} (P : X → Type 0) (xs : List X) (x : X) → AllByRecursion P xs → P x → AllByRecursion P (xs ++ x ∷ [])
all_more P [] x h k = (k, tt)
all_more P (y ∷ xs) x h k = (h.0, all_more P xs x h.1 k)

flat_more : {X A : Type 0} (f : X → List A) (xs : List X) (x : X) → flat_map f (xs ++ x ∷ []) ≡ flat_map f xs ++ f x
flat_more f xs x = flat_map-append f xs (x ∷ []) ∙ ap (λ t. flat_map f xs ++ t) (append-nil (f x))

pub clients_more : (id : ℕ) (parts : List ClientPart) (c : ClientPart) → clients_lines id (parts ++ c ∷ []) ≡ clients_lines id parts ++ client_lines (id + length parts) c
clients_more id [] c =
    append-nil (client_lines id c) ∙ ap (λ n. client_lines n c) (let same : id ≡ id + 0 = omega arith in same)
clients_more id (p ∷ parts) c =
    ap (λ t. client_lines id p ++ t)
    (clients_more (id + 1) parts c ∙ ap (λ n. clients_lines (id + 1) parts ++ client_lines n c) (let same : id + 1 + length parts ≡ id + length (p ∷ parts) = omega arith in same))
    ∙ sym (append_assoc (client_lines id p) (clients_lines (id + 1) parts) (client_lines (id + length (p ∷ parts)) c))

-- a line at the end of the last of three parts
onto_last : {A : Type 0} (a b c x : List A) → a ++ (b ++ (c ++ x)) ≡ (a ++ (b ++ c)) ++ x
onto_last a b c x = ap (λ t. a ++ t) (sym (append_assoc b c x)) ∙ sym (append_assoc a (b ++ c) x)

-- ---- a step

-- the step leads to a draft, whose lines are the former and this one
pub record Adds (d next : Draft) (l : Line) : Type 0 where
  pub draft : IsDraft next
  pub lines : draft_lines next ≡ draft_lines d ++ line_fields l ∷ []

adds_to : (d a b : Draft) (l : Line) → Some a ≡ Some b → Adds d a l → Adds d b l
adds_to d a b l e h = let same : a ≡ b = cc in subst (λ next. Adds d next l) same h

next_id : (id n : ℕ) → (id == n + 1) ≡ true → 1 + n ≡ id
next_id id n e = let same : id ≡ n + 1 = eqb-true id (n + 1) e in omega arith

-- the first client's lines
first_client : (cs : List ClientPart) (c : ClientPart) (id : ℕ) → cs ≡ [] → 1 + length cs ≡ id → clients_lines 1 (cs ++ c ∷ []) ≡ client_lines id c
first_client cs c id none number =
    clients_more 1 cs c ∙ ap (λ before. clients_lines 1 before ++ client_lines (1 + length cs) c) none ∙ ap (λ n. client_lines n c) number

client_at : (latest : Part) (ds : List Diagnostic) (hs : List Entry) (cs : List ClientPart) (id : ℕ) (name domain : List ℕ) (next : Draft)
    → IsDraft (draft ds hs cs latest) → LineIsGood (line.Client id name domain) → with_client (draft ds hs cs latest) id name domain ≡ Some next
    → Adds (draft ds hs cs latest) next (line.Client id name domain)
client_at part.Diagnostics ds hs cs id name domain next h good e =
    let c = client_part name domain [] in
    let to = draft ds hs cs (part.Client c) in
    elim (if_some (id == length cs + 1) (Some to) None next e) [
      | inl is ↦
          let number : 1 + length cs ≡ id = next_id id (length cs) is.0 in
          adds_to (draft ds hs cs part.Diagnostics) to next (line.Client id name domain) is.1 (record {
            draft = record {
              fits = omega (arith, number, good.0);
              diagnostics = h.diagnostics;
              history = h.history;
              clients = h.clients;
              latest = (good.1, good.2, tt);
            };
            lines =
                ap (λ hs. map diagnostic_fields ds ++ (flat_map entry_lines hs ++ clients_lines 1 (cs ++ c ∷ []))) h.fits.0
                ∙ ap (λ t. map diagnostic_fields ds ++ t) (first_client cs c id h.fits.1 number);
          })
      | inr isnt ↦ let none = isnt.1 in cc
    ]
client_at (part.Entry o) ds hs cs id name domain next h good e =
    let c = client_part name domain [] in
    let to = draft ds (hs ++ o ∷ []) cs (part.Client c) in
    elim (if_some (id == length cs + 1) (Some to) None next e) [
      | inl is ↦
          let number : 1 + length cs ≡ id = next_id id (length cs) is.0 in
          adds_to (draft ds hs cs (part.Entry o)) to next (line.Client id name domain) is.1 (record {
            draft = record {
              fits = omega (arith, number, good.0);
              diagnostics = h.diagnostics;
              history = all_more EntryIsGood hs o h.history h.latest;
              clients = h.clients;
              latest = (good.1, good.2, tt);
            };
            lines =
                ap (λ t. map diagnostic_fields ds ++ (t ++ clients_lines 1 (cs ++ c ∷ []))) (flat_more entry_lines hs o)
                ∙ ap (λ t. map diagnostic_fields ds ++ ((flat_map entry_lines hs ++ entry_lines o) ++ t)) (first_client cs c id h.fits number)
                ∙ sym (append_assoc (map diagnostic_fields ds) (flat_map entry_lines hs ++ entry_lines o) (client_fields id c ∷ []));
          })
      | inr isnt ↦ let none = isnt.1 in cc
    ]
client_at (part.Client o) ds hs cs id name domain next h good e =
    let c = client_part name domain [] in
    let to = draft ds hs (cs ++ o ∷ []) (part.Client c) in
    elim (if_some (id == length (cs ++ o ∷ []) + 1) (Some to) None next e) [
      | inl is ↦
          let number : 1 + length (cs ++ o ∷ []) ≡ id = next_id id (length (cs ++ o ∷ [])) is.0 in
          adds_to (draft ds hs cs (part.Client o)) to next (line.Client id name domain) is.1 (record {
            draft = record {
              fits = omega (arith, number, good.0);
              diagnostics = h.diagnostics;
              history = h.history;
              clients = all_more PartIsHeld cs o h.clients h.latest;
              latest = (good.1, good.2, tt);
            };
            lines =
                ap (λ t. map diagnostic_fields ds ++ (flat_map entry_lines hs ++ t))
                (clients_more 1 (cs ++ o ∷ []) c ∙ ap (λ n. clients_lines 1 (cs ++ o ∷ []) ++ client_fields n c ∷ []) number)
                ∙ onto_last (map diagnostic_fields ds) (flat_map entry_lines hs) (clients_lines 1 (cs ++ o ∷ [])) (client_fields id c ∷ []);
          })
      | inr isnt ↦ let none = isnt.1 in cc
    ]

step_at : (latest : Part) (ds : List Diagnostic) (hs : List Entry) (cs : List ClientPart) (l : Line) (next : Draft) → IsDraft (draft ds hs cs latest) → LineIsGood l
    → step (draft ds hs cs latest) l ≡ Some next → Adds (draft ds hs cs latest) next l
step_at part.Diagnostics ds hs cs (line.Diagnostic x) next h good e =
    adds_to (draft ds hs cs part.Diagnostics) (draft (ds ++ x ∷ []) hs cs part.Diagnostics) next (line.Diagnostic x) e (record {
      draft = record { fits = h.fits; diagnostics = all_more DiagnosticIsHeld ds x h.diagnostics good; history = h.history; clients = h.clients; latest = tt };
      lines = map_push diagnostic_fields ds x;
    })
step_at (part.Entry o) ds hs cs (line.Diagnostic x) next h good e = cc
step_at (part.Client o) ds hs cs (line.Diagnostic x) next h good e = cc
step_at part.Diagnostics ds hs cs (line.Head i) next h good e =
    adds_to (draft ds hs cs part.Diagnostics) (draft ds hs cs (part.Entry (entry i []))) next (line.Head i) e (record {
      draft = record { fits = h.fits.1; diagnostics = h.diagnostics; history = h.history; clients = h.clients; latest = ((good, tt), tt) };
      lines = ap (λ hs. map diagnostic_fields ds ++ (flat_map entry_lines hs ++ head_fields i ∷ [])) h.fits.0;
    })
step_at (part.Entry o) ds hs cs (line.Head i) next h good e =
    adds_to (draft ds hs cs (part.Entry o)) (draft ds (hs ++ o ∷ []) cs (part.Entry (entry i []))) next (line.Head i) e (record {
      draft = record { fits = h.fits; diagnostics = h.diagnostics; history = all_more EntryIsGood hs o h.history h.latest; clients = h.clients; latest = ((good, tt), tt) };
      lines =
          ap (λ t. map diagnostic_fields ds ++ (t ++ head_fields i ∷ [])) (flat_more entry_lines hs o)
          ∙ sym (append_assoc (map diagnostic_fields ds) (flat_map entry_lines hs ++ entry_lines o) (head_fields i ∷ []));
    })
step_at (part.Client o) ds hs cs (line.Head i) next h good e = cc
step_at part.Diagnostics ds hs cs (line.Output x) next h good e = cc
step_at (part.Entry o) ds hs cs (line.Output x) next h good e =
    adds_to (draft ds hs cs (part.Entry o)) (draft ds hs cs (part.Entry (entry o.input (o.outputs ++ x ∷ [])))) next (line.Output x) e (record {
      draft = record {
        fits = h.fits;
        diagnostics = h.diagnostics;
        history = h.history;
        clients = h.clients;
        latest = ((h.latest.0.0, all_more OutputIsHeld o.outputs x h.latest.0.1 good.0), all_more OutputHasText o.outputs x h.latest.1 good.1);
      };
      lines =
          ap (λ t. map diagnostic_fields ds ++ (flat_map entry_lines hs ++ head_fields o.input ∷ t)) (map_push output_line o.outputs x)
          ∙ onto_last (map diagnostic_fields ds) (flat_map entry_lines hs) (entry_lines o) (output_line x ∷ []);
    })
step_at (part.Client o) ds hs cs (line.Output x) next h good e = cc
step_at latest ds hs cs (line.Client id name domain) next h good e = client_at latest ds hs cs id name domain next h good e
step_at part.Diagnostics ds hs cs (line.Reading x) next h good e = cc
step_at (part.Entry o) ds hs cs (line.Reading x) next h good e = cc
step_at (part.Client o) ds hs cs (line.Reading x) next h good e =
    adds_to (draft ds hs cs (part.Client o)) (draft ds hs cs (part.Client (client_part o.name o.domain (o.readings ++ x ∷ [])))) next (line.Reading x) e (record {
      draft = record {
        fits = h.fits;
        diagnostics = h.diagnostics;
        history = h.history;
        clients = h.clients;
        latest = (h.latest.0, h.latest.1, all_more ReadingIsHeld o.readings x h.latest.2 good);
      };
      lines =
          ap (λ t. map diagnostic_fields ds ++ (flat_map entry_lines hs ++ t))
          (clients_more 1 cs (client_part o.name o.domain (o.readings ++ x ∷ []))
          ∙ ap (λ t. clients_lines 1 cs ++ client_fields (1 + length cs) o ∷ t) (map_push reading_line o.readings x)
          ∙ sym (append_assoc (clients_lines 1 cs) (client_lines (1 + length cs) o) (reading_line x ∷ []))
          ∙ ap (λ t. t ++ reading_line x ∷ []) (sym (clients_more 1 cs o)))
          ∙ onto_last (map diagnostic_fields ds) (flat_map entry_lines hs) (clients_lines 1 (cs ++ o ∷ [])) (reading_line x ∷ []);
    })

pub step_adds : (d next : Draft) (l : Line) → IsDraft d → LineIsGood l → step d l ≡ Some next → Adds d next l
step_adds d next l h good e = step_at d.latest d.diagnostics d.history d.clients l next h good e

-- ---- a report

-- the lines between the first and the last one
abbrev pub body_lines : Report → List (List (List ℕ))
body_lines report =
    map diagnostic_fields report.diagnostics ++ (flat_map entry_lines report.history ++ clients_lines 1 report.clients)

-- what stands between the first and the last line of the text of a report
pub record IsBody (body : List ℕ) (report : Report) : Type 0 where
  pub held : IsHeld report
  pub has_text : HasText report
  pub spelled : lines_text (body_lines report) ≡ body

entries_held : (history : List Entry) → AllByRecursion EntryIsGood history → AllByRecursion EntryIsHeld history
entries_held [] h = tt
entries_held (e ∷ history) h = (h.0.0, entries_held history h.1)

entries_have_text : (history : List Entry) → AllByRecursion EntryIsGood history → AllByRecursion EntryHasText history
entries_have_text [] h = tt
entries_have_text (e ∷ history) h = (h.0.1, entries_have_text history h.1)

finish_at : (latest : Part) (ds : List Diagnostic) (hs : List Entry) (cs : List ClientPart) → IsDraft (draft ds hs cs latest)
    → IsBody (lines_text (draft_lines (draft ds hs cs latest))) (finished (draft ds hs cs latest))
finish_at part.Diagnostics ds hs cs h = record {
  held = record {
    diagnostics = h.diagnostics;
    history = entries_held hs h.history;
    clients = h.clients;
    count = subst (λ cs. Fits64 (length cs)) (sym h.fits.1) (omega arith);
  };
  has_text = entries_have_text hs h.history;
  spelled =
      ap (λ hs. lines_text (map diagnostic_fields ds ++ (flat_map entry_lines hs ++ clients_lines 1 cs))) h.fits.0
      ∙ ap (λ cs. lines_text (map diagnostic_fields ds ++ clients_lines 1 cs)) h.fits.1
      ∙ ap lines_text (append-nil (map diagnostic_fields ds));
}
finish_at (part.Entry o) ds hs cs h = record {
  held = record {
    diagnostics = h.diagnostics;
    history = entries_held (hs ++ o ∷ []) (all_more EntryIsGood hs o h.history h.latest);
    clients = h.clients;
    count = subst (λ cs. Fits64 (length cs)) (sym h.fits) (omega arith);
  };
  has_text = entries_have_text (hs ++ o ∷ []) (all_more EntryIsGood hs o h.history h.latest);
  spelled =
      ap (λ t. lines_text (map diagnostic_fields ds ++ (t ++ clients_lines 1 cs))) (flat_more entry_lines hs o)
      ∙ ap (λ cs. lines_text (map diagnostic_fields ds ++ ((flat_map entry_lines hs ++ entry_lines o) ++ clients_lines 1 cs))) h.fits
      ∙ ap (λ t. lines_text (map diagnostic_fields ds ++ t)) (append-nil (flat_map entry_lines hs ++ entry_lines o));
}
finish_at (part.Client o) ds hs cs h = record {
  held = record {
    diagnostics = h.diagnostics;
    history = entries_held hs h.history;
    clients = all_more PartIsHeld cs o h.clients h.latest;
    count = omega (arith, length-append cs (o ∷ []), h.fits);
  };
  has_text = entries_have_text hs h.history;
  spelled = refl;
}

-- ---- a run

pub run_sound : (d : Draft) (parts : List (List ℕ)) (report : Report) → IsDraft d → report_from d parts ≡ Some report
    → IsBody (lines_text (draft_lines d) ++ joined 10 parts) report
run_sound d [] report h e = cc
run_sound d ([] ∷ []) report h e =
    let same : finished d ≡ report = cc in
    let body = finish_at d.latest d.diagnostics d.history d.clients h in
    subst (IsBody (lines_text (draft_lines d) ++ [])) same (record {
      held = body.held;
      has_text = body.has_text;
      spelled = body.spelled ∙ sym (append-nil (lines_text (draft_lines d)));
    })
run_sound d ((byte ∷ last) ∷ []) report h e = cc
run_sound d (bytes ∷ more ∷ rest) report h e =
    let got = bind_some (line_added d bytes) (λ next. report_from next (more ∷ rest)) report e in
    let told = bind_some (line_of (slice_split is_space bytes)) (step d) got.0 got.1 in
    let read = line_sound (slice_split is_space bytes) told.0 told.1 in
    let adds = step_adds d got.0 told.0 h read.holds told.2 in
    let body = run_sound got.0 (more ∷ rest) report adds.draft got.2 in
    let later = joined 10 (more ∷ rest) in
    let line : lines_text (line_fields told.0 ∷ []) ≡ bytes ++ 10 ∷ [] =
    append-nil (line_text (line_fields told.0)) ∙ ap line_text (sym read.spelled) ∙ line_of_bytes bytes in
    let whole : lines_text (draft_lines got.0) ++ later ≡ lines_text (draft_lines d) ++ (bytes ++ 10 ∷ later) =
    ap (λ ls. lines_text ls ++ later) adds.lines
    ∙ ap (λ t. t ++ later) (lines_text-append (draft_lines d) (line_fields told.0 ∷ []) ∙ ap (λ t. lines_text (draft_lines d) ++ t) line)
    ∙ append_assoc (lines_text (draft_lines d)) (bytes ++ 10 ∷ []) later
    ∙ ap (λ t. lines_text (draft_lines d) ++ t) (append_assoc bytes (10 ∷ []) later) in
    record { held = body.held; has_text = body.has_text; spelled = body.spelled ∙ whole }
