-- The entries of a text, which are taken one after another.
use Rattle.std.proofs.Common.{◌≡◌, ◌+◌, ◌<◌, ◌≤◌, ℕ, List, [], ◌∷◌, ◌++◌, length, Option, Some, None, Result, Ok, Err, refl, sym, ap, ◌∙◌, subst, append_assoc, append-nil, arith}
use Rattle.std.proofs.lemmas.List.{length-append}
use Rattle.init_machine.specs.State.{Opening}
use Rattle.init_machine.specs.declared.report.Entry.{Entry}
use Rattle.init_machine.specs.declared.report.Report.{Report}
use Rattle.script_lang.specs.declared.script.Script.{Script}
use Rattle.trace_audit.specs.Taken.{HasTaken, with_history}
use Rattle.trace_audit.specs.declared.taking.Audit.{Audit}
use Rattle.trace_reader.specs.Pieces.{IsNext, LeavesFewer, with_front}
use Rattle.trace_reader.specs.Reports.{IsReportOf, IsTextOf}
use Rattle.script_lang.specs.declared.fault.Fault.{Fault}
use Rattle.script_lang.specs.declared.fault.Fault.TheVariants as fault
use Rattle.trace_reader.specs.declared.piece.Piece.{Piece}
use Rattle.trace_reader.specs.declared.piece.Piece.TheVariants as piece
use Rattle.init_machine.specs.declared.diagnostic.Diagnostic.{Diagnostic}
use Rattle.trace_audit.specs.Texts.{SaysOf, SaysOfReport}
use Rattle.trace_audit.specs.declared.verdict.Verdict.{Verdict}
use Rattle.trace_audit.proofs.Verdicts.{yes_exactly}
use Rattle.trace_reader.specs.Drafts.{framed}
use Rattle.trace_reader.proofs.Frames.{answer}

-- a report that was to come, before which these entries came
abbrev pub with_all : List Entry → Option Report → Option Report
with_all history None = None
with_all history (Some report) = Some (with_history (history ++ report.history) report)

-- the audit has taken the first entries of what was to come, and no more entries come than this
pub record IsAmidText (script : Script) (begun audit : Audit) (all left : Option Report) (most fewer : ℕ) : Type 0 where
  pub history : List Entry
  pub taken : (o : Opening) → HasTaken o script [] begun → HasTaken o script history audit
  pub all_is : all ≡ with_all history left
  pub few : length history + fewer ≤ most

with_none : (left : Option Report) → left ≡ with_all [] left
with_none None = refl
with_none (Some report) = refl

pub text_begins : (script : Script) (audit : Audit) (all : Option Report) (most : ℕ) → IsAmidText script audit audit all all most most
text_begins script audit all most = record {
  history = [];
  taken = λ o taken. taken;
  all_is = with_none all;
  few = omega arith;
}

front_all : (history : List Entry) (e : Entry) (left : Option Report) → with_all history (with_front e left) ≡ with_all (history ++ e ∷ []) left
front_all history e None = refl
front_all history e (Some report) =
    ap (λ (es : List Entry). Some (with_history es report)) (sym (append_assoc history (e ∷ []) report.history))

pub text_next : (script : Script) (begun old new : Audit) (all before left : Option Report) (most more fewer : ℕ) (e : Entry)
    → before ≡ with_front e left → fewer + 1 ≤ more
    → (amid : IsAmidText script begun old all before most more)
    → ((o : Opening) → HasTaken o script amid.history old → HasTaken o script (amid.history ++ e ∷ []) new)
    → IsAmidText script begun new all left most fewer
text_next script begun old new all before left most more fewer e next less amid takes = record {
  history = amid.history ++ e ∷ [];
  taken = λ o first. takes o (amid.taken o first);
  all_is = amid.all_is ∙ ap (λ (r : Option Report). with_all amid.history r) next ∙ front_all amid.history e left;
  few = let long : length (amid.history ++ e ∷ []) ≡ length amid.history + 1 = length-append amid.history (e ∷ []) in omega (arith, amid.few);
}

pub text_ends : (script : Script) (begun audit : Audit) (all left : Option Report) (most more : ℕ) (rest : Report) → left ≡ Some rest → rest.history ≡ []
    → (amid : IsAmidText script begun audit all left most more) → all ≡ Some (with_history amid.history rest)
text_ends script begun audit all left most more rest is none amid =
    amid.all_is
    ∙ ap (λ (r : Option Report). with_all amid.history r) is
    ∙ ap (λ (es : List Entry). Some (with_history (amid.history ++ es) rest)) none
    ∙ ap (λ (es : List Entry). Some (with_history es rest)) (append-nil amid.history)

pub text_none : (script : Script) (begun audit : Audit) (all left : Option Report) (most more : ℕ) → left ≡ None
    → IsAmidText script begun audit all left most more → all ≡ None
text_none script begun audit all left most more is amid = amid.all_is ∙ ap (λ (r : Option Report). with_all amid.history r) is

-- ---- what the reader gives next

pub entry_next : (old new : Option Report) (p : Piece) (e : Entry) → p ≡ piece.Entry e → IsNext old new (Ok p) → old ≡ with_front e new
entry_next old new p e is next = subst (λ (x : Piece). IsNext old new (Ok x)) is next

pub entry_fewer : (old new : ℕ) (p : Piece) (e : Entry) → p ≡ piece.Entry e → LeavesFewer old new (Ok p) → new < old
entry_fewer old new p e is fewer = subst (λ (x : Piece). LeavesFewer old new (Ok x)) is fewer

-- ---- what is said of the text

no_report : (left : Option Report) (report : Report) → left ≡ None → left ≡ Some report → ⊥
no_report None report none some = cc
no_report (Some other) report none some = cc

-- a text without the first line or the last one is that of no report
pub none_of_text : (text : List ℕ) → framed text ≡ None → (report : Report) → IsTextOf text report → ⊥
none_of_text text none report is = no_report None report refl ((answer text None none report).1 is)

pub says_of_text : (o : Opening) (found : List Diagnostic) (script : Script) (text : List ℕ) (left : Option Report) (result : Result Verdict Fault)
    → IsReportOf text left → SaysOfReport o found script left result → SaysOf o found script text result
says_of_text o found script text left (Ok said) of says = record {
  report = says.0;
  text_is = (of says.0).0 says.1;
  says = says.2;
  yes = yes_exactly o found script says.0 said says.2;
}
says_of_text o found script text left (Err fault.Bad) of none = λ (report : Report) (is : IsTextOf text report). no_report left report none ((of report).1 is)
says_of_text o found script text left (Err fault.NoMemory) of says = tt
