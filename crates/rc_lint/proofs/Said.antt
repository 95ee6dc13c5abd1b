-- What the statuses say.
use Rattle.std.proofs.Common.{◌≡◌, ℕ, ◌≢◌, List, [], ◌∷◌, length, Option, Result, Err, refl, sym, subst, ap, inl, arith}
use Rattle.std.specs.Io.KnownBytes.{append_known}
use Rattle.init_trace.specs.Written.{TakesFront}
use Rattle.init_base.specs.Faults.{Counted}
use Rattle.lint_findings.specs.Findings.{errors_in}
use Rattle.lint_findings.specs.declared.finding.Finding.{Finding}
use Rattle.lint_findings.specs.Page.{IsPage}
use Rattle.lint_findings.specs.declared.style.Style.{Style}
use Rattle.rc_import.specs.Answers.{IsAnswer, is_read_fault}
use Rattle.rc_import.specs.declared.loaded.Loaded.{Loaded}
use Rattle.rc_import.specs.declared.loaded.LoadRefusal.{LoadRefusal}
use Rattle.rc_import.specs.declared.loaded.LoadRefusal.TheVariants as why
use Rattle.rc_lint.specs.internal.Reported.{status_of}
use Rattle.lint_sources.specs.Sources.{IsLater}
use Rattle.rc_lint.specs.Keeps.{IsUnkept, LintKeeps}
use Rattle.lint_sources.specs.Loads.{loaded}
use Rattle.rc_lint.specs.Says.{IsReport, IsUnwritten, LintSays, ReportsFront, Tells}
use Rattle.rc_lint.specs.Status.{AreCounted, Counts}
use Rattle.lint_sources.specs.Told.{Told}
use Rattle.rc_lint.specs.declared.request.Request.{Request}
use Rattle.rc_lint.specs.declared.status.Status.{Status}
use Rattle.rc_lint.specs.declared.status.Status.TheVariants as status
use Rattle.rc_lint.specs.declared.top.Report.{Report}

-- ---- a report that is written

-- the page of findings that are these, as it is seen
pub page_is : (style : Style) (same findings : List Finding) (files : ℕ) (text page : List ℕ) → same ≡ findings → text ≡ page
    → IsPage style same files page → IsPage style findings files text
page_is style same findings files text page are is printed =
    subst (λ (fs : List Finding). IsPage style fs files text) are (subst (λ (t : List ℕ). IsPage style same files t) (sym is) printed)

is_report : (request : Request) (told : Told) (findings : List Finding) (files : ℕ) (text : List ℕ)
    → Tells request told findings → IsPage request.style findings files text → IsReport request told findings text
is_report request told findings files text tells printed = record { tells = tells; files = files; printed = printed }

said_by : (request : Request) (told : Told) (findings : List Finding) (files : ℕ) (errors : List Finding) (text : List ℕ) (old new : Option (List ℕ))
    → Tells request told findings → errors_in request.style.promoted findings ≡ errors → IsPage request.style findings files text
    → new ≡ append_known old text → LintSays request told old new (status_of errors)
said_by request told findings files [] text old new tells are printed written = record {
  findings = findings;
  text = text;
  is_report = is_report request told findings files text tells printed;
  errors_are = are;
  written = written;
}
said_by request told findings files (error ∷ errors) text old new tells are printed written = record {
  errors = error ∷ errors;
  some = λ none. cc;
  reports = record {
    findings = findings;
    text = text;
    is_report = is_report request told findings files text tells printed;
    errors_are = are;
    written = written;
  };
}

pub whole_said : (request : Request) (told : Told) (findings : List Finding) (files : ℕ) (text : List ℕ) (old new : Option (List ℕ)) (result : Status)
    → Tells request told findings → IsPage request.style findings files text
    → new ≡ append_known old text → result ≡ status_of (errors_in request.style.promoted findings) → LintSays request told old new result
whole_said request told findings files text old new result tells printed written is =
    subst (λ (s : Status). LintSays request told old new s) (sym is)
    (said_by request told findings files (errors_in request.style.promoted findings) text old new tells refl printed written)

pub front_said : (request : Request) (told : Told) (findings : List Finding) (files : ℕ) (text : List ℕ) (old new : Option (List ℕ))
    → Tells request told findings → IsPage request.style findings files text
    → TakesFront old new text → ReportsFront request told old new
front_said request told findings files text old new tells printed front = record {
  findings = findings;
  text = text;
  is_report = is_report request told findings files text tells printed;
  written = front;
}

counted_by : (errors : List Finding) (before now : Counts) → now ≡ before → AreCounted (status_of errors) before now
counted_by [] before now same = same
counted_by (error ∷ errors) before now same = same

pub whole_counted : (errors : List Finding) (before now : Counts) (result : Status) → result ≡ status_of errors → now ≡ before
    → AreCounted result before now
whole_counted errors before now result is same =
    subst (λ (s : Status). AreCounted s before now) (sym is) (counted_by errors before now same)

unwritten_by : (errors : List Finding) (old new : Option (List ℕ)) → IsUnwritten old new (status_of errors)
unwritten_by [] old new = tt
unwritten_by (error ∷ errors) old new = tt

pub whole_unwritten : (errors : List Finding) (old new : Option (List ℕ)) (result : Status) → result ≡ status_of errors → IsUnwritten old new result
whole_unwritten errors old new result is = subst (λ (s : Status). IsUnwritten old new s) (sym is) (unwritten_by errors old new)

pub clean_of : (errors : List Finding) → length errors ≡ 0 → status.Clean ≡ status_of errors
clean_of [] none = refl
clean_of (error ∷ errors) none = absurd (omega (arith, none))

pub faulty_of : (errors : List Finding) → length errors ≢ 0 → status.Faulty ≡ status_of errors
faulty_of [] some = absurd (some refl)
faulty_of (error ∷ errors) some = refl

-- ---- a refusal

-- a refusal behind the load says nothing of it
pub later_answer : (refusal : LoadRefusal) (answer : Result Loaded LoadRefusal) → IsLater refusal → IsAnswer (Err refusal) answer
later_answer why.NoInit answer later = absurd later
later_answer why.ReadFault answer later = tt
later_answer (why.TooLarge path limit number) answer later = absurd later
later_answer (why.TooMany path number) answer later = absurd later
later_answer why.NoMemory answer later = tt

pub refusal_said : (request : Request) (told : Told) (old new : Option (List ℕ)) (refusal : LoadRefusal)
    → IsAnswer (Err refusal) (loaded told.world) → new ≡ old → LintSays request told old new (status.Refused refusal)
refusal_said request told old new why.NoInit answer same = (answer, same)
refusal_said request told old new why.ReadFault answer same = same
refusal_said request told old new (why.TooLarge path limit number) answer same = (answer, same)
refusal_said request told old new (why.TooMany path number) answer same = (answer, same)
refusal_said request told old new why.NoMemory answer same = inl same

pub refusal_unwritten : (old new : Option (List ℕ)) (refusal : LoadRefusal) → new ≡ old → IsUnwritten old new (status.Refused refusal)
refusal_unwritten old new why.NoInit same = same
refusal_unwritten old new why.ReadFault same = same
refusal_unwritten old new (why.TooLarge path limit number) same = same
refusal_unwritten old new (why.TooMany path number) same = same
refusal_unwritten old new why.NoMemory same = tt

pub refusal_kept : (request : Request) (told : Told) (old new : Option (List ℕ)) (refusal : LoadRefusal)
    → IsAnswer (Err refusal) (loaded told.world) → new ≡ old → LintKeeps request told old new (status.Refused refusal)
refusal_kept request told old new why.NoInit answer same = (answer, same)
refusal_kept request told old new why.ReadFault answer same = same
refusal_kept request told old new (why.TooLarge path limit number) answer same = (answer, same)
refusal_kept request told old new (why.TooMany path number) answer same = (answer, same)
refusal_kept request told old new why.NoMemory answer same = tt

pub refusal_unkept : (old new : Option (List ℕ)) (refusal : LoadRefusal) → new ≡ old → IsUnkept old new (status.Refused refusal)
refusal_unkept old new why.NoInit same = same
refusal_unkept old new why.ReadFault same = same
refusal_unkept old new (why.TooLarge path limit number) same = same
refusal_unkept old new (why.TooMany path number) same = same
refusal_unkept old new why.NoMemory same = tt

pub refusal_counted : (refusal : LoadRefusal) (files later out : ℕ) → Counted (is_read_fault {T = Report} (Err refusal)) files later
    → AreCounted (status.Refused refusal) (record { files = files; out = out }) (record { files = later; out = out })
refusal_counted why.NoInit files later out same = ap (λ (n : ℕ). let counts : Counts = record { files = n; out = out } in counts) same
refusal_counted why.ReadFault files later out rose = (rose, refl)
refusal_counted (why.TooLarge path limit number) files later out same = ap (λ (n : ℕ). let counts : Counts = record { files = n; out = out } in counts) same
refusal_counted (why.TooMany path number) files later out same = ap (λ (n : ℕ). let counts : Counts = record { files = n; out = out } in counts) same
refusal_counted why.NoMemory files later out same = ap (λ (n : ℕ). let counts : Counts = record { files = n; out = out } in counts) same

-- the files' count is as before, and only the sink's may have risen
pub files_same : (result : Status) (files later before now : ℕ) → later ≡ files
    → ((n : ℕ) → AreCounted result (record { files = n; out = before }) (record { files = n; out = now }))
    → AreCounted result (record { files = files; out = before }) (record { files = later; out = now })
files_same result files later before now same counted =
    subst (λ (n : ℕ). AreCounted result (record { files = n; out = before }) (record { files = later; out = now })) same (counted later)
