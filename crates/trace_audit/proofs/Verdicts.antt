-- A report with a fault isn't audited.
use Rattle.std.proofs.Common.{◌≡◌, ◌≢◌, ◌+◌, ℕ, suc, List, [], ◌∷◌, ◌++◌, length, slice_get, refl, sym, ap, ◌∙◌, subst, arith, ◌⊎◌, inl, inr, ◌↔◌, Result, Ok, Err, IfOk}
use Rattle.init_base.specs.declared.memory.NoMemory.{NoMemory}
use Rattle.init_machine.specs.History.{Legal, LegalFrom, after_from, inputs_of}
use Rattle.init_machine.specs.Policy.{PolicyLines}
use Rattle.init_machine.specs.State.{Opening, State, first_state}
use Rattle.init_machine.specs.Step.{step}
use Rattle.init_machine.specs.declared.config.Config.{Config}
use Rattle.init_machine.specs.declared.diagnostic.Diagnostic.{Diagnostic}
use Rattle.init_machine.specs.declared.input.Input.{Input}
use Rattle.init_machine.specs.declared.report.ClientPart.{ClientPart}
use Rattle.init_machine.specs.declared.report.Entry.{Entry}
use Rattle.init_machine.specs.declared.report.Report.{Report}
use Rattle.script_lang.specs.Inputs.{Parts}
use Rattle.script_lang.specs.Merges.{IsMerging, Merges}
use Rattle.script_lang.specs.declared.script.Script.{Script}
use Rattle.trace_audit.specs.Audited.{Audited, EachHolds, EndsEarly, FailsAt, FirstFault, IllegalAt, ReadingsHold, Says, StraysAt, clients_in}
use Rattle.trace_audit.specs.Differences.{DifferFirst}
use Rattle.trace_audit.specs.declared.verdict.Verdict.{Verdict}
use Rattle.trace_audit.specs.declared.verdict.Verdict.TheVariants as verdict
use Rattle.trace_audit.specs.declared.verdict.Why.{Why}
use Rattle.trace_audit.specs.declared.verdict.Why.TheVariants as why

pub lists_differ : {A : Type 0} (one other : List A) (number : ℕ) → DifferFirst one other number → one ≢ other
lists_differ one other number d same = d.differ (ap (λ (xs : List _). slice_get xs d.place) same)

inputs_behind : (before behind : List Entry) (e : Entry)
    → inputs_of (before ++ e ∷ behind) ≡ inputs_of (before ++ e ∷ []) ++ inputs_of behind
inputs_behind [] behind e = refl
inputs_behind (x ∷ before) behind e = ap (λ (is : List Input). x.input ∷ is) (inputs_behind before behind e)

strays_never : (script : Script) (history : List Entry) (number : ℕ) → StraysAt script history number → ¬ Merges history (Parts script)
strays_never script history number x merges =
    x.strays (
      inputs_of x.behind,
      subst (λ (is : List Input). IsMerging (Parts script) is)
          (ap (λ (h : List Entry). inputs_of h) x.history_is ∙ inputs_behind x.before x.behind x.entry) merges,
    )

legal_at : (config : Config) (policy : PolicyLines) (s : State) (before behind : List Entry) (e : Entry) → LegalFrom config policy s (before ++ e ∷ behind)
    → e.outputs ≡ (step config policy (after_from config policy s (inputs_of before)) e.input).lines
legal_at config policy s [] behind e legal = legal.0
legal_at config policy s (x ∷ before) behind e legal = legal_at config policy (step config policy s x.input).state before behind e legal.1

illegal_never : (o : Opening) (history : List Entry) (number : ℕ) → IllegalAt o history number → ¬ Legal o history
illegal_never o history number x legal =
    x.differ (legal_at o.config o.policy (first_state o) x.before x.behind x.entry (subst (λ (h : List Entry). Legal o h) x.history_is legal))

hold_at : (script : Script) (history : List Entry) (n : ℕ) (before behind : List ClientPart) (part : ClientPart)
    → EachHolds script history n (before ++ part ∷ behind) → ReadingsHold script history (n + length before) part.readings
hold_at script history n [] behind part each =
    let e : n ≡ n + 0 = omega arith in subst (λ (who : ℕ). ReadingsHold script history who part.readings) e each.0
hold_at script history n (p ∷ before) behind part each =
    let e : n + 1 + length before ≡ n + suc (length before) = omega arith in
    subst (λ (who : ℕ). ReadingsHold script history who part.readings) e (hold_at script history (n + 1) before behind part each.1)

fails_never : (script : Script) (history : List Entry) (parts : List ClientPart) (number : ℕ) → FailsAt script history parts number
    → ¬ EachHolds script history 1 parts
fails_never script history parts number x each =
    let at : ReadingsHold script history (1 + length x.before) x.part.readings =
    hold_at script history 1 x.before x.behind x.part (subst (λ (ps : List ClientPart). EachHolds script history 1 ps) x.parts_are each) in
    let e : 1 + length x.before ≡ number = let is : number ≡ length x.before + 1 = x.number_is in omega arith in
    x.fail (subst (λ (who : ℕ). ReadingsHold script history who x.part.readings) e at)

fault_never : (o : Opening) (found : List Diagnostic) (script : Script) (report : Report) (w : Why) (number : ℕ)
    → FirstFault o found script report w number → ¬ Audited o found script report
fault_never o found script report why.Diagnostics number fault a = lists_differ found report.diagnostics number fault a.diagnostics
fault_never o found script report why.Clients number fault a = lists_differ script.clients (clients_in report) number fault.1 a.clients
fault_never o found script report why.Merge number fault a =
    elim (fault.2) [
      | inl strays ↦ strays_never script report.history number strays a.merges
      | inr early ↦ early.ends a.merges
    ]
fault_never o found script report why.Legal number fault a = illegal_never o report.history number fault.3 a.legal
fault_never o found script report why.Readings number fault a = fails_never script report.history report.clients number fault.4 a.readings

-- the verdict is Yes exactly where the report is audited
pub yes_exactly : (o : Opening) (found : List Diagnostic) (script : Script) (report : Report) (v : Verdict) → Says o found script report v
    → (v ≡ verdict.Yes) ↔ Audited o found script report
yes_exactly o found script report verdict.Yes says = (λ (same : verdict.Yes ≡ verdict.Yes). says, λ (a : Audited o found script report). refl)
yes_exactly o found script report (verdict.No w number) says = (
  λ (same : verdict.No w number ≡ verdict.Yes). cc,
  λ (a : Audited o found script report). absurd (fault_never o found script report w number says a),
)

pub yes_if_ok : (o : Opening) (found : List Diagnostic) (script : Script) (report : Report) (r : Result Verdict NoMemory)
    → IfOk r (Says o found script report) → IfOk r (λ v. (v ≡ verdict.Yes) ↔ Audited o found script report)
yes_if_ok o found script report (Ok v) says = yes_exactly o found script report v says
yes_if_ok o found script report (Err e) says = tt

pub says_merge : (o : Opening) (found : List Diagnostic) (script : Script) (report : Report) (v : Verdict) (number : ℕ) (history : List Entry)
    → v ≡ verdict.No why.Merge number → found ≡ report.diagnostics → script.clients ≡ clients_in report → history ≡ report.history
    → StraysAt script history number ⊎ EndsEarly script history number → Says o found script report v
says_merge o found script report v number history is same those all fault =
    subst (λ (x : Verdict). Says o found script report x) (sym is)
    (same, those, subst (λ (h : List Entry). StraysAt script h number ⊎ EndsEarly script h number) all fault)

pub says_legal : (o : Opening) (found : List Diagnostic) (script : Script) (report : Report) (v : Verdict) (number : ℕ)
    → v ≡ verdict.No why.Legal number → found ≡ report.diagnostics → script.clients ≡ clients_in report
    → Merges report.history (Parts script) → IllegalAt o report.history number → Says o found script report v
says_legal o found script report v number is same those merges fault =
    subst (λ (x : Verdict). Says o found script report x) (sym is) (same, those, merges, fault)

pub says_readings : (o : Opening) (found : List Diagnostic) (script : Script) (report : Report) (v : Verdict) (number : ℕ)
    → v ≡ verdict.No why.Readings number → found ≡ report.diagnostics → script.clients ≡ clients_in report
    → Merges report.history (Parts script) → Legal o report.history → FailsAt script report.history report.clients number
    → Says o found script report v
says_readings o found script report v number is same those merges legal fault =
    subst (λ (x : Verdict). Says o found script report x) (sym is) (same, those, merges, legal, fault)

pub all_hold : (o : Opening) (found : List Diagnostic) (script : Script) (report : Report)
    → found ≡ report.diagnostics → script.clients ≡ clients_in report → Merges report.history (Parts script) → Legal o report.history
    → EachHolds script report.history 1 report.clients → Audited o found script report
all_hold o found script report same those merges legal each = record {
  diagnostics = same;
  clients = those;
  merges = merges;
  legal = legal;
  readings = each;
}
