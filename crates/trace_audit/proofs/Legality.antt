-- Legal entries, one by one.
use Rattle.std.specs.Result.{OnOk, is_err}
use Rattle.std.proofs.Common.{Result, Ok, Err, false, ◌≡◌, ◌+◌, ℕ, List, [], ◌∷◌, ◌++◌, length, refl, sym, ap, ◌∙◌, append_assoc}
use Rattle.init_core.specs.Core.{CoreView, step_of}
use Rattle.init_machine.specs.Changes.{Change}
use Rattle.init_machine.specs.History.{LegalFrom, after, after_from, inputs_of}
use Rattle.init_machine.specs.Policy.{PolicyLines}
use Rattle.init_machine.specs.State.{Opening, State, first_state}
use Rattle.init_machine.specs.Step.{step}
use Rattle.init_machine.specs.declared.config.Config.{Config}
use Rattle.init_machine.specs.declared.input.Input.{Input}
use Rattle.init_machine.specs.declared.report.Entry.{Entry}
use Rattle.machine_laws.specs.Histories.{HasStepOutputs}
use Rattle.machine_laws.proofs.Legal.{same_step}
use Rattle.trace_audit.specs.Audited.{IllegalAt}
use Rattle.trace_audit.specs.Taken.{IsBehind}

after_one : (config : Config) (policy : PolicyLines) (s : State) (entries : List Entry) (e : Entry)
    → after_from config policy s (inputs_of (entries ++ e ∷ [])) ≡ (step config policy (after_from config policy s (inputs_of entries)) e.input).state
after_one config policy s [] e = refl
after_one config policy s (x ∷ entries) e = after_one config policy (step config policy s x.input).state entries e

legal_one : (config : Config) (policy : PolicyLines) (s : State) (entries : List Entry) (e : Entry) → LegalFrom config policy s entries
    → e.outputs ≡ (step config policy (after_from config policy s (inputs_of entries)) e.input).lines → LegalFrom config policy s (entries ++ e ∷ [])
legal_one config policy s [] e legal same = (same, tt)
legal_one config policy s (x ∷ entries) e legal same = (legal.0, legal_one config policy (step config policy s x.input).state entries e legal.1 same)

-- ---- a machine behind the entries

step_here : (config c : Config) (policy p : PolicyLines) (s t : State) (i : Input) → config ≡ c → policy ≡ p → s ≡ t
    → step config policy s i ≡ step c p t i
step_here config c policy p s t i same_config same_policy same_state =
    ap (λ (x : Config). step x policy s i) same_config ∙ ap (λ (x : PolicyLines). step c x s i) same_policy ∙ ap (λ (x : State). step c p x i) same_state

-- its step is that of the opening's machine: no step reads the saved pairs of the configuration
step_there : {S : Type 0} (o : Opening) (history : List Entry) (core : CoreView S) (i : Input) → IsBehind o history core
    → step_of core i ≡ step o.config o.policy (after o (inputs_of history)) i
step_there o history core i behind =
    step_here core.config (record o.config { saved = [] }) core.policy o.policy core.state (after o (inputs_of history)) i behind.config behind.policy behind.state
    ∙ same_step o.config o.policy [] (after o (inputs_of history)) i

pub behind_next : {S : Type 0} (o : Opening) (history : List Entry) (e : Entry) (old new : CoreView S) → new.config ≡ old.config → new.policy ≡ old.policy
    → new.state ≡ (step_of old e.input).state → e.outputs ≡ (step_of old e.input).lines → IsBehind o history old → IsBehind o (history ++ e ∷ []) new
behind_next o history e old new same_config same_policy state lines behind =
    let there = step_there o history old e.input behind in
    record {
      legal = legal_one o.config o.policy (first_state o) history e behind.legal (lines ∙ ap (λ (x : Change). x.lines) there);
      config = same_config ∙ behind.config;
      policy = same_policy ∙ behind.policy;
      state = state ∙ ap (λ (x : Change). x.state) there ∙ sym (after_one o.config o.policy (first_state o) history e);
    }

pub illegal_next : {S : Type 0} (o : Opening) (history : List Entry) (e : Entry) (old : CoreView S) (number : ℕ) → number ≡ length history + 1
    → (e.outputs ≡ (step_of old e.input).lines → ⊥) → IsBehind o history old → IllegalAt o (history ++ e ∷ []) number
illegal_next o history e old number counted other behind = record {
  before = history;
  entry = e;
  behind = [];
  history_is = refl;
  number_is = counted;
  legal = behind.legal;
  differ = λ (same : HasStepOutputs o history e). other (same ∙ sym (ap (λ (x : Change). x.lines) (step_there o history old e.input behind)));
}

-- what isn't legal stays so, whatever comes
pub illegal_more : (o : Opening) (history : List Entry) (e : Entry) (number : ℕ) → IllegalAt o history number → IllegalAt o (history ++ e ∷ []) number
illegal_more o history e number at = record {
  before = at.before;
  entry = at.entry;
  behind = at.behind ++ e ∷ [];
  history_is = ap (λ (es : List Entry). es ++ e ∷ []) at.history_is ∙ append_assoc at.before (at.entry ∷ at.behind) (e ∷ []);
  number_is = at.number_is;
  legal = at.legal;
  differ = at.differ;
}

pub ok_of : {T E : Type 0} (r : Result T E) (P : Type 0) → OnOk r P → is_err r ≡ false → P
ok_of (Ok x) P on sure = on
ok_of (Err e) P on sure = cc
