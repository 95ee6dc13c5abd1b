use Rattle.std.proofs.Common.{◌≡◌, ◌≢◌, ◌+◌, ◌++◌, ◌∷◌, ℕ, [], List, length, true, sym, ap, ◌∙◌, subst, arith}
use Rattle.init_machine.specs.declared.input.Input.{Input as Given}
use Rattle.init_machine.specs.declared.input.Input.TheVariants as input
use Rattle.init_machine.specs.declared.report.Entry.{Entry}
use Rattle.script_lang.specs.declared.script.Act.{Act}
use Rattle.trace_audit.specs.Audited.{StraysAt}
use Rattle.trace_audit.specs.Progress.{Refuses, Takes, left_of}
use Rattle.trace_audit.proofs.MergeFaults.{goes_next, strays_first, strays_next}
use Rattle.trace_audit.proofs.merge.Merge.goes_on.Goals as goal

pub returns-then-self-eq0-clause-ends : goal.returns-then-self-eq0-clause-ends
returns-then-self-eq0-clause-ends c =
    λ other (history : List Entry) (e : Entry) same counted goes.
    let none : c.args.self.now.taken ≡ 0 = omega (arith, c.if-self-eq0.true) in
    let no_boot : e.input ≢ input.Boot = λ boot. let yes : c.is_boot.result ≡ true = c.is_boot.ensures.1 (sym same ∙ boot) in cc in
    let number : 1 ≡ c.args.self.now.taken + 1 = omega (arith, none) in
    subst (λ (n : ℕ). StraysAt c.args.script.now (history ++ e ∷ []) n) number
    (strays_first c.args.script.now history e c.requires.asks (sym counted ∙ none) no_boot)

pub returns-else-self-eq0-clause-goes : goal.returns-else-self-eq0-clause-goes
returns-else-self-eq0-clause-goes c =
    λ yes (history : List Entry) (e : Entry) same counted goes.
    let script = c.args.script.now in
    let old = c.args.self.now.progress in
    let new = c.take.new.self in
    let some : length history ≢ 0 = λ none. let zero : c.args.self.now.taken ≡ 0 = counted ∙ none in omega (arith, c.if-self-eq0.false, zero) in
    let taken : Takes (c.args.input.now ∷ []) (left_of script.acts old) (left_of script.acts new) =
    subst (λ (acts : List Act). Takes (c.args.input.now ∷ []) (left_of acts old) (left_of acts new)) c.items.ensures (c.take.ensures.taken yes) in
    goes_next script history e (left_of script.acts old) (left_of script.acts new) some
    (subst (λ (i : Given). Takes (i ∷ []) (left_of script.acts old) (left_of script.acts new)) (sym same) taken) goes

pub returns-else-self-eq0-clause-ends : goal.returns-else-self-eq0-clause-ends
returns-else-self-eq0-clause-ends c =
    λ no (history : List Entry) (e : Entry) same counted goes.
    let script = c.args.script.now in
    let old = c.args.self.now.progress in
    let some : length history ≢ 0 = λ none. let zero : c.args.self.now.taken ≡ 0 = counted ∙ none in omega (arith, c.if-self-eq0.false, zero) in
    let refuses : Refuses c.args.input.now (left_of script.acts old) =
    subst (λ (acts : List Act). Refuses c.args.input.now (left_of acts old)) c.items.ensures (c.take.ensures.refused no) in
    let number : length history + 1 ≡ c.args.self.now.taken + 1 = ap (λ (n : ℕ). n + 1) (sym counted) in
    subst (λ (n : ℕ). StraysAt script (history ++ e ∷ []) n) number
    (strays_next script history e (left_of script.acts old) some (subst (λ (i : Given). Refuses i (left_of script.acts old)) (sym same) refuses) goes)
