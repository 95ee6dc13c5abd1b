use Rattle.std.proofs.Common.{◌+◌, ◌≡◌, ℕ, List, length, inr, sym, ap, ◌∙◌, subst, arith}
use Rattle.init_machine.specs.declared.report.Entry.{Entry}
use Rattle.script_lang.specs.declared.script.Act.{Act}
use Rattle.trace_audit.specs.Audited.{EndsEarly, StraysAt}
use Rattle.trace_audit.specs.Progress.{IsOver, left_of}
use Rattle.trace_audit.specs.Taken.{Goes}
use Rattle.trace_audit.specs.declared.merge.Merge.{Merge}
use Rattle.trace_audit.proofs.MergeFaults.{ends_next}
use Rattle.trace_audit.proofs.Options.{none_is, none_sure}
use Rattle.trace_audit.proofs.merge.Merge.end.Goals as goal
use Rattle.trace_audit.proofs.merge.Merge.end.Goals.{else-self-gt0-via-then-self-gt0+else-is_over, else-self-gt0-via-else-self-gt0}

pub returns-clause-end : goal.returns-clause-end
returns-clause-end c =
    λ (history : List Entry) merged.
    let script = c.args.script.now in
    let old = c.args.self.now in
    let left = left_of script.acts old.progress in
    let goes = none_is old.strays (Goes script history left) (StraysAt script history) merged.order (none_sure old.strays c.is_some.result c.is_some.ensures c.if-is_some.false) in
    elim c.else-self-gt0.branch [
      | else-self-gt0-via-then-self-gt0+else-is_over w ↦
          let number : length history + 1 ≡ c.else-self-gt0.self.taken + 1 = ap (λ (n : ℕ). n + 1) (sym merged.taken ∙ sym (ap (λ (m : Merge). m.taken) w.self-is)) in
          inr (subst (λ (n : ℕ). EndsEarly script history n) number
          (ends_next script history left c.requires.asks
          (λ some over. w.is_over.ensures.left w.if-is_over.false (subst (λ (acts : List Act). IsOver (left_of acts old.progress)) (sym w.items.ensures) over)) goes))
      | else-self-gt0-via-else-self-gt0 w ↦
          let number : length history + 1 ≡ c.else-self-gt0.self.taken + 1 = ap (λ (n : ℕ). n + 1) (sym merged.taken ∙ sym (ap (λ (m : Merge). m.taken) w.self-is)) in
          inr (subst (λ (n : ℕ). EndsEarly script history n) number
          (ends_next script history left c.requires.asks
          (λ some over. absurd (some (let counted : old.taken ≡ length history = merged.taken in omega (arith, w.if-self-gt0.false)))) goes))
    ]
