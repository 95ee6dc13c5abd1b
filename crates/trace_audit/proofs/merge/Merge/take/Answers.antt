use Rattle.std.proofs.Common.{◌+◌, ◌++◌, ◌∷◌, [], List, refl, sym, ap, ◌∙◌, subst}
use Rattle.init_machine.specs.declared.report.Entry.{Entry}
use Rattle.trace_audit.specs.Progress.{left_of}
use Rattle.trace_audit.specs.Taken.{Goes}
use Rattle.trace_audit.specs.declared.merge.Merge.{Merge}
use Rattle.trace_audit.specs.declared.progress.Progress.{Progress}
use Rattle.trace_audit.proofs.MergeFaults.{merged_goes, merged_stays, merged_strays}
use Rattle.trace_audit.proofs.Options.{none_known, some_known}
use Rattle.trace_audit.proofs.merge.Merge.take.Goals as goal
use Rattle.trace_audit.proofs.merge.Merge.take.Goals.{then-is_none+then-not-goes_on, else-is_none, else-is_none-via-then-is_none+else-not-goes_on, else-is_none-via-else-is_none}

pub returns-clause-merged : goal.returns-clause-merged
returns-clause-merged c =
    λ (history : List Entry) (e : Entry) same merged.
    let script = c.args.script.now in
    let old = c.args.self.now in
    let now = c.if-is_none.self in
    let new : Merge = record { progress = now.progress; taken = old.taken + 1; strays = now.strays } in
    elim c.if-is_none.branch [
      | then-is_none+then-not-goes_on w ↦
          merged_strays script history e old new refl (ap (λ (m : Merge). m.strays) w.self-is) (none_known old.strays c.is_none.result c.is_none.ensures w.if-is_none.true)
          (w.goes_on.ensures.ends w.if-not-goes_on.true history e same merged.taken) merged
      | else-is_none w ↦
          elim w.else-is_none.branch [
            | else-is_none-via-then-is_none+else-not-goes_on w' ↦
                let is = w.self-is ∙ w'.self-is in
                let none = none_known old.strays c.is_none.result c.is_none.ensures w'.if-is_none.true in
                let goes = w'.goes_on.ensures.goes w'.if-not-goes_on.false history e same merged.taken in
                merged_goes script history e old new refl (ap (λ (m : Merge). m.strays) is ∙ w'.goes_on.ensures.strays ∙ none) none
                (λ begun. subst (λ (p : Progress). Goes script (history ++ e ∷ []) (left_of script.acts p)) (sym (ap (λ (m : Merge). m.progress) is)) (goes begun)) merged
            | else-is_none-via-else-is_none w' ↦
                merged_stays script history e old new refl (ap (λ (m : Merge). m.strays) (w.self-is ∙ w'.self-is))
                (some_known old.strays c.is_none.result c.is_none.ensures w'.if-is_none.false) merged
          ]
    ]
