use Rattle.std.proofs.Common.{◌≡◌, ◌+◌, ◌++◌, ◌∷◌, [], List, length, refl, sym, ◌∙◌}
use Rattle.std.proofs.lemmas.List.{length-append}
use Rattle.init_machine.specs.State.{Opening}
use Rattle.init_machine.specs.declared.report.Entry.{Entry}
use Rattle.trace_audit.proofs.Legality.{behind_next, illegal_next}
use Rattle.trace_audit.proofs.Options.{match_none, none_or_some, none_sure, true_or_false}
use Rattle.trace_audit.proofs.NextTaken.{behind_of, entry_declared, next_taken, stays_checked}
use Rattle.trace_audit.proofs.taking.Audit.take.Goals as goal
use Rattle.trace_audit.proofs.taking.Audit.take.Goals.{then-is_some-via-then-is_some, then-is_some-via-else-is_some+then-is_some-2}

pub returns-then-is_some-clause-taken : goal.returns-then-is_some-clause-taken
returns-then-is_some-clause-taken c =
    λ (o : Opening) (history : List Entry) taken.
    let old = c.args.self.now in
    let e = c.args.entry.now in
    next_taken o c.args.script.now history e old _ (c.take.ensures.merged history e refl taken.merged)
    (λ none.
    elim c.then-is_some.branch [
      | then-is_some-via-then-is_some w ↦ absurd (none_or_some c.take.new.self.strays (sym c.is_some.ensures ∙ w.if-is_some.true) none)
      | then-is_some-via-else-is_some+then-is_some-2 w ↦
          stays_checked o history e old.illegal old.core (sym w.is_some-else-is_some.ensures ∙ w.if-is_some-2.true) (taken.checked (c.take.ensures.begun none))
    ])
    (λ some. c.in_ok-gather.ensures history some (taken.told some)) taken

pub has_outputs-requires : goal.has_outputs-requires
has_outputs-requires c =
    let old = c.args.self.now in
    let e = c.args.entry.now in
    let o = c.requires.begun.0 in
    let history = c.requires.begun.1 in
    let taken = c.requires.begun.2 in
    let none = none_sure c.take.new.self.strays c.is_some.result c.is_some.ensures c.if-is_some.false in
    let legal = none_sure old.illegal c.is_some-else-is_some.result c.is_some-else-is_some.ensures c.if-is_some-2.false in
    entry_declared o c.args.script.now history e c.take.new.self old.core c.requires.asks taken.declared (c.take.ensures.merged history e refl taken.merged) none
    (behind_of o history old.illegal old.core legal (taken.checked (c.take.ensures.begun none)))

pub returns-then-not-branch-clause-taken : goal.returns-then-not-branch-clause-taken
returns-then-not-branch-clause-taken c =
    λ (o : Opening) (history : List Entry) taken.
    let old = c.args.self.now in
    let e = c.args.entry.now in
    let merged = c.take.ensures.merged history e refl taken.merged in
    let none = none_sure c.take.new.self.strays c.is_some.result c.is_some.ensures c.if-is_some.false in
    let legal = none_sure old.illegal c.is_some-else-is_some.result c.is_some-else-is_some.ensures c.if-is_some-2.false in
    let behind = behind_of o history old.illegal old.core legal (taken.checked (c.take.ensures.begun none)) in
    let long : length (history ++ e ∷ []) ≡ length history + 1 = length-append history (e ∷ []) in
    let number : c.take.new.self.taken ≡ length history + 1 = merged.taken ∙ long in
    next_taken o c.args.script.now history e old _ merged
    (λ still. illegal_next o history e old.core c.take.new.self.taken number
    (λ same. true_or_false c.in_ok-has_outputs.field-0 (c.in_ok-has_outputs.ensures.same.1 same) c.if-not-branch.true) behind)
    (λ some. c.in_ok-gather.ensures history some (taken.told some)) taken

pub returns-else-not-branch-clause-taken : goal.returns-else-not-branch-clause-taken
returns-else-not-branch-clause-taken c =
    λ (o : Opening) (history : List Entry) taken.
    let old = c.args.self.now in
    let e = c.args.entry.now in
    let none = none_sure c.take.new.self.strays c.is_some.result c.is_some.ensures c.if-is_some.false in
    let legal = none_sure old.illegal c.is_some-else-is_some.result c.is_some-else-is_some.ensures c.if-is_some-2.false in
    let behind = behind_of o history old.illegal old.core legal (taken.checked (c.take.ensures.begun none)) in
    next_taken o c.args.script.now history e old _ (c.take.ensures.merged history e refl taken.merged)
    (λ still. match_none old.illegal _ _ legal
    (behind_next o history e old.core c.has_outputs.new.core c.in_ok-has_outputs.ensures.config c.in_ok-has_outputs.ensures.policy c.in_ok-has_outputs.ensures.state
    (c.in_ok-has_outputs.ensures.same.0 c.if-not-branch.false) behind))
    (λ some. c.in_ok-gather.ensures history some (taken.told some)) taken
