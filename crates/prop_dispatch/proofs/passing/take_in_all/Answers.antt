use Rattle.std.proofs.Common.{◌≡◌, ◌++◌, ◌∷◌, [], ap, ◌∙◌, sym, subst, rules, arith, length, length-append, append_assoc, append-nil}
use Rattle.crossbeam_queue.specs.Passes.{view}
use Rattle.prop_dispatch.specs.internal.Passing.{EachFrom, puts_of}
use Rattle.prop_dispatch.specs.internal.Views.{worker_view}
use Rattle.prop_dispatch.proofs.Moves.{leaves}
use Rattle.prop_dispatch.proofs.Passes.{first_from, nil_of_zero, none_left}
use Rattle.prop_dispatch.proofs.passing.take_in_all.Goals as goal

pub absorb-requires-clause-queue : goal.absorb-requires-clause-queue
absorb-requires-clause-queue c =
    let first = first_from c.args.line.now _ c.loop-theirs.theirs-iterator.rest.items c.next.new.self.rest.items c.in-Some.theirs (search rules) c.loop-theirs.invariant.3 in
    (c.loop-theirs.invariant.0, first.0)

pub absorb-requires-clause-rule : goal.absorb-requires-clause-rule
absorb-requires-clause-rule c =
    let first = first_from c.args.line.now _ c.loop-theirs.theirs-iterator.rest.items c.next.new.self.rest.items c.in-Some.theirs (search rules) c.loop-theirs.invariant.3 in
    leaves _ _ _ _ (ap (λ v. v.gets) c.loop-theirs.invariant.1) (ap (λ v. v.sends) first.1) (ap (λ v. v.from) first.1)

pub loop-theirs-preserved : goal.loop-theirs-preserved
loop-theirs-preserved c =
    let left = c.loop-theirs.theirs-iterator.rest.items in
    let rest = c.next.new.self.rest.items in
    let done = (view c.loop-theirs.pass).done in
    let put = (view c.in-Some.theirs).put in
    let split : left ≡ c.in-Some.theirs ∷ rest = search rules in
    let first = first_from c.args.line.now _ left rest c.in-Some.theirs split c.loop-theirs.invariant.3 in
    let now : (view c.absorb.new.pass).done ≡ done ++ put ∷ [] = ap (λ v. v.done) c.absorb.ensures.rule in (
      search rules,
      c.absorb.ensures.rule
          ∙ (λ i. worker_view (ap (λ v. v.made) c.loop-theirs.invariant.1 i) (ap (λ v. v.got) c.loop-theirs.invariant.1 i) (sym now i)),
      ap (λ d. d ++ puts_of rest) now ∙ append_assoc done (put ∷ []) (puts_of rest) ∙ ap (λ l. done ++ l) (sym (ap puts_of split))
          ∙ c.loop-theirs.invariant.2,
      subst (λ n. EachFrom c.args.line.now n rest) (omega (arith, ap length now, length-append done (put ∷ []))) first.2,
    )

pub returns-clause-view : goal.returns-clause-view
returns-clause-view c =
    let left = c.loop-theirs.theirs-iterator.rest.items in
    let done = (view c.loop-theirs.pass).done in
    let none : left ≡ [] = nil_of_zero left (omega (arith, c.loop-theirs.theirs-iterator.rest.ok, c.in-None.ensures.steps.0)) in
    c.loop-theirs.invariant.1
    ∙ ap (λ d. worker_view (view c.args.pass.now).made (view c.args.pass.now).got d)
    (sym (append-nil done) ∙ ap (λ l. done ++ l) (sym (none_left c.args.line.now 0 left none)) ∙ c.loop-theirs.invariant.2)
