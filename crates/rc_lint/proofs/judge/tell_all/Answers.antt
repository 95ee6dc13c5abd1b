use Rattle.std.proofs.Common.{◌∙◌, List, ap, sym, subst, get_or}
use Rattle.lint_findings.specs.Findings.{diagnostics_of}
use Rattle.lint_sources.specs.Told.{IsTold}
use Rattle.lint_sources.specs.declared.source.Source.{Source}
use Rattle.rc_lint.proofs.Judged.{told_at, told_all}
use Rattle.rc_lint.proofs.judge.tell_all.Goals as goal

pub loop-diagnostic-preserved : goal.loop-diagnostic-preserved
loop-diagnostic-preserved g c = record {
  told = λ told is.
      told_at c.args.request.now.allowed told c.place_of.new.self.sources c.in_ok-place.place c.index-items-place.result c.diagnostic-item.result
      c.args.diagnostics.now (diagnostics_of c.loop-diagnostic.findings) (diagnostics_of c.tell.new.findings) _ c.loop-diagnostic.diagnostic-index
      c.loop-diagnostic-test.true c.diagnostic-item.is
      (c.in_ok-place.ensures.told told (subst (λ t. IsTold t told) (sym c.loop-diagnostic.invariant.tree) is) (c.loop-diagnostic.invariant.sources told is))
      c.in_ok-place.ensures.place
      (c.index-items-place.is ∙ ap (λ (s : List Source). get_or s c.in_ok-place.place c.index-items-place.result) c.items.ensures) c.in_ok-tell.ensures (c.loop-diagnostic.invariant.told told is);
  sources = λ told is.
      c.in_ok-place.ensures.told told (subst (λ t. IsTold t told) (sym c.loop-diagnostic.invariant.tree) is) (c.loop-diagnostic.invariant.sources told is);
  tree = c.in_ok-place.ensures.tree ∙ c.loop-diagnostic.invariant.tree;
  faults = c.in_ok-place.ensures.cause ∙ c.loop-diagnostic.invariant.faults;
}

pub returns-clause-told : goal.returns-clause-told
returns-clause-told g c = λ told is.
    told_all c.args.request.now.allowed told c.args.diagnostics.now (diagnostics_of c.loop-diagnostic.findings) c.loop-diagnostic.diagnostic-index
    c.loop-diagnostic-test.false (c.loop-diagnostic.invariant.told told is)
