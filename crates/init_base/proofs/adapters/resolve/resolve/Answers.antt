use Rattle.std.proofs.Common.{rules, arith}
use Rattle.std.specs.Prelude.{reverse}
use Rattle.init_base.specs.declared.adapters.resolve.End.TheVariants.{TooManyLinks}
use Rattle.init_base.proofs.Walks.{leads_end, leads_more, leads_no_more, passes_no_link}
use Rattle.init_base.proofs.adapters.resolve.resolve.Goals as goal

pub returns-in-Some-clause-leads : goal.returns-in-Some-clause-leads
returns-in-Some-clause-leads g c =
    leads_end (g.T.LinkTree.standing c.args.tree.now) c.stretches.counter c.args.from.now c.stretches.walk.place (reverse c.stretches.walk.left)
    c.follow.new.walk.place (reverse c.follow.new.walk.left) c.args.path.now c.in_ok-end.field-0 c.in-Some.end
    (omega arith) c.stretches.invariant.leads c.in_ok-end.ensures.end c.in-Some.is

pub stretches-preserved : goal.stretches-preserved
stretches-preserved g c = record {
  leads = leads_more (g.T.LinkTree.standing c.args.tree.now) c.stretches.counter c.args.from.now c.stretches.walk.place (reverse c.stretches.walk.left)
      c.follow.new.walk.place (reverse c.follow.new.walk.left) c.args.path.now c.in_ok-end.field-0
      (omega arith) c.stretches.invariant.leads c.in_ok-end.ensures.end c.in_default.is;
  below = search rules;
  left = search rules;
}

pub returns-clause-leads : goal.returns-clause-leads
returns-clause-leads g c =
    leads_no_more (g.T.LinkTree.standing c.args.tree.now) c.stretches.counter c.args.from.now c.stretches.walk.place (reverse c.stretches.walk.left)
    c.args.path.now (omega arith) c.stretches.invariant.leads

pub returns-in-Some-clause-plain : goal.returns-in-Some-clause-plain
returns-in-Some-clause-plain g c =
    passes_no_link (g.T.LinkTree.standing c.args.tree.now) c.args.from.now c.follow.new.walk.place c.args.path.now c.in-Some.end
    (returns-in-Some-clause-leads g c)

pub returns-clause-plain : goal.returns-clause-plain
returns-clause-plain g c =
    passes_no_link (g.T.LinkTree.standing c.args.tree.now) c.args.from.now c.stretches.walk.place c.args.path.now TooManyLinks
    (returns-clause-leads g c)
