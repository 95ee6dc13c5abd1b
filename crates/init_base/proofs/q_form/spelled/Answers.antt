use Rattle.init_base.proofs.QForms.{isnt_nil, no_text, one_more, more_bytes}
use Rattle.init_base.proofs.q_form.spelled.Goals as goal

pub returns-in_default : goal.returns-in_default
returns-in_default c text all =
    no_text c.args.word.now c.loop-rest.bytes.items c.loop-rest.rest.now text c.loop-rest.invariant.there
    (isnt_nil _ c.loop-rest-test.ensures) c.in_default.ensures all

pub loop-rest-preserved : goal.loop-rest-preserved
loop-rest-preserved c = record {
  there = rw c.in_ok-push.ensures.items
      (one_more c.args.word.now c.loop-rest.bytes.items c.loop-rest.rest.now c.in-Some.byte c.in-Some.behind.now c.loop-rest.invariant.there c.in-Some.ensures.1);
  all = rw c.in_ok-push.ensures.items (more_bytes c.loop-rest.bytes.items c.in-Some.byte c.loop-rest.invariant.all c.in-Some.ensures.0);
}
