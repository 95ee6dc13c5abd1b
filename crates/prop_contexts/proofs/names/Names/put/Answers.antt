-- The digest and the length of the line's name are there.
use Rattle.std.proofs.Common.{ap, subst, ◌∙◌, nat_eq, length}
use Rattle.indexmap.specs.IndexSet.{insert_key}
use Rattle.prop_contexts.specs.Digests.{digest_of}
use Rattle.prop_contexts.specs.NameLines.{lines_in}
use Rattle.prop_contexts.proofs.Digests.{line_put}
use Rattle.prop_contexts.proofs.Lengths.{IsAdded, length_put}
use Rattle.prop_contexts.proofs.names.Names.put.Goals as goal

pub invariant_of-self-2 : goal.invariant_of-self-2
invariant_of-self-2 c =
    let added : IsAdded c.self.inside.lengths c.add.new.self (length c.as_slice-2.result.now) = record {
      here = c.add.ensures.there;
      others = c.add.ensures.others;
      fits = c.add.ensures.most.0;
      grows = c.add.ensures.most.1;
    } in (
      line_put c.put.result (lines_in c.self.inside.contexts) (lines_in c.put.new.contexts) c.self.inside.digests c.insert.new.self c.args.name.items
          c.self.invariant.0
          (c.in_ok-insert.ensures.added ∙ ap (insert_key nat_eq c.self.inside.digests) (c.digest_of.ensures ∙ ap digest_of c.as_slice.ensures.value)) c.put.ensures.names c.put.ensures.err,
      length_put c.put.result (lines_in c.self.inside.contexts) (lines_in c.put.new.contexts) c.self.inside.lengths c.add.new.self c.args.name.items
          (subst (IsAdded c.self.inside.lengths c.add.new.self) (ap length c.as_slice-2.ensures.value) added) c.self.invariant.1 c.put.ensures.names c.put.ensures.err,
    )
