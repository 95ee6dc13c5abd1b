use Rattle.std.proofs.Common.{◌∙◌, ap, sym}
use Rattle.prop_contexts.specs.NameLines.{context_in, lines_in}
use Rattle.prop_contexts.proofs.Digests.{no_context}
use Rattle.prop_contexts.proofs.Lengths.{no_length}
use Rattle.prop_contexts.proofs.names.Names.get.Goals as goal

pub returns-then-not-may_have : goal.returns-then-not-may_have
returns-then-not-may_have c =
    no_length (lines_in c.self.inside.contexts) c.self.inside.lengths c.args.name.now c.self.invariant.1 (sym c.may_have.ensures ∙ c.if-not-may_have.true)
    ∙ ap (λ lines. context_in lines c.args.name.now) c.self.view_is

pub returns-in_err-place : goal.returns-in_err-place
returns-in_err-place c =
    rw c.from_residual.ensures
    (no_context (lines_in c.self.inside.contexts) c.self.inside.digests c.args.name.now c.with_bytes.result c.self.invariant.0 (c.with_bytes.ensures ∙ c.requires) (sym c.in_err-place.ensures)
    ∙ ap (λ lines. context_in lines c.args.name.now) c.self.view_is)
