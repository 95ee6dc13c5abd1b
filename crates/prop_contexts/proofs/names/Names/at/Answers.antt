use Rattle.std.proofs.Common.{◌∙◌, ap}
use Rattle.prop_contexts.specs.NameLines.{context_in}
use Rattle.prop_contexts.proofs.Fronts.{lookup-is, found_at}
use Rattle.prop_contexts.proofs.names.Names.at.Goals as goal

pub returns-in-Some : goal.returns-in-Some
returns-in-Some c =
    found_at c.self.inside.contexts.entries c.in-Some.key.now c.bytes.result.now c.args.name.now c.in-Some.context.now c.same_bytes.result
    c.in-Some.ensures.value c.bytes.ensures c.same_bytes.ensures c.if-same_bytes.true
    ∙ ap (λ lines. context_in lines c.args.name.now) c.self.view_is

pub returns-in_default : goal.returns-in_default
returns-in_default c =
    c.get.ensures.value ∙ lookup-is c.self.inside.contexts.entries c.args.name.now ∙ ap (λ lines. context_in lines c.args.name.now) c.self.view_is
