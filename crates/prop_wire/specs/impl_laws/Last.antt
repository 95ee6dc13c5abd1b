-- The reply of the last of several outputs.
use Rattle.std.proofs.Common.{◌≡◌, List, [], ◌∷◌, ◌++◌, Option, refl, ap, ◌∙◌}
use Rattle.init_machine.specs.declared.output.Output.{Output}
use Rattle.outputs.specs.Joins.{Joins}
use Rattle.prop_wire.specs.Reply.{output_reply}
use Rattle.prop_wire.specs.declared.reply.Reply.{Reply}

-- the reply that is kept after these outputs
abbrev pub last_reply : Option Reply → List Output → Option Reply
last_reply kept [] = kept
last_reply kept (output ∷ more) = last_reply (output_reply output) more

abbrev pub KeepsLast : Option Reply → Option Reply → List Output → Type 0
KeepsLast old new outputs = new ≡ last_reply old outputs

last_behind : (kept : Option Reply) (first then : List Output) → last_reply (last_reply kept first) then ≡ last_reply kept (first ++ then)
last_behind kept [] then = refl
last_behind kept (output ∷ first) then = last_behind (output_reply output) first then

pub last_joins : Joins KeepsLast
last_joins = record {
  none = λ o. refl;
  both = λ o p q first then is more. more ∙ ap (λ (kept : Option Reply). last_reply kept then) is ∙ last_behind o first then;
}
