use Rattle.std.proofs.Common.{◌≡◌, drop}
use Rattle.std.specs.List.{filter_map}
use Rattle.script_lang.specs.Inputs.{ask_by}
use Rattle.trace_audit.specs.Audited.{answer_all}
use Rattle.trace_audit.proofs.order.are_answers.Given as goal

-- what is left decides
abbrev pub invariant-loop-act : goal.invariant-loop-act
invariant-loop-act l = answer_all (filter_map (ask_by l.who) (drop l.act-index l.acts)) l.rest ≡ answer_all (filter_map (ask_by l.who) l.acts) l.readings
