use Rattle.std.proofs.Common.{◌≡◌, ◌∷◌, false, true, List, Some, arith, length, refl, sym, ◌<◌}
use Rattle.std.proofs.lemmas.Option.{slice_get_read}
use Rattle.std.proofs.lemmas.Bool.{ltb-true}
use Rattle.std.specs.Prelude.{slice_get}
use Rattle.init_machine.specs.declared.input.Input.{Input}
use Rattle.script_lang.specs.declared.script.Act.{Act}
use Rattle.trace_audit.specs.Progress.{main_left, single_input}
use Rattle.trace_audit.proofs.Lefts.{next_settled}
use Rattle.trace_audit.proofs.progress.MainPlace.take.Goals as goal

pub returns-clause-refused : goal.returns-clause-refused
returns-clause-refused c =
    λ (no : c.is_input_of.result ≡ false) (rest : List Input) (next : main_left c.args.acts.now c.args.self.now ≡ c.args.input.now ∷ rest).
    let m = c.settle.new.self in
    let a : Act = c.in-Some.act.now in
    let no_step : m.steps ≡ 0 = omega arith in
    let within : m.at < length c.args.acts.now = ltb-true m.at (length c.args.acts.now) (sym c.in-Some.ensures.lookup.0) in
    let there : slice_get c.args.acts.now m.at ≡ Some a = slice_get_read c.args.acts.now (length c.args.acts.now) m.at a refl within c.in-Some.ensures.lookup.1 in
    let single = c.settle.ensures.settled no_step a there in
    let is : single_input a ≡ Some c.args.input.now = next_settled c.args.acts.now m _ a c.args.input.now rest c.settle.ensures.left no_step there single next in
    let yes : c.is_input_of.result ≡ true = c.is_input_of.ensures.1 is in
    cc
