-- What an actor comes to at the end of its part.
use Rattle.std.proofs.Common.{◌≡◌, ℕ, zero, suc, ◌≤◌, ◌+◌, ◌++◌, List, [], ◌∷◌, replicate, Option, Some, None, IfSome, refl, sym, ap, ◌∙◌, subst, arith}
use Rattle.init_machine.specs.declared.input.Input.{Input}
use Rattle.init_machine.specs.declared.input.Input.TheVariants as input
use Rattle.init_machine.specs.declared.report.Reading.{Reading}
use Rattle.property_area.specs.Seats.{Seated}
use Rattle.script_lang.specs.Inputs.{part_of}
use Rattle.script_lang.specs.declared.script.Script.{Script}
use Rattle.init_race.specs.Acting.{AnswersAll, AreItemsOf, AsksInputs, IsPart, IsThrough, begun}
use Rattle.init_race.specs.declared.actors.Acted.{Acted}
use Rattle.init_race.proofs.Steps.{asks_more}

-- ---- so many times the next event or command

replicate_more : (i : Input) (n : ℕ) → replicate n i ++ i ∷ [] ≡ replicate (suc n) i
replicate_more i zero = refl
replicate_more i (suc n) = ap (λ more. i ∷ more) (replicate_more i n)

pub steps_go_on : (a b c : Seated) (n : ℕ) → AsksInputs a b (replicate n input.Next) → AsksInputs b c (input.Next ∷ [])
    → AsksInputs a c (replicate (n + 1) input.Next)
steps_go_on a b c n first second =
    let e : suc n ≡ n + 1 = omega arith in
    subst (AsksInputs a c) (replicate_more input.Next n ∙ ap (λ m. replicate m input.Next) e) (asks_more a b c _ _ first second)

-- ---- the whole part

part_is : (script : Script) (who : ℕ) (reader back : Seated) (readings : List Reading) → 1 ≤ who → reader.view.who ≡ who
    → AnswersAll (begun reader) (record { reader = back; readings = readings }) (part_of who script) → IsThrough script reader back readings
part_is script zero reader back readings least is answers = absurd (omega arith)
part_is script (suc place) reader back readings least is answers = record {
  items = answers.items;
  goes = answers.goes;
  part = subst (λ who. IsPart script who answers.items readings) (sym is)
      (subst (λ who. AreItemsOf who (part_of (suc place) script) answers.items) is answers.fit, answers.told);
}

pub client_through : (script : Script) (reader : Seated) (acted : Acted) → 1 ≤ reader.view.who
    → AnswersAll (begun reader) acted (part_of reader.view.who script) → IsThrough script reader acted.reader acted.readings
client_through script reader acted least answers = part_is script reader.view.who reader acted.reader acted.readings least refl answers

pub some_through : (script : Script) (reader : Seated) (found : Option Acted) → 1 ≤ reader.view.who
    → IfSome found (λ acted. AnswersAll (begun reader) acted (part_of reader.view.who script))
    → IfSome found (λ acted. IsThrough script reader acted.reader acted.readings)
some_through script reader None least all = tt
some_through script reader (Some acted) least answers = client_through script reader acted least answers
