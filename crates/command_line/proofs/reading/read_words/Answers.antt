use Rattle.std.proofs.Common.{◌≡◌, ℕ, true, List, Option, Bor, map, refl, sym, subst}
use Rattle.std.specs.Prelude.{IsSome}
use Rattle.std.specs.List.{list_all}
use Rattle.std.specs.Str.{is_utf8}
use Rattle.command_line.specs.Form.{form_of}
use Rattle.command_line.specs.declared.form.Form.{Form}
use Rattle.command_line.proofs.Taken.{form_utf8}
use Rattle.command_line.proofs.reading.read_words.Goals as goal

pub texts_of-requires : goal.texts_of-requires
texts_of-requires c =
    let some : IsSome (form_of c.args.words.now) =
    subst (λ (o : Option Form). IsSome o) c.form_of.ensures (subst (λ (o : Option Form). IsSome o) (sym c.in-Some.is) refl) in
    subst (λ (words : List (List ℕ)). list_all is_utf8 words ≡ true) (sym c.items.ensures) (form_utf8 c.args.words.now some)

pub parse-requires : goal.parse-requires
parse-requires c =
    let some : IsSome (form_of c.args.words.now) =
    subst (λ (o : Option Form). IsSome o) c.form_of.ensures (subst (λ (o : Option Form). IsSome o) (sym c.in-Some.is) refl) in
    let same : map (λ (text : Bor (List ℕ)). text.now) c.as_slice.result.now ≡ c.args.words.now = cc c.in-Ok.ensures in
    subst (λ (words : List (List ℕ)). IsSome (form_of words)) (sym same) some
