use Rattle.std.proofs.Common.{◌≡◌, ◌≢◌, [], ◌∷◌, Some, sym, ap, ◌∙◌}
use Rattle.std.specs.Cmp.Lexicographic.{same_text, other_text}
use Rattle.init_base.proofs.QForms.{is_nil, isnt_nil, spelled_is_read, empty_word, lone_sign}
use Rattle.init_base.proofs.q_form.unquoted.Goals as goal

pub returns-then-is_empty : goal.returns-then-is_empty
returns-then-is_empty c = sym (empty_word c.args.word.now (is_nil _ c.if-is_empty.ensures))

pub returns-then-eq : goal.returns-then-eq
returns-then-eq c =
    ap (λ text. Some text) c.empty.ensures ∙ sym (lone_sign c.args.word.now (same_text _ _ c.if-eq.ensures ∙ c.as_slice.ensures))

pub returns : goal.returns
returns c =
    let some : c.args.word.now ≢ [] = isnt_nil _ c.if-is_empty.ensures in
    let other : c.args.word.now ≢ 37 ∷ [] =
    λ (e : c.args.word.now ≡ 37 ∷ []). other_text _ _ c.if-eq.ensures (e ∙ sym c.as_slice.ensures) in
    spelled_is_read c.args.word.now c.spelled.result some other c.spelled.ensures
