-- The text is absent, so its key goes behind the others.
use Rattle.std.proofs.Common.{◌≡◌, None, Some, sym, ap, ◌∙◌}
use Rattle.std.specs.Prelude.{position}
use Rattle.std.specs.Str.{bytes_eq}
use Rattle.collections.specs.Texts.{with_text}
use Rattle.collections.proofs.Places.{absent_added, added_last}
use Rattle.collections.proofs.text_index.TextIndex.add.Goals as goal

pub returns-clause-texts : goal.returns-clause-texts
returns-clause-texts c =
    c.in_ok-insert.ensures.keys ∙ ap (with_text c.self.inside.texts.keys) c.in_ok-of.ensures
    ∙ ap (λ texts. with_text texts c.args.text.now) c.self.view_is

pub returns-clause-place : goal.returns-clause-place
returns-clause-place c =
    let none : position (bytes_eq c.args.text.now) c.self.inside.texts.keys ≡ None = cc in
    ap (position (bytes_eq c.args.text.now)) (c.in_ok-insert.ensures.keys ∙ ap (with_text c.self.inside.texts.keys) c.in_ok-of.ensures
    ∙ sym (absent_added c.self.inside.texts.keys c.args.text.now none))
    ∙ added_last c.self.inside.texts.keys c.args.text.now none ∙ ap Some (sym c.len-place.ensures.len)
