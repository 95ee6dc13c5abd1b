-- Where the front is that of a path, the rest decides.
use Rattle.std.proofs.Common.{◌≡◌, true, false, not, ◌==◌, length, drop, sym, ap, ◌∙◌}
use Rattle.std.specs.List.{list_any}
use Rattle.model_fs.proofs.Fronts.{long_no_path, path_by_part, rest_of, zero_no_path}
use Rattle.model_fs.proofs.path.is_path_behind.Goals as goal

pub returns-then-text-gt-MAX_LEN : goal.returns-then-text-gt-MAX_LEN
returns-then-text-gt-MAX_LEN c =
    long_no_path c.args.text.now c.args.front.now c.args.part.now c.requires.cut c.requires.front (c.requires.known c.if-not-is_front_known.false) c.if-text-gt-MAX_LEN.true

pub returns-then-contains : goal.returns-then-contains
returns-then-contains c =
    let zero : list_any (λ byte. byte == 0) (drop (length c.args.front.now) c.args.text.now) ≡ true =
    ap (list_any (λ byte. byte == 0)) (sym (rest_of c.args.text.now (length c.args.front.now))) ∙ sym c.contains.ensures.value ∙ c.if-contains.true in
    zero_no_path c.args.text.now c.args.front.now c.args.part.now c.requires.cut c.requires.front (c.requires.known c.if-not-is_front_known.false) zero

pub returns : goal.returns
returns c =
    let zero : list_any (λ byte. byte == 0) (drop (length c.args.front.now) c.args.text.now) ≡ false =
    ap (list_any (λ byte. byte == 0)) (sym (rest_of c.args.text.now (length c.args.front.now))) ∙ sym c.contains.ensures.value ∙ c.if-contains.false in
    ap not c.is_dots.ensures
    ∙ path_by_part c.args.text.now c.args.front.now c.args.part.now c.requires.cut c.requires.front (c.requires.known c.if-not-is_front_known.false) c.if-text-gt-MAX_LEN.false zero
