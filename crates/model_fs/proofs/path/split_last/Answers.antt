use Rattle.std.proofs.Common.{◌≡◌, ◌<◌, length, take, sym, ap, ◌∙◌, arith}
use Rattle.std.proofs.lemmas.List.{length-take-le}
use Rattle.model_fs.proofs.Parts.{start_within, cut_at, take_shorter}
use Rattle.model_fs.proofs.path.split_last.Goals as goal

pub returns : goal.returns
returns c =
    let text = c.args.text.now in
    let n = c.trimmed_len.result in
    let s = c.last_start-start.result in
    let some : 0 < length (take n text) = grind (arith, c.if-is_empty.ensures) in
    let len : length (take n text) ≡ n = length-take-le n text c.trimmed_len.ensures.bound in
    let within = start_within text n s c.trimmed_len.ensures.bound some c.trimmed_len.ensures.last c.last_start-start.ensures.bound c.last_start-start.ensures.slash in (
      sym c.trimmed_len.ensures.same ∙ cut_at (take n text) s within c.last_start-start.ensures.part c.last_start-start.ensures.slash,
      let front : length (take s (take n text)) ≡ s = length-take-le s (take n text) c.last_start-start.ensures.bound in omega (arith, c.trimmed_len.ensures.bound),
      take_shorter s n text (omega arith) ∙ ap (λ m. take m text) (sym (length-take-le s (take n text) c.last_start-start.ensures.bound)),
    )
