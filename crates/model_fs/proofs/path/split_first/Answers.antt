use Rattle.std.proofs.Common.{◌≡◌, ◌<◌, ◌-◌, ◌∷◌, length, take, drop, get_or, sym, ap, ◌∙◌, arith, length-drop, add-zero}
use Rattle.std.proofs.lemmas.List.{get_or-drop}
use Rattle.init_machine.specs.FileTree.{parts_of}
use Rattle.model_fs.proofs.Fronts.{rest_of}
use Rattle.model_fs.proofs.Parts.{cut_first, not_at_slash}
use Rattle.model_fs.proofs.path.split_first.Goals as goal

pub returns : goal.returns
returns c =
    let text = c.args.text.now in
    let start = c.first_start.result in
    let t = take (length text - start) (drop start text) in
    let n = c.part_len-len.result in
    let whole : t ≡ drop start text = rest_of text start in
    let some : 0 < length t = grind (arith, c.if-is_empty.ensures) in
    let long : length t ≡ length text - start = ap length whole ∙ length-drop start text in
    let first : get_or t 0 0 ≡ get_or text start 0 = ap (λ xs. get_or xs 0 0) whole ∙ get_or-drop start text 0 0 ∙ ap (λ m. get_or text m 0) (add-zero start) in
    let within : 0 < n = not_at_slash t n some (λ slash. c.first_start.ensures.first (omega arith) (sym first ∙ slash)) c.part_len-len.ensures.slash in (
      sym c.first_start.ensures.same ∙ ap parts_of (sym whole)
          ∙ cut_first t n within c.part_len-len.ensures.bound c.part_len-len.ensures.part c.part_len-len.ensures.slash
          ∙ ap (λ ys. take n t ∷ parts_of ys) (sym (rest_of t n)),
      let rest : length (take (length t - n) (drop n t)) ≡ length t - n = ap length (rest_of t n) ∙ length-drop n t in
          omega (arith, c.first_start.ensures.bound, c.part_len-len.ensures.bound),
    )
